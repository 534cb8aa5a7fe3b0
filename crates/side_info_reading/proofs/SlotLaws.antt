-- The slots of fields, the active slots and the places of their scalefactors: all different, and all there.
use mathlib.Core.Path.{◌≡◌, refl, ap, ap₂, ◌∙◌}
use mathlib.Core.Bool.{Bool, true, false, not, cond, ◌&&◌, ◌||◌}
use mathlib.Core.List.{List, [], ◌∷◌, ◌++◌, map, flat_map}
use Prim.Native.Nat.{ℕ, ◌+◌, ◌*◌, ◌/◌, ◌<◌}
use native.Mathlib.Omega.{arith}
use lib.Dec.{eqb, lit<}
use lib.ListN.{get_or}
use borrow.Author.Tests.{eqb-true, eqb-false, ne_eqb}
use Rattle.tables.specs.Search.{one_of}
use Rattle.bitalloc.proofs.RowLaws.{sblimit_small}
use Rattle.layout.specs.declared.Layout.{Layout}
use Rattle.layout.specs.declared.AllocationField.{AllocationField}
use Rattle.layout.specs.Slots.{slot_of}
use Rattle.layout.specs.Layout.{own, served, limit_of, fields_of, field_in, slots_in, slots_of}
use Rattle.layout.proofs.FieldLaws.{carried, serves_first, channel_small}
use Rattle.layout.proofs.WireLaws.{slot_small, slots_differ}
use Rattle.side_info.specs.SideInfo.{active_among, active_slots}
use Rattle.side_info.proofs.ActiveLaws.{active_has}
use Rattle.side_info.proofs.ListLaws.{Each, each_at, each_one, Distinct, distinct_at}

-- ---- of fields

-- a field of a layout: its subband is carried, and there are two channels
pub record Field (l : Layout) (x : AllocationField) : Type 0 where
  pub carried : x.subband < limit_of l
  pub channel : x.channel < 2

pub each_field : (l : Layout) → Each (Field l) (fields_of l)
each_field l = each_at (Field l) (own 0 0) (fields_of l) (λ f h. record {
  carried = carried l f h;
  channel = channel_small l f h (field_in (fields_of l) f).channel (serves_first l f h);
})

abbrev pub slots_for : AllocationField → List ℕ
slots_for x = map (λ ch. slot_of ch x.subband) (served x)

-- they are below 64
pub field_slots_small : (l : Layout) (x : AllocationField) → Field l x → Each (λ k. k < 64) (slots_for x)
field_slots_small l x f = go x.both
  where
    small : (ch : ℕ) → ch < 2 → slot_of ch x.subband < 64
    small ch h = let c = f.carried in omega (arith, sblimit_small l.table)

    go : (b : Bool) → Each (λ k. k < 64) (map (λ ch. slot_of ch x.subband) (cond b (0 ∷ 1 ∷ []) (x.channel ∷ [])))
    go true = (small 0 (lit< tt), (small 1 (lit< tt), tt))
    go false = (small x.channel f.channel, tt)

pub slots_of_fields : (l : Layout) → flat_map slots_for (fields_of l) ≡ slots_of l
unfolding slots_of flat_map
slots_of_fields l = go (fields_of l)
  where
    go : (xs : List AllocationField) → flat_map slots_for xs ≡ slots_in xs
    go [] = refl
    go (x ∷ xs) = ap (λ (s : List ℕ). slots_for x ++ s) (go xs)

pub slots_different : (l : Layout) → Distinct (slots_of l)
slots_different l = distinct_at (slots_of l) (slots_differ l)

pub slots_small : (l : Layout) → Each (λ k. k < 64) (slots_of l)
slots_small l = each_at (λ k. k < 64) 0 (slots_of l) (slot_small l)

-- ---- of active slots

module _ (steps : List ℕ) where
  active_missing : (k : ℕ) (slots : List ℕ) → one_of slots k ≡ false → one_of (active_among steps slots) k ≡ false
  active_missing k slots e = active_has steps k slots ∙ ap (λ (b : Bool). b && not (eqb (get_or steps k 0) 0)) e

  active_different : (slots : List ℕ) → Distinct slots → Distinct (active_among steps slots)
  active_different [] d = tt
  active_different (s ∷ slots) d = go (eqb (get_or steps s 0) 0) (active_different slots d.1) (active_missing s slots d.0)
    where
      go : (b : Bool) → Distinct (active_among steps slots) → one_of (active_among steps slots) s ≡ false
          → Distinct (cond b (active_among steps slots) (s ∷ active_among steps slots))
      go true d e = d
      go false d e = (e, d)

  active_small : (slots : List ℕ) → Each (λ k. k < 64) slots → Each (λ k. k < 64) (active_among steps slots)
  active_small [] h = tt
  active_small (s ∷ slots) h = go (eqb (get_or steps s 0) 0) (active_small slots h.1)
    where
      go : (b : Bool) → Each (λ k. k < 64) (active_among steps slots) → Each (λ k. k < 64) (cond b (active_among steps slots) (s ∷ active_among steps slots))
      go true e = e
      go false e = (h.0, e)

module _ (l : Layout) (steps : List ℕ) where
  pub active_distinct : Distinct (active_slots l steps)
  unfolding active_slots
  active_distinct = active_different steps (slots_of l) (slots_different l)

  pub active_below : Each (λ k. k < 64) (active_slots l steps)
  unfolding active_slots
  active_below = active_small steps (slots_of l) (slots_small l)

  pub active_slot : (slot : ℕ) → one_of (active_slots l steps) slot ≡ true → slot < 64
  active_slot slot h = each_one (λ k. k < 64) (active_slots l steps) slot active_below h

-- ---- of what a slot has alone, and of its three scalefactors

pub alone : (slots : List ℕ) → flat_map (λ s. s ∷ []) slots ≡ slots
unfolding flat_map
alone [] = refl
alone (s ∷ slots) = ap (λ (t : List ℕ). s ∷ t) (alone slots)

abbrev pub three_places : ℕ → List ℕ
three_places s = (3 * s) ∷ (3 * s + 1) ∷ (3 * s + 2) ∷ []

-- a place is one of them where its slot is one of the slots
pub three_of : (k : ℕ) (slots : List ℕ) → one_of (flat_map three_places slots) k ≡ one_of slots (k / 3)
unfolding flat_map one_of
three_of k [] = refl
three_of k (s ∷ slots) =
    ap (λ (b : Bool). eqb k (3 * s) || (eqb k (3 * s + 1) || (eqb k (3 * s + 2) || b))) (three_of k slots)
    ∙ go (eqb (k / 3) s) (eqb k (3 * s)) (eqb k (3 * s + 1)) (eqb k (3 * s + 2)) refl refl refl refl
  where
    rest : Bool
    rest = one_of slots (k / 3)

    Same : Bool → Bool → Bool → Bool → Type 0
    Same b x y z = ◌≡◌ {A = Bool} (x || (y || (z || rest))) (b || rest)

    go : (b x y z : Bool) → eqb (k / 3) s ≡ b → eqb k (3 * s) ≡ x → eqb k (3 * s + 1) ≡ y → eqb k (3 * s + 2) ≡ z → Same b x y z
    go true true y z p q r t = refl
    go true false true z p q r t = refl
    go true false false true p q r t = refl
    go true false false false p q r t =
        let e = eqb-true (k / 3) s p in
        let f = eqb-false k (3 * s) q in
        let g = eqb-false k (3 * s + 1) r in
        let h = eqb-false k (3 * s + 2) t in
        absurd (omega arith)
    go false true y z p q r t = let e = eqb-false (k / 3) s p in let f = eqb-true k (3 * s) q in absurd (omega arith)
    go false false true z p q r t = let e = eqb-false (k / 3) s p in let f = eqb-true k (3 * s + 1) r in absurd (omega arith)
    go false false false true p q r t = let e = eqb-false (k / 3) s p in let f = eqb-true k (3 * s + 2) t in absurd (omega arith)
    go false false false false p q r t = refl

pub three_distinct : (slots : List ℕ) → Distinct slots → Distinct (flat_map three_places slots)
unfolding flat_map one_of
three_distinct [] d = tt
three_distinct (s ∷ slots) d = (
  ap₂ ◌||◌ (ne_eqb (3 * s) (3 * s + 1) (λ e. omega arith)) (ap₂ ◌||◌ (ne_eqb (3 * s) (3 * s + 2) (λ e. omega arith)) (behind (3 * s) (omega arith))),
  (
    ap₂ ◌||◌ (ne_eqb (3 * s + 1) (3 * s + 2) (λ e. omega arith)) (behind (3 * s + 1) (omega arith)),
    (behind (3 * s + 2) (omega arith), three_distinct slots d.1),
  ),
)
  where
    behind : (k : ℕ) → k / 3 ≡ s → one_of (flat_map three_places slots) k ≡ false
    behind k e = three_of k slots ∙ ap (one_of slots) e ∙ d.0

pub three_below : (slots : List ℕ) → Each (λ k. k < 64) slots → Each (λ k. k < 192) (flat_map three_places slots)
unfolding flat_map
three_below [] h = tt
three_below (s ∷ slots) h = let b = h.0 in (omega arith, (omega arith, (omega arith, three_below slots h.1)))
