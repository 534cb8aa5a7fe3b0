-- A slot is one of the layout's exactly where a field serves it.
use Rattle.std.specs.Prelude.{Option, None, Some, option_map, is_some}
use mathlib.Core.Path.{◌≡◌, refl, sym, ap, ap₂, ◌∙◌}
use mathlib.Core.Bool.{Bool, true, false, cond, ◌&&◌, ◌||◌, and-false, or_assoc, and-or_distrib_left}
use mathlib.Core.List.{List, [], ◌∷◌, ◌++◌, map}
use Prim.Native.Nat.{ℕ, suc, ◌<◌, suc-le-suc}
use native.Mathlib.Nat.{zero-lt-suc}
use native.Mathlib.Omega.{arith}
use lib.Dec.{eqb}
use lib.ListN.{length, get_or}
use borrow.Author.Tests.{eqb-true, eqb-false, eq-eqb, ne_eqb}
use Rattle.tables.specs.Search.{place, one_of}
use Rattle.bitalloc.proofs.RowLaws.{sblimit_small}
use Rattle.layout.specs.declared.Layout.{Layout}
use Rattle.layout.specs.declared.AllocationField.{AllocationField}
use Rattle.layout.specs.Slots.{slot_of, channel_in, subband_in}
use Rattle.layout.specs.Layout.{own, served, serves, served_by, fields_of, slots_in, slots_of}
use Rattle.layout.proofs.FieldLaws.{carried}

-- ---- tests

in_either : (is js : List ℕ) (k : ℕ) → one_of (is ++ js) k ≡ (one_of is k || one_of js k)
unfolding one_of
in_either [] js k = refl
in_either (i ∷ is) js k = ap (λ (b : Bool). eqb k i || b) (in_either is js k) ∙ sym (or_assoc (eqb k i) (one_of is k) (one_of js k))

some_or : (b : Bool) (o : Option ℕ) → is_some (cond b (Some 0) (option_map suc o)) ≡ (b || is_some o)
some_or true o = refl
some_or false None = refl
some_or false (Some n) = refl

-- ---- a slot has one subband and one channel

same_slot : (ch sb slot : ℕ) → sb < 32 → eqb slot (slot_of ch sb) ≡ (eqb sb (subband_in slot) && eqb (channel_in slot) ch)
same_slot ch sb slot h = go (eqb sb (subband_in slot)) refl (eqb (channel_in slot) ch) refl
  where
    go : (a : Bool) → eqb sb (subband_in slot) ≡ a → (b : Bool) → eqb (channel_in slot) ch ≡ b → eqb slot (slot_of ch sb) ≡ (a && b)
    go true p true q = let m = eqb-true sb (subband_in slot) p in let n = eqb-true (channel_in slot) ch q in eq-eqb slot (slot_of ch sb) (omega arith)
    go true p false q = ne_eqb slot (slot_of ch sb) (λ e. eqb-false (channel_in slot) ch q (omega arith))
    go false p b q = ne_eqb slot (slot_of ch sb) (λ e. eqb-false sb (subband_in slot) p (omega arith))

-- the slots of a subband's channels
channels_have : (sb : ℕ) → sb < 32 → (chs : List ℕ) (slot : ℕ) → one_of (map (λ ch. slot_of ch sb) chs) slot ≡ (eqb sb (subband_in slot) && one_of chs (channel_in slot))
unfolding one_of
channels_have sb h [] slot = sym (and-false (eqb sb (subband_in slot)))
channels_have sb h (ch ∷ chs) slot =
    ap₂ ◌||◌ (same_slot ch sb slot h) (channels_have sb h chs slot) ∙ sym (and-or_distrib_left (eqb sb (subband_in slot)) (eqb (channel_in slot) ch) (one_of chs (channel_in slot)))

-- ---- field by field

fields_have : (xs : List AllocationField) (slot : ℕ) → ((k : ℕ) → k < length xs → (get_or xs k (own 0 0)).subband < 32)
    → one_of (slots_in xs) slot ≡ is_some (place (serves (channel_in slot) (subband_in slot)) xs)
unfolding one_of
fields_have [] slot h = refl
fields_have (x ∷ xs) slot h =
    let here = map (λ ch. slot_of ch x.subband) (served x) in
    let test = serves (channel_in slot) (subband_in slot) in
    in_either here (slots_in xs) slot
    ∙ ap₂ ◌||◌ (channels_have x.subband (h 0 (zero-lt-suc (length xs))) (served x) slot) (fields_have xs slot (λ k l. h (suc k) (suc-le-suc l)))
    ∙ sym (some_or (test x) (place test xs))

pub slot_served : (l : Layout) (slot : ℕ) → one_of (slots_of l) slot ≡ is_some (served_by l (channel_in slot) (subband_in slot))
unfolding slots_of
slot_served l slot = fields_have (fields_of l) slot (λ f h. omega (arith, carried l f h, sblimit_small l.table))
