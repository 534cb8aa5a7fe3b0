-- What is written slot by slot and field by field: a part, and the parts so far.
use mathlib.Core.Path.{◌≡◌, refl, sym, ap, ◌∙◌}
use mathlib.Core.Bool.{Bool, true, false, ◌&&◌, true≢false}
use mathlib.Core.Logic.{◌⊎◌, inl, inr}
use mathlib.Core.List.{List, [], ◌∷◌, ◌++◌, append-nil, append_assoc, flat_map}
use Prim.Native.Nat.{ℕ, ◌+◌, ◌*◌, ◌≤◌, ◌<◌}
use native.Mathlib.Omega.{arith}
use lib.Dec.{leb}
use lib.ListN.{length, get_or, drop, length-append}
use borrow.Author.Tests.{leb-true}
use Rattle.layout.specs.declared.Layout.{Layout}
use Rattle.layout.specs.Layout.{fields_of}
use Rattle.encoder_bit_budget.proofs.BudgetLaws.{allocation_small}
use Rattle.audio_data.specs.declared.Scfsi.{Scfsi}
use Rattle.audio_data.specs.declared.Scfsi.TheVariants.{ThreePerGranule, Share01Then2, ShareAll, Share0Then12}
use Rattle.audio_data.specs.Scfsi.{parts_of, Three, sent}
use Rattle.bit_string.specs.Bits.{bits_of}
use Rattle.bit_string.proofs.BitLaws.{length_bits}
use Rattle.side_info.specs.declared.SideInfo.{SideInfo}
use Rattle.side_info.specs.SideInfo.{tabled, allocation_field_bits}
use Rattle.side_info.proofs.CountLaws.{six, fields_count}
use Rattle.side_info.proofs.FlatLaws.{flat_next, flat_end}

-- ---- the indices of a slot

each_tabled : (a b c : Bool) → a && b && c ≡ true → (a ≡ true) × (b ≡ true) × (c ≡ true)
each_tabled true true true e = (refl, refl, refl)
each_tabled true true false e = absurd (true≢false (sym e))
each_tabled true false c e = absurd (true≢false (sym e))
each_tabled false b c e = absurd (true≢false (sym e))

pub record Tabled (t : Three) : Type 0 where
  pub first : t.first ≤ 62
  pub second : t.second ≤ 62
  pub third : t.third ≤ 62

pub tabled_each : (t : Three) → tabled t ≡ true → Tabled t
tabled_each t e =
    let each = each_tabled (leb t.first 62) (leb t.second 62) (leb t.third 62) e in
    record { first = leb-true t.first 62 each.0; second = leb-true t.second 62 each.1; third = leb-true t.third 62 each.2 }

-- an index more
pub one_more : (now start : List Bool) (i : ℕ) → now ≡ start ++ bits_of 6 i → length now ≡ length start + 6
one_more now start i e = ap length e ∙ length-append start (bits_of 6 i) ∙ ap (λ (n : ℕ). length start + n) (length_bits 6 i)

-- there is room for each index that is sent, and one is
module _ (t : Three) (start : List Bool) where
  pub room : (s : Scfsi) → length start + length (flat_map (bits_of 6) (sent s t)) ≤ 1392 → length start + 6 * parts_of s ≤ 1392
  room s h = let e = six s t in omega arith

  abbrev first : List Bool
  first = start ++ bits_of 6 t.first

  abbrev third : List Bool
  third = bits_of 6 t.third

  -- all three, the first and the third, the first alone
  pub three_sent : (first ++ bits_of 6 t.second) ++ third ≡ start ++ flat_map (bits_of 6) (sent ThreePerGranule t)
  unfolding flat_map
  three_sent =
      append_assoc first (bits_of 6 t.second) third
      ∙ append_assoc start (bits_of 6 t.first) (bits_of 6 t.second ++ third)
      ∙ ap (λ (bs : List Bool). start ++ (bits_of 6 t.first ++ (bits_of 6 t.second ++ bs))) (sym (append-nil third))

  pub two_sent : (s : Scfsi) → (s ≡ Share01Then2) ⊎ (s ≡ Share0Then12) → first ++ third ≡ start ++ flat_map (bits_of 6) (sent s t)
  unfolding flat_map
  two_sent s e = append_assoc start (bits_of 6 t.first) third ∙ ap (λ (bs : List Bool). start ++ (bits_of 6 t.first ++ bs)) (sym (append-nil third)) ∙ ap (λ (bs : List Bool). start ++ bs) (sym (go e))
    where
      go : (s ≡ Share01Then2) ⊎ (s ≡ Share0Then12) → flat_map (bits_of 6) (sent s t) ≡ flat_map (bits_of 6) (t.first ∷ t.third ∷ [])
      go (inl q) = ap (λ (v : Scfsi). flat_map (bits_of 6) (sent v t)) q
      go (inr q) = ap (λ (v : Scfsi). flat_map (bits_of 6) (sent v t)) q

  pub one_sent : first ≡ start ++ flat_map (bits_of 6) (sent ShareAll t)
  unfolding flat_map
  one_sent = ap (λ (bs : List Bool). start ++ bs) (sym (append-nil (bits_of 6 t.first)))

pub two_parts : (s : Scfsi) → (s ≡ Share01Then2) ⊎ (s ≡ Share0Then12) → parts_of s ≡ 2
two_parts s (inl e) = ap parts_of e
two_parts s (inr e) = ap parts_of e

pub parts_least : (s : Scfsi) → 1 ≤ parts_of s
parts_least ThreePerGranule = omega arith
parts_least Share01Then2 = omega arith
parts_least ShareAll = omega arith
parts_least Share0Then12 = omega arith

-- ---- one part for each entry of a list: those so far and those to come are the whole

module _ {A : Type 0} (xs : List A) (g : A → List Bool) (start now : List Bool) (k : ℕ) (so_far : now ++ flat_map g (drop k xs) ≡ start ++ flat_map g xs) where
  module _ (d x : A) (here : k < length xs) (e : x ≡ get_or xs k d) where
    abbrev rest : List Bool
    rest = flat_map g (drop (k + 1) xs)

    next : flat_map g (drop k xs) ≡ g x ++ rest
    next = flat_next g xs k d here ∙ ap (λ (y : A). g y ++ rest) (sym e)

    -- there is room for the entry's part
    pub part_fits : (n : ℕ) → length start + length (flat_map g xs) ≤ n → length now + length (g x) ≤ n
    part_fits n h =
        let a = ap length so_far in
        let b = length-append now (flat_map g (drop k xs)) in
        let c = ap length next in
        let d = length-append (g x) rest in
        let f = length-append start (flat_map g xs) in
        omega arith

    pub part_written : (now ++ g x) ++ rest ≡ start ++ flat_map g xs
    part_written = append_assoc now (g x) rest ∙ ap (λ (bs : List Bool). now ++ bs) (sym next) ∙ so_far

  -- no entry is left
  pub parts_written : length xs ≤ k → now ≡ start ++ flat_map g xs
  parts_written h = sym (append-nil now) ∙ ap (λ (bs : List Bool). now ++ bs) (sym (flat_end g xs k h)) ∙ so_far

-- the allocation fields have 188 bits at most
pub fields_fit : (l : Layout) (r : SideInfo) → length (flat_map (allocation_field_bits l r) (fields_of l)) ≤ 188
fields_fit l r = let e = fields_count l r in omega (arith, allocation_small l)
