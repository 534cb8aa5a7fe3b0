-- How many bits the side information has.
use mathlib.Core.Path.{◌≡◌, refl, ap₂, ◌∙◌}
use mathlib.Core.Bool.{Bool, true, false, cond}
use mathlib.Core.List.{List, [], ◌∷◌, ◌++◌, flat_map}
use Prim.Native.Nat.{ℕ, ◌+◌, ◌*◌, ◌≤◌}
use native.Mathlib.Omega.{arith}
use lib.Dec.{eqb, lit≤}
use lib.ListN.{length, get_or, length-append}
use Rattle.bitalloc.specs.Tables.{nbal_of}
use Rattle.layout.specs.declared.Layout.{Layout}
use Rattle.layout.specs.Layout.{fields_of, slots_of, sum_over}
use Rattle.layout.proofs.WireLaws.{few_slots}
use Rattle.audio_data.specs.declared.Scfsi.{Scfsi}
use Rattle.audio_data.specs.declared.Scfsi.TheVariants.{ThreePerGranule, Share01Then2, ShareAll, Share0Then12}
use Rattle.audio_data.specs.Scfsi.{code_of, parts_of, Three, sent}
use Rattle.encoder_bit_budget.specs.Budget.{allocation_bits}
use Rattle.encoder_bit_budget.proofs.BudgetLaws.{allocation_small}
use Rattle.bit_string.specs.Bits.{bits_of}
use Rattle.bit_string.proofs.BitLaws.{length_bits}
use Rattle.side_info.specs.declared.SideInfo.{SideInfo}
use Rattle.side_info.specs.SideInfo.{scfsi_in, scalefactors_in, active_among, active_slots, allocation_field_bits, scfsi_bits, scalefactor_bits, side_info_bits, slot_count, bit_count}
use Rattle.side_info.proofs.FlatLaws.{length_flat, sum_sum, sum_most}

-- ---- the active slots

active_among_lem : (steps slots : List ℕ) → length (active_among steps slots) ≤ length slots
active_among_lem steps [] = lit≤ tt
active_among_lem steps (slot ∷ slots) = go (eqb (get_or steps slot 0) 0) (active_among_lem steps slots)
  where
    go : (b : Bool) → length (active_among steps slots) ≤ length slots
        → length (cond b (active_among steps slots) (slot ∷ active_among steps slots)) ≤ length (slot ∷ slots)
    go true h = omega arith
    go false h = omega arith

-- there are 60 at most
pub few_active : (l : Layout) (steps : List ℕ) → length (active_slots l steps) ≤ 60
unfolding active_slots
few_active l steps = omega (arith, active_among_lem steps (slots_of l), few_slots l)

-- ---- the bits

-- the indices that a scfsi sends: as many as it says
pub six : (s : Scfsi) (t : Three) → length (flat_map (bits_of 6) (sent s t)) ≡ 6 * parts_of s
six s t = length_flat (bits_of 6) (λ i. 6) (length_bits 6) (sent s t) ∙ go s
  where
    go : (s : Scfsi) → sum_over (λ i. 6) (sent s t) ≡ 6 * parts_of s
    go ThreePerGranule = refl
    go Share01Then2 = refl
    go ShareAll = refl
    go Share0Then12 = refl

-- an active slot has 20 bits at most
pub slot_most : (r : SideInfo) (slot : ℕ) → slot_count r slot ≤ 20
slot_most r slot = go (scfsi_in r slot)
  where
    go : (s : Scfsi) → 2 + 6 * parts_of s ≤ 20
    go ThreePerGranule = lit≤ tt
    go Share01Then2 = lit≤ tt
    go ShareAll = lit≤ tt
    go Share0Then12 = lit≤ tt

-- scfsi and scalefactors of slots
pub slots_count : (r : SideInfo) (slots : List ℕ)
    → length (flat_map (scfsi_bits r) slots) + length (flat_map (scalefactor_bits r) slots) ≡ sum_over (slot_count r) slots
slots_count r slots =
    ap₂ ◌+◌ (length_flat (scfsi_bits r) (λ s. 2) (λ s. length_bits 2 (code_of (scfsi_in r s))) slots)
    (length_flat (scalefactor_bits r) (λ s. 6 * parts_of (scfsi_in r s)) (λ s. six (scfsi_in r s) (scalefactors_in r s)) slots)
    ∙ sum_sum (λ s. 2) (λ s. 6 * parts_of (scfsi_in r s)) (slot_count r) (λ s. refl) slots

module _ (l : Layout) (r : SideInfo) where
  pub fields_count : length (flat_map (allocation_field_bits l r) (fields_of l)) ≡ allocation_bits l
  unfolding allocation_bits
  fields_count =
      length_flat (allocation_field_bits l r) (λ x. nbal_of l.table x.subband) (λ x. length_bits (nbal_of l.table x.subband) _) (fields_of l)

  -- the sum of nbal over the fields, and 2 + 6 * parts over the active slots
  pub counted : length (side_info_bits l r) ≡ bit_count l r
  unfolding side_info_bits
  counted =
      let active = active_slots l r.steps in
      let fields = flat_map (allocation_field_bits l r) (fields_of l) in
      let scfsis = flat_map (scfsi_bits r) active in
      let scalefactors = flat_map (scalefactor_bits r) active in
      length-append fields (scfsis ++ scalefactors)
      ∙ ap₂ ◌+◌ fields_count (length-append scfsis scalefactors ∙ slots_count r active)

  -- 188 bits of allocation, and 60 slots of 20
  pub most : length (side_info_bits l r) ≤ 1388
  most = rw counted (omega (arith, allocation_small l, sum_most (slot_count r) 20 (slot_most r) (active_slots l r.steps), few_active l r.steps))
