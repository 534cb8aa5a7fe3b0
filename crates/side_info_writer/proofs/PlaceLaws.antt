-- A field's place as the code finds it, and what it says of the questions and of the bits.
use mathlib.Core.Path.{◌≡◌, refl, sym, ap, ap₂, ◌∙◌}
use mathlib.Core.Bool.{Bool, true, false, not, cond, ◌&&◌}
use mathlib.Core.List.{List, ◌∷◌, ◌++◌}
use Prim.Native.Nat.{ℕ, ◌+◌, ◌^◌, ◌<◌}
use native.Mathlib.Omega.{arith}
use lib.Dec.{eqb}
use lib.ListN.{length, get_or}
use Rattle.std.specs.Prelude.{Ok, Err, Option, None, Some, is_some, ok_or}
use Rattle.header.specs.Questions.{Question, number}
use Rattle.header.proofs.QuestionLaws.{said_yes}
use Rattle.bitalloc.specs.declared.BitAllocTable.{BitAllocTable}
use Rattle.bitalloc.specs.Options.{or_zero}
use Rattle.bitalloc.specs.Tables.{sblimit_of, nbal_of, index_of}
use Rattle.bitalloc.proofs.RowLaws.{index_small}
use Rattle.layout.specs.declared.Layout.{Layout}
use Rattle.layout.specs.declared.AllocationField.{AllocationField}
use Rattle.layout.specs.Layout.{field_steps}
use Rattle.bit_string.specs.Bits.{bits_of}
use Rattle.bit_string.proofs.BitLaws.{length_bits}
use Rattle.side_info.specs.declared.SideInfo.{SideInfo}
use Rattle.side_info.specs.SideInfo.{shared_asked, row_asked, field_asked, allocation_field_bits}
use Rattle.side_info.proofs.ShareLaws.{shared_is}
use Rattle.side_info_writer.specs.declared.WriteError.{WriteError}
use Rattle.side_info_writer.specs.declared.WriteError.TheVariants.{StepsDiffer, StepsNotInRow}
use Rattle.side_info_writer.specs.Written.{error_number}
use Rattle.side_info_writer.specs.OnTheWay.{found_by, found}

-- ---- as the code finds it

-- both channels are asked of a field that serves both, and of no other
same_or_not : (both equal : Bool) → cond both equal true ≡ not (both && not equal)
same_or_not true true = refl
same_or_not true false = refl
same_or_not false equal = refl

module _ (t : BitAllocTable) (x : AllocationField) (r : SideInfo) (channel : x.channel < 2) where
  abbrev differ : Bool
  differ = x.both && not (eqb (get_or r.steps (32 + x.subband) 0) (get_or r.steps x.subband 0))

  shared : (shared_asked r x).yes ≡ not differ
  shared = sym (shared_is r x channel) ∙ same_or_not x.both (eqb (get_or r.steps (32 + x.subband) 0) (get_or r.steps x.subband 0))

  pub unequal : differ ≡ true → Err StepsDiffer ≡ found t x r
  unfolding found
  unequal e = ap (λ (b : Bool). found_by b (index_of t x.subband (field_steps r.steps x))) (sym (shared ∙ ap not e))

  module _ (e : differ ≡ false) where
    pub placed : (o : Option ℕ) → o ≡ index_of t x.subband (field_steps r.steps x) → ok_or o StepsNotInRow ≡ found t x r
    unfolding found
    placed o q = ap₂ found_by (sym (shared ∙ ap not e)) q

-- ---- what a place says

pub at_only : (b : Bool) (o : Option ℕ) (p : ℕ) → Ok p ≡ found_by b o → (b ≡ true) × (o ≡ Some p)
at_only false o p e = absurd (let z : ◌≡◌ {A = ℕ} 0 1 = cc in omega arith)
at_only true None p e = absurd (let z : ◌≡◌ {A = ℕ} 0 1 = cc in omega arith)
at_only true (Some q) p e = (refl, cc)

-- refused by 6 or by 7, as the first of the two says
refused_only : (b : Bool) (o : Option ℕ) (e : WriteError) → Err e ≡ found_by b o → (rest : ℕ)
    → ◌≡◌ {A = ℕ} (elim b [ true ↦ elim (is_some o) [ true ↦ rest | false ↦ 7 ] | false ↦ 6 ]) (error_number e)
refused_only false o e q rest = let z : e ≡ StepsDiffer = cc in rw z
refused_only true None e q rest = let z : e ≡ StepsNotInRow = cc in rw z
refused_only true (Some p) e q rest = absurd (let z : ◌≡◌ {A = ℕ} 0 1 = cc in omega arith)

pub field_long : (l : Layout) (r : SideInfo) (x : AllocationField) → length (allocation_field_bits l r x) ≡ nbal_of l.table x.subband
field_long l r x = length_bits (nbal_of l.table x.subband) (or_zero (index_of l.table x.subband (field_steps r.steps x)))

module _ (l : Layout) (r : SideInfo) (x : AllocationField) where
  abbrev agree : Bool
  agree = (shared_asked r x).yes

  abbrev index : Option ℕ
  index = index_of l.table x.subband (field_steps r.steps x)

  module _ (p : ℕ) (e : Ok p ≡ found l.table x r) where
    both : (agree ≡ true) × (index ≡ Some p)
    unfolding found
    both = at_only agree index p e

    pub place_small : x.subband < sblimit_of l.table → p < 2 ^ nbal_of l.table x.subband
    place_small h = index_small l.table x.subband _ p h both.1

    pub place_bits : bits_of (nbal_of l.table x.subband) p ≡ allocation_field_bits l r x
    place_bits = ap (λ (o : Option ℕ). bits_of (nbal_of l.table x.subband) (or_zero o)) (sym both.1)

    pub place_passes : (rest : List (Question ℕ)) → number (field_asked l r x ++ rest) ≡ number rest
    place_passes rest =
        said_yes 0 (shared_asked r x) (row_asked l r x ∷ rest) both.0 ∙ said_yes 0 (row_asked l r x) rest (ap is_some both.1)

  -- where it is refused, the first question that says no has the error's number
  pub place_stops : (e : WriteError) → Err e ≡ found l.table x r → (rest : List (Question ℕ)) → number (field_asked l r x ++ rest) ≡ error_number e
  unfolding found
  place_stops e q rest = refused_only agree index e q (number rest)
