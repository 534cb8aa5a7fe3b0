-- The worst case of the first steps' costs, field by field.
use mathlib.Core.Path.{◌≡◌, refl, sym, ap, ◌∙◌}
use mathlib.Core.List.{List}
use Prim.Native.Nat.{ℕ, ◌+◌, ◌≤◌, ◌<◌}
use native.Mathlib.Nat.{not-suc-le-zero}
use native.Mathlib.Omega.{arith}
use lib.ListN.{length, get_or, set, replicate, length-set}
use Rattle.tables.proofs.Listed.{filled, map_at}
use Rattle.layout.specs.declared.Layout.{Layout}
use Rattle.layout.specs.declared.AllocationField.{AllocationField}
use Rattle.layout.specs.Layout.{own, fields_of, field_in}
use Rattle.layout.proofs.FieldLaws.{few}
use Rattle.encoder_bit_demand.specs.Demand.{first_step, FirstStepIs}
use Rattle.encoder_bit_allocator.specs.Allocation.{worst_case}
use Rattle.encoder_bit_allocator.specs.OnTheWay.{CostsAre}

-- the costs of the first n fields
pub record Costed (l : Layout) (costs : List ℕ) (n : ℕ) : Type 0 where
  pub long : length costs ≡ 64
  pub cost : (f : ℕ) → f < n → get_or costs f 0 ≡ first_step (field_in (fields_of l) f)

module _ (l : Layout) where
  pub none_costed : Costed l (replicate 64 0) 0
  none_costed = record { long = refl; cost = λ f h. absurd (not-suc-le-zero h) }

  pub one_more_costed : (costs : List ℕ) (n : ℕ) (x : AllocationField) (c : ℕ) → n < length (fields_of l) → Costed l costs n
      → x ≡ field_in (fields_of l) n → FirstStepIs x c → Costed l (set costs n c) (n + 1)
  one_more_costed costs n x c h k e s =
      let b : n < length costs = rw k.long (omega (arith, few l)) in
      record {
        long = simp length-set k.long;
        cost = filled (λ f v. v ≡ first_step (field_in (fields_of l) f)) costs n c 0 b k.cost (s.whole ∙ ap first_step e);
      }

  pub all_costed : (costs : List ℕ) (n : ℕ) → length (fields_of l) ≤ n → Costed l costs n → CostsAre l costs
  unfolding worst_case CostsAre
  all_costed costs n h k = λ f g. k.cost f (omega arith) ∙ sym (map_at first_step (fields_of l) f (own 0 0) 0 g)
