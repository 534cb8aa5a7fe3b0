-- The offered bits: a signed difference is the definition's, and each answer follows from the budget's.
use Rattle.std.specs.Prelude.{Result, Ok, Err}
use mathlib.Core.Path.{◌≡◌, refl, sym, ap, ap₂, ◌∙◌, subst}
use mathlib.Core.Bool.{Bool, true, false, cond}
use Prim.Native.Nat.{ℕ, zero, suc, ◌-◌, ◌^◌, ◌<◌, zero-le}
use native.Mathlib.Omega.{arith}
use lib.Dec.{ltb, leb}
use lib.IntN.{ℤ, pos, negsuc, ◌-ℤ◌}
use lib.Ieee.{minus}
use mir.Syntax.{w64}
use mir.Val.{SFits, to_z, of_z}
use mir.Facts.{to_z_pos, to_z-of_z}
use borrow.Author.Tests.{le-leb, leb-true, leb-false, ltb-true, ltb-false}
use Rattle.encoder_bit_budget.specs.declared.Request.{Request}
use Rattle.encoder_bit_budget.specs.declared.FixedBitBudget.{FixedBitBudget}
use Rattle.encoder_bit_budget.specs.declared.BitAllocError.{BitAllocError}
use Rattle.encoder_bit_budget.specs.Budget.{error_number, budget_in, budget_of, offered_in, Available, available_in, available_by, available_of, natural}
use Rattle.encoder_bit_budget.proofs.BudgetLaws.{apart}

-- ---- a difference below 0 too

difference : (a b : ℕ) → pos a -ℤ pos b ≡ minus a b
difference a zero = rw (le-leb 0 a zero-le) (ap pos (omega arith))
difference a (suc b) = go (ltb a (suc b)) refl (leb (suc b) a) refl
  where
    go : (l : Bool) → ltb a (suc b) ≡ l → (m : Bool) → leb (suc b) a ≡ m
        → cond l (negsuc (suc b - suc a)) (pos (a - suc b)) ≡ cond m (pos (a - suc b)) (negsuc (suc b - suc a))
    go true p true q = let h = ltb-true a (suc b) p in let g = leb-true (suc b) a q in absurd (omega arith)
    go true p false q = refl
    go false p true q = refl
    go false p false q = let h = ltb-false a (suc b) p in let g = leb-false (suc b) a q in absurd (omega arith)

difference_fits : (a b : ℕ) → a < 2 ^ 63 → b < 2 ^ 63 → SFits w64 (minus a b)
difference_fits a b h g = go (leb b a)
  where
    go : (l : Bool) → SFits w64 (cond l (pos (a - b)) (negsuc (b - suc a)))
    go true = record { sfits = omega arith }
    go false = record { sfits = omega arith }

module _ (a b : ℕ) (ha : a < 2 ^ 63) (hb : b < 2 ^ 63) where
  read : to_z w64 a -ℤ to_z w64 b ≡ minus a b
  read = ap₂ ◌-ℤ◌ (to_z_pos w64 ha) (to_z_pos w64 hb) ∙ difference a b

  pub signed_fits : SFits w64 (to_z w64 a -ℤ to_z w64 b)
  signed_fits = subst (SFits w64) (sym read) (difference_fits a b ha hb)

  pub signed : to_z w64 (of_z w64 (to_z w64 a -ℤ to_z w64 b)) ≡ minus a b
  signed = to_z-of_z signed_fits ∙ read

-- ---- the offered bits as a whole number

pub natural_minus : (a b : ℕ) → natural (minus a b) ≡ a - b
natural_minus a b = go (leb b a) refl
  where
    go : (l : Bool) → leb b a ≡ l → natural (cond l (pos (a - b)) (negsuc (b - suc a))) ≡ a - b
    go true e = refl
    go false e = let h = leb-false b a e in omega arith

-- ---- the answers

pub refused_in : (banc : ℕ) (e : BitAllocError) → record { answer = error_number e; bits = pos 0 } ≡ available_by banc (budget_in (Err e))
unfolding available_by
refused_in banc e = rw (apart e)

pub accepted_in : (banc : ℕ) (b : FixedBitBudget) (z : ℤ) → z ≡ offered_in b banc
    → record { answer = 0; bits = z } ≡ available_by banc (budget_in (Ok b))
unfolding available_by
accepted_in banc b z e = ap (λ (z : ℤ). record { answer = 0; bits = z }) e

-- the offer of the budget that was asked for is the definition's
pub available_is : (q : Request) (r : Result FixedBitBudget BitAllocError) (v : Available) → budget_in r ≡ budget_of q → v ≡ available_by q.banc (budget_in r)
    → v ≡ available_of q
unfolding available_of
available_is q r v p e = e ∙ ap (available_by q.banc) p

module _ (q : Request) where
  -- a refused budget's answer is that of the offer
  pub offer_refused : (e : BitAllocError) → budget_in (Err e) ≡ budget_of q → available_in (Err e) ≡ available_of q
  unfolding available_of
  offer_refused e p = refused_in q.banc e ∙ ap (available_by q.banc) p

  -- and what an accepted one offers
  pub offer_made : (b : FixedBitBudget) (z : ℤ) → budget_in (Ok b) ≡ budget_of q → z ≡ offered_in b q.banc → available_in (Ok z) ≡ available_of q
  unfolding available_of
  offer_made b z p e = accepted_in q.banc b z e ∙ ap (available_by q.banc) p
