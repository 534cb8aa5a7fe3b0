-- What the walk over a text keeps: the answer to the tokens that are still to come.
-- For the contracts of private functions alone: nothing that a caller has to believe stands here.
use Rattle.std.specs.Prelude.{◌≡◌, ℕ, ◌-◌, ◌≤◌, List, ◌++◌, length, take, drop, Float, Err}
use Rattle.plan_ratios.specs.declared.RatiosError.{RatiosError}
use Rattle.plan_ratios.specs.declared.Slots.{Slots}
use Rattle.plan_ratios.specs.Tokens.{Token}
use Rattle.plan_ratios.specs.Ratios.{empty, answered}

-- the first `count` slots are filled, of no more than 64 that are wanted, and the others are empty
pub record Filled (s : Slots) : Type 0 where
  pub long : length s.ratios ≡ 64
  pub room : s.count ≤ s.wanted
  pub most : s.wanted ≤ 64
  pub rest : drop s.count s.ratios ≡ empty (64 - s.count)

-- the ratios that are read
abbrev pub got : Slots → List Float
got s = take s.count s.ratios

-- tokens are taken: what follows them is answered from the new slots on
pub record Passed (ts : List Token) (old new : Slots) : Type 0 where
  pub filled : Filled new
  pub wanted : new.wanted ≡ old.wanted
  pub same : (last : ℕ) (us : List Token) → answered old.wanted last (got old) (ts ++ us) ≡ answered new.wanted last (got new) us

-- tokens are refused, whatever follows them
pub record Refused (ts : List Token) (old : Slots) (e : RatiosError) : Type 0 where
  pub same : (last : ℕ) (us : List Token) → answered old.wanted last (got old) (ts ++ us) ≡ Err e
