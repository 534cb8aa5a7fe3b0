-- The answer to a text, met token by token, and the slots that the code fills.
use Rattle.std.proofs.Common.{◌≡◌, ℕ, ◌<◌, ◌≤◌, List, [], ◌∷◌, ◌++◌, length, le-ltb, lt-ltb}
use Rattle.std.specs.Prelude.{Some, None, Ok, Err}
use lib.Ieee.{Float}
use Rattle.plan_ratios.specs.declared.RatiosError.TheVariants.{NotARatio, TooMany, TooFew}
use Rattle.plan_ratios.specs.Ratio.{ratio_of}
use Rattle.plan_ratios.specs.Tokens.{Token}
use Rattle.plan_ratios.specs.Ratios.{accepted, answered}

-- ---- one token more

module _ (slots last : ℕ) (got : List Float) where
  pub too_few : length got < slots → answered slots last got [] ≡ Err (TooFew last (length got))
  unfolding answered
  too_few h = rw (lt-ltb (length got) slots h)

  pub enough : slots ≤ length got → answered slots last got [] ≡ Ok (accepted got)
  unfolding answered
  enough h = rw (le-ltb (length got) slots h)

  module _ (t : Token) (ts : List Token) where
    pub too_many : slots ≤ length got → answered slots last got (t ∷ ts) ≡ Err (TooMany t.line (length got))
    unfolding answered
    too_many h = rw (le-ltb (length got) slots h)

    pub unread : length got < slots → ratio_of t.text ≡ None → answered slots last got (t ∷ ts) ≡ Err (NotARatio t.line (length got))
    unfolding answered
    unread h e = rw (lt-ltb (length got) slots h, e)

    pub read : (x : Float) → length got < slots → ratio_of t.text ≡ Some x → answered slots last got (t ∷ ts) ≡ answered slots last (got ++ x ∷ []) ts
    unfolding answered
    read x h e = rw (lt-ltb (length got) slots h, e)
