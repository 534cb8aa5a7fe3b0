-- The answer to a text of ratios: one for each slot, or what is wrong with the first token that is wrong.
use Rattle.std.specs.Prelude.{ℕ, ◌-◌, min, false, cond, List, [], ◌∷◌, ◌++◌, length, replicate, pos, nat_lt, Float, Option, Some, None, Result, Ok, Err}
use Rattle.std.specs.Float.{fin}
use Rattle.plan_text.specs.Bytes.{pieces}
use Rattle.plan_text.specs.Lines.{ends_line}
use Rattle.plan_ratios.specs.declared.Ratios.{Ratios}
use Rattle.plan_ratios.specs.declared.RatiosError.{RatiosError}
use Rattle.plan_ratios.specs.declared.RatiosError.TheVariants.{NotARatio, TooMany, TooFew}
use Rattle.plan_ratios.specs.Ratio.{ratio_of}
use Rattle.plan_ratios.specs.Tokens.{Token, tokens_from}

-- as many ratios are wanted as there are slots, 64 at most
abbrev pub wanted : ℕ → ℕ
wanted slots = min slots 64

-- n slots with 0.0
unfoldable pub empty : ℕ → List Float
empty n = replicate n (fin false 0 (pos 0))

-- the ratios in order, and empty slots behind them
unfoldable pub accepted : List Float → Ratios
accepted xs = record { count = length xs; ratios = xs ++ empty (64 - length xs) }

-- by whether a token is a ratio
abbrev pub where_read : {A : Type 0} → Option Float → A → (Float → A) → A
where_read None other f = other
where_read (Some x) other f = f x

-- the answer to tokens, where `got` are the ratios of those before them; any token behind the last slot is one too many
unfoldable pub answered : ℕ → ℕ → List Float → List Token → Result Ratios RatiosError
answered slots lastLine got [] = cond (nat_lt (length got) slots) (Err (TooFew lastLine (length got))) (Ok (accepted got))
answered slots lastLine got (t ∷ ts) =
    cond (nat_lt (length got) slots)
    (where_read (ratio_of t.text) (Err (NotARatio t.line (length got))) (λ x. answered slots lastLine (got ++ x ∷ []) ts))
    (Err (TooMany t.line (length got)))

-- the whole answer; lines are counted from 1, and the last line's number is how many there are
unfoldable pub ratios_of : ℕ → List ℕ → Result Ratios RatiosError
ratios_of slots text = answered (wanted slots) (length (pieces ends_line text)) [] (tokens_from 1 text)
