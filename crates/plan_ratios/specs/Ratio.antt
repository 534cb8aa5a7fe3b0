-- How a signal-to-mask ratio is written: a decimal number with a sign or without, or one of the words inf, -inf and nan.
use Rattle.std.specs.Prelude.{ℕ, Bool, true, false, cond, ◌&&◌, List, [], ◌∷◌, ◌++◌, length, drop, ◌==◌, nat_le, Float, Option, Some, None, option_map}
use Rattle.std.specs.Option.{option_or}
use Prim.Native.Char.{code}
use Rattle.std.specs.Float.{nan, inf}
use Rattle.std.specs.Float.Ieee.{neg}
use Rattle.tables.specs.Decimal.{decimal}
use Rattle.plan_text.specs.Bytes.{same, before, behind}
use Rattle.plan_text.specs.Digits.{digits, numeral}
use Rattle.plan_text.specs.Quoted.{text}

-- as many digits as a number may have: 1 to 15
unfoldable pub few : ℕ → Bool
few n = nat_le 1 n && nat_le n 15

-- the number with the digits a before its point and the digits b behind it
unfoldable pub pointed : List ℕ → List ℕ → Option Float
pointed a b = cond (few (length (a ++ b)) && digits (a ++ b)) (Some (decimal (length b) (numeral (a ++ b)))) None

-- the decimal point
abbrev pub is_point : ℕ → Bool
is_point b = b == (code ".")

-- a number without its sign; one without a point has no digits behind it
unfoldable pub unsigned : List ℕ → Option Float
unsigned t = pointed (before is_point t) (behind is_point t)

-- whether a text starts with a byte
abbrev pub leads : ℕ → List ℕ → Bool
leads c [] = false
leads c (b ∷ bs) = b == c

-- a number with a sign or without; minus 0 is not 0
unfoldable pub signed : List ℕ → Option Float
signed t =
    cond (leads (code "-") t) (option_map neg (unsigned (drop 1 t)))
    (cond (leads (code "+") t) (unsigned (drop 1 t))
    (unsigned t))

-- the words that are no numbers
unfoldable pub word_value : List ℕ → Option Float
word_value t =
    cond (same t (text "inf")) (Some (inf false))
    (cond (same t (text "-inf")) (Some (inf true))
    (cond (same t (text "nan")) (Some nan)
    None))

-- the ratio that a token stands for
unfoldable pub ratio_of : List ℕ → Option Float
ratio_of t = option_or (word_value t) (signed t)
