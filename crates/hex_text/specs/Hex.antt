-- Bytes written as hexadecimal digits. Line feeds and white space are skipped, and so is a comment, from # to the end of its line. What is left has to be
-- digits, two for each byte, the high one first.
use Rattle.std.specs.Prelude.{ℕ, ◌+◌, ◌-◌, ◌*◌, ◌≤◌, ◌≡◌, Bool, true, false, cond, ◌&&◌, ◌||◌, List, [], ◌∷◌, ◌++◌, leb, length, take, Option, Some, None, Result, Ok, Err, IfOk}
use Prim.Native.Char.{code}
use Rattle.plan_text.specs.Lines.{ends_line, is_hash, is_blank}
use Rattle.hex_text.specs.declared.HexError.{HexError}
use Rattle.hex_text.specs.declared.HexError.TheVariants.{WrongCharacter, OddDigits}

-- ---- a character

abbrev pub between : ℕ → ℕ → ℕ → Bool
between least most b = leb least b && leb b most

-- what a digit is worth: 0 to 9, a to f or A to F; none for any other character
unfoldable pub digit_of : ℕ → Option ℕ
digit_of b =
    cond (between (code "0") (code "9") b) (Some (b - code "0"))
    (cond (between (code "a") (code "f") b) (Some (10 + (b - code "a")))
    (cond (between (code "A") (code "F") b) (Some (10 + (b - code "A")))
    None))

-- A place has the lines before it, the characters before it on its line, and whether a comment has begun there.
pub record Place : Type 0 where
  pub line : ℕ
  pub column : ℕ
  pub comment : Bool

abbrev pub first_place : Place
first_place = record { line = 0; column = 0; comment = false }

-- the place behind a line feed, and behind any other character
abbrev pub next_line : Place → Place
next_line p = record { line = p.line + 1; column = 0; comment = false }

abbrev pub next_column : Place → ℕ → Place
next_column p b = record { line = p.line; column = p.column + 1; comment = p.comment || is_hash b }

unfoldable pub past : Place → ℕ → Place
past p b = cond (ends_line b) (next_line p) (next_column p b)

-- whether a character is skipped
abbrev pub skipped : Place → ℕ → Bool
skipped p b = ends_line b || p.comment || is_hash b || is_blank b

-- ---- bytes

-- digits in twos; one that is left over makes no byte
abbrev pub paired : List ℕ → List ℕ
paired [] = []
paired (high ∷ []) = []
paired (high ∷ low ∷ ds) = (16 * high + low) ∷ paired ds

-- whether one is left over
abbrev pub is_odd : List ℕ → Bool
is_odd [] = false
is_odd (high ∷ []) = true
is_odd (high ∷ low ∷ ds) = is_odd ds

-- ---- the answer: lines and columns are counted from 1

abbrev pub accepted : List ℕ → Result (List ℕ) HexError
accepted bytes = Ok bytes

-- a character that is neither skipped nor a digit
abbrev pub wrong_at : Place → Result (List ℕ) HexError
wrong_at p = Err (WrongCharacter (p.line + 1) (p.column + 1))

-- an odd number of digits, the last of which is on that line
abbrev pub odd_on : ℕ → Result (List ℕ) HexError
odd_on line = Err (OddDigits line)

-- what a character gives, by what it is worth
abbrev pub where_digit : {A : Type 0} → Option ℕ → A → (ℕ → A) → A
where_digit None other f = other
where_digit (Some d) other f = f d

-- the answer to the text from a place on, where `digits` stand before it, the last of them on the line `last`
unfoldable pub read_from : Place → List ℕ → ℕ → List ℕ → Result (List ℕ) HexError
read_from p digits last [] = cond (is_odd digits) (odd_on last) (accepted (paired digits))
read_from p digits last (b ∷ bs) =
    cond (skipped p b) (read_from (past p b) digits last bs)
    (where_digit (digit_of b) (wrong_at p) (λ d. read_from (past p b) (digits ++ d ∷ []) (p.line + 1) bs))

-- the whole answer
unfoldable pub hex_of : List ℕ → Result (List ℕ) HexError
hex_of text = read_from first_place [] 0 text

-- how many bytes there are, or the refusal
abbrev pub counted : Result (List ℕ) HexError → Result ℕ HexError
counted (Ok bytes) = Ok (length bytes)
counted (Err e) = Err e

-- what `read_hex` promises: the answer, and the bytes where the buffer has room for all of them; what stands behind them, or beside a refusal, is not said
pub record HexIs (text buffer : List ℕ) (r : Result ℕ HexError) : Type 0 where
  pub whole : r ≡ counted (hex_of text)
  pub bytes : (b : List ℕ) → hex_of text ≡ Ok b → length b ≤ length buffer → take (length b) buffer ≡ b
  pub few : IfOk r (λ n. 2 * n ≤ length text)
