-- What the walk over the text keeps of the digits.
-- For the contracts of private functions alone: nothing that a caller has to believe stands here.
use Rattle.std.specs.Prelude.{ℕ, ◌+◌, ◌≤◌, ◌<◌, ◌≡◌, List, [], ◌∷◌, ◌++◌, length, take, Option, Some, None, Result, Ok, Err, IfSome}
use Rattle.hex_text.specs.declared.Digits.{Digits}
use Rattle.hex_text.specs.declared.HexError.{HexError}
use Rattle.hex_text.specs.declared.HexError.TheVariants.{OddDigits}
use Rattle.hex_text.specs.Hex.{digit_of, paired}

-- what a byte is worth
pub record WorthIs (byte : ℕ) (r : Option ℕ) : Type 0 where
  pub whole : r ≡ digit_of byte
  pub small : IfSome r (λ d. d < 16)

-- the digit that is left over, if one is
abbrev pub left_over : List ℕ → Option ℕ
left_over [] = None
left_over (high ∷ []) = Some high
left_over (high ∷ low ∷ ds) = left_over ds

-- the whole bytes of digits in a buffer, as far as it has room, and the digit that is left over
pub record Held (digits : List ℕ) (d : Digits) (buffer : List ℕ) : Type 0 where
  pub high : d.high ≡ left_over digits
  pub count : d.count ≡ length (paired digits)
  pub stored : d.count ≤ length buffer → take d.count buffer ≡ paired digits

-- one digit more
pub record Put (d : Digits) (digit line : ℕ) (old new : List ℕ) (r : Digits) : Type 0 where
  pub more : (digits : List ℕ) → Held digits d old → Held (digits ++ digit ∷ []) r new
  pub small : IfSome r.high (λ high. high < 16)
  pub last : r.last ≡ line
  pub long : length new ≡ length old
  pub count : r.count ≤ d.count + 1

-- the answer behind the last digit
abbrev pub ended : Option ℕ → ℕ → ℕ → Result ℕ HexError
ended (Some high) last count = Err (OddDigits last)
ended None last count = Ok count

abbrev pub finished_as : Digits → Result ℕ HexError
finished_as d = ended d.high d.last d.count
