-- Values that are taken from the front of a bit string, one after the other, until one is refused.
use Rattle.std.specs.Prelude.{ℕ, Bool, cond, List, [], ◌∷◌, leb, length, drop, set}
use Rattle.bit_string.specs.Bits.{front}

-- what is taken: a value and the bits behind it, or the number of a refusal
pub data Taken (A : Type 0) : Type 0 where
  got : A → List Bool → Taken A
  refused : ℕ → Taken A

-- what is done next, with the value and the bits behind it (`got x` is next where the value becomes x and nothing more is taken); a refusal stays
unfoldable pub and_then : {A B : Type 0} → Taken A → (A → List Bool → Taken B) → Taken B
and_then (got x rest) next = next x rest
and_then (refused n) next = refused n

-- a number of w bits; 9 where fewer are left
unfoldable pub number_taken : ℕ → List Bool → Taken ℕ
number_taken w bits = cond (leb w (length bits)) (got (front w bits) (drop w bits)) (refused 9)

-- values put into a list, each at its place
abbrev pub laid : {C : Type 0} → List (ℕ × C) → List C → List C
laid [] cells = cells
laid (p ∷ ps) cells = laid ps (set cells p.0 p.1)

-- for each of a list a value, put where it belongs
unfoldable pub each_taken : {X A C : Type 0} → (X → List Bool → Taken A) → (X → A → List (ℕ × C)) → List X → List C → List Bool → Taken (List C)
unfolding and_then
each_taken one at [] cells bits = got cells bits
each_taken one at (x ∷ xs) cells bits = and_then (one x bits) (λ v. each_taken one at xs (laid (at x v) cells))
