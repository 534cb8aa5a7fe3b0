-- How a call from C is answered: by a number, and by values in the caller's slices.
use Rattle.std.specs.Prelude.{ℕ, ◌≡◌, Bool, true, false, List, [], ◌∷◌, ◌++◌, length, take, drop, Option, None, Some}

-- ---- the questions that come before any other

-- what the arguments mean, or the number of the first question that they are refused by
pub data Meaning (X : Type 0) : Type 0 where
  refused : ℕ → Meaning X
  meant : X → Meaning X

-- 98 where a slice is short; then 14 where the arguments mean nothing
abbrev pub asked : {X : Type 0} → Bool → Option X → Meaning X
asked true given = refused 98
asked false None = refused 14
asked false (Some x) = meant x

-- ---- the reply

-- a number, and the values that are written from the front of a slice
pub record Reply (A : Type 0) : Type 0 where
  pub number : ℕ
  pub values : List A

abbrev pub reply : {A : Type 0} → ℕ → List A → Reply A
reply n vs = record { number = n; values = vs }

-- a number alone: nothing is written
abbrev pub silent : {A : Type 0} → ℕ → Reply A
silent n = reply n []

-- the reply to arguments, where f replies to what they mean
abbrev pub answered : {X A : Type 0} → Meaning X → (X → Reply A) → Reply A
answered (refused n) f = silent n
answered (meant x) f = f x

-- the question behind those: 97 where there is nothing at the place asked for
abbrev pub or_nothing : {A : Type 0} → Option A → Reply A
or_nothing None = silent 97
or_nothing (Some x) = reply 0 (x ∷ [])

-- ---- what a function promises

-- the first elements of a slice written, the rest as before
abbrev pub written : {A : Type 0} → List A → List A → List A
written vs old = vs ++ drop (length vs) old

-- the same, of values that the slice may be too short for
unfoldable pub fitted : {A : Type 0} → List A → List A → List A
fitted vs old = take (length old) (written vs old)

-- it returns the reply's number, and leaves a slice with the reply's values
pub record Answers {A : Type 0} (reply : Reply A) (old : List A) (r : ℕ) (new : List A) : Type 0 where
  pub number : r ≡ reply.number
  pub writes : new ≡ written reply.values old
