-- How an entry point answers. It asks its questions in order; the first that is answered no gives the answer. Where every question is
-- answered yes the call is accepted.
use Rattle.std.specs.Prelude.{ℕ, Bool, true, false, List, [], ◌∷◌, map}

-- a question: whether it is answered yes, and what a no gives: an answer's number, or a number with the subband and the channel that it is about
pub record Question (A : Type 0) : Type 0 where
  pub yes : Bool
  pub otherwise : A

-- what the first question that is answered no gives, and `accepted` where there is none
abbrev pub first_no : {A : Type 0} → A → List (Question A) → A
first_no accepted [] = accepted
first_no accepted (q ∷ qs) = elim q.yes [ true ↦ first_no accepted qs | false ↦ q.otherwise ]

-- the number of an answer: 0 where the call is accepted
abbrev pub number : List (Question ℕ) → ℕ
number qs = first_no 0 qs

-- the same questions, each answer told as something else: a number with a place, or with none
abbrev pub telling : {A B : Type 0} → (A → B) → List (Question A) → List (Question B)
telling f qs = map (λ q. record { yes = q.yes; otherwise = f q.otherwise }) qs
