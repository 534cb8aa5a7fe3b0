-- The number of a refusal, and what the code's results stand for.
use Rattle.std.specs.Prelude.{ℕ, Result, Ok, Err}
use Rattle.c_answers.specs.declared.refusal.Refusal.{Refusal}
use Rattle.c_answers.specs.declared.refusal.Refusal.TheVariants.{Short, NoMeaning, Nothing}
use Rattle.c_answers.specs.Answers.{Meaning, refused, meant}

abbrev pub refusal_number : Refusal → ℕ
refusal_number Short = 98
refusal_number NoMeaning = 14
refusal_number Nothing = 97

-- the number that a call answers
abbrev pub number_in : Result ℕ Refusal → ℕ
number_in (Ok n) = n
number_in (Err e) = refusal_number e

-- what arguments mean, or the number that they are refused by
abbrev pub meaning_in : {X : Type 0} → Result X Refusal → Meaning X
meaning_in (Ok x) = meant x
meaning_in (Err e) = refused (refusal_number e)
