-- The verdict on a line, from the library's answers and the numbers that the line expects.
use Rattle.std.specs.Prelude.{ℕ, Bool, true, false, ◌&&◌, List, [], ◌∷◌, length, eqb, Option, Some, None}
use Rattle.replay_answers.specs.declared.Verdict.{Verdict}
use Rattle.replay_answers.specs.declared.Verdict.TheVariants.{Agree, Differ}

-- by whether the answers are those that the line expects
abbrev pub verdict : Bool → Verdict
verdict true = Agree
verdict false = Differ

-- by whether the line can be read, too
abbrev pub verdict_of : Bool → Bool → Option Verdict
verdict_of true agrees = Some (verdict agrees)
verdict_of false agrees = None

-- of two parts of a line: they agree where each does
abbrev pub both : Verdict → Verdict → Verdict
both Agree other = other
both Differ other = Differ

-- whether the numbers that a line expects are the answers, one after the other
abbrev pub same_numbers : List ℕ → List ℕ → Bool
same_numbers [] [] = true
same_numbers [] (a ∷ answers) = false
same_numbers (e ∷ expected) [] = false
same_numbers (e ∷ expected) (a ∷ answers) = eqb e a && same_numbers expected answers

-- where the answer is numbers: the line can be read where it expects as many
abbrev pub verdict_on : List ℕ → List ℕ → Option Verdict
verdict_on expected answers = verdict_of (eqb (length expected) (length answers)) (same_numbers expected answers)

-- where the answer is two numbers
abbrev pub pair_verdict : List ℕ → ℕ → ℕ → Option Verdict
pair_verdict expected number value = verdict_on expected (number ∷ value ∷ [])

-- where the answer is a number or nothing: 1 with the number, or 0 with 0
abbrev pub found_verdict : List ℕ → Option ℕ → Option Verdict
found_verdict expected (Some n) = pair_verdict expected 1 n
found_verdict expected None = pair_verdict expected 0 0
