-- What C takes of an answer: its number, 0 where there is a value; and the value, or what stands in its place beside a refusal.
use Rattle.std.specs.Prelude.{ℕ, Option, None, Some, Result, Ok, Err}
use Rattle.encoder_bit_budget.specs.declared.BitAllocError.{BitAllocError}
use Rattle.encoder_bit_budget.specs.Budget.{error_number}
use Rattle.c_answers.specs.declared.parts.Told.{Told}

abbrev pub told_result : {A : Type 0} → Result A BitAllocError → A → Told A
told_result (Ok x) filler = record { number = 0; value = x }
told_result (Err e) filler = record { number = error_number e; value = filler }

abbrev pub told_option : {A : Type 0} → Option A → ℕ → A → Told A
told_option None missing filler = record { number = missing; value = filler }
told_option (Some x) missing filler = record { number = 0; value = x }
