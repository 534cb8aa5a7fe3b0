-- The line that stands alone where the ratios cannot be read.
use Rattle.std.specs.Prelude.{ℕ, List, ◌++◌}
use Rattle.plan_ratios.specs.declared.RatiosError.{RatiosError}
use Rattle.plan_ratios.specs.declared.RatiosError.TheVariants.{NotARatio, TooMany, TooFew}
use Rattle.plan_text.specs.Quoted.{text}
use Rattle.text_line.specs.Number.{number_text}
use Rattle.word_notes.specs.Notes.{on_line}

unfoldable pub cannot_read_text : ℕ → List ℕ
cannot_read_text line = on_line line ++ text ": not a ratio: say decibels with at most 15 digits and no exponent, such as 12.5 or -3, or inf, -inf or nan."

unfoldable pub too_many_text : ℕ → ℕ → List ℕ
too_many_text line slots = on_line line ++ text ": more ratios than the " ++ number_text slots ++ text " of this mode."

unfoldable pub too_few_text : ℕ → ℕ → ℕ → List ℕ
too_few_text line count slots =
    on_line line ++ text ": the input ends with " ++ number_text count ++ text " of " ++ number_text slots ++ text " ratios."

-- of ratios that are not accepted: the line of the input, the ratios before, and how many the mode has
abbrev pub ratios_line : RatiosError → ℕ → List ℕ
ratios_line (NotARatio line count) slots = cannot_read_text line
ratios_line (TooMany line count) slots = too_many_text line slots
ratios_line (TooFew line count) slots = too_few_text line count slots
