use Rattle.std.proofs.Common.{◌≡◌, ℕ, ◌<◌, false, get_or}
use lib.Ieee.{nan}
use Rattle.quantization.specs.declared.QuantClass.{QuantClass}
use Rattle.quantization.proofs.class_of_quantization.Given as goal

-- what an index past the table would read
abbrev pub blank : QuantClass
blank = record { nb_steps = 0; c = nan; d = nan; grouping = false; samples_per_codeword = 0; bits_per_codeword = 0 }

abbrev pub invariant-loop-class : goal.invariant-loop-class
invariant-loop-class l = (k : ℕ) → k < l.class-index → (get_or l.class-items k blank).nb_steps ≡ l.nb_steps → ⊥
