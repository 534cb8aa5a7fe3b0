-- The answers of the entries that take a number of steps, from what the search for a class finds.
use Rattle.std.specs.Prelude.{None, Some}
use Rattle.std.proofs.Common.{◌≡◌, ℕ, List, lt_of_lt_of_le, lit<, lit≤, pow_mono}
use lib.Ieee.{Float}
use Rattle.quantization.specs.declared.QuantClass.{QuantClass}
use Rattle.quantization.specs.Classes.{class_of, ClassRule}
use Rattle.encoder_samples.specs.declared.Triplet.{Triplet}
use Rattle.encoder_samples.specs.Samples.{quantized, triplet}
use Rattle.encoder_samples.specs.Entries.{sample_code, triplet_answer, SampleCodeIs, TripletIs}
use Rattle.encoder_samples.proofs.Codes.{Held, code_below, three_below, triplet_held}

pub no_code : (steps : ℕ) (sample : Float) → class_of steps ≡ None → SampleCodeIs steps sample None
unfolding sample_code
no_code steps sample e = record { whole = rw e; small = lit< tt }

pub some_code : (steps : ℕ) (sample : Float) (q : QuantClass) (r : ℕ) → class_of steps ≡ Some q → ClassRule q → r ≡ quantized q sample
    → SampleCodeIs steps sample (Some r)
unfolding sample_code
some_code steps sample q r e rule h = record {
  whole = rw (e, h);
  small = rw h (lt_of_lt_of_le (code_below q rule sample) (pow_mono rule.most));
}

pub no_triplet_lem : (steps : ℕ) (samples : List Float) → class_of steps ≡ None
    → TripletIs steps samples None
unfolding triplet_answer
no_triplet_lem steps samples e = record {
  whole = rw e;
  few = lit≤ tt;
  narrow = lit≤ tt;
  below = three_below _ _ _ _ (lit< tt) (lit< tt) (lit< tt);
}

pub some_triplet : (steps : ℕ) (samples : List Float) (q : QuantClass) (t : Triplet) → class_of steps ≡ Some q → ClassRule q
    → t ≡ triplet q samples
    → TripletIs steps samples (Some t)
unfolding triplet_answer
some_triplet steps samples q t e rule h =
    let held : Held t = rw h (triplet_held q rule samples) in
    record { whole = rw (e, h); few = held.few; narrow = held.narrow; below = held.below }
