-- The answers of the entries that take a number of steps: the code or the triplet of its class, or a refusal where there is no class.
use Rattle.std.specs.Prelude.{◌≡◌, ℕ, ◌^◌, ◌<◌, ◌≤◌, cond, List, [], ◌∷◌, ◌==◌, slice_index, Float, Option, None, Some, is_some}
use Rattle.header.specs.Questions.{Question, number}
use Rattle.header.specs.Header.{where_accepted}
use Rattle.quantization.specs.declared.QuantClass.{QuantClass}
use Rattle.quantization.specs.Classes.{class_of}
use Rattle.encoder_samples.specs.declared.Triplet.{Triplet}
use Rattle.encoder_samples.specs.Samples.{quantized, triplet}

-- question 5: the number of steps is that of a class
abbrev pub class_asked : ℕ → Question ℕ
class_asked steps = record { yes = is_some (class_of steps); otherwise = 5 }

-- ---- one sample

-- an answer's number, and the code, which is 0 where the number is not
pub record Coded : Type 0 where
  pub answer : ℕ
  pub code : ℕ

-- what the answer stands for
abbrev pub coded_of : Option ℕ → Coded
coded_of (Some n) = record { answer = 0; code = n }
coded_of None = record { answer = 5; code = 0 }

-- the code in a class that is found
abbrev pub code_in : Option QuantClass → Float → ℕ
code_in None sample = 0
code_in (Some q) sample = quantized q sample

-- the whole answer for a number of steps and a sample
unfoldable pub sample_code : ℕ → Float → Coded
sample_code steps sample =
    let n = number (class_asked steps ∷ []) in
    record { answer = n; code = where_accepted n (code_in (class_of steps) sample) }

-- ---- three samples

-- what stands beside a refusal
abbrev pub no_triplet : Triplet
no_triplet = record { count = 0; width = 0; codewords = 0 ∷ 0 ∷ 0 ∷ [] }

-- an answer's number, and the triplet
pub record TripletAnswer : Type 0 where
  pub number : ℕ
  pub triplet : Triplet

-- what the answer stands for
abbrev pub tripled_of : Option Triplet → TripletAnswer
tripled_of (Some t) = record { number = 0; triplet = t }
tripled_of None = record { number = 5; triplet = no_triplet }

-- the triplet in a class that is found
abbrev pub triplet_in : Option QuantClass → List Float → Triplet
triplet_in None samples = no_triplet
triplet_in (Some q) samples = triplet q samples

-- the whole answer for a number of steps and three samples
unfoldable pub triplet_answer : ℕ → List Float → TripletAnswer
triplet_answer steps samples =
    let n = number (class_asked steps ∷ []) in
    record { number = n; triplet = cond (n == 0) (triplet_in (class_of steps) samples) no_triplet }

-- ---- what the functions promise

pub record SampleCodeIs (steps : ℕ) (sample : Float) (r : Option ℕ) : Type 0 where
  pub whole : coded_of r ≡ sample_code steps sample
  pub small : (coded_of r).code < 2 ^ 16

-- the whole answer, and what a writer of codewords counts on: at most 3 of them, of at most 16 bits, and each is held by its bits
pub record TripletIs (steps : ℕ) (samples : List Float) (r : Option Triplet) : Type 0 where
  pub whole : tripled_of r ≡ triplet_answer steps samples
  pub few : (tripled_of r).triplet.count ≤ 3
  pub narrow : (tripled_of r).triplet.width ≤ 16
  pub below : (i : ℕ) → slice_index (tripled_of r).triplet.codewords i < 2 ^ (tripled_of r).triplet.width
