-- The codes of scfsi, one after the other.
use Rattle.std.proofs.Common.{◌≡◌, ℕ, ◌+◌, ◌≤◌, ◌<◌, List, length, get_or, set, sym, ◌∙◌, arith, length-set}
use lib.ListN.{length-map, get_or-map}
use lib.Seq.{ext_get_or}
use Rattle.tables.proofs.Listed.{filled}
use Rattle.audio_data.specs.declared.Scfsi.{Scfsi}
use Rattle.audio_data.specs.declared.Scfsi.TheVariants.{ThreePerGranule}
use Rattle.audio_data.specs.Scfsi.{code_of}
use Rattle.c_side_info_read.specs.Replies.{codes_of}

abbrev code_in : List Scfsi → ℕ → ℕ
code_in slots k = code_of (get_or slots k ThreePerGranule)

-- so many are found
pub record Coded (slots : List Scfsi) (codes : List ℕ) (i : ℕ) : Type 0 where
  pub long : length codes ≡ 64
  pub found : (k : ℕ) → k < i → get_or codes k 0 ≡ code_in slots k

pub none_coded : (slots : List Scfsi) (codes : List ℕ) → length codes ≡ 64 → Coded slots codes 0
none_coded slots codes e = record { long = e; found = λ k h. absurd (omega arith) }

pub one_coded : (slots : List Scfsi) (codes : List ℕ) (i code : ℕ) → i < 64 → code ≡ code_in slots i → Coded slots codes i → Coded slots (set codes i code) (i + 1)
one_coded slots codes i code h e c = record {
  long = length-set codes i code ∙ c.long;
  found = filled (λ k x. x ≡ code_in slots k) codes i code 0 (let n = c.long in omega arith) c.found e;
}

pub all_coded : (slots : List Scfsi) (codes : List ℕ) (i : ℕ) → length slots ≡ 64 → 64 ≤ i → Coded slots codes i → codes ≡ codes_of slots
all_coded slots codes i n h c =
    ext_get_or 0 codes (codes_of slots) (c.long ∙ sym n ∙ sym (length-map slots code_of))
    (λ k l. c.found k (let m = c.long in omega arith) ∙ sym (get_or-map code_of slots k ThreePerGranule))
