-- The scfsi of codes, one after the other.
use Rattle.std.proofs.Common.{◌≡◌, ℕ, ◌+◌, ◌≤◌, ◌<◌, List, length, get_or, set, map, sym, ◌∙◌, arith, length-set}
use lib.ListN.{length-map, get_or-map}
use lib.Seq.{ext_get_or}
use Rattle.tables.proofs.Listed.{filled}
use Rattle.audio_data.specs.declared.Scfsi.{Scfsi}
use Rattle.audio_data.specs.declared.Scfsi.TheVariants.{ThreePerGranule}
use Rattle.c_side_info.specs.Arguments.{coded}

-- so many are read
pub record Meant (codes : List ℕ) (slots : List Scfsi) (i : ℕ) : Type 0 where
  pub long : length slots ≡ 64
  pub found : (k : ℕ) → k < i → get_or slots k ThreePerGranule ≡ coded (get_or codes k 0)

pub none_meant : (codes : List ℕ) (slots : List Scfsi) → length slots ≡ 64 → Meant codes slots 0
none_meant codes slots e = record { long = e; found = λ k h. absurd (omega arith) }

pub one_meant : (codes : List ℕ) (slots : List Scfsi) (i : ℕ) (s : Scfsi) → i < 64 → s ≡ coded (get_or codes i 0) → Meant codes slots i → Meant codes (set slots i s) (i + 1)
one_meant codes slots i s h e c = record {
  long = length-set slots i s ∙ c.long;
  found = filled (λ k x. x ≡ coded (get_or codes k 0)) slots i s ThreePerGranule (let n = c.long in omega arith) c.found e;
}

pub all_meant : (codes : List ℕ) (slots : List Scfsi) (i : ℕ) → length codes ≡ 64 → 64 ≤ i → Meant codes slots i → slots ≡ map coded codes
all_meant codes slots i n h c =
    ext_get_or ThreePerGranule slots (map coded codes) (c.long ∙ sym n ∙ sym (length-map codes coded))
    (λ k l. c.found k (let m = c.long in omega arith) ∙ sym (get_or-map coded codes k 0))
