-- Laws of a frame's samples, a subband behind the other, and of its indices, a granule behind the other.
use Rattle.std.proofs.Common.{◌≡◌, ℕ, zero, suc, ◌+◌, ◌*◌, ◌/◌, ◌≤◌, ◌<◌, List, [], length, get_or, take, drop, refl, sym, ap, ◌∙◌, arith, not-suc-le-zero, le_of_suc-le-suc, mul-zero, mul-suc, drop-drop, get_or-take, length-take-le, Option, Some, None, MatchOption}
use Rattle.std.specs.Simd.{first_chunks}
use Rattle.std.specs.List.{flat_map}
use Rattle.std.specs.Array.{IsFirstChunk}
use Rattle.std.specs.Float.{Float}
use Rattle.tables.proofs.Listed.{listed}
use Rattle.encoder_scalefactors.specs.Indices.{granule_of, indices_of}
use Rattle.c_answers.specs.Replies.{subband_rows, by_granule}

module _ {A : Type 0} (n : ℕ) where
  length_chunks : (k : ℕ) (xs : List A) → length (first_chunks n k xs) ≡ k
  length_chunks zero xs = refl
  length_chunks (suc k) xs = ap suc (length_chunks k (drop n xs))

  chunk_at : (k : ℕ) (xs : List A) (i : ℕ) → i < k → get_or (first_chunks n k xs) i [] ≡ take n (drop (n * i) xs)
  chunk_at zero xs i h = absurd (not-suc-le-zero h)
  chunk_at (suc k) xs zero h = ap (λ m. take n (drop m xs)) (sym (mul-zero n))
  chunk_at (suc k) xs (suc i) h =
      chunk_at k (drop n xs) i (le_of_suc-le-suc h) ∙ ap (take n) (drop-drop (n * i) n xs ∙ ap (λ m. drop m xs) (let e : n + n * i ≡ n * suc i = rw mul-suc (omega arith) in e))

-- the first 32 chunks of 36 samples are the rows of the subbands
rows_taken : (s : List Float) (chunks rows : List (List Float)) → chunks ≡ first_chunks 36 (length s / 36) s → IsFirstChunk chunks rows 32
    → (1152 ≤ length s) × (rows ≡ subband_rows s)
unfolding subband_rows
rows_taken s chunks rows e front =
    let enough : 32 ≤ length s / 36 = rw (← length_chunks 36 (length s / 36) s, ← e) front.enough in (
      omega arith,
      listed 32 (λ sb. take 36 (drop (36 * sb) s)) [] rows (ap length front.same ∙ length-take-le 32 chunks front.enough)
          (λ sb h.
          ap (λ (r : List (List Float)). get_or r sb []) front.same ∙ get_or-take 32 chunks sb [] h ∙ ap (λ (r : List (List Float)). get_or r sb []) e
          ∙ chunk_at 36 (length s / 36) s sb (omega arith)),
    )

-- where there are so many chunks
pub rows_found : {B : Type 0} (s : List Float) (chunks : List (List Float)) (now : B → List (List Float)) (r : Option B) → chunks ≡ first_chunks 36 (length s / 36) s
    → MatchOption r (length chunks < 32) (λ rows. IsFirstChunk chunks (now rows) 32)
    → MatchOption r (length s < 1152) (λ rows. (1152 ≤ length s) × (now rows ≡ subband_rows s))
rows_found s chunks now None e few =
    let n : length s / 36 < 32 = rw (← length_chunks 36 (length s / 36) s, ← e) few in
    omega arith
rows_found s chunks now (Some rows) e front = rows_taken s chunks (now rows) e front

-- the indices of the granules, one behind the other
pub flattened : (s : List (List Float)) (limit : ℕ) → flat_map (λ x. x) (indices_of s limit) ≡ by_granule (indices_of s limit)
unfolding by_granule indices_of granule_of
flattened s limit = refl
