-- Scalefactor indices of a frame's subband samples: ISO/IEC 11172-3 C.1.5.2, calculation of scalefactors.
-- The 36 samples of a subband in a frame make three granules of 12, and each granule has an index.
use Rattle.std.specs.Prelude.{ℕ, zero, suc, ◌+◌, ◌*◌, ◌≤◌, ◌<◌, ◌≡◌, Bool, false, cond, List, [], T, ltb, pos, Float, get_or, Option, None, Some}
use Rattle.std.specs.Float.{nan, fin}
use Rattle.std.specs.Float.Ieee.{le, lt, is_nan}
use Rattle.tables.specs.Listed.{tabulate}
use Rattle.tables.specs.Search.{last_place}
use Rattle.tables.specs.Scalefactors.{scalefactors}
use Rattle.ieee_order.specs.Order.{abs_of, max_of}

-- a multiplier covers a magnitude where it is at least as large; nothing covers a NaN
abbrev pub covers : Float → Float → Bool
covers x multiplier = le x multiplier

-- the multiplier of an index
abbrev pub multiplier : ℕ → Float
multiplier i = get_or scalefactors i nan

-- the last index whose multiplier covers the magnitude, and 0 where there is none
abbrev pub or_first : Option ℕ → ℕ
or_first None = 0
or_first (Some i) = i

unfoldable pub pick_of : Float → ℕ
pick_of x = or_first (last_place (covers x) scalefactors)

-- the largest magnitude of n samples, counted from one of them: 0 at least, and a NaN is skipped
unfoldable pub largest : List Float → ℕ → ℕ → Float
largest samples start zero = fin false 0 (pos 0)
largest samples start (suc n) = max_of (largest samples start n) (abs_of (get_or samples (start + n) nan))

-- the index of the granule of 12 samples that begins at one of them
unfoldable pub index_from : List Float → ℕ → ℕ
unfolding largest pick_of
index_from samples start = pick_of (largest samples start 12)

-- the index of a granule of a subband; from the limit on it is 62
unfoldable pub index_at : List (List Float) → ℕ → ℕ → ℕ → ℕ
unfolding index_from
index_at samples limit g sb = cond (ltb sb limit) (index_from (get_or samples sb []) (12 * g)) 62

-- the indices of a granule, by subband
unfoldable pub granule_of : List (List Float) → ℕ → ℕ → List ℕ
unfolding index_at
granule_of samples limit g = tabulate 32 (index_at samples limit g)

-- the indices of a frame, by granule and subband
unfoldable pub indices_of : List (List Float) → ℕ → List (List ℕ)
unfolding granule_of
indices_of samples limit = tabulate 3 (granule_of samples limit)

-- ---- what an index is worth

-- The index of a granule: wherever one multiplier covers every sample, the index's does, but for NaN; and the next one does not.
pub record Covering (samples : List Float) (start i : ℕ) : Type 0 where
  pub covered : (j : ℕ) → j < 63
      → ((k : ℕ) → k < 12 → is_nan (get_or samples (start + k) nan) ≡ false → T (covers (abs_of (get_or samples (start + k) nan)) (multiplier j)))
      → (k : ℕ) → k < 12 → is_nan (get_or samples (start + k) nan) ≡ false → T (covers (abs_of (get_or samples (start + k) nan)) (multiplier i))
  pub tight : i < 62 → (k : ℕ) × (k < 12) × T (lt (multiplier (i + 1)) (abs_of (get_or samples (start + k) nan)))

-- ---- what the functions promise

pub record PickIs (x : Float) (r : ℕ) : Type 0 where
  pub whole : r ≡ pick_of x
  pub small : r ≤ 62

pub record ScalefactorIndexIs (samples : List Float) (start r : ℕ) : Type 0 where
  pub whole : r ≡ index_from samples start
  pub most : r ≤ 62
  pub worth : Covering samples start r
