-- The rules as the code lays them out in tables.
-- For the contracts of private functions alone: nothing that a caller has to believe stands here.
use Rattle.std.specs.Prelude.{ℕ, ◌+◌, ◌-◌, ◌*◌, ◌<◌, ◌≡◌, List, Float, length, get_or}
use Rattle.std.specs.Float.{nan}
use Rattle.bitalloc.specs.Tables.{row_of}
use Rattle.layout.specs.declared.Layout.{Layout}
use Rattle.layout.specs.Layout.{fields_of, field_in}
use Rattle.allocation_rounds.specs.declared.Tables.{Tables}
use Rattle.allocation_run.specs.Entries.{Entry, mnr_at, charge_at, entry_in, entries_of}

-- the tables of ratios and of charges, sixteen entries to a field, as far as entry n: at the places of the rows, and free behind them
pub record LaidOut (es : List Entry) (n : ℕ) (mnrs : List Float) (charges : List ℕ) : Type 0 where
  pub long : length mnrs ≡ 1024
  pub wide : length charges ≡ 1024
  pub mnr : (f p : ℕ) → p < length (entry_in es f).row → 16 * f + p < n → get_or mnrs (16 * f + p) nan ≡ mnr_at (entry_in es f) p
  pub charge : (f p : ℕ) → p < length (entry_in es f).row → 16 * f + p < n → get_or charges (16 * f + p) 0 ≡ charge_at (entry_in es f) p

-- the top places of the first n fields
unfoldable pub TopsTo : Layout → ℕ → List ℕ → Type 0
TopsTo l n tops = (f : ℕ) → f < n → get_or tops f 0 ≡ length (row_of l.table (field_in (fields_of l) f).subband) - 1

-- the tables as far as the first n fields of a layout, with these signal-to-mask ratios and first steps' costs
pub record Filled (l : Layout) (smr : List (List Float)) (costs : List ℕ) (n : ℕ) (t : Tables) : Type 0 where
  pub fields : t.fields ≡ length (fields_of l)
  pub tops : TopsTo l n t.tops
  pub laid : LaidOut (entries_of l smr costs) (16 * n) t.mnrs t.charges
