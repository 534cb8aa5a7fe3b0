-- What the end of a run is worth, whatever the rules: said of the places at which the fields stand and of the bits left.
use Rattle.std.specs.Prelude.{ℕ, zero, suc, ◌+◌, ◌-◌, ◌≤◌, ◌<◌, ◌≡◌, false, List, T}
use Rattle.std.specs.Float.Ieee.{is_nan, le, lt}
use Rattle.allocation_rounds.specs.declared.Run.{Run}
use Rattle.allocation_rounds.specs.Rounds.{Rules, price, place_in, waits}

-- the bits charged for the first n fields at their places
unfoldable pub charged : Rules → List ℕ → ℕ → ℕ
charged R places zero = 0
charged R places (suc n) = charged R places n + R.charge n (place_in places n)

-- rules whose charges count up from nothing: true of every pricing by steps
pub record Counting (R : Rules) : Type 0 where
  pub few : R.fields ≤ 64
  pub nothing : (f : ℕ) → R.charge f 0 ≡ 0
  pub rising : (f p : ℕ) → f < R.fields → p < R.top f → R.charge f p ≤ R.charge f (p + 1)

-- no ratio is a NaN, and a field's ratio never falls as the field rises
pub record Rising (R : Rules) : Type 0 where
  pub number : (f p : ℕ) → f < R.fields → p ≤ R.top f → is_nan (R.mnr f p) ≡ false
  pub rises : (f p : ℕ) → f < R.fields → p < R.top f → T (le (R.mnr f p) (R.mnr f (p + 1)))

-- 1. no open field is below its top place
abbrev pub Over : Rules → Run → Type 0
Over R s = (f : ℕ) → f < R.fields → waits R s.places s.closed f ≡ false

-- 2. charged, counted from the places held, and left make up what was offered
abbrev pub Accounted : Rules → ℕ → List ℕ → ℕ → Type 0
Accounted R offered places left = charged R places R.fields + left ≡ offered

-- 3. a field below its top place: its next step costs more than is left
abbrev pub Spent : Rules → List ℕ → ℕ → Type 0
Spent R places left = (f : ℕ) → f < R.fields → place_in places f < R.top f → left < price R f (place_in places f)

-- 4. the exchange rule: where the first field has taken a step and the second is below its top, and the second's ratio is below the
-- first's before its last step, giving that step up would not buy the second's next
abbrev pub Exchanged : Rules → List ℕ → ℕ → Type 0
Exchanged R places left =
    (f g : ℕ) → f < R.fields → g < R.fields → 0 < place_in places f → place_in places g < R.top g
    → T (lt (R.mnr g (place_in places g)) (R.mnr f (place_in places f - 1)))
    → price R f (place_in places f - 1) + left < price R g (place_in places g)
