-- The magnitude, the larger and the smaller of binary64 numbers, as Rust's `f64::abs`, `f64::max` and `f64::min`.
use Rattle.std.specs.Prelude.{Bool, false, cond, Float}
use Rattle.std.specs.Float.{nan, inf, fin}
use Rattle.std.specs.Float.Ieee.{lt, is_nan}

-- the magnitude: the sign taken off, a zero's too
unfoldable pub abs_of : Float → Float
abs_of nan = nan
abs_of (inf s) = inf false
abs_of (fin s m e) = fin false m e

-- one of two: a NaN beside a number yields the number, two NaN a NaN, and of two numbers the second is taken where the test says so
abbrev pub chosen_of : Bool → Float → Float → Float
chosen_of second a b = cond (is_nan a) b (cond (is_nan b) a (cond second b a))

-- the larger; of two that compare equal the first
unfoldable pub max_of : Float → Float → Float
max_of a b = chosen_of (lt a b) a b

-- the smaller; of two that compare equal the first
unfoldable pub min_of : Float → Float → Float
min_of a b = chosen_of (lt b a) a b
