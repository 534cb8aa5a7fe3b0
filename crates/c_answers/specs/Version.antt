-- The version of the C library.
use Rattle.std.specs.Prelude.{ℕ, ◌+◌, ◌*◌}

-- its three parts as one number
abbrev pub version : ℕ → ℕ → ℕ → ℕ
version major minor patch = 10000 * major + 100 * minor + patch
