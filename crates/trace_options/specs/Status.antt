-- The statuses with which the program ends.
use Rattle.std.specs.Prelude.{ℕ, ◌==◌, Bool, ◌&&◌, if◌then◌else◌}

-- a run that ended well, over an input that ends early: what could be read was printed
abbrev pub half_status : ℕ → Bool → ℕ
half_status status is_cut = if (status == 0) && is_cut then 4 else status

-- where it is only told what a run wrote that isn't as expected
abbrev pub lenient_status : ℕ → Bool → ℕ
lenient_status status is_lenient = if (status == 3) && is_lenient then 0 else status

-- of tests of which so many failed
abbrev pub tests_status : ℕ → ℕ
tests_status failed = if failed == 0 then 0 else 1
