-- Lines that expect something, and what they find.
use Rattle.std.specs.Prelude.{ℕ, ◌-◌, ◌==◌, nat_eq, Bool, true, false, List, [], ◌∷◌, length, take, Option, Some, None, codes, if◌then◌else◌}
use Rattle.std.specs.List.{ends_with}
use Rattle.std.specs.Str.{bytes_eq}
use Rattle.usb_scripttext.specs.Prefix.{behind}

-- what a line expects, if it does
abbrev pub expected_of : List ℕ → Option (List ℕ)
expected_of line = behind (codes "expect ") line

-- what a line expects to be left, if it does
abbrev pub expected_left_of : List ℕ → Option (List ℕ)
expected_left_of line = behind (codes "expect left ") line

-- what a line expects some entry to be, if it does
abbrev pub expected_any_of : List ℕ → Option (List ℕ)
expected_any_of line = behind (codes "expect any ") line

-- what stands in front of ` ...` at the end of what is wanted; None where that doesn't end so
abbrev pub beginning_of : List ℕ → Option (List ℕ)
beginning_of wanted = if ends_with nat_eq wanted (codes " ...") then Some (take (length wanted - 4) wanted) else None

-- whether a text is a beginning, or goes on behind it with a space, by what stands behind it
abbrev pub ends_or_goes_on : Option (List ℕ) → Bool
ends_or_goes_on None = false
ends_or_goes_on (Some []) = true
ends_or_goes_on (Some (b ∷ bs)) = b == 32

-- whether a text is what is wanted: that itself; or, where ` ...` ends it, what stands in front of that, and no more or a space behind it
abbrev pub fits_by : Option (List ℕ) → (wanted text : List ℕ) → Bool
fits_by None wanted text = bytes_eq wanted text
fits_by (Some beginning) wanted text = ends_or_goes_on (behind beginning text)

abbrev pub fits : (wanted text : List ℕ) → Bool
fits wanted text = fits_by (beginning_of wanted) wanted text
