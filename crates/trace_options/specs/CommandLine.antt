-- Command lines that have words alone.
use Rattle.std.specs.Prelude.{◌≡◌, ◌||◌, ℕ, Bool, false, List, [], ◌∷◌, None, codes}
use Rattle.std.specs.Str.{bytes_eq}
use Rattle.usb_scripttext.specs.Words.{words_of}
use Rattle.trace_options.specs.declared.colours.ColourOption.TheVariants.{Unsaid}
use Rattle.trace_options.specs.declared.device_options.DeviceOptions.{DeviceOptions}
use Rattle.trace_options.specs.declared.files.CommandLine.{CommandLine}
use Rattle.trace_options.specs.declared.files.OutputOption.TheVariants.{Unasked}

-- whether words ask for the version, behind the program's name
abbrev pub is_version : List (List ℕ) → Bool
is_version (name ∷ word ∷ []) = bytes_eq word (codes "--version") || bytes_eq word (codes "-V")
is_version words = false

-- no option says which device of a capture is meant
abbrev pub no_options : DeviceOptions
no_options = record { device = None; descriptors = None; umockdev = None; problem = None }

-- it is printed in lines as they are: neither as JSON nor with colours
pub record IsInLines (line : CommandLine) : Type 0 where
  pub json : line.is_json ≡ false
  pub colours : line.colours ≡ Unsaid
  pub terminal : line.is_on_terminal ≡ false

-- a command line has words alone, of which `trace` knows what they ask for: no file, and no option of the program's own
pub record IsPlain (line : CommandLine) : Type 0 where
  pub lines : IsInLines line
  pub files : line.files.items ≡ []
  pub devices : line.devices ≡ no_options
  pub junit : line.junit ≡ Unasked
  pub html : line.html ≡ Unasked
  pub update : line.is_update ≡ false
  pub lenient : line.is_lenient ≡ false
  pub version : is_version (words_of line.words.items) ≡ false
