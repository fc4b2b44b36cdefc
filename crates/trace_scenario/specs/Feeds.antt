-- Texts that say the same scenario: one has answers in a line of their own, the other has them in the script.
use Rattle.std.specs.Prelude.{◌≡◌, ℕ, ◌==◌, Bool, true, false, ◌&&◌, List, [], ◌∷◌, ◌++◌, IfSome, Some}
use Rattle.std.specs.List.{AllByRecursion, slice_split}
use Rattle.usb_model.specs.declared.response.Response.{Response}
use Rattle.usb_model.specs.declared.setup.Configuration.{Configuration}
use Rattle.usb_model.specs.Setup.{endpoint_id}
use Rattle.trace_scenario.specs.declared.line.Line.{Line}
use Rattle.trace_scenario.specs.declared.line.Line.TheVariants as line
use Rattle.trace_scenario.specs.Line.{line_of_text}
use Rattle.usb_scripttext.specs.Words.{says_nothing}
use Rattle.usb_scripttext.specs.Devices.{takes_script}

-- the lines of a text
abbrev pub lines_in : List ℕ → List (List ℕ)
lines_in text = slice_split (λ b. b == 10) text

-- a line says this
abbrev pub Says : List ℕ → Line → Type 0
Says text l = (says_nothing text ≡ false) × (line_of_text text ≡ Some l)

-- whether a line is the script of an endpoint of this id, or feeds it
abbrev pub has_answers_of : ℕ → ℕ → Line → Bool
has_answers_of dev id (line.Script d ep answers) = (d == dev) && (endpoint_id ep == id)
has_answers_of dev id (line.Feed d ep answers) = (d == dev) && (endpoint_id ep == id)
has_answers_of dev id _ = false

-- a line leaves the script of this endpoint alone
abbrev pub LeavesAlone : ℕ → ℕ → List ℕ → Type 0
LeavesAlone dev ep text = IfSome (line_of_text text) (λ l. has_answers_of dev (endpoint_id ep) l ≡ false)

-- a script, and further on answers of the same endpoint that are fed; in the other text a script of them all, and an empty line
pub record IsFedLater (text other : List ℕ) : Type 0 where
  pub dev : ℕ
  pub ep : ℕ
  pub known : List Response
  pub later : List Response
  pub script : List ℕ
  pub feed : List ℕ
  pub whole : List ℕ
  pub says_script : Says script (line.Script dev ep known)
  pub says_feed : Says feed (line.Feed dev ep later)
  pub says_whole : Says whole (line.Script dev ep (known ++ later))
  pub before : List (List ℕ)
  pub between : List (List ℕ)
  pub after : List (List ℕ)
  pub alone : AllByRecursion (LeavesAlone dev ep) between
  pub lines : lines_in text ≡ before ++ script ∷ (between ++ feed ∷ after)
  pub others : lines_in other ≡ before ++ whole ∷ (between ++ [] ∷ after)

-- answers of an endpoint without a script that are fed; in the other text they are its script, which stands in an empty line's place right behind the device
pub record IsFedAlone (text other : List ℕ) : Type 0 where
  pub dev : ℕ
  pub config : Configuration
  pub ep : ℕ
  pub answers : List Response
  pub device : List ℕ
  pub feed : List ℕ
  pub script : List ℕ
  pub says_device : Says device (line.Device dev config)
  pub says_feed : Says feed (line.Feed dev ep answers)
  pub says_script : Says script (line.Script dev ep answers)
  pub takes : takes_script config ep ≡ true
  pub before : List (List ℕ)
  pub between : List (List ℕ)
  pub after : List (List ℕ)
  pub alone : AllByRecursion (LeavesAlone dev ep) between
  pub lines : lines_in text ≡ before ++ device ∷ ([] ∷ (between ++ feed ∷ after))
  pub others : lines_in other ≡ before ++ device ∷ (script ∷ (between ++ [] ∷ after))
