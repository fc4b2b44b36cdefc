-- What a reader keeps of the descriptors that it has read, and what one more does to it.
use Rattle.std.specs.Prelude.{◌≡◌, ℕ, ◌==◌, Bool, not, ◌&&◌, List, [], ◌∷◌, ◌++◌, Option, Some, None, Result, MatchResult}
use Rattle.std.specs.List.{list_any}
use Rattle.usb_descriptors.specs.declared.fault.DescFault.{DescFault}
use Rattle.usb_descriptors.specs.declared.descriptor.Interface.{Interface}
use Rattle.usb_descriptors.specs.declared.reader.Section.{Section}
use Rattle.usb_descriptors.specs.declared.reader.Section.TheVariants.{Start, Unused, Used}
use Rattle.usb_descriptors.specs.declared.reader.Reader.{Reader}
use Rattle.usb_descriptors.specs.Pieces.{Piece}
use Rattle.usb_descriptors.specs.Grammar.{nearest, configuration, faults_of}

-- whether an interface is used beside those of these numbers
abbrev pub is_new : List ℕ → Interface → Bool
is_new numbers interface = (interface.setting == 0) && not (list_any (λ k. k == interface.number) numbers)

-- a section as the grammar has it: the nearest earlier interface
abbrev pub nearest_in : Section → Option (Option ℕ)
nearest_in Start = None
nearest_in Unused = Some None
nearest_in (Used number) = Some (Some number)

-- the reader has read just these pieces
pub record HasRead (before : List Piece) (reader : Reader) : Type 0 where
  pub config : reader.config ≡ configuration before
  pub section : nearest_in reader.section ≡ nearest before

-- one more piece: where it has no fault the reader has read it too, else its fault is the answer
abbrev pub ReadsOn : Piece → Reader → Reader → Result (Unit {0}) DescFault → Type 0
ReadsOn p old new result = (before : List Piece) → HasRead before old
    → MatchResult result
    (λ _. (faults_of before p ≡ []) × HasRead (before ++ p ∷ []) new)
    (λ fault. faults_of before p ≡ fault ∷ [])
