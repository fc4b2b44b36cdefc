-- Reading what comes of the bytes from front to back is reading them all.
use Rattle.std.proofs.Common.{◌≡◌, ℕ, ◌+◌, ◌==◌, nat_lt, Bool, true, false, cond, not, ◌||◌, List, [], ◌∷◌, ◌++◌, length, map, Result, Ok, Err, refl, sym, ap, ap₂, ◌∙◌, append_assoc}
use Rattle.std.proofs.lemmas.List.{append-nil}
use Rattle.usb_model.specs.declared.setup.Configuration.{Configuration}
use Rattle.usb_descriptors.specs.declared.fault.DescFault.{DescFault}
use Rattle.usb_descriptors.specs.declared.fault.DescFault.TheVariants.{Truncated, WrongType, BadLength}
use Rattle.usb_descriptors.specs.declared.reader.Reader.{Reader}
use Rattle.usb_descriptors.specs.Pieces.{Piece, byte, pieces, extent, rest}
use Rattle.usb_descriptors.specs.Grammar.{each_from, faults_of, faults_at_end, faults, configuration, read_by, header_length, total_length, body, reading}
use Rattle.usb_descriptors.specs.Items.{items, opening}
use Rattle.usb_descriptors.specs.Reader.{HasRead}

-- the first fault, or else this answer
abbrev pub unless_fault : List DescFault → Result Configuration DescFault → Result Configuration DescFault
unless_fault [] answer = answer
unless_fault (fault ∷ _) answer = Err fault

-- the answer to what comes behind these pieces
unfoldable pub read_on : List Piece → List (Result Piece DescFault) → Result Configuration DescFault
read_on before [] = Ok (configuration before)
read_on before (Err fault ∷ left) = Err fault
read_on before (Ok p ∷ left) = unless_fault (faults_of before p) (read_on (before ++ p ∷ []) left)

-- the faults in front come before the others
unless_fault-read_by : (found more : List DescFault) (config : Configuration)
    → unless_fault found (read_by more config) ≡ read_by (found ++ more) config
unless_fault-read_by [] more config = refl
unless_fault-read_by (fault ∷ found) more config = refl

-- pieces and then perhaps a fault are read as their first fault, or else as the configuration that they describe
read_on-pieces : (before ps : List Piece) (ends : List DescFault)
    → read_on before (map Ok ps ++ map Err ends) ≡ read_by (each_from faults_of before ps ++ ends) (configuration (before ++ ps))
unfolding read_on
read_on-pieces before [] [] = ap (λ ps. Ok (configuration ps)) (sym (append-nil before))
read_on-pieces before [] (fault ∷ ends) = refl
read_on-pieces before (p ∷ ps) ends =
    let further = each_from faults_of (before ++ p ∷ []) ps in
    ap (unless_fault (faults_of before p)) (read_on-pieces (before ++ p ∷ []) ps ends)
    ∙ unless_fault-read_by (faults_of before p) (further ++ ends) (configuration ((before ++ p ∷ []) ++ ps))
    ∙ ap₂ (λ found all. read_by found (configuration all)) (sym (append_assoc (faults_of before p) further ends)) (append_assoc before (p ∷ []) ps)

-- so what comes of the bytes is read as the grammar says
pub read_on-items : (at : ℕ) (bytes : List ℕ) → read_on [] (items at bytes) ≡ read_by (faults at bytes) (configuration (pieces at bytes))
unfolding items
read_on-items at bytes = read_on-pieces [] (pieces at bytes) (faults_at_end (at + extent (pieces at bytes)) (rest bytes))

-- the answer by what the opening gave
abbrev pub opened : Result (List (Result Piece DescFault)) DescFault → Result Configuration DescFault
opened (Ok left) = read_on [] left
opened (Err fault) = Err fault

-- the grammar, by its opening
pub opened-opening : (input : List ℕ) → opened (opening input) ≡ reading input
opened-opening input =
    by_tests (nat_lt (length input) 9) (not (byte 1 input == 2))
    (nat_lt (header_length input) 9 || nat_lt (total_length input) (header_length input))
    (nat_lt (length input) (total_length input)) (Truncated (length input)) (WrongType 0) (BadLength 0)
  where
    answer : Result Configuration DescFault
    answer = read_by (faults (header_length input) (body input)) (configuration (pieces (header_length input) (body input)))

    by_tests : (a b c d : Bool) (x y z : DescFault)
        → opened (cond a (Err x) (cond b (Err y) (cond c (Err z) (cond d (Err x) (Ok (items (header_length input) (body input)))))))
        ≡ cond a (Err x) (cond b (Err y) (cond c (Err z) (cond d (Err x) answer)))
    by_tests true b c d x y z = refl
    by_tests false true c d x y z = refl
    by_tests false false true d x y z = refl
    by_tests false false false true x y z = refl
    by_tests false false false false x y z = read_on-items (header_length input) (body input)

-- a reader between two descriptors: what it has read, and that what is left leads to the grammar's answer
pub record IsUnderway (input : List ℕ) (reader : Reader) (left : List (Result Piece DescFault)) : Type 0 where
  pub before : List Piece
  pub has : HasRead before reader
  pub same : read_on before left ≡ reading input

-- what comes of a descriptor that is next
read_on-piece : (before : List Piece) {left more : List (Result Piece DescFault)} {p : Piece} {found : List DescFault}
    → left ≡ Ok p ∷ more → faults_of before p ≡ found
    → unless_fault found (read_on (before ++ p ∷ []) more) ≡ read_on before left
unfolding read_on
read_on-piece before {more = more} {p = p} next has =
    ap (λ faults. unless_fault faults (read_on (before ++ p ∷ []) more)) (sym has) ∙ ap (read_on before) (sym next)

module _ {input : List ℕ} {reader : Reader} {left : List (Result Piece DescFault)} (way : IsUnderway input reader left) where
  -- where nothing is left, what was read is the answer
  pub answers : left ≡ [] → Ok reader.config ≡ reading input
  unfolding read_on
  answers none = ap Ok way.has.config ∙ ap (read_on way.before) (sym none) ∙ way.same

  -- a fault that is next is the answer
  pub fault_is_next : {fault : DescFault} {more : List (Result Piece DescFault)} → left ≡ Err fault ∷ more → Err fault ≡ reading input
  unfolding read_on
  fault_is_next next = ap (read_on way.before) (sym next) ∙ way.same

  -- so is the fault of a descriptor that is next
  pub piece_has_fault : {p : Piece} {fault : DescFault} {more : List (Result Piece DescFault)} → left ≡ Ok p ∷ more
      → faults_of way.before p ≡ fault ∷ [] → Err fault ≡ reading input
  piece_has_fault next found = read_on-piece way.before next found ∙ way.same

  -- without one it is passed, once the reader has read it
  pub passes : {p : Piece} {new : Reader} {more : List (Result Piece DescFault)} → left ≡ Ok p ∷ more
      → (faults_of way.before p ≡ []) × HasRead (way.before ++ p ∷ []) new → IsUnderway input new more
  passes {p = p} next (none, has) =
      record { before = way.before ++ p ∷ []; has = has; same = read_on-piece way.before next none ∙ way.same }
