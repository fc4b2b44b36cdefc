-- One turn more of the loops over the records and the blocks of a file.
use Rattle.std.proofs.Common.{◌≡◌, ℕ, zero, suc, ◌+◌, ◌-◌, ◌<◌, ◌≤◌, ◌==◌, Bool, true, false, List, ◌++◌, length, take, drop, refl, ap, subst, sym, ◌∙◌, arith}
use Rattle.std.specs.Prelude.{nat_le, not, ◌&&◌}
use Rattle.std.proofs.lemmas.Bool.{eq-eqb, ne_eqb, eqb-false, leb-true}
use Rattle.std.proofs.lemmas.List.{length-drop}
use Rattle.trace_recorded.specs.declared.number.Endianness.{Endianness}
use Rattle.trace_recorded.specs.declared.event.EventHeader.{EventHeader}
use Rattle.trace_recorded.specs.declared.event.RecordedEvent.{RecordedEvent}
use Rattle.trace_recorded.specs.declared.recording.Recording.{Recording}
use Rattle.trace_recorded.specs.declared.pcapng.PcapngReading.{PcapngReading}
use Rattle.trace_recorded.specs.declared.block.Front.{Front}
use Rattle.trace_recorded.specs.declared.block.Front.TheVariants.{Block, Amid, Unknown}
use Rattle.trace_recorded.specs.Blocks.{IsWithin}
use Rattle.trace_recorded.specs.Files.{records_behind, next_frame, record_size, begins_with_record, packet_of_record, events_in, blocks_behind, front_of, with_front, past_front}

-- with the records of the rest behind these events, the first of this number, all are read
abbrev pub RecordsAreLeft : Endianness → EventHeader → Recording → ℕ → List RecordedEvent → List ℕ → Type 0
RecordsAreLeft order header all frame events rest = (most : ℕ) × (length rest ≤ most) × (records_behind most order header frame events rest ≡ all)

pub records_begin : (order : Endianness) (header : EventHeader) (frame : ℕ) (events : List RecordedEvent) (bytes : List ℕ)
    → RecordsAreLeft order header (records_behind (length bytes) order header frame events bytes) frame events bytes
records_begin order header frame events bytes = (length bytes, omega arith, refl)

-- a record has sixteen bytes at least
long : (order : Endianness) (rest : List ℕ) → begins_with_record order rest ≡ true → 16 ≤ length rest
long order rest begins = by_test (nat_le 16 (length rest)) refl
  where
    by_test : (b : Bool) → nat_le 16 (length rest) ≡ b → 16 ≤ length rest
    by_test true is = leb-true 16 (length rest) is
    by_test false is = let wrong : false ≡ true = rw is at begins in cc

next_record : (most : ℕ) (order : Endianness) (header : EventHeader) (frame : ℕ) (events : List RecordedEvent) (rest : List ℕ) → begins_with_record order rest ≡ true
    → records_behind (suc most) order header frame events rest
    ≡ records_behind most order header (next_frame frame) (events ++ events_in order header frame (packet_of_record order rest)) (drop (record_size order rest) rest)
unfolding records_behind
next_record most order header frame events rest begins = rw begins refl

pub record_more : (order : Endianness) (header : EventHeader) (all : Recording) (frame : ℕ) (events : List RecordedEvent) (rest : List ℕ) → begins_with_record order rest ≡ true
    → RecordsAreLeft order header all frame events rest
    → RecordsAreLeft order header all (next_frame frame) (events ++ events_in order header frame (packet_of_record order rest)) (drop (record_size order rest) rest)
record_more order header all frame events rest begins left = by_most left.0 left.1 left.2
  where
    by_most : (most : ℕ) → length rest ≤ most → records_behind most order header frame events rest ≡ all
        → RecordsAreLeft order header all (next_frame frame) (events ++ events_in order header frame (packet_of_record order rest)) (drop (record_size order rest) rest)
    by_most zero few same = absurd (omega (arith, long order rest begins))
    by_most (suc most) few same = (most, omega (arith, long order rest begins, length-drop (record_size order rest) rest), sym (next_record most order header frame events rest begins) ∙ same)

-- as the loop has it
pub record_next : (order : Endianness) (header : EventHeader) (all : Recording) (frame after : ℕ) (events more : List RecordedEvent) (rest behind : List ℕ) (size : ℕ) → begins_with_record order rest ≡ true
    → size ≡ record_size order rest → more ≡ events ++ events_in order header frame (take (size - 16) (drop 16 rest)) → after ≡ next_frame frame → behind ≡ drop size rest
    → RecordsAreLeft order header all frame events rest
    → RecordsAreLeft order header all after more behind
record_next order header all frame after events more rest behind size begins is pushed counted past left =
    let next = record_more order header all frame events rest begins left in
    let same : more ≡ events ++ events_in order header frame (packet_of_record order rest) = pushed ∙ ap (λ n. events ++ events_in order header frame (take (n - 16) (drop 16 rest))) is in
    let goes : behind ≡ drop (record_size order rest) rest = past ∙ ap (λ n. drop n rest) is in
    rw (same, goes, counted) next

pub records_end : (order : Endianness) (header : EventHeader) (all : Recording) (frame : ℕ) (events : List RecordedEvent) (rest : List ℕ) → begins_with_record order rest ≡ false
    → RecordsAreLeft order header all frame events rest
    → record { events = events; is_cut = not (length rest == 0) } ≡ all
unfolding records_behind
records_end order header all frame events rest ends left = by_most left.0 left.2
  where
    by_most : (most : ℕ) → records_behind most order header frame events rest ≡ all → record { events = events; is_cut = not (length rest == 0) } ≡ all
    by_most zero same = same
    by_most (suc most) same = rw ends at same

-- with the blocks of the rest behind what was read, all are read
abbrev pub BlocksAreLeft : PcapngReading → PcapngReading → List ℕ → Type 0
BlocksAreLeft all reading rest = (most : ℕ) × (length rest ≤ most) × (blocks_behind most reading rest ≡ all)

pub blocks_begin : (reading : PcapngReading) (bytes : List ℕ) → BlocksAreLeft (blocks_behind (length bytes) reading bytes) reading bytes
blocks_begin reading bytes = (length bytes, omega arith, refl)

next_block : (most : ℕ) (reading : PcapngReading) (rest : List ℕ) → (length rest == 0) ≡ false
    → blocks_behind (suc most) reading rest ≡ blocks_behind most (with_front (front_of reading.order rest) rest reading) (past_front (front_of reading.order rest) rest)
unfolding blocks_behind
next_block most reading rest some = rw some refl

pub block_more : (all reading : PcapngReading) (rest : List ℕ) → 0 < length rest → length (past_front (front_of reading.order rest) rest) < length rest → BlocksAreLeft all reading rest
    → BlocksAreLeft all (with_front (front_of reading.order rest) rest reading) (past_front (front_of reading.order rest) rest)
block_more all reading rest some less left = by_most left.0 left.1 left.2
  where
    by_most : (most : ℕ) → length rest ≤ most → blocks_behind most reading rest ≡ all → BlocksAreLeft all (with_front (front_of reading.order rest) rest reading) (past_front (front_of reading.order rest) rest)
    by_most zero few same = absurd (omega (arith, some))
    by_most (suc most) few same =
        let more : (length rest == 0) ≡ false = ne_eqb (length rest) 0 (λ z. omega (arith, z, some)) in
        (most, omega (arith, less), sym (next_block most reading rest more) ∙ same)

-- a whole block has twelve bytes at least
shorter : (front : Front) (rest : List ℕ) → IsWithin front rest → 0 < length rest → length (past_front front rest) < length rest
shorter (Block order size) rest within some = omega (arith, within.0, within.1, length-drop size rest)
shorter Amid rest within some = some
shorter Unknown rest within some = some

-- as the loop has it
pub block_next : (all reading more : PcapngReading) (rest behind : List ℕ) (front : Front) → (length rest == 0) ≡ false → front ≡ front_of reading.order rest → IsWithin front rest
    → more ≡ with_front front rest reading → behind ≡ past_front front rest → BlocksAreLeft all reading rest
    → BlocksAreLeft all more behind
block_next all reading more rest behind front some is within read past left =
    let more_than_none : length rest ≡ 0 → ⊥ = eqb-false (length rest) 0 some in
    let there : 0 < length rest = omega (arith, more_than_none) in
    let less : length (past_front (front_of reading.order rest) rest) < length rest = shorter (front_of reading.order rest) rest (subst (λ f. IsWithin f rest) is within) there in
    rw (read, past, is) (block_more all reading rest there less left)

pub blocks_end : (all reading : PcapngReading) (rest : List ℕ) → length rest ≡ 0 → BlocksAreLeft all reading rest → reading ≡ all
unfolding blocks_behind
blocks_end all reading rest none left = by_most left.0 left.2
  where
    by_most : (most : ℕ) → blocks_behind most reading rest ≡ all → reading ≡ all
    by_most zero same = same
    by_most (suc most) same = rw (eq-eqb (length rest) 0 none) at same
