-- What is wrong with a text of devices, as C is told it.
use Rattle.std.specs.Prelude.{◌≡◌, ℕ, ℤ, pos, negsuc, List, is_some, length, min, Option, Some, None}
use Rattle.usb_devicetext.specs.declared.complaint.Complaint.{Complaint}
use Rattle.usb_devicetext.specs.Reason.{Complains, reason_place, reason_text}
use Rattle.tirnouch_c.specs.declared.complaints.TextComplaint.{TextComplaint}
use Rattle.tirnouch_c.specs.Buffers.{answer_of, filled}
use Rattle.tirnouch_c.specs.Replies.{bit}

-- the word that a reason is about, the first at 0; 0 for the whole line too
abbrev pub word_number : Option ℕ → ℕ
word_number None = 0
word_number (Some at) = min at 4294967295

-- the number of a line that isn't taken, and nothing of its words
abbrev pub line_numbers : ℕ → TextComplaint
line_numbers n = record { line = n; word = 0; has_word = 0 }

-- the number of the line and of the word; 1 where the reason is about a word
abbrev pub complaint_numbers : Complaint → TextComplaint
complaint_numbers c = record { line = c.line; word = word_number (reason_place c.reason); has_word = bit (is_some (reason_place c.reason)) }

-- nothing is told of a text that is taken; else how long the sentence is, and as much of it as there is room for
abbrev pub TellsComplaint : Option Complaint → ℤ → (was now : TextComplaint) → (old new : List ℕ) → Type 0
TellsComplaint None answer was now old new = (answer ≡ pos 0) × (now ≡ was) × (new ≡ old)
TellsComplaint (Some c) answer was now old new =
    (answer ≡ answer_of (length (reason_text c.reason))) × (now ≡ complaint_numbers c) × (new ≡ filled (reason_text c.reason) old)

-- libusb's number of want of memory, and then nothing is told
abbrev pub IsWant : ℤ → (was now : TextComplaint) → (old new : List ℕ) → Type 0
IsWant answer was now old new = (answer ≡ negsuc 10) × (now ≡ was) × (new ≡ old)

-- one of these, for what is wrong with the text; none for want of memory
abbrev pub TellsIf : Option (Option Complaint) → List ℕ → ℤ → (was now : TextComplaint) → (old new : List ℕ) → Type 0
TellsIf None text answer was now old new = IsWant answer was now old new
TellsIf (Some complaint) text answer was now old new = Complains text complaint × TellsComplaint complaint answer was now old new

pub record TellsWrong (text : List ℕ) (answer : ℤ) (was now : TextComplaint) (old new : List ℕ) : Type 0 where
  pub found : Option (Option Complaint)
  pub is : TellsIf found text answer was now old new
