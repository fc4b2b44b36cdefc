-- Texts of lines.
use Rattle.std.proofs.Common.{◌≡◌, ℕ, List, Some, sym, ◌∙◌, ap}
use Rattle.std.specs.Option.{option_and_then}
use Rattle.usb_scripttext.specs.Words.{words_in}
use Rattle.usb_scripttext.specs.Words.{ascii_of}
use Rattle.usb_devicetext.specs.Line.{line_of, line_of_text}

-- what the words of a text say, it says
pub by_words : (text ascii : List ℕ) (words : List (List ℕ)) → ascii_of text ≡ Some ascii → words ≡ words_in ascii
    → line_of words ≡ line_of_text text
by_words text ascii words is cut = ap line_of cut ∙ sym (ap (option_and_then (λ a. line_of (words_in a))) is)
