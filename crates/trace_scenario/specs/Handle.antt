-- Words that spell the names of handles.
use Rattle.std.specs.Prelude.{ℕ, List, Option}
use Rattle.usb_scripttext.specs.Number.{number_of}

-- the last name of a handle
abbrev pub last_handle : ℕ
last_handle = 63

-- the names of handles
abbrev pub handle_of : List ℕ → Option ℕ
handle_of = number_of last_handle
