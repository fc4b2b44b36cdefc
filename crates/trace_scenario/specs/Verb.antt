-- The first words of lines.
use Rattle.std.specs.Prelude.{ℕ, Bool, true, false, List, codes, Option, Some, None, if◌then◌else◌}
use Rattle.std.specs.Str.{bytes_eq}
use Rattle.trace_scenario.specs.declared.verb.Verb.{Verb}
use Rattle.trace_scenario.specs.declared.verb.Verb.TheVariants.{Device, Script, Feed, Open, Close, Claim, Release, Reset, Clear, Submit, Cancel, Expire, Serve, Command, Deliver, Take, Return, Unplug}

-- the verb of a word
unfoldable pub verb_of : List ℕ → Option Verb
verb_of word =
    if bytes_eq word (codes "submit") then Some Submit else
    if bytes_eq word (codes "serve") then Some Serve else
    if bytes_eq word (codes "deliver") then Some Deliver else
    if bytes_eq word (codes "take") then Some Take else
    if bytes_eq word (codes "return") then Some Return else
    if bytes_eq word (codes "command") then Some Command else
    if bytes_eq word (codes "feed") then Some Feed else
    if bytes_eq word (codes "device") then Some Device else
    if bytes_eq word (codes "script") then Some Script else
    if bytes_eq word (codes "open") then Some Open else
    if bytes_eq word (codes "close") then Some Close else
    if bytes_eq word (codes "claim") then Some Claim else
    if bytes_eq word (codes "release") then Some Release else
    if bytes_eq word (codes "reset") then Some Reset else
    if bytes_eq word (codes "clear") then Some Clear else
    if bytes_eq word (codes "cancel") then Some Cancel else
    if bytes_eq word (codes "expire") then Some Expire else
    if bytes_eq word (codes "unplug") then Some Unplug else
    None

-- whether lines that begin so are pieces of the plan by themselves
abbrev pub says_piece : Verb → Bool
says_piece Device = false
says_piece Script = false
says_piece Feed = false
says_piece Submit = false
says_piece _ = true
