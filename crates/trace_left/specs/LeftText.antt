-- The text of what is left behind, as bytes.
use Rattle.std.specs.Prelude.{ℕ, List, ◌++◌, codes}
use Rattle.std.specs.Fmt.{decimal}
use Rattle.std.specs.List.{flat_map}
use Rattle.usb_model.specs.Text.{errand_text, hex_byte, ok_text, status_text}
use Rattle.trace_left.specs.declared.left.Left.{Left}
use Rattle.trace_left.specs.declared.left.Left.TheVariants as left
use Rattle.trace_left.specs.declared.left.Thing.{Thing}
use Rattle.trace_left.specs.declared.left.Thing.TheVariants as thing

abbrev pub thing_text : Thing → List ℕ
thing_text (thing.Waits n) = codes "transfer " ++ (decimal n ++ codes " waits")
thing_text (thing.HasEnded n) = codes "transfer " ++ (decimal n ++ codes " ended")
thing_text thing.IsHalted = codes "halted"
thing_text (thing.Unused answers) = codes "unused " ++ decimal answers
thing_text (thing.Order errand) = codes "order " ++ errand_text errand
thing_text (thing.Finished n) = codes "event finished " ++ decimal n
thing_text (thing.Paused n) = codes "event paused " ++ decimal n
thing_text (thing.Settled errand ok) = codes "event settled " ++ (errand_text errand ++ (codes " " ++ ok_text ok))
thing_text (thing.Result n status) = codes "result " ++ (decimal n ++ (codes " " ++ status_text status))
thing_text (thing.Callback n) = codes "callback " ++ decimal n

-- the handle, and its device, its interface, or the endpoint and what isn't finished there
abbrev pub left_text : Left → List ℕ
left_text (left.Open h dev) = codes "h" ++ (decimal h ++ (codes " device " ++ (decimal dev ++ codes " open")))
left_text (left.Held h interface) = codes "h" ++ (decimal h ++ (codes " interface " ++ (decimal interface ++ codes " held")))
left_text (left.At h ep thing) = codes "h" ++ (decimal h ++ (codes " ep " ++ (hex_byte ep ++ (codes " " ++ thing_text thing))))

-- a line of it
abbrev pub left_line : Left → List ℕ
left_line x = left_text x ++ codes "\n"

-- a line each
abbrev pub lines_left : List Left → List ℕ
lines_left xs = flat_map left_line xs
