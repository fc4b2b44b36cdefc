-- The sentence of a reason.
use Rattle.std.specs.Prelude.{ℕ, zero, suc, ◌==◌, ◌&&◌, ◌||◌, nat_lt, Bool, true, false, List, [], ◌∷◌, ◌++◌, length, codes, if◌then◌else◌}
use Rattle.std.specs.Fmt.{decimal}
use Rattle.usb_model.specs.declared.endpoint.EndpointState.{EndpointState}
use Rattle.usb_model.specs.declared.endpoint.EndpointState.TheVariants.{Running, Stopped, Halted}
use Rattle.usb_model.specs.declared.request.Kind.{Kind}
use Rattle.usb_model.specs.declared.request.Kind.TheVariants.{Control, Isochronous, Bulk, Interrupt}
use Rattle.usb_model.specs.declared.status.Status.{Status}
use Rattle.usb_model.specs.declared.status.Status.TheVariants as status
use Rattle.usb_model.specs.Text.{hex_byte}
use Rattle.usb_model.specs.declared.refusal.Places.{Places}
use Rattle.trace_explain.specs.declared.endpoints.EndpointList.{EndpointList}
use Rattle.trace_explain.specs.declared.refusal.UnplugRefusal.{UnplugRefusal}
use Rattle.trace_explain.specs.declared.refusal.UnplugRefusal.TheVariants as unplug
use Rattle.trace_explain.specs.declared.sentence.CalledWith.{CalledWith}
use Rattle.trace_explain.specs.Endpoints.{addresses_in}
use Rattle.usb_model.specs.declared.refusal.Missing.{Missing}
use Rattle.usb_model.specs.declared.refusal.Missing.TheVariants as missing
use Rattle.usb_model.specs.declared.refusal.Obstacle.{Obstacle}
use Rattle.usb_model.specs.declared.refusal.Obstacle.TheVariants as obstacle
use Rattle.usb_model.specs.declared.refusal.Misfit.{Misfit}
use Rattle.usb_model.specs.declared.refusal.Misfit.TheVariants as misfit
use Rattle.usb_model.specs.declared.refusal.Refusal.{Refusal}
use Rattle.usb_model.specs.declared.refusal.Refusal.TheVariants as refusal
use Rattle.trace_explain.specs.declared.sentence.Idleness.{Idleness}
use Rattle.trace_explain.specs.declared.sentence.Idleness.TheVariants as idleness
use Rattle.trace_explain.specs.declared.sentence.Unready.{Unready}
use Rattle.trace_explain.specs.declared.sentence.Unready.TheVariants as unready
use Rattle.trace_explain.specs.declared.sentence.TransferEnd.{TransferEnd}
use Rattle.trace_explain.specs.declared.sentence.TransferEnd.TheVariants as ending
use Rattle.trace_explain.specs.declared.sentence.Reason.{Reason}
use Rattle.trace_explain.specs.declared.sentence.Reason.TheVariants as reason

-- a handle: h and its number
unfoldable pub handle_text : ℕ → List ℕ
handle_text h = codes "h" ++ decimal h

unfoldable pub device_text : ℕ → List ℕ
device_text dev = codes "device " ++ decimal dev

unfoldable pub transfer_text : ℕ → List ℕ
transfer_text n = codes "transfer " ++ decimal n

unfoldable pub kind_text : Kind → List ℕ
kind_text Control = codes "control"
kind_text Isochronous = codes "isochronous"
kind_text Bulk = codes "bulk"
kind_text Interrupt = codes "interrupt"

unfoldable pub state_text : EndpointState → List ℕ
state_text Running = codes "running"
state_text Stopped = codes "stopped"
state_text Halted = codes "halted"

-- what stands behind a word of a list of which so many follow
abbrev pub between : ℕ → List ℕ
between zero = []
between (suc zero) = codes " and "
between (suc (suc more)) = codes ", "

-- addresses in a row, as 81, 02 and 83
abbrev pub row_text : List ℕ → List ℕ
row_text [] = []
row_text (ep ∷ eps) = hex_byte ep ++ (between (length eps) ++ row_text eps)

-- which endpoints there are
abbrev pub endpoints_text : List ℕ → List ℕ
endpoints_text [] = codes "none"
endpoints_text (ep ∷ eps) = row_text (ep ∷ eps)

-- what isn't there, or isn't handle h's; list: the endpoints of the device that it has open
abbrev pub missing_text : ℕ → EndpointList → Missing → List ℕ
missing_text h list (missing.Device dev) = codes "there is no " ++ device_text dev
missing_text h list missing.Open = handle_text h ++ codes " has no device open"
missing_text h list (missing.Interface dev i) = device_text dev ++ (codes " has no interface " ++ decimal i)
missing_text h list (missing.Endpoint dev ep) = device_text dev ++ (codes " has no endpoint " ++ (hex_byte ep ++ (codes "; it has " ++ endpoints_text (addresses_in list))))
missing_text h list (missing.Claim i) = handle_text h ++ (codes " doesn't hold interface " ++ decimal i)
missing_text h list (missing.ClaimFor i ep) = handle_text h ++ (codes " doesn't hold interface " ++ (decimal i ++ (codes ", which endpoint " ++ (hex_byte ep ++ codes " belongs to"))))
missing_text h list (missing.Number n) = handle_text h ++ (codes " was never given number " ++ decimal n)
missing_text h list (missing.Progress n) = transfer_text n ++ codes " isn't in progress any more"
missing_text h list (missing.Ask n) = transfer_text n ++ codes " was asked to end already"
missing_text h list (missing.Timeout n) = transfer_text n ++ codes " has no timeout"
missing_text h list (missing.Callback n) = transfer_text n ++ codes " isn't in its callback"

-- so many of something, where there are some; behind: whether it stands behind another
abbrev pub part_text : (behind : Bool) → ℕ → List ℕ → List ℕ
part_text behind n what = if n == 0 then [] else if behind then codes ", " ++ (decimal n ++ what) else decimal n ++ what

-- what keeps the places of an endpoint, as 13 in progress, 2 withdrawn until move, 2 not taken
abbrev pub places_text : Places → List ℕ
places_text x =
    part_text false x.waiting (codes " in progress")
    ++ (part_text (nat_lt 0 x.waiting) x.blank (codes " withdrawn until move")
    ++ part_text (nat_lt 0 x.waiting || nat_lt 0 x.blank) x.untaken (codes " not taken"))

abbrev pub obstacle_text : ℕ → Obstacle → List ℕ
obstacle_text h (obstacle.Open dev) = handle_text h ++ (codes " has " ++ (device_text dev ++ codes " open already"))
obstacle_text h (obstacle.Waits n ep) = transfer_text n ++ (codes " is in the line of " ++ hex_byte ep)
obstacle_text h (obstacle.Blank ep) = codes "a withdrawn transfer keeps its place at " ++ hex_byte ep
obstacle_text h (obstacle.Order ep) = codes "an order is under way at " ++ hex_byte ep
obstacle_text h (obstacle.Result n ep) = codes "the result of " ++ (transfer_text n ++ (codes " at " ++ (hex_byte ep ++ codes " isn't taken")))
obstacle_text h (obstacle.Callback n ep) = transfer_text n ++ (codes " of " ++ (hex_byte ep ++ codes " is in its callback"))
obstacle_text h (obstacle.Full ep by) = hex_byte ep ++ (codes " has no place left: " ++ places_text by)
obstacle_text h obstacle.Numbers = handle_text h ++ codes " has no number left for a transfer"

abbrev pub misfit_text : Misfit → List ℕ
misfit_text (misfit.Kind ep kind asked) = codes "endpoint " ++ (hex_byte ep ++ (codes " is " ++ (kind_text kind ++ (codes ", and the request " ++ kind_text asked))))
misfit_text (misfit.Reads ep) = codes "endpoint " ++ (hex_byte ep ++ codes " is OUT, and the request reads")
misfit_text (misfit.Writes ep) = codes "endpoint " ++ (hex_byte ep ++ codes " is IN, and the request writes")
misfit_text (misfit.Bytes bytes) = decimal bytes ++ codes " bytes are more than the 262144 of a transfer"

abbrev pub refusal_text : ℕ → EndpointList → Refusal → List ℕ
refusal_text h list (refusal.NotFound missing) = missing_text h list missing
refusal_text h list (refusal.NoDevice dev) = device_text dev ++ codes " was unplugged"
refusal_text h list (refusal.Busy obstacle) = obstacle_text h obstacle
refusal_text h list (refusal.HeldElsewhere holder i) = handle_text holder ++ (codes " holds interface " ++ decimal i)
refusal_text h list (refusal.InvalidParam misfit) = misfit_text misfit
refusal_text h list (refusal.NotSupported ep kind) = codes "endpoint " ++ (hex_byte ep ++ (codes " is " ++ (kind_text kind ++ codes ", and only bulk and interrupt transfers are submitted")))

abbrev pub unplug_text : UnplugRefusal → List ℕ
unplug_text (unplug.NoSuchDevice dev) = codes "there is no " ++ device_text dev
unplug_text (unplug.Unplugged dev) = device_text dev ++ codes " was unplugged"

-- how an endpoint stands
abbrev pub stands_text : ℕ → EndpointState → List ℕ
stands_text ep state = hex_byte ep ++ (codes " is " ++ state_text state)

abbrev pub idleness_text : Idleness → List ℕ
idleness_text (idleness.NoDevice dev) = codes "there is no " ++ device_text dev
idleness_text (idleness.NoEndpoint dev ep list) = device_text dev ++ (codes " has no endpoint " ++ (hex_byte ep ++ (codes "; it has " ++ endpoints_text (addresses_in list))))
idleness_text (idleness.NoHolder dev ep) = codes "no handle holds endpoint " ++ (hex_byte ep ++ (codes " of " ++ device_text dev))
idleness_text (idleness.Stands ep state) = stands_text ep state
idleness_text (idleness.NoTransfer ep) = codes "nothing waits at " ++ hex_byte ep
idleness_text idleness.NoOrder = codes "no order waits"
idleness_text idleness.NoEvent = codes "no event waits"
idleness_text idleness.NoResult = codes "no result waits"
idleness_text (idleness.Lost h ep) = handle_text h ++ (codes " doesn't hold endpoint " ++ (hex_byte ep ++ codes " any more"))

-- the device's own endpoint, and not the controller's, is halted
abbrev pub device_halted_text : ℕ → List ℕ
device_halted_text ep = codes "the device's endpoint " ++ (hex_byte ep ++ codes " is halted")

abbrev pub unready_text : Unready → List ℕ
unready_text (unready.Nak ep) = codes "the device isn't ready at " ++ hex_byte ep
unready_text (unready.ScriptEnd ep) = codes "the script of " ++ (hex_byte ep ++ codes " is at its end")
unready_text (unready.Halted ep) = device_halted_text ep

abbrev pub ending_text : TransferEnd → List ℕ
ending_text (ending.Whole bytes) = codes "all " ++ (decimal bytes ++ codes " bytes moved")
ending_text (ending.Short moved bytes) = codes "a short packet ends the read: " ++ (decimal moved ++ (codes " of " ++ (decimal bytes ++ codes " bytes")))
ending_text (ending.Stall ep) = codes "the device stalls at " ++ hex_byte ep
ending_text (ending.Halted ep) = device_halted_text ep
ending_text (ending.Broken ep) = codes "the packet at " ++ (hex_byte ep ++ codes " was broken")
ending_text (ending.Babble ep) = codes "the packet at " ++ (hex_byte ep ++ codes " has more bytes than there is room for")
ending_text (ending.Unplugged dev) = device_text dev ++ codes " was unplugged"

-- so many of so many bytes
abbrev pub moved_text : ℕ → ℕ → List ℕ
moved_text moved bytes = decimal moved ++ (codes " of " ++ (decimal bytes ++ codes " bytes"))

-- an end without a fault: short: fewer bytes came than were asked for
abbrev pub completed_text : (short : Bool) → ℕ → ℕ → List ℕ
completed_text true moved bytes = codes "a short packet ended it: " ++ moved_text moved bytes
completed_text false moved bytes = codes "it did what was asked"

-- an end with a fault; may_be_short: a short read is one, and fewer bytes came
abbrev pub error_text : (may_be_short : Bool) → ℕ → ℕ → List ℕ
error_text true moved bytes = codes "it failed, or was read short where that is an error: " ++ moved_text moved bytes
error_text false moved bytes = codes "it failed"

-- what the status says that a callback is told
abbrev pub called_text : CalledWith → Status → List ℕ
called_text x status.Completed = completed_text (nat_lt x.moved x.bytes) x.moved x.bytes
called_text x status.Error = error_text (x.short_not_ok && nat_lt x.moved x.bytes) x.moved x.bytes
called_text x status.TimedOut = codes "it ended since its time was over"
called_text x status.Cancelled = codes "it ended since it was cancelled"
called_text x status.Stall = codes "the device stalled"
called_text x status.NoDevice = codes "its device was unplugged"
called_text x status.Overflow = codes "the device sent more than there was room for"

abbrev pub reason_text : Reason → List ℕ
reason_text (reason.Refused x) = refusal_text x.h x.endpoints x.refusal
reason_text (reason.UnplugRefused x) = unplug_text x
reason_text (reason.Idle idleness) = idleness_text idleness
reason_text (reason.Nak unready) = unready_text unready
reason_text (reason.Ended ending) = ending_text ending
reason_text (reason.Failed ep state) = stands_text ep state
reason_text (reason.Called x) = called_text x x.status
