-- The events of a handle's transfer.
use Rattle.std.specs.Prelude.{ℕ, false, List, [], Option, None, if◌then◌else◌}
use Rattle.std.specs.Option.{option_map_or}
use Rattle.usb_model.specs.declared.request.Body.{Body}
use Rattle.usb_model.specs.declared.request.Body.TheVariants.{In, Out}
use Rattle.usb_model.specs.declared.request.Request.{Request}
use Rattle.usb_model.specs.declared.reply.Returned.{Returned}
use Rattle.usb_model.specs.declared.status.Status.{Status}
use Rattle.usb_model.specs.declared.status.Status.TheVariants as status
use Rattle.usb_model.specs.Endpoint.Status.{is_good}
use Rattle.usb_model.specs.Requests.{length_of, is_short_not_ok, adds_zero_packet}
use Rattle.trace_capture.specs.declared.identity.UrbId.TheVariants.{Transfer}
use Rattle.trace_capture.specs.declared.errno.Errno.{Errno}
use Rattle.trace_capture.specs.declared.errno.Errno.TheVariants.{Success, NoEntry, Pipe, Protocol, Overflow, Shutdown, InProgress, RemoteIo}
use Rattle.trace_capture.specs.declared.event.EventType.TheVariants.{Submission, Callback}
use Rattle.trace_capture.specs.declared.event.UrbFlags.{UrbFlags}
use Rattle.trace_capture.specs.declared.event.CaptureEvent.{CaptureEvent}
use Rattle.trace_capture.specs.declared.transfer.Tracked.{Tracked}

-- what a request asks for beside its bytes
abbrev pub flags_of : Request → UrbFlags
flags_of request = record { short_not_ok = is_short_not_ok request; zero_packet = adds_zero_packet request }

-- the bytes that it writes
abbrev pub written : Body → List ℕ
written (In n) = []
written (Out bytes) = bytes

-- a failed transfer: one that was only read short, or one whose transaction failed (Linux, usb_hcd_giveback_urb)
abbrev pub failure : Option ℕ → Errno
failure code = if option_map_or is_good code false then RemoteIo else Protocol

-- how a transfer ended, by what its callback was told and, where it ended by itself, its completion code (Linux, Documentation/driver-api/usb/error-codes.rst; libusb ends what is cancelled or late by USBDEVFS_DISCARDURB)
abbrev pub errno_of : Status → Option ℕ → Errno
errno_of status.Completed code = Success
errno_of status.Error code = failure code
errno_of status.TimedOut code = NoEntry
errno_of status.Cancelled code = NoEntry
errno_of status.Stall code = Pipe
errno_of status.NoDevice code = Shutdown
errno_of status.Overflow code = Overflow

-- a transfer is submitted, from this line
abbrev pub submission : ℕ → Tracked → CaptureEvent
submission line x = record {
  id = Transfer x.h x.n;
  event_type = Submission;
  kind = x.request.kind;
  ep = x.request.ep;
  device = x.device;
  line = line;
  errno = InProgress;
  length = length_of x.request.body;
  setup = None;
  flags = flags_of x.request;
  bytes = written x.request.body;
}

-- and called back, from this line, with what came of it
abbrev pub callback : ℕ → Tracked → Returned → CaptureEvent
callback line x returned = record {
  id = Transfer x.h x.n;
  event_type = Callback;
  kind = x.request.kind;
  ep = x.request.ep;
  device = x.device;
  line = line;
  errno = errno_of returned.status x.code;
  length = returned.actual;
  setup = None;
  flags = flags_of x.request;
  bytes = returned.bytes;
}
