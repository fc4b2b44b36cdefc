-- What a request is refused for, before the line of its endpoint is looked at (libusb_submit_transfer).
use Rattle.std.specs.Prelude.{ℕ, not, ◌||◌, Option, Some, None, Result, Ok, Err, if◌then◌else◌}
use Rattle.std.specs.Option.{option_map_or}
use Rattle.usb_model.specs.declared.refused.Refused.{Refused}
use Rattle.usb_model.specs.declared.refused.Refused.TheVariants.{InvalidParam, NotFound, NotSupported}
use Rattle.usb_model.specs.declared.request.Kind.{Kind}
use Rattle.usb_model.specs.declared.request.Request.{Request}
use Rattle.usb_model.specs.declared.setup.Configuration.{Configuration}
use Rattle.usb_model.specs.Machine.Calls.{is_bad_body}
use Rattle.usb_model.specs.Requests.{is_same_kind, is_unsupported}
use Rattle.usb_descriptors.specs.Table.{info_at}
use Rattle.usb_tables.specs.Tds.{Tds, tds_of}

-- the first refusal at an endpoint of this kind: stages or intervals, which aren't supported; then another kind, a wrong direction
-- or too many bytes
abbrev pub refusal_at : Kind → Request → Option Refused
refusal_at kind request =
    if is_unsupported kind then Some NotSupported
    else if not (is_same_kind request.kind kind) || is_bad_body request.ep request.body then Some InvalidParam
    else None

-- the first refusal of all: no endpoint has just this address; then those at the endpoint
abbrev pub refusal : Configuration → Request → Option Refused
refusal config request = option_map_or (λ x. refusal_at x.kind request) (info_at config request.ep) (Some NotFound)

-- the packet size of the endpoint of this address; 0 where there is none
abbrev pub size_at : Configuration → ℕ → ℕ
size_at config ep = option_map_or (λ x. x.packet_size) (info_at config ep) 0

-- the TDs, unless there is a refusal
abbrev pub unless_refused : Option Refused → Tds → Result Tds Refused
unless_refused None t = Ok t
unless_refused (Some why) t = Err why

-- what comes of a request at an endpoint of this kind and packet size
abbrev pub checked_at : Kind → ℕ → Request → Result Tds Refused
checked_at kind size request = unless_refused (refusal_at kind request) (tds_of size request)

-- what comes of a request at a device of this configuration
abbrev pub checked : Configuration → Request → Result Tds Refused
checked config request = unless_refused (refusal config request) (tds_of (size_at config request.ep) request)
