-- Control requests by number.
use Rattle.std.specs.Prelude.{ℕ, ◌+◌, ◌*◌}
use Rattle.trace_capture.specs.declared.control_setup.ControlSetup.{ControlSetup}

-- a request's number in a table: its type, its number, its value and its index
abbrev pub key_of : ControlSetup → ℕ
key_of setup = ((setup.request_type * 256 + setup.request) * 65536 + setup.value) * 65536 + setup.index
