-- An event is read: the bytes that moved are read off the residual of the TRB that its pointer names.
use Rattle.std.specs.Prelude.{ℕ, ◌+◌, ◌-◌, ◌==◌, nat_lt, if◌then◌else◌}
use Rattle.usb_model.specs.Completion.{stopped}
use Rattle.usb_model.specs.Endpoint.Status.{told_status}
use Rattle.usb_tables.specs.declared.target.Target.{Target}
use Rattle.usb_tables.specs.declared.target.Reading.{Reading}
use Rattle.usb_tables.specs.declared.target.Reading.TheVariants.{Ended, Paused, Stray}
use Rattle.usb_tables.specs.Statuses.{is_short_an_error}

-- the transfer ended with this code, or stands; actual: how many of its bytes moved
abbrev pub told_of_target : Target → (code actual : ℕ) → Reading
told_of_target t code actual =
    if code == stopped then Paused t.item actual
    else Ended t.item (told_status t.gone code t.ask (is_short_an_error t.flags) t.length actual) actual

-- the bytes that moved are those of the TRBs before the one that the event points at, and that one's without the residual;
-- stray where the residual is over that TRB's length
abbrev pub read_target : Target → (residual code : ℕ) → Reading
read_target t r code = if nat_lt t.here r then Stray else told_of_target t code (t.before + (t.here - r))
