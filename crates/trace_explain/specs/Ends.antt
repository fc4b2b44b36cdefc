-- How a read ends behind full packets, by their number alone.
use Rattle.std.specs.Prelude.{ℕ, ◌+◌, ◌-◌, ◌*◌, min, ◌==◌, nat_lt, List, [], ◌∷◌, length, Option, Some, None, if◌then◌else◌}
use Rattle.usb_model.specs.declared.response.Response.{Response}
use Rattle.usb_model.specs.declared.response.Response.TheVariants as response
use Rattle.trace_explain.specs.declared.ends.End.{End}
use Rattle.trace_explain.specs.declared.ends.End.TheVariants.{Whole, Short, Stall, Broken, Babble}

-- a packet of so many bytes comes, with room for n bytes in all
abbrev pub last_end : ℕ → ℕ → ℕ → ℕ → Option End
last_end n size full bytes =
    if nat_lt (min size (n - full * size)) bytes then Some Babble
    else if full * size + bytes == n then Some Whole
    else if nat_lt bytes size then Some (Short (full * size + bytes))
    else None

-- what comes behind so many full packets
abbrev pub read_end : ℕ → ℕ → ℕ → List Response → Option End
read_end n size full (response.Stall ∷ []) = Some Stall
read_end n size full (response.Broken ∷ []) = Some Broken
read_end n size full (response.Data b ∷ []) = last_end n size full (length b)
read_end n size full _ = None
