-- Lines joined by endpoint.
use Rattle.std.specs.Prelude.{ℕ, ◌==◌, Bool, ◌&&◌, List}
use Rattle.std.specs.List.{IsDistinct}
use Rattle.trace_scenario.specs.declared.expectations.ExpectedPackets.{ExpectedPackets}

-- whether a line is of this endpoint
abbrev pub is_of : ℕ → ℕ → ExpectedPackets → Bool
is_of dev ep line = (line.dev == dev) && (line.ep == ep)

-- of no endpoint are there two
abbrev pub HasEndpointsOnce : List ExpectedPackets → Type 0
HasEndpointsOnce lines = IsDistinct (λ line other. is_of line.dev line.ep other) lines
