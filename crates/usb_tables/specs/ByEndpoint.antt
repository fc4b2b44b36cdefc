-- Where the value of each endpoint of each device stands.
use Rattle.std.specs.Prelude.{ℕ, ◌+◌, ◌*◌}
use Rattle.usb_model.specs.Setup.{endpoint_id}

-- the lane of a device's endpoint, 0 to 127
abbrev pub lane_at : ℕ → ℕ → ℕ
lane_at d e = 32 * d + endpoint_id e
