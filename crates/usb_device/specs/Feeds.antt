-- One more answer behind an endpoint's script, while the device runs.
use Rattle.std.specs.Prelude.{ℕ, ◌&&◌, nat_lt, Bool, [], ◌∷◌, ◌++◌, length}
use Rattle.usb_model.specs.declared.response.Response.{Response}
use Rattle.usb_model.specs.Limits.{longest_script}
use Rattle.usb_model.specs.Setup.{is_in}
use Rattle.usb_device.specs.Pipe.{Pipe}
use Rattle.usb_device.specs.Scripts.{is_answer}

-- the endpoint, as if its script had ended with this answer from the beginning
abbrev pub pipe_fed : Response → Pipe → Pipe
pipe_fed answer p = record p { script = p.script ++ answer ∷ []; left = p.left ++ answer ∷ [] }

-- whether the endpoint of this address may have it: there is one, the answer is of its direction and not too long, and the script has room
abbrev pub may_be_fed : (ep : ℕ) → Response → Pipe → Bool
may_be_fed ep answer p = nat_lt 0 p.size && (is_answer (is_in ep) answer && nat_lt (length p.script) longest_script)
