-- An endpoint made new, and one whose device's halt ended.
use Rattle.std.proofs.Common.{List, [], arith, false, refl, ℕ}
use Rattle.usb_model.specs.declared.errand.Errand.{Errand}
use Rattle.usb_model.specs.declared.endpoint.Endpoint.{Endpoint}
use Rattle.usb_model.specs.declared.news.Event.{Event}
use Rattle.usb_model.specs.declared.response.Response.{Response}
use Rattle.usb_model.specs.Endpoint.{fresh}
use Rattle.usb_model.specs.Setup.{Setup, script_of}
use Rattle.usb_model.specs.Coherence.{served_events}
use Rattle.usb_model.specs.Kept.{KeptEndpoint, SentErrand, Telling, new_kept_endpoint}
use Rattle.refine_world.specs.ShownEndpoint.{ShowsEnd, StandsNear, front, told_of}

pub fresh_shows : (size : ℕ) (setup : Setup) (d e : ℕ) → ShowsEnd size (fresh setup d e) [] [] (new_kept_endpoint (script_of setup d e)) [] []
unfolding fresh served_events told_of front
fresh_shows size setup d e = record { tail = []; news = refl; kept = tt; row = tt; state = refl; errand = refl; script_left = refl; device_halted = refl; packets_received = refl; told_is = refl; sent_is = refl; stands = λ q. refl; paused = tt; known = λ q r. tt }

-- it stands at its beginning
pub new_near : (script : List Response) → StandsNear (new_kept_endpoint script) []
new_near script = record { near = omega arith; inside = omega arith; before = tt }

-- the halt of its device ends
pub cleared_shows : (size : ℕ) (e : Endpoint) (os : List Errand) (ns : List Event) (b : KeptEndpoint) (sent : List SentErrand) (told : List Telling) → ShowsEnd size e os ns b sent told
    → ShowsEnd size (record e { device_halted = false }) os ns (record b { device_halted = false }) sent told
cleared_shows size e os ns b sent told s = record { tail = s.tail; news = s.news; kept = s.kept; row = s.row; state = s.state; errand = s.errand; script_left = s.script_left; device_halted = refl; packets_received = s.packets_received; told_is = s.told_is; sent_is = s.sent_is; stands = s.stands; paused = s.paused; known = s.known }
