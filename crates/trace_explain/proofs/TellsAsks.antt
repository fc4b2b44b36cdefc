-- Asks that a transfer end: the reason told is of the reply's sort.
use Rattle.std.proofs.Common.{◌≡◌, ℕ, nat_lt, Bool, true, false, Option, Some, None, is_some, refl}
use Rattle.std.specs.Prelude.{if◌then◌else◌}
use Rattle.std.specs.Option.{option_map}
use Rattle.usb_model.specs.declared.item.Ask.{Ask}
use Rattle.usb_model.specs.declared.refusal.Missing.TheVariants as missing
use Rattle.usb_model.specs.declared.refusal.Refusal.TheVariants.{NotFound}
use Rattle.usb_model.specs.declared.refused.Refused.TheVariants as refused
use Rattle.usb_model.specs.Machine.{Machine, at_endpoint, device_of}
use Rattle.usb_model.specs.Machine.Calls.{Home, ask_effect, ask_in_progress, asks, home_of}
use Rattle.usb_model.specs.Refusals.{ask_tests}
use Rattle.usb_model.specs.Setup.{Setup, endpoints_of}
use Rattle.usb_model.specs.World.{World, is_blocked}
use Rattle.trace_explain.specs.Refusals.{ask_refusal, ask_refusal_at}
use Rattle.trace_explain.specs.Sorts.{Refusal as Refuses, sort_of_reply}
use Rattle.trace_explain.proofs.Told.{all_tested, replied, sort_told}

pub ask_told : (setup : Setup) (h : ℕ) (w : World) (m : Machine) (n : ℕ) (ask : Ask) (timed : Bool) → sort_told (ask_refusal setup m n timed) ≡ sort_of_reply (replied setup h w (ask_effect setup m n ask timed))
unfolding ask_refusal ask_effect ask_in_progress asks at_endpoint is_blocked
ask_told setup h w m n ask timed = by_home (home_of m n (endpoints_of setup (device_of m)))
  where
    by_number : (b : Bool) → sort_told (Some (if b then NotFound (missing.Progress n) else NotFound (missing.Number n))) ≡ Refuses refused.NotFound
    by_number true = refl
    by_number false = refl

    by_home : (o : Option Home) → sort_told (ask_refusal_at m n timed (option_map (λ home. home.item) o)) ≡ sort_of_reply (replied setup h w (ask_in_progress m n ask timed o))
    by_home None = by_number (nat_lt n m.handle.next_number)
    by_home (Some home) = all_tested setup h w m (ask_tests n (is_some home.item.ask) timed home.item.request.timeout) _ refl
