-- A Take alone calls a callback.
use Rattle.std.proofs.Common.{◌≡◌, ℕ, Bool, true, false, [], Option, Some, None, refl, ap, sym, ◌∙◌, subst}
use Rattle.usb_model.specs.declared.effect.Effect.{Effect}
use Rattle.usb_model.specs.declared.entry.Entry.{Entry}
use Rattle.usb_model.specs.declared.endpoint.Endpoint.{Endpoint}
use Rattle.usb_model.specs.declared.endpoint_effect.EndpointEffect.{EndpointEffect}
use Rattle.usb_model.specs.declared.handle.Handle.{Handle}
use Rattle.usb_model.specs.declared.step.Step.{Step}
use Rattle.usb_model.specs.declared.step.Step.TheVariants.{Take, Unplug}
use Rattle.usb_model.specs.Laws.Places.{call_of}
use Rattle.usb_model.specs.Machine.{Machine, at_endpoint, device_of, is_gone}
use Rattle.usb_model.specs.Setup.{Setup, packet_size_of}
use Rattle.usb_model.specs.World.{Turn, World, is_blocked, machine_of, owner_of, turn, turn_by, turn_of, turn_of_nobody}
use Rattle.proof_model.proofs.Handles.Isolation.{effect_to, turn_blocked, turn_free, unplug_own}
use Rattle.proof_model.proofs.Work.Replies.{asks_told, command_told, deliver_told, serve_told, told_plain}
use Rattle.proof_model.proofs.Machines.Deeds.{IsDone, IsRest, IsWork, again, again_with, anew, asks_it, claims, claims_again, clears, closes, commands, delivers, idles, only_rests, opens, refuses, releases, resets, serves, stays, stops, submits, takes, unplugs, works}
use Rattle.proof_model.proofs.Machines.Done.{is_done}
use Rattle.proof_laws.specs.InCallbacks.{IsReached}
use Rattle.proof_laws.proofs.InCallbacks.{kept}

-- whether a step is a Take
abbrev pub is_take : Step → Bool
is_take Take = true
is_take step = false

-- work at an endpoint calls none
work_calls : (setup : Setup) (m : Machine) (ep : ℕ) (e : Endpoint) (step : Step) (handle : Handle) (d : EndpointEffect) → IsWork setup m ep e step handle d → call_of d.reply ≡ []
work_calls setup m ep e step handle d (serves dev) = (told_plain d.reply (serve_told (packet_size_of setup (device_of m) ep) (is_gone m) e)).0
work_calls setup m ep e step handle d (commands o os first) = (told_plain d.reply (command_told (packet_size_of setup (device_of m) ep) ep e o e.state)).0
work_calls setup m ep e step handle d (delivers event ns first) = (told_plain d.reply (deliver_told (packet_size_of setup (device_of m) ep) ep (is_gone m) e event)).0
work_calls setup m ep e step handle d (asks_it {ask = ask} k i its at free) = (told_plain d.reply (asks_told e k ask)).0
work_calls setup m ep e step handle d (submits (anew g request) at fine short) = refl
work_calls setup m ep e step handle d (submits (again g k x in_call) at fine short) = refl
work_calls setup m ep e step handle d (submits (again_with g k bytes x in_call) at fine short) = refl
work_calls setup m ep e step handle d (clears g empty) = refl

-- nor does anything else but a Take
rest_calls : (setup : Setup) (h : ℕ) (m : Machine) (step : Step) (done : Effect) → IsRest setup h m step done → is_take step ≡ false → call_of done.reply ≡ []
rest_calls setup h m step done (stays (refuses why) t) apart = refl
rest_calls setup h m step done (stays idles t) apart = refl
rest_calls setup h m step done (stays (unplugs dev) t) apart = refl
rest_calls setup h m step done (claims_again g i) apart = refl
rest_calls setup h m step done (stops g k x in_call) apart = refl
rest_calls setup h m step done (opens g dev none) apart = refl
rest_calls setup h m step done (closes g idle) apart = refl
rest_calls setup h m step done (claims g i opened free) apart = refl
rest_calls setup h m step done (releases g i idle) apart = refl
rest_calls setup h m step done (resets g idle) apart = refl
rest_calls setup h m step done (takes x xs first) apart = absurd cc

done_calls : (setup : Setup) (h : ℕ) (m : Machine) (step : Step) (done : Effect) → IsDone setup h m step done → is_take step ≡ false → call_of done.reply ≡ []
unfolding at_endpoint
done_calls setup h m step done (only_rests rest) apart = rest_calls setup h m step done rest apart
done_calls setup h m step done (works ep e here work) apart = work_calls setup m ep e step _ _ work

-- so no other step of a world that a run leads to does
pub no_call : (setup : Setup) (w : World) → IsReached setup w → (step : Step) → is_take step ≡ false → call_of (turn setup w step).entry.reply ≡ []
unfolding turn turn_of_nobody
no_call setup w reached step apart = by_owner (owner_of setup w step) refl
  where
    CallsNone : Turn → Type 0
    CallsNone t = call_of t.entry.reply ≡ []

    of_name : (h : ℕ) (x : Step) → is_take x ≡ false → call_of (effect_to setup h w x).reply ≡ []
    of_name h x other = done_calls setup h (machine_of setup h w) x (effect_to setup h w x) (is_done setup h (machine_of setup h w) x (kept setup w reached h).well) other

    nobodys : (x : Step) → is_take x ≡ false → CallsNone (turn_of_nobody setup w x)
    nobodys (Unplug dev) other = ap (λ (e : Entry). call_of e.reply) (unplug_own setup 0 w dev).1 ∙ of_name 0 (Unplug dev) other
    nobodys _ other = refl

    by_test : (h : ℕ) (b : Bool) → is_blocked setup h w (effect_to setup h w step).change ≡ b → CallsNone (turn_of setup h w step)
    by_test h true blocked = subst CallsNone (sym (turn_blocked setup h w step blocked)) refl
    by_test h false free = subst CallsNone (sym (turn_free setup h w step free)) (of_name h step apart)

    by_owner : (o : Option ℕ) → owner_of setup w step ≡ o → CallsNone (turn_by setup (owner_of setup w step) w step)
    by_owner None none = subst (λ o. CallsNone (turn_by setup o w step)) (sym none) (nobodys step apart)
    by_owner (Some h) its = subst (λ o. CallsNone (turn_by setup o w step)) (sym its) (by_test h (is_blocked setup h w (effect_to setup h w step).change) refl)
