-- What a step may do to the transfers of a machine.
use Rattle.std.proofs.Common.{◌≡◌, ℕ, ◌+◌, ◌≤◌, ◌==◌, Bool, true, false, ◌⊎◌, inl, List, [], ◌∷◌, ◌++◌, Option, Some, None, option_map, map, refl, sym, subst, arith}
use Rattle.std.specs.Prelude.{if◌then◌else◌}
use Rattle.std.specs.Option.{unwrap_or, option_and_then}
use Rattle.std.proofs.lemmas.Bool.{eqb-true}
use Rattle.usb_model.specs.declared.refused.Refused.{Refused}
use Rattle.usb_model.specs.declared.reply.Reply.{Reply}
use Rattle.usb_model.specs.declared.reply.Reply.TheVariants as reply
use Rattle.usb_model.specs.declared.reply.Returned.{Returned}
use Rattle.usb_model.specs.declared.step.Step.{Step}
use Rattle.usb_model.specs.declared.endpoint.Endpoint.{Endpoint}
use Rattle.usb_model.specs.declared.handle.Handle.{Handle}
use Rattle.usb_model.specs.declared.result.TransferResult.{TransferResult}
use Rattle.usb_model.specs.Setup.{Setup, is_within}
use Rattle.usb_model.specs.Endpoint.{fresh}
use Rattle.usb_model.specs.Machine.{Machine, endpoint_at, says, does, refused_if}
use Rattle.usb_model.specs.declared.effect.Change.{Change}
use Rattle.usb_model.specs.declared.effect.Change.TheVariants.{Keeps, Frees, Gains, Drops, Renews, Sets}
use Rattle.usb_model.specs.declared.effect.Effect.{Effect}
use Rattle.usb_model.specs.Machine.Turns.{takes_result, ends_after, machine_after}
use Rattle.usb_model.specs.Laws.Cut.{times}
use Rattle.usb_model.specs.Laws.Places.{call_of, number_of, numbers_at}
use Rattle.proof_model.proofs.Lists.Pieces.{same_name}
use Rattle.proof_model.proofs.Lists.Parts.{IsPart, nothing, whole, none_of, part_map, part_times}
use Rattle.proof_model.proofs.Work.Lines.{Key, keys, live_numbers-keys, result_numbers, uncut_keys}

-- the transfers in progress at an endpoint that may be the handle's
abbrev pub keys_of : Option Endpoint → List Key
keys_of None = []
keys_of (Some e) = keys e.line

-- at an endpoint of the machine
abbrev pub keys_at : Machine → ℕ → List Key
keys_at m ep = keys_of (endpoint_at m ep)

-- and their numbers
abbrev pub lives_at : Machine → ℕ → List ℕ
lives_at m ep = numbers_at (endpoint_at m ep)

-- they are the numbers of these transfers
pub numbers_at-keys : (o : Option Endpoint) → numbers_at o ≡ map (λ k. k.n) (keys_of o)
numbers_at-keys None = refl
numbers_at-keys (Some e) = live_numbers-keys e.line

-- with fewer transfers there are fewer numbers
pub fewer_at : (o p : Option Endpoint) (n : ℕ) → IsPart (keys_of o) (keys_of p) → times n (numbers_at o) ≤ times n (numbers_at p)
fewer_at o p n part = rw (numbers_at-keys o, numbers_at-keys p) (part_times n (part_map (λ k. k.n) part))

-- what is told of a result to its callback
abbrev pub told : ℕ → TransferResult → Returned
told h x = record { h = h; n = x.n; ep = x.request.ep; round = x.round; status = x.status; actual = x.actual; bytes = x.bytes }

-- transfers may leave, some of them into results at one endpoint
pub record DoesWork (m m' : Machine) (reply : Reply) : Type 0 where
  pub ep : ℕ
  pub made : List TransferResult
  pub calls : call_of reply ≡ []
  pub gives : number_of reply ≡ []
  pub next_number : m'.handle.next_number ≡ m.handle.next_number
  pub results : m'.results ≡ m.results ++ made
  pub once : (n : ℕ) → times n (result_numbers made) + times n (lives_at m' ep) ≤ times n (lives_at m ep)
  pub ordered_at : IsPart (uncut_keys made ++ keys_at m' ep) (keys_at m ep)
  pub others : (at : ℕ) → (ep == at) ≡ false → IsPart (keys_at m' at) (keys_at m at)

-- a new number is given
pub record Submits (m m' : Machine) (reply : Reply) : Type 0 where
  pub ep : ℕ
  pub calls : call_of reply ≡ []
  pub gives : number_of reply ≡ m.handle.next_number ∷ []
  pub next_number : m'.handle.next_number ≡ m.handle.next_number + 1
  pub results : m'.results ≡ m.results
  pub here : lives_at m' ep ≡ lives_at m ep ++ m.handle.next_number ∷ []
  pub key_here : keys_at m' ep ≡ keys_at m ep ++ record { n = m.handle.next_number; ep = ep } ∷ []
  pub others : (at : ℕ) → (ep == at) ≡ false → endpoint_at m' at ≡ endpoint_at m at

-- the first result goes out
pub record Takes (h : ℕ) (m m' : Machine) (reply : Reply) : Type 0 where
  pub result : TransferResult
  pub calls : call_of reply ≡ told h result ∷ []
  pub gives : number_of reply ≡ []
  pub next_number : m'.handle.next_number ≡ m.handle.next_number
  pub results : m.results ≡ result ∷ m'.results
  pub others : (at : ℕ) → endpoint_at m' at ≡ endpoint_at m at

-- one of the three
abbrev pub Moves : ℕ → Machine → Machine → Reply → Type 0
Moves h m m' reply = DoesWork m m' reply ⊎ (Submits m m' reply ⊎ Takes h m m' reply)

-- work leaves each endpoint fewer transfers, or as many
pub work_less : (m m' : Machine) (reply : Reply) → DoesWork m m' reply → (n at : ℕ) → times n (lives_at m' at) ≤ times n (lives_at m at)
work_less m m' reply w n at = by_test (w.ep == at) refl
  where
    by_test : (b : Bool) → (w.ep == at) ≡ b → times n (lives_at m' at) ≤ times n (lives_at m at)
    by_test true e = subst (λ k. times n (lives_at m' k) ≤ times n (lives_at m k)) (eqb-true w.ep at e) (omega (arith, w.once n))
    by_test false e = fewer_at (endpoint_at m' at) (endpoint_at m at) n (w.others at e)

-- what a step with this effect does
abbrev pub MovesBy : Setup → ℕ → Machine → Step → Effect → Type 0
MovesBy setup h m step done = Moves h m (machine_after setup m step done) done.reply

-- neither calls nor gives a number
abbrev pub IsPlain : Reply → Type 0
IsPlain reply = (call_of reply ≡ []) × (number_of reply ≡ [])

-- an endpoint that may not be the handle's any more
part_if_none : (b : Bool) (o : Option Endpoint) → IsPart (keys_of (if b then None else o)) (keys_of o)
part_if_none true o = none_of (keys_of o)
part_if_none false o = whole (keys_of o)

-- one that may be made new
part_if_new : (setup : Setup) (d e : ℕ) (b : Bool) (o : Option Endpoint) → IsPart (keys_of (if b then Some (fresh setup d e) else o)) (keys_of o)
unfolding fresh
part_if_new setup d e true o = none_of (keys_of o)
part_if_new setup d e false o = whole (keys_of o)

-- one that is made new, if it is the handle's
part_renewed : (setup : Setup) (d e : ℕ) (o : Option Endpoint) → IsPart (keys_of (option_map (λ old. fresh setup d e) o)) (keys_of o)
unfolding fresh
part_renewed setup d e None = nothing
part_renewed setup d e (Some x) = none_of (keys x.line)

-- a change that sets no endpoint leaves each line, or empties it
abbrev pub SetsNone : Change → Type 0
SetsNone (Sets dev ep x) = ⊥
SetsNone _ = Unit {0}

-- at any endpoint
part_after : (setup : Setup) (ends : ℕ → ℕ → Option Endpoint) (change : Change) (d e : ℕ) → SetsNone change → IsPart (keys_of (ends_after setup ends change d e)) (keys_of (ends d e))
part_after setup ends Keeps d e s = whole (keys_of (ends d e))
part_after setup ends Frees d e s = none_of (keys_of (ends d e))
part_after setup ends (Gains dev i) d e s = part_if_new setup d e (is_within setup dev i d e) (ends d e)
part_after setup ends (Drops dev i) d e s = part_if_none (is_within setup dev i d e) (ends d e)
part_after setup ends (Renews dev) d e s = part_renewed setup d e (ends d e)
part_after setup ends (Sets dev ep x) d e s = absurd s

-- at an endpoint of the handle's device
part_at : (setup : Setup) (ends : ℕ → ℕ → Option Endpoint) (device : Option ℕ) (change : Change) (at : ℕ) → SetsNone change
    → IsPart (keys_of (option_and_then (λ d. ends_after setup ends change d at) device)) (keys_of (option_and_then (λ d. ends d at) device))
part_at setup ends None change at s = nothing
part_at setup ends (Some d) change at s = part_after setup ends change d at s

-- a step without results
pub quiet : (setup : Setup) (h : ℕ) (m : Machine) (step : Step) (done : Effect) → IsPlain done.reply → takes_result step ≡ false → done.handle.next_number ≡ m.handle.next_number → done.results ≡ []
    → ((at : ℕ) → IsPart (keys_of (option_and_then (λ d. ends_after setup m.endpoints done.change d at) done.handle.device)) (keys_at m at)) → MovesBy setup h m step done
unfolding machine_after
quiet setup h m step done plain stays next none parts = inl (record {
  ep = 0;
  made = [];
  calls = plain.0;
  gives = plain.1;
  next_number = next;
  results = rw (stays, none);
  once = λ n. let p = fewer_at (option_and_then (λ d. ends_after setup m.endpoints done.change d 0) done.handle.device) (endpoint_at m 0) n (parts 0) in omega (arith, p);
  ordered_at = parts 0;
  others = λ at differ. parts at;
})

-- a reply alone
pub says_moves : (setup : Setup) (h : ℕ) (m : Machine) (step : Step) (r : Reply) → IsPlain r → takes_result step ≡ false → MovesBy setup h m step (says m r)
says_moves setup h m step r plain stays = quiet setup h m step (says m r) plain stays refl refl (λ at. whole (keys_at m at))

-- Done, with a change that sets no endpoint
pub does_moves : (setup : Setup) (h : ℕ) (m : Machine) (step : Step) (handle : Handle) (change : Change) → takes_result step ≡ false → handle.next_number ≡ m.handle.next_number → handle.device ≡ m.handle.device → SetsNone change
    → MovesBy setup h m step (does handle change)
does_moves setup h m step handle change stays next same s = quiet setup h m step (does handle change) (refl, refl) stays next refl
    (λ at. subst (λ d. IsPart (keys_of (option_and_then (λ k. ends_after setup m.endpoints change k at) d)) (keys_at m at)) (sym same) (part_at setup m.endpoints m.handle.device change at s))

-- all interfaces are freed, whatever the device is then
none_at : (device : Option ℕ) → keys_of (option_and_then (λ (d : ℕ). None) device) ≡ []
none_at None = refl
none_at (Some d) = refl

-- Done, with all interfaces freed
pub frees_moves : (setup : Setup) (h : ℕ) (m : Machine) (step : Step) (handle : Handle) → takes_result step ≡ false → handle.next_number ≡ m.handle.next_number → MovesBy setup h m step (does handle Frees)
frees_moves setup h m step handle stays next = quiet setup h m step (does handle Frees) (refl, refl) stays next refl (λ at. rw (none_at handle.device) (none_of (keys_at m at)))

-- a refusal, or what stands behind it
pub refused_moves : (setup : Setup) (h : ℕ) (m : Machine) (step : Step) (b : Bool) (why : Refused) (rest : Effect) → takes_result step ≡ false → MovesBy setup h m step rest → MovesBy setup h m step (refused_if m b why rest)
unfolding refused_if
refused_moves setup h m step true why rest stays later = says_moves setup h m step (reply.Refused why) (refl, refl) stays
refused_moves setup h m step false why rest stays later = later

-- an endpoint of the handle's device that is set
pub sets_here : (setup : Setup) (ends : ℕ → ℕ → Option Endpoint) (device : Option ℕ) (ep : ℕ) (x y : Endpoint) → option_and_then (λ d. ends d ep) device ≡ Some x
    → option_and_then (λ d. ends_after setup ends (Sets (unwrap_or device 0) ep y) d ep) device ≡ Some y
sets_here setup ends None ep x y e = absurd cc
sets_here setup ends (Some d) ep x y e = rw (same_name d, same_name ep, e)

-- the others stay
pub sets_other : (setup : Setup) (ends : ℕ → ℕ → Option Endpoint) (device : Option ℕ) (ep at : ℕ) (y : Endpoint) → (ep == at) ≡ false
    → option_and_then (λ d. ends_after setup ends (Sets (unwrap_or device 0) ep y) d at) device ≡ option_and_then (λ d. ends d at) device
sets_other setup ends None ep at y differ = refl
sets_other setup ends (Some d) ep at y differ = rw (same_name d, differ)
