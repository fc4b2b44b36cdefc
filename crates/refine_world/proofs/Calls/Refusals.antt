-- A call is refused for the first of its tests that holds, and changes nothing.
use Rattle.std.proofs.Common.{Bool, List, Some, [], ap, append-nil, false, refl, subst, sym, true, ℕ, ◌++◌, ◌==◌, ◌∙◌, ◌∷◌, ◌≡◌}
use Rattle.std.specs.Prelude.{if◌then◌else◌}
use Rattle.std.proofs.lemmas.Bool.{eqb-true}
use Rattle.usb_model.specs.declared.effect.Change.{Change}
use Rattle.usb_model.specs.declared.effect.Effect.{Effect}
use Rattle.usb_model.specs.declared.handle.Handle.{Handle}
use Rattle.usb_model.specs.declared.refused.Refused.TheVariants.{HeldElsewhere}
use Rattle.usb_model.specs.declared.refused.Refused.{Refused}
use Rattle.usb_model.specs.declared.reply.Reply.TheVariants as reply
use Rattle.usb_model.specs.declared.reply.Reply.{Reply}
use Rattle.usb_model.specs.declared.step.Step.{Step}
use Rattle.usb_model.specs.Machine as machine
use Rattle.usb_model.specs.Machine.{Machine, at_endpoint, does, refused_if, says}
use Rattle.usb_model.specs.Setup.{Setup}
use Rattle.usb_model.specs.World.Shared.{past_first}
use Rattle.usb_model.specs.Machine.Turns.{effect}
use Rattle.usb_model.specs.World.{World, is_blocked, machine_of, owner_of, turn, turn_by, world_after}
use Rattle.proof_model.proofs.Handles.Isolation.{gone_stays, turn_free}
use Rattle.proof_model.proofs.Work.Moves.{SetsNone}
use Rattle.proof_model.proofs.Machines.Deeds.{IsDone, IsRest, only_rests, works}
use Rattle.proof_model.proofs.Machines.Done.{is_done}
use Rattle.refine_world.specs.Calls.{refuses, rests, unless}
use Rattle.refine_world.specs.Lively.{IsFine}
use Rattle.refine_world.specs.Shows.{Core, Shows}
use Rattle.refine_world.specs.Steps.{Stepped, StepsTo}
use Rattle.refine_world.proofs.CallWorks.{IsCall}
use Rattle.refine_world.proofs.Links.{all_sound}
use Rattle.refine_world.proofs.StepsWithoutWork.{blocked_steps, rest_steps}

-- a call that only says something leaves the world as it was
world_stays : (setup : Setup) (h : ℕ) (w : World) (step : Step) (r : Reply) → IsCall step → world_after setup h w step (says (machine_of setup h w) r) ≡ w
unfolding world_after machine_of
world_stays setup h w step r call =
    λ i. record {
      names = λ g. by_name g (h == g) refl i;
      claims = w.claims;
      endpoints = w.endpoints;
      gone = λ d. gone_stays setup w.gone step d call.owned i;
      orders = (ap (λ t. past_first t w.orders ++ []) call.no_order ∙ append-nil w.orders) i;
      news = (ap (λ t. past_first t w.news ++ []) call.no_news ∙ append-nil w.news) i;
      results = (ap (λ t. past_first t w.results ++ []) call.no_result ∙ append-nil w.results) i;
    }
  where
    by_name : (g : ℕ) (b : Bool) → (h == g) ≡ b → (if b then w.names h else w.names g) ≡ w.names g
    by_name g true is = ap w.names (eqb-true h g is)
    by_name g false is = refl

-- a call that the definitions refuse is refused, and the core stays as it is
pub refused_steps : (setup : Setup) (w : World) (c : Core) → Shows setup w c → (h : ℕ) (step : Step) (why : Refused) → IsCall step → owner_of setup w step ≡ Some h
    → effect setup h (machine_of setup h w) step ≡ says (machine_of setup h w) (reply.Refused why) → StepsTo setup w step (refuses c h why)
unfolding turn is_blocked
refused_steps setup w c s h step why call own is =
    (sym (ap (λ t. t.entry) turns), subst (λ u. Shows setup u c) (sym (ap (λ t. t.world) turns)) s)
  where
    turns : turn setup w step ≡ record { entry = record { owner = Some h; reply = reply.Refused why }; world = w }
    turns =
        ap (λ o. turn_by setup o w step) own
        ∙ (turn_free setup h w step (ap (λ x. is_blocked setup h w x.change) is)
        ∙ (ap (λ (x : Effect). record { entry = record { owner = Some h; reply = x.reply }; world = world_after setup h w step x }) is
        ∙ ap (λ (u : World). record { entry = record { owner = Some h; reply = reply.Refused why }; world = u }) (world_stays setup h w step (reply.Refused why) call)))

-- none of the tests holds
abbrev pub NoneHolds : List (Bool × Refused) → Type 0
NoneHolds [] = Unit {0}
NoneHolds (x ∷ xs) = (x.0 ≡ false) × NoneHolds xs

-- where the tests are the definitions', the call is refused for the first that holds, or none holds
pub unless_steps : (setup : Setup) (w : World) (c : Core) → Shows setup w c → (h : ℕ) (step : Step) (rest : Effect) (done : Stepped) → IsCall step → owner_of setup w step ≡ Some h → (tests : List (Bool × Refused))
    → effect setup h (machine_of setup h w) step ≡ machine.unless (machine_of setup h w) tests rest
    → (effect setup h (machine_of setup h w) step ≡ rest → NoneHolds tests → StepsTo setup w step done) → StepsTo setup w step (unless c h tests done)
unfolding refused_if
unless_steps setup w c s h step rest done call own [] is later = later is tt
unless_steps setup w c s h step rest done call own (x ∷ xs) is later = by_test x.0 refl is
    (λ fails q. unless_steps setup w c s h step rest done call own xs q (λ p none. later p (fails, none)))
  where
    by_test : (b : Bool) → x.0 ≡ b → effect setup h (machine_of setup h w) step ≡ refused_if (machine_of setup h w) b x.1 (machine.unless (machine_of setup h w) xs rest)
        → (x.0 ≡ false → effect setup h (machine_of setup h w) step ≡ machine.unless (machine_of setup h w) xs rest → StepsTo setup w step (unless c h xs done)) → StepsTo setup w step (if b then refuses c h x.1 else unless c h xs done)
    by_test true holds q rest = refused_steps setup w c s h step x.1 call own q
    by_test false fails q rest = rest fails q

-- a deed that sets no endpoint is one without work
is_rest : (setup : Setup) (h : ℕ) (m : Machine) (step : Step) (done : Effect) → IsDone setup h m step done → SetsNone done.change → IsRest setup h m step done
unfolding at_endpoint
is_rest setup h m step done (only_rests r) none = r
is_rest setup h m step done (works ep e here work) none = absurd none

-- a call that is done without work at an endpoint, where nobody is in the way
pub does_steps : (setup : Setup) (w : World) (c : Core) → IsFine setup → Shows setup w c → (h : ℕ) (step : Step) (handle : Handle) (change : Change) → IsCall step → owner_of setup w step ≡ Some h
    → effect setup h (machine_of setup h w) step ≡ does handle change → SetsNone change → is_blocked setup h w change ≡ false → StepsTo setup w step (rests setup c h handle step change)
does_steps setup w c fine s h step handle change call own is none clear =
    let m : Machine = machine_of setup h w in
    rest_steps setup w c fine s h step (does handle change) call.owned call.no_order call.no_news own is
    (is_rest setup h m step (does handle change) (subst (λ d. IsDone setup h m step d) is (is_done setup h m step (all_sound setup w c fine s h).well)) none)
    clear

-- the same, with the world's test on others as the last: where another name is in the way the call is refused for that
pub unless_blocked : (setup : Setup) (w : World) (c : Core) → IsFine setup → Shows setup w c → (h : ℕ) (step : Step) (handle : Handle) (change : Change) (others : Bool) → IsCall step → owner_of setup w step ≡ Some h
    → effect setup h (machine_of setup h w) step ≡ does handle change → SetsNone change → is_blocked setup h w change ≡ others → StepsTo setup w step (unless c h ((others, HeldElsewhere) ∷ []) (rests setup c h handle step change))
unless_blocked setup w c fine s h step handle change true call own is none q = blocked_steps setup w c s h step own (ap (λ x. is_blocked setup h w x.change) is ∙ q)
unless_blocked setup w c fine s h step handle change false call own is none q = does_steps setup w c fine s h step handle change call own is none q
