-- A run in which nothing is wanted stays so over longer scripts.
use Rattle.std.proofs.Common.{◌≡◌, ℕ, Bool, true, false, not, ◌&&◌, List, [], ◌∷◌, ◌++◌, refl, sym, ap, subst, ◌∙◌}
use Rattle.std.specs.Prelude.{is_some}
use Rattle.std.proofs.Math.Bool.{and-false}
use Rattle.usb_model.specs.declared.response.Response.{Response}
use Rattle.usb_model.specs.declared.step.Step.{Step}
use Rattle.usb_model.specs.declared.step.Step.TheVariants.{Open, Close, Claim, Release, Reset, ClearHalt, Submit, Cancel, Expire, Serve, Command, Deliver, Take, Answer, Unplug}
use Rattle.usb_model.specs.declared.endpoint.Endpoint.{Endpoint}
use Rattle.usb_model.specs.Setup.{Setup}
use Rattle.usb_model.specs.Endpoint.{first_waiting}
use Rattle.usb_model.specs.World.{World, new_world, holder, turn}
use Rattle.refine_world.specs.Living.{More, GoesOn, StaysWithin, is_empty, is_running, is_wanting, with_more, world_with}
use Rattle.refine_world.specs.Wanting.{wants}
use Rattle.refine_world.specs.NoWants.{WantsNone, KeepsWantingNone}
use Rattle.refine_world.proofs.Worlds.{holder_same, new_same, turn_same}
use Rattle.refine_world.proofs.Runs.{goes_on_unseen}
use Rattle.refine_world.proofs.Wanting.{within_by}

none_left : (a b c d h : Bool) → (a && (b && (c && (d && (h && false))))) ≡ false
none_left a b c d h =
    ap (λ t. a && (b && (c && (d && t)))) (and-false h) ∙ (ap (λ t. a && (b && (c && t))) (and-false d) ∙ (ap (λ t. a && (b && t)) (and-false c) ∙ (ap (λ t. a && t) (and-false b) ∙ and-false a)))

fewer : (a b c d h : Bool) (left more : List Response) → (a && (b && (c && (d && (h && is_empty left))))) ≡ false → (a && (b && (c && (d && (h && is_empty (left ++ more)))))) ≡ false
fewer a b c d h [] [] e = e
fewer a b c d h [] (y ∷ more) e = none_left a b c d h
fewer a b c d h (x ∷ left) more e = e

wants_fewer : (setup longer : Setup) (more : More) (w : World) (step : Step) → GoesOn setup longer more → wants setup w step ≡ false → wants longer (world_with more w) step ≡ false
wants_fewer setup longer more w (Serve d ep) g e =
    ap (λ o. is_some o && (not (w.gone d) && is_wanting (with_more (more d ep) (w.endpoints d ep)))) (holder_same setup longer more w.claims d ep g)
    ∙ fewer (is_some (holder setup w.claims d ep)) (not (w.gone d)) (is_running (w.endpoints d ep).state) (is_some (first_waiting (w.endpoints d ep).line)) (not (w.endpoints d ep).device_halted) (w.endpoints d ep).script_left (more d ep) e
wants_fewer setup longer more w (Open h dev) g e = refl
wants_fewer setup longer more w (Close h) g e = refl
wants_fewer setup longer more w (Claim h i) g e = refl
wants_fewer setup longer more w (Release h i) g e = refl
wants_fewer setup longer more w (Reset h) g e = refl
wants_fewer setup longer more w (ClearHalt h ep) g e = refl
wants_fewer setup longer more w (Submit h request) g e = refl
wants_fewer setup longer more w (Cancel h n) g e = refl
wants_fewer setup longer more w (Expire h n) g e = refl
wants_fewer setup longer more w Command g e = refl
wants_fewer setup longer more w Deliver g e = refl
wants_fewer setup longer more w Take g e = refl
wants_fewer setup longer more w (Answer h n v) g e = refl
wants_fewer setup longer more w (Unplug dev) g e = refl

stays_none : (setup longer : Setup) (more : More) (w : World) (steps : List Step) → GoesOn setup longer more → WantsNone setup w steps → WantsNone longer (world_with more w) steps
stays_none setup longer more w [] g n = tt
stays_none setup longer more w (step ∷ steps) g n = (
  wants_fewer setup longer more w step g n.0,
  subst (λ t. WantsNone longer t.world steps) (sym (turn_same setup longer more w step g (within_by setup more w step n.0))) (stays_none setup longer more (turn setup w step).world steps g n.1),
)

pub stays_within : (setup : Setup) (more : More) (w : World) (steps : List Step) → WantsNone setup w steps → StaysWithin setup more w steps
stays_within setup more w [] n = tt
stays_within setup more w (step ∷ steps) n = (within_by setup more w step n.0, stays_within setup more (turn setup w step).world steps n.1)

pub keeps_wanting_none : KeepsWantingNone
keeps_wanting_none setup longer more steps g n = (
  subst (λ w. WantsNone longer w steps) (sym (new_same setup longer more g)) (stays_none setup longer more (new_world setup) steps g n),
  (goes_on_unseen setup longer more steps g (stays_within setup more (new_world setup) steps n)).same_journal,
)
