-- A step is refused because of another handle just where another holds what it wants.
use Rattle.std.proofs.Common.{◌≡◌, ℕ, ◌==◌, Bool, true, false, not, [], Option, Some, None, refl, ap, sym, ◌∙◌, subst}
use Rattle.std.specs.Prelude.{if◌then◌else◌, is_some, unwrap_or, slice_get}
use Rattle.std.specs.List.{list_any}
use Rattle.std.specs.Option.{option_map_or}
use Rattle.std.proofs.lemmas.Bool.{false≢true, eqb-true, eqb-false, ne_eqb, not-true, not-false, not_from_false, both_ways}
use Rattle.std.proofs.lemmas.List.Folds.{Any-from_list_any, list_any-from_Any}
use Rattle.usb_model.specs.declared.refused.Refused.{Refused}
use Rattle.usb_model.specs.declared.refused.Refused.TheVariants.{HeldElsewhere}
use Rattle.usb_model.specs.declared.reply.Reply.TheVariants as reply
use Rattle.usb_model.specs.declared.step.Step.{Step}
use Rattle.usb_model.specs.declared.step.Step.TheVariants.{Claim, Reset, Unplug}
use Rattle.usb_model.specs.declared.setup.DeviceSetup.{DeviceSetup}
use Rattle.usb_model.specs.declared.effect.Effect.{Effect}
use Rattle.usb_model.specs.Setup.{Setup, interfaces_of, has_interface}
use Rattle.usb_model.specs.declared.effect.Change.TheVariants.{Keeps, Gains, Renews}
use Rattle.usb_model.specs.Machine.{Machine, refused_if}
use Rattle.usb_model.specs.Machine.Calls.{claim_effect, reset_effect}
use Rattle.usb_model.specs.Machine.Turns.{effect}
use Rattle.usb_model.specs.World.{World, is_its, is_others, machine_of, owner_of, is_blocked, turn_of_nobody, turn_by, turn}
use Rattle.usb_model.specs.World.Journal.{is_held_elsewhere}
use Rattle.proof_model.proofs.Lists.Pieces.{same_name}
use Rattle.proof_model.proofs.Handles.Fair.{effect_is_fair}
use Rattle.proof_model.proofs.Handles.Isolation.{effect_to, blocked_turn, turn_blocked, turn_free}
use Rattle.proof_laws.specs.Holders.{HasInterface, AnotherHolds, IsHeldByAnother}
use Rattle.proof_laws.specs.Isolation.{TellsOfAnother, ChangesNothingForAnother}
use Rattle.proof_laws.proofs.Endpoints.{all_quiet, quiet_all}
use Rattle.proof_laws.proofs.UnblockedSteps.{gentle_else}

-- where an interface of the device passes a test, the device has one that does
some_interface : (setup : Setup) (dev : ℕ) (test : ℕ → Bool) → list_any test (interfaces_of setup dev) ≡ true → (i : ℕ) × HasInterface setup dev i × (test i ≡ true)
some_interface setup dev test e = by_device (slice_get setup dev) refl e
  where
    by_device : (o : Option DeviceSetup) → slice_get setup dev ≡ o → list_any test (option_map_or (λ d. d.config.interfaces) o []) ≡ true → (i : ℕ) × HasInterface setup dev i × (test i ≡ true)
    by_device None is e = absurd cc
    by_device (Some d) is e =
        let a = Any-from_list_any test d.config.interfaces e in
        (a.1, record { device = d; there = is; listed = (a.0, a.2, a.3) }, a.4)

-- and the other way round
interface_passes : (setup : Setup) (dev i : ℕ) (test : ℕ → Bool) → HasInterface setup dev i → test i ≡ true → list_any test (interfaces_of setup dev) ≡ true
interface_passes setup dev i test x e =
    ap (λ o. list_any test (option_map_or (λ d. d.config.interfaces) o [])) x.there
    ∙ list_any-from_Any test x.device.config.interfaces (x.listed.0, i, x.listed.1, x.listed.2, e)

-- the device has an interface that is found
found_interface : (setup : Setup) (dev i : ℕ) → has_interface setup dev i ≡ true → HasInterface setup dev i
found_interface setup dev i e =
    let x = some_interface setup dev (λ k. k == i) e in
    subst (HasInterface setup dev) (eqb-true x.0 i x.2) x.1

-- what is another's is held by another
another_holds : (w : World) (h dev i : ℕ) → is_others h (w.claims dev i) ≡ true → AnotherHolds w h dev i
another_holds w h dev i e = by_claim (w.claims dev i) refl e
  where
    by_claim : (o : Option ℕ) → w.claims dev i ≡ o → is_others h o ≡ true → AnotherHolds w h dev i
    by_claim None is e = absurd cc
    by_claim (Some g) is e = record { g = g; holds = is; another = eqb-false g h (not-true (g == h) e) }

-- and the other way round
held_by_another : (w : World) (h dev i : ℕ) → AnotherHolds w h dev i → is_others h (w.claims dev i) ≡ true
held_by_another w h dev i x = ap (is_others h) x.holds ∙ not_from_false (x.g == h) (ne_eqb x.g h x.another)

-- so it isn't the name's own
not_own : (w : World) (h dev i : ℕ) → AnotherHolds w h dev i → is_its h (w.claims dev i) ≡ false
not_own w h dev i x = ap (is_its h) x.holds ∙ ne_eqb x.g h x.another

-- a step that another is in the way of isn't refused for anything else
unrefused : (setup : Setup) (h : ℕ) (w : World) (m : Machine) (b : Bool) (why : Refused) (rest : Effect) → is_blocked setup h w (refused_if m b why rest).change ≡ true
    → (b ≡ false) × (is_blocked setup h w rest.change ≡ true)
unfolding refused_if is_blocked
unrefused setup h w m true why rest e = absurd cc
unrefused setup h w m false why rest e = (refl, e)

-- a device that is open
opened_at : (o : Option ℕ) → not (is_some o) ≡ false → o ≡ Some (unwrap_or o 0)
opened_at None e = absurd cc
opened_at (Some d) e = refl

-- an interface that another is in the way of is another's
gained : (setup : Setup) (h : ℕ) (w : World) (b : Bool) (dev i : ℕ) → is_blocked setup h w (if b then Keeps else Gains dev i) ≡ true → is_others h (w.claims dev i) ≡ true
unfolding is_blocked
gained setup h w true dev i e = absurd cc
gained setup h w false dev i e = e

-- a device that another is in the way of has an interface that is another's
renewed : (setup : Setup) (h : ℕ) (w : World) (dev : ℕ) → is_blocked setup h w (Renews dev) ≡ list_any (λ i. is_others h (w.claims dev i)) (interfaces_of setup dev)
unfolding is_blocked
renewed setup h w dev = refl

-- a claim that another is in the way of
claim_held : (setup : Setup) (h : ℕ) (w : World) (i : ℕ) → is_blocked setup h w (claim_effect setup (machine_of setup h w) i).change ≡ true → IsHeldByAnother setup w (Claim h i)
unfolding claim_effect machine_of
claim_held setup h w i blocked =
    let dev : ℕ = unwrap_or (w.names h).device 0 in
    let a = unrefused setup h w (machine_of setup h w) _ _ _ blocked in
    let b = unrefused setup h w (machine_of setup h w) _ _ _ a.1 in
    let c = unrefused setup h w (machine_of setup h w) _ _ _ b.1 in (
      dev,
      record { opened = opened_at (w.names h).device a.0; there = b.0 },
      found_interface setup dev i (not-false _ c.0),
      another_holds w h dev i (gained setup h w (is_its h (w.claims dev i)) dev i c.1),
    )

-- and the other way round
held_claim : (setup : Setup) (h : ℕ) (w : World) (i : ℕ) → IsHeldByAnother setup w (Claim h i) → is_blocked setup h w (claim_effect setup (machine_of setup h w) i).change ≡ true
unfolding claim_effect machine_of refused_if is_blocked
held_claim setup h w i (dev, open_at, has, other) =
    rw (open_at.opened, open_at.there, interface_passes setup dev i (λ k. k == i) has (same_name i), not_own w h dev i other, held_by_another w h dev i other) refl

-- a reset that another is in the way of
reset_held : (setup : Setup) (h : ℕ) (w : World) → is_blocked setup h w (reset_effect setup (machine_of setup h w)).change ≡ true → IsHeldByAnother setup w (Reset h)
unfolding reset_effect machine_of
reset_held setup h w blocked =
    let dev : ℕ = unwrap_or (w.names h).device 0 in
    let a = unrefused setup h w (machine_of setup h w) _ _ _ blocked in
    let b = unrefused setup h w (machine_of setup h w) _ _ _ a.1 in
    let c = unrefused setup h w (machine_of setup h w) _ _ _ b.1 in
    let opened : (w.names h).device ≡ Some dev = opened_at (w.names h).device a.0 in
    let some = some_interface setup dev (λ i. is_others h (w.claims dev i)) (sym (renewed setup h w dev) ∙ c.1) in (
      dev,
      record { opened = opened; there = b.0 },
      all_quiet setup w h dev opened (not-false _ c.0),
      (some.0, some.1, another_holds w h dev some.0 some.2),
    )

-- and the other way round
held_reset : (setup : Setup) (h : ℕ) (w : World) → IsHeldByAnother setup w (Reset h) → is_blocked setup h w (reset_effect setup (machine_of setup h w)).change ≡ true
unfolding reset_effect machine_of refused_if is_blocked
held_reset setup h w (dev, open_at, quiet, some) =
    rw (quiet_all setup w h dev open_at.opened quiet, open_at.opened, open_at.there)
    (interface_passes setup dev some.0 (λ i. is_others h (w.claims dev i)) some.1 (held_by_another w h dev some.0 some.2))

-- another is in the way of a step of the name
record IsInTheWay (setup : Setup) (w : World) (step : Step) : Type 0 where
  h : ℕ
  own : owner_of setup w step ≡ Some h
  blocked : is_blocked setup h w (effect_to setup h w step).change ≡ true

-- then another holds what the step wants
way_held : (setup : Setup) (w : World) (step : Step) → IsInTheWay setup w step → IsHeldByAnother setup w step
unfolding effect
way_held setup w (Claim g i) x = let its : x.h ≡ g = cc x.own in subst (λ k. IsHeldByAnother setup w (Claim k i)) its (claim_held setup x.h w i x.blocked)
way_held setup w (Reset g) x = let its : x.h ≡ g = cc x.own in subst (λ k. IsHeldByAnother setup w (Reset k)) its (reset_held setup x.h w x.blocked)
way_held setup w step x = absurd (both_ways _ (gentle_else setup x.h w (machine_of setup x.h w) step refl) x.blocked)

-- and the other way round
held_way : (setup : Setup) (w : World) (step : Step) → IsHeldByAnother setup w step → IsInTheWay setup w step
unfolding effect
held_way setup w (Claim h i) x = record { h = h; own = refl; blocked = held_claim setup h w i x }
held_way setup w (Reset h) x = record { h = h; own = refl; blocked = held_reset setup h w x }
held_way setup w _ x = absurd x

-- the turn of such a step
way_turn : (setup : Setup) (w : World) (step : Step) (x : IsInTheWay setup w step) → turn setup w step ≡ blocked_turn x.h w
unfolding turn
way_turn setup w step x = ap (λ o. turn_by setup o w step) x.own ∙ turn_blocked setup x.h w step x.blocked

-- nobody's step is never refused because of another; an Unplug is answered as to any machine
nobody_fair : (setup : Setup) (w : World) (step : Step) → is_held_elsewhere (turn_of_nobody setup w step).entry.reply ≡ false
unfolding turn_of_nobody effect machine_of
nobody_fair setup w (Unplug dev) = effect_is_fair setup 0 (machine_of setup 0 w) (Unplug dev)
nobody_fair setup w _ = refl

-- what is refused because of another is a step that another is in the way of
told_way : (setup : Setup) (w : World) (step : Step) → (turn setup w step).entry.reply ≡ reply.Refused HeldElsewhere → IsInTheWay setup w step
unfolding turn
told_way setup w step told = by_owner (owner_of setup w step) refl told
  where
    by_test : (h : ℕ) → owner_of setup w step ≡ Some h → (b : Bool) → is_blocked setup h w (effect_to setup h w step).change ≡ b
        → (turn_by setup (Some h) w step).entry.reply ≡ reply.Refused HeldElsewhere → IsInTheWay setup w step
    by_test h own true is e = record { h = h; own = own; blocked = is }
    by_test h own false is e =
        absurd (false≢true (sym (effect_is_fair setup h (machine_of setup h w) step) ∙ ap is_held_elsewhere (sym (ap (λ t. t.entry.reply) (turn_free setup h w step is)) ∙ e)))

    by_owner : (o : Option ℕ) → owner_of setup w step ≡ o → (turn_by setup o w step).entry.reply ≡ reply.Refused HeldElsewhere → IsInTheWay setup w step
    by_owner None own e = absurd (false≢true (sym (nobody_fair setup w step) ∙ ap is_held_elsewhere e))
    by_owner (Some h) own e = by_test h own (is_blocked setup h w (effect_to setup h w step).change) refl e

-- so it tells of another just where another holds what the step wants
pub tells_of_another : (setup : Setup) (w : World) (step : Step) → TellsOfAnother setup w step
tells_of_another setup w step = (
  λ told. way_held setup w step (told_way setup w step told),
  λ held. ap (λ t. t.entry.reply) (way_turn setup w step (held_way setup w step held)),
)

-- and nothing changes
pub changes_nothing_for_another : (setup : Setup) (w : World) (step : Step) → ChangesNothingForAnother setup w step
changes_nothing_for_another setup w step told = ap (λ t. t.world) (way_turn setup w step (told_way setup w step told))
