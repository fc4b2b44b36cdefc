-- A step of the world is the same where more is left.
use Rattle.std.proofs.Common.{◌≡◌, ℕ, ◌==◌, Bool, true, false, not, ◌&&◌, ◌||◌, List, [], ◌∷◌, ◌++◌, Option, Some, None, refl, sym, ap, ap₂, ◌∙◌}
use Rattle.std.specs.Prelude.{if◌then◌else◌, is_some}
use Rattle.std.specs.Option.{option_map, option_and_then, option_map_or}
use Rattle.std.specs.List.{list_any}
use Rattle.std.proofs.Math.Bool.{and-false}
use Rattle.std.proofs.lemmas.Bool.{eqb-true, and_parts}
use Rattle.usb_model.specs.declared.refused.Refused.TheVariants.{HeldElsewhere, NotFound, NoDevice}
use Rattle.usb_model.specs.declared.reply.Reply.{Reply}
use Rattle.usb_model.specs.declared.reply.Reply.TheVariants as reply
use Rattle.usb_model.specs.declared.response.Response.{Response}
use Rattle.usb_model.specs.declared.endpoint.Endpoint.{Endpoint}
use Rattle.usb_model.specs.declared.step.Step.{Step}
use Rattle.usb_model.specs.declared.step.Step.TheVariants.{Open, Close, Claim, Release, Reset, ClearHalt, Submit, Cancel, Expire, Serve, Command, Deliver, Take, Answer, Unplug}
use Rattle.usb_model.specs.declared.effect.Effect.{Effect}
use Rattle.usb_model.specs.declared.effect.Change.{Change}
use Rattle.usb_model.specs.declared.effect.Change.TheVariants.{Keeps, Frees, Gains, Drops, Renews, Sets}
use Rattle.usb_model.specs.Setup.{Setup, is_device, interface_of, interfaces_of, is_within, script_of}
use Rattle.usb_model.specs.Endpoint.{fresh}
use Rattle.usb_model.specs.Machine.{Machine}
use Rattle.usb_model.specs.Machine.Turns.{effect, gone_after, unplug_reply, takes_order, takes_news, takes_result}
use Rattle.usb_model.specs.World.Shared.{past_first, tagged}
use Rattle.usb_model.specs.World.{World, Claims, Turn, new_world, holder, is_its, is_others, own_endpoint, machine_of, owner_of, claims_after, all_ends_after, world_after, is_blocked, turn_of, turn_of_nobody, turn_by, turn}
use Rattle.refine_world.specs.Living.{More, GoesOn, with_more, world_with, is_wanting, is_empty, meets_end}
use Rattle.refine_world.proofs.Effects.{machine_with, change_with, effect_with, info_same, effect_same, machine_meets}

-- a turn, but that more is left in its world
abbrev pub turn_with : More → Turn → Turn
turn_with more t = record t { world = world_with more t.world }

interface_same : (setup longer : Setup) (more : More) (d ep : ℕ) → GoesOn setup longer more → interface_of longer d ep ≡ interface_of setup d ep
interface_same setup longer more d ep g = ap (option_map (λ x. x.interface)) (info_same setup longer more d ep g)

pub holder_same : (setup longer : Setup) (more : More) (claims : Claims) (d ep : ℕ) → GoesOn setup longer more → holder longer claims d ep ≡ holder setup claims d ep
holder_same setup longer more claims d ep g = ap (option_and_then (λ i. claims d i)) (interface_same setup longer more d ep g)

within_same : (setup longer : Setup) (more : More) (dev i d ep : ℕ) → GoesOn setup longer more → is_within longer dev i d ep ≡ is_within setup dev i d ep
within_same setup longer more dev i d ep g = ap (λ o. (dev == d) && option_map_or (λ k. k == i) o false) (interface_same setup longer more d ep g)

-- an endpoint made new has the whole script before it, and so more is left
fresh_same : (setup longer : Setup) (more : More) (d ep : ℕ) → GoesOn setup longer more → fresh longer d ep ≡ with_more (more d ep) (fresh setup d ep)
unfolding fresh
fresh_same setup longer more d ep g = λ i. record (fresh setup d ep) { script_left = g.scripts d ep i }

pub new_same : (setup longer : Setup) (more : More) → GoesOn setup longer more → new_world longer ≡ world_with more (new_world setup)
unfolding new_world
new_same setup longer more g = λ i. record (new_world setup) { endpoints = λ d ep. fresh_same setup longer more d ep g i }

-- what the world is to a name
seen : (b : Bool) (more : List Response) (e : Endpoint) → (if b then Some (with_more more e) else None) ≡ option_map (with_more more) (if b then Some e else None)
seen true more e = refl
seen false more e = refl

own_same : (setup longer : Setup) (more : More) (h : ℕ) (w : World) (d ep : ℕ) → GoesOn setup longer more
    → own_endpoint longer h (world_with more w) d ep ≡ option_map (with_more (more d ep)) (own_endpoint setup h w d ep)
own_same setup longer more h w d ep g =
    ap (λ o. if◌then◌else◌ {A = Option Endpoint} (is_its h o) (Some (with_more (more d ep) (w.endpoints d ep))) None) (holder_same setup longer more w.claims d ep g)
    ∙ seen (is_its h (holder setup w.claims d ep)) (more d ep) (w.endpoints d ep)

machine_same : (setup longer : Setup) (more : More) (h : ℕ) (w : World) → GoesOn setup longer more → machine_of longer h (world_with more w) ≡ machine_with more (machine_of setup h w)
unfolding machine_of
machine_same setup longer more h w g = λ i. record (machine_of setup h w) { endpoints = λ d ep. own_same setup longer more h w d ep g i }

-- whose a step is
pub owner_same : (setup longer : Setup) (more : More) (w : World) (step : Step) → GoesOn setup longer more → owner_of longer (world_with more w) step ≡ owner_of setup w step
owner_same setup longer more w (Open h dev) g = refl
owner_same setup longer more w (Close h) g = refl
owner_same setup longer more w (Claim h i) g = refl
owner_same setup longer more w (Release h i) g = refl
owner_same setup longer more w (Reset h) g = refl
owner_same setup longer more w (ClearHalt h ep) g = refl
owner_same setup longer more w (Submit h request) g = refl
owner_same setup longer more w (Cancel h n) g = refl
owner_same setup longer more w (Expire h n) g = refl
owner_same setup longer more w (Serve dev ep) g = holder_same setup longer more w.claims dev ep g
owner_same setup longer more w Command g = refl
owner_same setup longer more w Deliver g = refl
owner_same setup longer more w Take g = refl
owner_same setup longer more w (Answer h n v) g = refl
owner_same setup longer more w (Unplug dev) g = refl

-- the endpoints after a change
renewed : (b : Bool) (more : List Response) (x y z : Endpoint) → x ≡ with_more more y → (if b then x else with_more more z) ≡ with_more more (if b then y else z)
renewed true more x y z e = e
renewed false more x y z e = refl

set : (more : More) (dev ep d e : ℕ) (own : Bool) (x y : Endpoint)
    → (if ((dev == d) && (ep == e)) && own then with_more (more dev ep) x else with_more (more d e) y) ≡ with_more (more d e) (if ((dev == d) && (ep == e)) && own then x else y)
set more dev ep d e own x y = by_place ((dev == d) && (ep == e)) own refl
  where
    by_place : (b o : Bool) → ((dev == d) && (ep == e)) ≡ b → (if b && o then with_more (more dev ep) x else with_more (more d e) y) ≡ with_more (more d e) (if b && o then x else y)
    by_place true true p = let q = and_parts (dev == d) (ep == e) p in ap₂ (λ a b. with_more (more a b) x) (eqb-true dev d q.0) (eqb-true ep e q.1)
    by_place true false p = refl
    by_place false o p = refl

ends_same : (setup longer : Setup) (more : More) (h : ℕ) (w : World) (change : Change) (d ep : ℕ) → GoesOn setup longer more
    → all_ends_after longer h w.claims (world_with more w).endpoints (change_with more change) d ep ≡ with_more (more d ep) (all_ends_after setup h w.claims w.endpoints change d ep)
ends_same setup longer more h w Keeps d ep g = refl
ends_same setup longer more h w Frees d ep g = refl
ends_same setup longer more h w (Gains dev k) d ep g =
    ap (λ b. if◌then◌else◌ {A = Endpoint} b (fresh longer d ep) (with_more (more d ep) (w.endpoints d ep))) (within_same setup longer more dev k d ep g)
    ∙ renewed (is_within setup dev k d ep) (more d ep) (fresh longer d ep) (fresh setup d ep) (w.endpoints d ep) (fresh_same setup longer more d ep g)
ends_same setup longer more h w (Drops dev k) d ep g = refl
ends_same setup longer more h w (Renews dev) d ep g =
    ap (λ o. if◌then◌else◌ {A = Endpoint} (is_its h o) (fresh longer d ep) (with_more (more d ep) (w.endpoints d ep))) (holder_same setup longer more w.claims d ep g)
    ∙ renewed (is_its h (holder setup w.claims d ep)) (more d ep) (fresh longer d ep) (fresh setup d ep) (w.endpoints d ep) (fresh_same setup longer more d ep g)
ends_same setup longer more h w (Sets dev e x) d ep g =
    ap (λ o. if◌then◌else◌ {A = Endpoint} (((dev == d) && (e == ep)) && is_its h o) (with_more (more dev e) x) (with_more (more d ep) (w.endpoints d ep))) (holder_same setup longer more w.claims d ep g)
    ∙ set more dev e d ep (is_its h (holder setup w.claims d ep)) x (w.endpoints d ep)

claims_same : (more : More) (h : ℕ) (claims : Claims) (change : Change) (d i : ℕ) → claims_after h claims (change_with more change) d i ≡ claims_after h claims change d i
claims_same more h claims Keeps d i = refl
claims_same more h claims Frees d i = refl
claims_same more h claims (Gains dev k) d i = refl
claims_same more h claims (Drops dev k) d i = refl
claims_same more h claims (Renews dev) d i = refl
claims_same more h claims (Sets dev ep x) d i = refl

gone_same : (setup longer : Setup) (more : More) (gone : ℕ → Bool) (step : Step) (d : ℕ) → GoesOn setup longer more → gone_after longer gone step d ≡ gone_after setup gone step d
gone_same setup longer more gone (Unplug dev) d g = ap (λ b. gone d || ((dev == d) && b)) (g.devices dev)
gone_same setup longer more gone (Open h dev) d g = refl
gone_same setup longer more gone (Close h) d g = refl
gone_same setup longer more gone (Claim h i) d g = refl
gone_same setup longer more gone (Release h i) d g = refl
gone_same setup longer more gone (Reset h) d g = refl
gone_same setup longer more gone (ClearHalt h ep) d g = refl
gone_same setup longer more gone (Submit h request) d g = refl
gone_same setup longer more gone (Cancel h n) d g = refl
gone_same setup longer more gone (Expire h n) d g = refl
gone_same setup longer more gone (Serve dev ep) d g = refl
gone_same setup longer more gone Command d g = refl
gone_same setup longer more gone Deliver d g = refl
gone_same setup longer more gone Take d g = refl
gone_same setup longer more gone (Answer h n v) d g = refl

after_same : (setup longer : Setup) (more : More) (h : ℕ) (w : World) (step : Step) (done : Effect) → GoesOn setup longer more
    → world_after longer h (world_with more w) step (effect_with more done) ≡ world_with more (world_after setup h w step done)
unfolding world_after
after_same setup longer more h w step done g = λ i. record {
  names = λ k. if h == k then done.handle else w.names k;
  claims = λ d j. claims_same more h w.claims done.change d j i;
  endpoints = λ d ep. ends_same setup longer more h w done.change d ep g i;
  gone = λ d. gone_same setup longer more w.gone step d g i;
  orders = past_first (takes_order step) w.orders ++ tagged h done.orders;
  news = past_first (takes_news step) w.news ++ tagged h done.news;
  results = past_first (takes_result step) w.results ++ tagged h done.results;
}

blocked_same : (setup longer : Setup) (more : More) (h : ℕ) (w : World) (change : Change) → GoesOn setup longer more
    → is_blocked longer h (world_with more w) (change_with more change) ≡ is_blocked setup h w change
unfolding is_blocked
blocked_same setup longer more h w Keeps g = refl
blocked_same setup longer more h w Frees g = refl
blocked_same setup longer more h w (Gains dev k) g = refl
blocked_same setup longer more h w (Drops dev k) g = refl
blocked_same setup longer more h w (Renews dev) g = ap (list_any (λ i. is_others h (w.claims dev i))) (g.interfaces dev)
blocked_same setup longer more h w (Sets dev ep x) g = refl

-- the turn of a name
picked : (more : More) (b : Bool) (x y : Turn) → (if b then turn_with more x else turn_with more y) ≡ turn_with more (if b then x else y)
picked more true x y = refl
picked more false x y = refl

turn_of_same : (setup longer : Setup) (more : More) (h : ℕ) (w : World) (step : Step) → GoesOn setup longer more → machine_meets more (machine_of setup h w) step ≡ false
    → turn_of longer h (world_with more w) step ≡ turn_with more (turn_of setup h w step)
unfolding turn_of
turn_of_same setup longer more h w step g free =
    ap (made longer (world_with more w)) same
    ∙ (ap₂ (λ b v. chosen b (world_with more w) done.reply v) (blocked_same setup longer more h w done.change g) (after_same setup longer more h w step done g)
    ∙ picked more (is_blocked setup h w done.change) (blocked w) (free_turn done.reply (world_after setup h w step done)))
  where
    done : Effect
    done = effect setup h (machine_of setup h w) step

    blocked : World → Turn
    blocked v = record { entry = record { owner = Some h; reply = reply.Refused HeldElsewhere }; world = v }

    free_turn : Reply → World → Turn
    free_turn r v = record { entry = record { owner = Some h; reply = r }; world = v }

    chosen : Bool → World → Reply → World → Turn
    chosen b v r u = if b then blocked v else free_turn r u

    made : Setup → World → Effect → Turn
    made s v x = chosen (is_blocked s h v x.change) v x.reply (world_after s h v step x)

    same : effect longer h (machine_of longer h (world_with more w)) step ≡ effect_with more done
    same = ap (λ m. effect longer h m step) (machine_same setup longer more h w g) ∙ effect_same setup longer more h (machine_of setup h w) step g free

-- the turn of nobody
nobody_same : (setup longer : Setup) (more : More) (w : World) (step : Step) → GoesOn setup longer more → turn_of_nobody longer (world_with more w) step ≡ turn_with more (turn_of_nobody setup w step)
unfolding turn_of_nobody
nobody_same setup longer more w (Unplug dev) g = λ i. record {
  entry = record { owner = None; reply = if not (g.devices dev i) then reply.Refused NotFound else if w.gone dev then reply.Refused NoDevice else reply.Done };
  world = record (world_with more w) { gone = λ d. gone_same setup longer more w.gone (Unplug dev) d g i };
}
nobody_same setup longer more w (Open h dev) g = refl
nobody_same setup longer more w (Close h) g = refl
nobody_same setup longer more w (Claim h i) g = refl
nobody_same setup longer more w (Release h i) g = refl
nobody_same setup longer more w (Reset h) g = refl
nobody_same setup longer more w (ClearHalt h ep) g = refl
nobody_same setup longer more w (Submit h request) g = refl
nobody_same setup longer more w (Cancel h n) g = refl
nobody_same setup longer more w (Expire h n) g = refl
nobody_same setup longer more w (Serve dev ep) g = refl
nobody_same setup longer more w Command g = refl
nobody_same setup longer more w Deliver g = refl
nobody_same setup longer more w Take g = refl
nobody_same setup longer more w (Answer h n v) g = refl

-- a step that doesn't meet the end of a script that goes on: the same entry, and the same world but that more is left
its_own : (h g : ℕ) (more : List Response) (gone : Bool) (e : Endpoint) → (not (is_empty more) && (not gone && is_wanting e)) ≡ false
    → (b : Bool) → (not (is_empty more) && (not gone && option_map_or is_wanting (if◌then◌else◌ {A = Option Endpoint} b (Some e) None) false)) ≡ false
its_own h g more gone e free true = free
its_own h g more gone e free false = ap (λ b. not (is_empty more) && b) (and-false (not gone)) ∙ and-false (not (is_empty more))

meets_same : (setup : Setup) (more : More) (w : World) (h : ℕ) (step : Step) → owner_of setup w step ≡ Some h → meets_end setup more w step ≡ false → machine_meets more (machine_of setup h w) step ≡ false
unfolding machine_of
meets_same setup more w h (Serve d ep) own free =
    its_own h h (more d ep) (w.gone d) (w.endpoints d ep) (sym (ap (λ o. not (is_empty (more d ep)) && (is_some o && (not (w.gone d) && is_wanting (w.endpoints d ep)))) own) ∙ free) (is_its h (holder setup w.claims d ep))
meets_same setup more w h (Open g dev) own free = refl
meets_same setup more w h (Close g) own free = refl
meets_same setup more w h (Claim g i) own free = refl
meets_same setup more w h (Release g i) own free = refl
meets_same setup more w h (Reset g) own free = refl
meets_same setup more w h (ClearHalt g ep) own free = refl
meets_same setup more w h (Submit g request) own free = refl
meets_same setup more w h (Cancel g n) own free = refl
meets_same setup more w h (Expire g n) own free = refl
meets_same setup more w h Command own free = refl
meets_same setup more w h Deliver own free = refl
meets_same setup more w h Take own free = refl
meets_same setup more w h (Answer g n v) own free = refl
meets_same setup more w h (Unplug dev) own free = refl

pub turn_same : (setup longer : Setup) (more : More) (w : World) (step : Step) → GoesOn setup longer more → meets_end setup more w step ≡ false
    → turn longer (world_with more w) step ≡ turn_with more (turn setup w step)
unfolding turn
turn_same setup longer more w step g free =
    ap (λ o. turn_by longer o (world_with more w) step) (owner_same setup longer more w step g) ∙ by_owner (owner_of setup w step) refl
  where
    by_owner : (o : Option ℕ) → owner_of setup w step ≡ o → turn_by longer o (world_with more w) step ≡ turn_with more (turn_by setup o w step)
    by_owner None e = nobody_same setup longer more w step g
    by_owner (Some h) e = turn_of_same setup longer more h w step g (meets_same setup more w h step e free)
