-- A Serve at the end of a script changes nothing.
use Rattle.std.proofs.Common.{arith, ◌≡◌, ℕ, ◌==◌, ◌-◌, Bool, true, false, not, ◌&&◌, ◌||◌, List, [], ◌∷◌, ◌++◌, length, drop, Option, Some, None, refl, sym, ap, ap₂, subst, ◌∙◌, append-nil}
use Rattle.std.specs.Prelude.{if◌then◌else◌, is_some, ◌≤◌}
use Rattle.std.specs.Option.{unwrap_or, option_and_then}
use Rattle.std.proofs.Math.Bool.{and-false}
use Rattle.std.proofs.lemmas.Bool.{eqb-true, and_parts, false≢true}
use Rattle.std.proofs.lemmas.List.{drop_all}
use Rattle.std.proofs.lemmas.Option.{same_Some}
use Rattle.usb_model.specs.declared.response.Response.{Response}
use Rattle.usb_model.specs.declared.reply.Reply.{Reply}
use Rattle.usb_model.specs.declared.refused.Refused.TheVariants.{HeldElsewhere}
use Rattle.usb_model.specs.declared.reply.Reply.TheVariants as reply
use Rattle.usb_model.specs.declared.reply.Reply.TheVariants.{Nak, Moved}
use Rattle.usb_model.specs.declared.request.Body.{Body}
use Rattle.usb_model.specs.declared.request.Body.TheVariants.{In, Out}
use Rattle.usb_model.specs.declared.item.Item.{Item}
use Rattle.usb_model.specs.declared.endpoint.Endpoint.{Endpoint}
use Rattle.usb_model.specs.declared.endpoint.EndpointState.{EndpointState}
use Rattle.usb_model.specs.declared.endpoint.EndpointState.TheVariants.{Running, Stopped, Halted}
use Rattle.usb_model.specs.declared.endpoint_effect.EndpointEffect.{EndpointEffect}
use Rattle.usb_model.specs.declared.outcome.Outcome.{Outcome}
use Rattle.usb_model.specs.declared.step.Step.{Step}
use Rattle.usb_model.specs.declared.step.Step.TheVariants.{Open, Close, Claim, Release, Reset, ClearHalt, Submit, Cancel, Expire, Serve, Command, Deliver, Take, Answer, Unplug}
use Rattle.usb_model.specs.declared.effect.Change.TheVariants.{Sets}
use Rattle.usb_model.specs.Endpoint.Packets.{outcome, open_with, count_of}
use Rattle.usb_model.specs.Endpoint.{first_waiting, with_first, outcome_of, only_says, is_waiting}
use Rattle.usb_model.specs.Endpoint.Serve.{next_answer, is_no_packet, acknowledged, serve, serve_first, serve_by}
use Rattle.usb_model.specs.declared.effect.Effect.{Effect}
use Rattle.usb_model.specs.Machine.{at_endpoint}
use Rattle.usb_model.specs.Machine.Turns.{serve_effect, effect}
use Rattle.usb_model.specs.Setup.{Setup, packet_size_of}
use Rattle.usb_model.specs.World.{World, Turn, new_world, holder, is_its, machine_of, owner_of, world_after, is_blocked, turn_of, turn_by, turn, world_from}
use Rattle.proof_model.proofs.Lists.Pieces.{same_name}
use Rattle.refine_world.specs.Living.{More, GoesOn, StaysWithin, is_wanting, is_running, is_empty, meets_end, world_with}
use Rattle.refine_world.specs.Wanting.{wants, IsOpen, wanting_none, WantChangesNothing, ReachedLonger}
use Rattle.refine_world.proofs.Worlds.{new_same}
use Rattle.refine_world.proofs.Runs.{world_same}

-- the first waiting item in its own place
first_stays : (x : Item) (line : List Item) → first_waiting line ≡ Some x → with_first x line ≡ line
unfolding first_waiting with_first
first_stays x [] e = absurd cc
first_stays x (y ∷ ys) e = by_test (first_stays x ys) (is_waiting y) e
  where
    by_test : (first_waiting ys ≡ Some x → with_first x ys ≡ ys) → (b : Bool) → (if b then Some y else first_waiting ys) ≡ Some x → (if b then x ∷ ys else y ∷ with_first x ys) ≡ y ∷ ys
    by_test rest true p = ap (λ z. z ∷ ys) (sym (same_Some y x p))
    by_test rest false p = ap (λ l. y ∷ l) (rest p)

nothing_taken : (body : Body) (o : Outcome) → acknowledged body o o ≡ []
nothing_taken (In n) o = refl
nothing_taken (Out bytes) o = drop_all (length o.packets) o.packets (omega arith)

-- without an answer the transfer is what it was
want_by : (e : Endpoint) (x : Item) (before : Outcome) → first_waiting e.line ≡ Some x → next_answer e ≡ []
    → serve_by e x before before None ≡ only_says e (Nak x.n)
unfolding serve_by
want_by e x before first next = ap₂ made next (ap (λ a. drop (length a) e.script_left) next) ∙ stays
  where
    made : List Response → List Response → EndpointEffect
    made a l = record {
      reply = if is_no_packet a then Nak x.n else Moved x.n (count_of before - count_of before);
      endpoint = record e {
        line = with_first (record x { share = x.share ++ a }) e.line;
        script_left = l;
        packets_received = e.packets_received ++ acknowledged x.request.body before before;
      };
      orders = [];
      news = [];
      results = [];
    }

    line : with_first (record x { share = x.share ++ [] }) e.line ≡ e.line
    line = ap (λ s. with_first (record x { share = s }) e.line) (append-nil x.share) ∙ first_stays x e.line first

    packets : e.packets_received ++ acknowledged x.request.body before before ≡ e.packets_received
    packets = ap (λ l. e.packets_received ++ l) (nothing_taken x.request.body before) ∙ append-nil e.packets_received

    stays : made [] e.script_left ≡ only_says e (Nak x.n)
    stays = λ i. record { reply = Nak x.n; endpoint = record e { line = line i; packets_received = packets i }; orders = []; news = []; results = [] }

no_answer : (halted : Bool) (left : List Response) → (not halted && is_empty left) ≡ true → ((if halted then [] else left) ≡ []) × (halted ≡ false)
no_answer true left e = absurd cc
no_answer false [] e = (refl, refl)
no_answer false (x ∷ left) e = absurd cc

no_next : (e : Endpoint) → (not e.device_halted && is_empty e.script_left) ≡ true → next_answer e ≡ []
no_next e w = by_parts e.device_halted e.script_left w
  where
    by_parts : (halted : Bool) (left : List Response) → (not halted && is_empty left) ≡ true → next_answer (record e { device_halted = halted; script_left = left }) ≡ []
    by_parts true left p = absurd cc
    by_parts false [] p = refl
    by_parts false (x ∷ left) p = absurd cc

want_first : (size : ℕ) (e : Endpoint) (state : EndpointState) (o : Option Item) → first_waiting e.line ≡ o
    → ((x : Item) → o ≡ Some x → (outcome_of size x).code ≡ None)
    → (is_running state && (is_some o && (not e.device_halted && is_empty e.script_left))) ≡ true
    → (x : Item) × (o ≡ Some x) × (serve_first size false e state o ≡ only_says e (Nak x.n))
unfolding serve_first
want_first size e Running (Some x) first unended is = (x, refl, ap₂ (λ a c. serve_by e x (outcome_of size x) a c) same (ap (λ a. a.code) same ∙ unended x refl) ∙ want_by e x (outcome_of size x) first (no_next e is))
  where
    same : unwrap_or (outcome x.request size (x.share ++ next_answer e) e.device_halted) (open_with []) ≡ outcome_of size x
    same = ap₂ (λ s h. unwrap_or (outcome x.request size s h) (open_with [])) (ap (λ a. x.share ++ a) (no_next e is) ∙ append-nil x.share) (no_answer e.device_halted e.script_left is).1
want_first size e Running None first unended is = absurd cc
want_first size e Stopped o first unended is = absurd cc
want_first size e Halted o first unended is = absurd cc

-- what is set as it was
set_same : (b : Bool) (e : ℕ → ℕ → Endpoint) (dev ep d p : ℕ) → ((dev == d) && (ep == p)) ≡ b → (own : Bool) → (if b && own then e dev ep else e d p) ≡ e d p
set_same true e dev ep d p q true = let r = and_parts (dev == d) (ep == p) q in ap₂ e (eqb-true dev d r.0) (eqb-true ep p r.1)
set_same true e dev ep d p q false = refl
set_same false e dev ep d p q own = refl

name_stays : (w : World) (h g : ℕ) → (if h == g then w.names h else w.names g) ≡ w.names g
name_stays w h g = by_test (h == g) refl
  where
    by_test : (b : Bool) → (h == g) ≡ b → (if b then w.names h else w.names g) ≡ w.names g
    by_test true e = ap w.names (eqb-true h g e)
    by_test false e = refl

want_stays : (setup : Setup) (h : ℕ) (w : World) (d ep : ℕ) (r : Reply)
    → world_after setup h w (Serve d ep) (at_endpoint (w.names h) d ep (only_says (w.endpoints d ep) r)) ≡ w
unfolding world_after at_endpoint
want_stays setup h w d ep r = λ i. record {
  names = λ g. name_stays w h g i;
  claims = w.claims;
  endpoints = λ dev p. set_same ((d == dev) && (ep == p)) w.endpoints d ep dev p refl (is_its h (holder setup w.claims dev p)) i;
  gone = w.gone;
  orders = append-nil w.orders i;
  news = append-nil w.news i;
  results = append-nil w.results i;
}

want_serve : (setup : Setup) (w : World) (d ep : ℕ) → IsOpen setup w → wants setup w (Serve d ep) ≡ true → (turn setup w (Serve d ep)).world ≡ w
unfolding turn turn_of effect serve_effect machine_of serve is_blocked at_endpoint
want_serve setup w d ep unended is = by_owner (holder setup w.claims d ep) refl (and_parts (is_some (holder setup w.claims d ep)) (not (w.gone d) && is_wanting (w.endpoints d ep)) is)
  where
    e : Endpoint
    e = w.endpoints d ep

    by_gone : (h : ℕ) → holder setup w.claims d ep ≡ Some h → (b : Bool) → (not b && is_wanting e) ≡ true → (x : Item) × (first_waiting e.line ≡ Some x) × (serve_first (packet_size_of setup d ep) b e e.state (first_waiting e.line) ≡ only_says e (Nak x.n))
    by_gone h own true q = absurd cc
    by_gone h own false q = want_first (packet_size_of setup d ep) e e.state (first_waiting e.line) refl (λ x. unended h d ep x own) q

    served : (h : ℕ) → holder setup w.claims d ep ≡ Some h → (s : (x : Item) × (first_waiting e.line ≡ Some x) × (serve_first (packet_size_of setup d ep) (w.gone d) e e.state (first_waiting e.line) ≡ only_says e (Nak x.n)))
        → effect setup h (machine_of setup h w) (Serve d ep) ≡ at_endpoint (w.names h) d ep (only_says e (Nak s.0.n))
    served h own s =
        ap (λ b. serve_effect setup (machine_of setup h w) d ep (if◌then◌else◌ {A = Option Endpoint} b (Some e) None)) (ap (is_its h) own ∙ same_name h)
        ∙ ap (at_endpoint (w.names h) d ep) s.2

    by_effect : (h : ℕ) (x : Effect) (n : ℕ) → x ≡ at_endpoint (w.names h) d ep (only_says e (Nak n))
        → (if◌then◌else◌ {A = Turn} (is_blocked setup h w x.change) (record { entry = record { owner = Some h; reply = reply.Refused HeldElsewhere }; world = w }) (record { entry = record { owner = Some h; reply = x.reply }; world = world_after setup h w (Serve d ep) x })).world ≡ w
    by_effect h x n same =
        ap (λ y. (if◌then◌else◌ {A = Turn} (is_blocked setup h w y.change) (record { entry = record { owner = Some h; reply = reply.Refused HeldElsewhere }; world = w }) (record { entry = record { owner = Some h; reply = y.reply }; world = world_after setup h w (Serve d ep) y })).world) same
        ∙ want_stays setup h w d ep (Nak n)

    by_owner : (o : Option ℕ) → holder setup w.claims d ep ≡ o → (is_some o ≡ true) × ((not (w.gone d) && is_wanting e) ≡ true) → (turn_by setup o w (Serve d ep)).world ≡ w
    by_owner None own q = absurd cc
    by_owner (Some h) own q = by_effect h (effect setup h (machine_of setup h w) (Serve d ep)) (by_gone h own (w.gone d) q.1).0.n (served h own (by_gone h own (w.gone d) q.1))

pub want_changes_nothing : WantChangesNothing
want_changes_nothing setup w (Serve d ep) unended is = want_serve setup w d ep unended is
want_changes_nothing setup w (Open g dev) unended is = absurd cc
want_changes_nothing setup w (Close g) unended is = absurd cc
want_changes_nothing setup w (Claim g i) unended is = absurd cc
want_changes_nothing setup w (Release g i) unended is = absurd cc
want_changes_nothing setup w (Reset g) unended is = absurd cc
want_changes_nothing setup w (ClearHalt g ep) unended is = absurd cc
want_changes_nothing setup w (Submit g request) unended is = absurd cc
want_changes_nothing setup w (Cancel g n) unended is = absurd cc
want_changes_nothing setup w (Expire g n) unended is = absurd cc
want_changes_nothing setup w Command unended is = absurd cc
want_changes_nothing setup w Deliver unended is = absurd cc
want_changes_nothing setup w Take unended is = absurd cc
want_changes_nothing setup w (Answer g n v) unended is = absurd cc
want_changes_nothing setup w (Unplug dev) unended is = absurd cc

-- without the steps that want, the world where a run ends is the same, and no end is met
pub within_by : (setup : Setup) (more : More) (w : World) (step : Step) → wants setup w step ≡ false → meets_end setup more w step ≡ false
within_by setup more w (Serve d ep) free = ap (λ b. not (is_empty (more d ep)) && b) free ∙ and-false (not (is_empty (more d ep)))
within_by setup more w (Open g dev) free = refl
within_by setup more w (Close g) free = refl
within_by setup more w (Claim g i) free = refl
within_by setup more w (Release g i) free = refl
within_by setup more w (Reset g) free = refl
within_by setup more w (ClearHalt g ep) free = refl
within_by setup more w (Submit g request) free = refl
within_by setup more w (Cancel g n) free = refl
within_by setup more w (Expire g n) free = refl
within_by setup more w Command free = refl
within_by setup more w Deliver free = refl
within_by setup more w Take free = refl
within_by setup more w (Answer g n v) free = refl
within_by setup more w (Unplug dev) free = refl

record Pruned (setup : Setup) (more : More) (w : World) (steps : List Step) (pruned : List Step) : Type 0 where
  within : StaysWithin setup more w pruned
  same : world_from setup w pruned ≡ world_from setup w steps

prune : (setup : Setup) (more : More) (w : World) (steps : List Step) → ((begun : List Step) → IsOpen setup (world_from setup w begun)) → Pruned setup more w steps (wanting_none setup w steps)
unfolding wanting_none world_from
prune setup more w [] unended = record { within = tt; same = refl }
prune setup more w (step ∷ steps) unended = by_test (prune setup more (turn setup w step).world steps (λ begun. unended (step ∷ begun))) (wants setup w step) refl
  where
    later : World
    later = (turn setup w step).world

    by_test : Pruned setup more later steps (wanting_none setup later steps)
        → (b : Bool) → wants setup w step ≡ b → Pruned setup more w (step ∷ steps) (if b then wanting_none setup later steps else step ∷ wanting_none setup later steps)
    by_test rest true is =
        let stays : later ≡ w = want_changes_nothing setup w step (unended []) is in
        record {
          within = subst (λ v. StaysWithin setup more v (wanting_none setup later steps)) stays rest.within;
          same = ap (λ v. world_from setup v (wanting_none setup later steps)) (sym stays) ∙ rest.same;
        }
    by_test rest false free = record { within = (within_by setup more w step free, rest.within); same = rest.same }

pub reached_longer : ReachedLonger
reached_longer setup longer more steps g unended =
    let p = prune setup more (new_world setup) steps unended in
    ap (λ w. world_from longer w (wanting_none setup (new_world setup) steps)) (new_same setup longer more g)
    ∙ (world_same setup longer more (new_world setup) (wanting_none setup (new_world setup) steps) g p.within ∙ ap (world_with more) p.same)
