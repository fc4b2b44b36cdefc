-- A command, an ask and a submission keep an endpoint and its pieces of the lists coherent.
use Rattle.std.proofs.Common.{Bool, List, None, Option, Some, [], ap, append-nil, append_assoc, false, inr, length, refl, subst₂, sym, true, ℕ, ◌++◌, ◌==◌, ◌∙◌, ◌∷◌, ◌≡◌}
use Rattle.std.specs.Prelude.{if◌then◌else◌, is_some}
use Rattle.std.proofs.lemmas.Bool.{or_parts}
use Rattle.usb_model.specs.declared.errand.Errand.TheVariants as errand
use Rattle.usb_model.specs.declared.errand.Errand.{Errand}
use Rattle.usb_model.specs.declared.endpoint.Endpoint.{Endpoint}
use Rattle.usb_model.specs.declared.endpoint.EndpointState.TheVariants.{Halted, Stopped}
use Rattle.usb_model.specs.declared.endpoint.EndpointState.{EndpointState}
use Rattle.usb_model.specs.declared.item.Ask.{Ask}
use Rattle.usb_model.specs.declared.item.Item.{Item}
use Rattle.usb_model.specs.declared.news.Event.TheVariants.{Paused, Settled}
use Rattle.usb_model.specs.declared.news.Event.{Event}
use Rattle.usb_model.specs.declared.request.Request.{Request}
use Rattle.usb_model.specs.Machine.Calls.{asks}
use Rattle.usb_model.specs.Endpoint.Command.{command, pause_of}
use Rattle.usb_model.specs.Laws.Cut.{told}
use Rattle.usb_model.specs.Endpoint.Deliver.{is_withdrawn}
use Rattle.usb_model.specs.declared.endpoint_effect.EndpointEffect.{EndpointEffect}
use Rattle.usb_model.specs.Endpoint.{first_waiting, new_item, outcome_of}
use Rattle.proof_model.proofs.Work.Errands.{events-push, events-with_ask, first-push, first-with_ask}
use Rattle.usb_model.specs.Coherence.{Coheres, IsCoherent, IsPhase, ServedFirst, ended, has_asked, move_ran, move_waits, reset_ran, reset_waits, runs, served_events, stop_failed, stop_ran, stop_ran_paused, stop_waits, stop_waits_halted}

-- what a piece of work leaves, where these orders and this news are left beside what it adds
abbrev pub LeavesCoherent : EndpointEffect → List Errand → List Event → Type 0
LeavesCoherent d os ns = IsCoherent d.endpoint (os ++ d.orders) (ns ++ d.news)

-- a phase, over an equal state and equal results
pub same_phase : {s t : EndpointState} {er : Option Errand} {os : List Errand} {es fs tail : List Event} → s ≡ t → es ≡ fs → IsPhase s er os es tail → IsPhase t er os fs tail
same_phase {er = er} {os = os} {tail = tail} e f p = subst₂ (λ a b. IsPhase a er os b tail) e f p

-- nothing added to the lists keeps them coherent
pub coherent_same : (e : Endpoint) (os : List Errand) (ns : List Event) → IsCoherent e os ns → IsCoherent e (os ++ []) (ns ++ [])
coherent_same e os ns c = rw (append-nil os, append-nil ns) c

-- in a phase with an errand
pub coheres_in : (line : List Item) (s : EndpointState) (er : Errand) (os : List Errand) (ns es tail : List Event)
    → served_events line ≡ es → ns ≡ es ++ tail → ServedFirst line → IsPhase s (Some er) os es tail → Coheres line s (Some er) os ns
coheres_in line s er os ns es tail is told order p =
    record { tail = tail; news = told ∙ ap (λ l. l ++ tail) (sym is); in_order = order; phase = same_phase refl (sym is) p; answered = λ q. absurd cc }

-- in a phase without, where no asked item waits
pub coheres_free : (line : List Item) (s : EndpointState) (os : List Errand) (ns es tail : List Event)
    → served_events line ≡ es → ns ≡ es ++ tail → ServedFirst line → has_asked line ≡ false → IsPhase s None os es tail → Coheres line s None os ns
coheres_free line s os ns es tail is told order none p =
    record { tail = tail; news = told ∙ ap (λ l. l ++ tail) (sym is); in_order = order; phase = same_phase refl (sym is) p; answered = λ q. none }

-- an endpoint in this state, with this errand
abbrev pub in_phase : Endpoint → EndpointState → Option Errand → Endpoint
in_phase e s er = record e { state = s; errand = er }

-- a command: what it tells joins behind
told_behind : (ns es tail more : List Event) → ns ≡ es ++ tail → ns ++ more ≡ es ++ (tail ++ more)
told_behind ns es tail more e = ap (λ l. l ++ more) e ∙ append_assoc es tail more

-- the endpoint's next order carried out, in each phase, keeps it coherent
coherent_command_in : (size ep : ℕ) (e : Endpoint) (s : EndpointState) (er : Option Errand) (o : Errand) (os : List Errand) (ns es tail : List Event)
    → served_events e.line ≡ es → ns ≡ es ++ tail → ServedFirst e.line → IsPhase s er (o ∷ os) es tail → LeavesCoherent (command size ep (in_phase e s er) o s) os ns
unfolding command
coherent_command_in size ep e s er o os ns es tail is told order (stop_waits g) = by_moved (first_waiting e.line)
  where
    by_packets : (x : Item) (b : Bool) → Coheres e.line Stopped (Some errand.Stop) [] (ns ++ ((if b then [] else Paused x.n ∷ []) ++ Settled errand.Stop true ∷ []))
    by_packets x true = coheres_in e.line Stopped errand.Stop [] _ es _ is (told_behind ns es [] _ told) order (stop_ran g)
    by_packets x false = coheres_in e.line Stopped errand.Stop [] _ es _ is (told_behind ns es [] _ told) order (stop_ran_paused g)

    by_moved : (f : Option Item) → Coheres e.line Stopped (Some errand.Stop) [] (ns ++ (pause_of size f ++ Settled errand.Stop true ∷ []))
    by_moved None = coheres_in e.line Stopped errand.Stop [] _ es _ is (told_behind ns es [] _ told) order (stop_ran g)
    by_moved (Some x) = by_packets x (length (outcome_of size x).packets == 0)
coherent_command_in size ep e s er o os ns es tail is told order (stop_waits_halted g) = coheres_in e.line Halted errand.Stop [] _ es _ is (told_behind ns es [] _ told) order (stop_failed g)
coherent_command_in size ep e s er o os ns es tail is told order reset_waits = coheres_in e.line Stopped errand.Reset [] _ [] _ is (told_behind ns [] [] _ told) order reset_ran
coherent_command_in size ep e s er o os ns es tail is told order move_waits = coheres_in e.line Stopped errand.Move [] _ [] _ is (told_behind ns [] [] _ told) order move_ran

-- the controller carries out the first order
pub coherent_command : (size ep : ℕ) (e : Endpoint) (o : Errand) (os : List Errand) (ns : List Event) → IsCoherent e (o ∷ os) ns → LeavesCoherent (command size ep e o e.state) os ns
coherent_command size ep e o os ns c = coherent_command_in size ep e e.state e.errand o os ns (served_events e.line) c.tail refl c.news c.in_order c.phase

-- a transfer is asked to end
asks_phase : (s : EndpointState) (er : Option Errand) (os : List Errand) (es tail : List Event) → IsPhase s er os es tail
    → IsPhase s (if is_some er then er else Some errand.Stop) (os ++ (if is_some er then [] else errand.Stop ∷ [])) es tail
asks_phase s er os es tail (runs g) = stop_waits g
asks_phase s er os es tail (ended g) = stop_waits_halted (inr g)
asks_phase s er os es tail (stop_waits g) = stop_waits g
asks_phase s er os es tail (stop_waits_halted g) = stop_waits_halted g
asks_phase s er os es tail (stop_ran g) = stop_ran g
asks_phase s er os es tail (stop_ran_paused g) = stop_ran_paused g
asks_phase s er os es tail (stop_failed g) = stop_failed g
asks_phase s er os es tail reset_waits = reset_waits
asks_phase s er os es tail reset_ran = reset_ran
asks_phase s er os es tail move_waits = move_waits
asks_phase s er os es tail move_ran = move_ran

-- an endpoint that was asked to stop has an errand
not_none : (er : Option Errand) → (if is_some er then er else Some errand.Stop) ≡ None → ⊥
not_none None e = cc
not_none (Some x) e = cc

-- an ask keeps the endpoint coherent
pub coherent_ask : (e : Endpoint) (n : ℕ) (ask : Ask) (os : List Errand) (ns : List Event) → IsCoherent e os ns → LeavesCoherent (asks e n ask) os ns
unfolding asks
coherent_ask e n ask os ns c = record {
  tail = c.tail;
  news = append-nil ns ∙ (c.news ∙ ap (λ l. l ++ c.tail) (sym (events-with_ask n ask e.line)));
  in_order = first-with_ask n ask e.line c.in_order;
  phase = same_phase refl (sym (events-with_ask n ask e.line)) (asks_phase e.state e.errand os (served_events e.line) c.tail c.phase);
  answered = λ q. absurd (not_none e.errand q);
}

-- a submission joins the line
asked-push : (line : List Item) (y : Item) → is_withdrawn y ≡ false → has_asked line ≡ false → has_asked (line ++ y ∷ []) ≡ false
asked-push [] y w a = rw w
asked-push (x ∷ xs) y w a = let p = or_parts (is_withdrawn x) (has_asked xs) a in rw (p.0, asked-push xs y w p.1)

-- a new transfer keeps the endpoint coherent
pub coherent_submit : (e : Endpoint) (n : ℕ) (request : Request) (round : ℕ) (os : List Errand) (ns : List Event) → IsCoherent e os ns → IsCoherent (record e { line = e.line ++ new_item n request round ∷ [] }) os ns
coherent_submit e n request round os ns c =
    let same = events-push e.line (new_item n request round) refl in
    record {
      tail = c.tail;
      news = c.news ∙ ap (λ l. l ++ c.tail) (sym same);
      in_order = first-push e.line (new_item n request round) refl c.in_order;
      phase = same_phase refl (sym same) c.phase;
      answered = λ q. asked-push e.line (new_item n request round) refl (c.answered q);
    }
