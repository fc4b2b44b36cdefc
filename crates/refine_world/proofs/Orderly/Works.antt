-- Submissions, orders, asks and deliveries keep what more holds of an endpoint of a world that can be reached.
use Rattle.std.proofs.Common.{Bool, List, None, Option, Some, [], ap, ap₂, false, inl, inr, map, refl, subst₂, sym, true, ℕ, ◌++◌, ◌==◌, ◌∙◌, ◌∷◌, ◌≡◌}
use Rattle.std.specs.Prelude.{if◌then◌else◌, is_some, not}
use Rattle.usb_model.specs.declared.errand.Errand.TheVariants as errand
use Rattle.usb_model.specs.declared.errand.Errand.{Errand}
use Rattle.usb_model.specs.declared.endpoint.Endpoint.{Endpoint}
use Rattle.usb_model.specs.declared.endpoint.EndpointState.TheVariants.{Halted, Running, Stopped}
use Rattle.usb_model.specs.declared.endpoint.EndpointState.{EndpointState}
use Rattle.usb_model.specs.declared.item.Ask.{Ask}
use Rattle.usb_model.specs.declared.item.Item.{Item}
use Rattle.usb_model.specs.declared.item.ItemState.TheVariants.{Blank, Served, Waiting}
use Rattle.usb_model.specs.declared.item.ItemState.{ItemState}
use Rattle.usb_model.specs.declared.news.Event.{Event}
use Rattle.usb_model.specs.declared.request.Request.{Request}
use Rattle.usb_model.specs.Machine.Calls.{asks, with_ask}
use Rattle.usb_model.specs.Endpoint.Command.{command}
use Rattle.usb_model.specs.Endpoint.Deliver.{blanked, deliver, finished_result, leads_blank, line_after, needs_reset, orders_errand, resume, withdrawn}
use Rattle.usb_model.specs.declared.news.Event.TheVariants.{Finished, Paused, Settled}
use Rattle.usb_model.specs.declared.reply.Reply.{Reply}
use Rattle.usb_model.specs.declared.reply.Reply.TheVariants as reply
use Rattle.usb_model.specs.Endpoint.Status.{halts}
use Rattle.std.proofs.lemmas.Bool.{and_parts}
use Rattle.refine_world.proofs.Finished.{first_end}
use Rattle.refine_world.proofs.Settled.{EndWays, behind_blanks, end_ways, none_served}
use Rattle.usb_model.specs.Endpoint.{fresh, in_progress, is_blank, new_item, past_blanks, past_number}
use Rattle.usb_model.specs.Endpoint.Packets.{IsOpenAt, outcome, open_with}
use Rattle.proof_model.proofs.Shares.OpenShares.{open_if, outcome_nothing}
use Rattle.usb_model.specs.Setup.{Setup}
use Rattle.usb_model.specs.Coherence.{IsCoherent, IsPhase, served_events}
use Rattle.refine_world.proofs.Commands.{Ways, ways}
use Rattle.refine_world.specs.ShownEndpoint.{AllNew, IsOrderly, NewBehind, is_past, known_by, new_by}
use Rattle.proof_model.proofs.Work.Phases.{halted_if}
use Rattle.refine_world.proofs.Orderly.Lines.{new_blanks, new_number, behind_number, new_blanked, behind_blanked, led_by_withdrawn, new_push, behind_push, each_map, each_push, OpenItem, UncutItem, opens_from, uncut_from, Fine, fine_of, fine_blanked, fine_blanks, fine_number, led_by_none}

-- an endpoint made new
pub orderly_fresh : (size : ℕ) (setup : Setup) (d e : ℕ) → IsOrderly size (fresh setup d e)
unfolding fresh
orderly_fresh size setup d e = record { behind = tt; past = λ q. tt; leads = λ q. refl; stalls = λ q. tt; opens = tt; uncut = tt }

-- a submission
pub orderly_submit : (size : ℕ) (e : Endpoint) (n : ℕ) (request : Request) (round : ℕ) → IsOrderly size e → IsOrderly size (record e { line = e.line ++ new_item n request round ∷ [] })
orderly_submit size e n request round w =
    let y : Item = new_item n request round in
    let f = fine_of size e w in
    let is_open : IsOpenAt (outcome request size [] false) = open_if (outcome request size [] false) (open_with []) (outcome_nothing request size) refl in
    record {
      behind = behind_push e.line y refl refl w.behind;
      past = λ q. new_push e.line y refl refl (w.past q);
      leads = λ q. leads_push e.line (w.leads q);
      stalls = λ q. new_push e.line y refl refl (w.stalls q);
      opens = opens_from size (e.line ++ y ∷ []) (each_push (OpenItem size) e.line y is_open f.opens);
      uncut = uncut_from (e.line ++ y ∷ []) (each_push UncutItem e.line y tt f.uncut);
    }
  where
    leads_push : (xs : List Item) → leads_blank xs ≡ false → leads_blank (xs ++ new_item n request round ∷ []) ≡ false
    leads_push [] q = refl
    leads_push (x ∷ xs) q = q

-- an order
pub orderly_command : (size ep : ℕ) (e : Endpoint) (o : Errand) (os : List Errand) (ns : List Event) → IsCoherent e (o ∷ os) ns → IsOrderly size e → IsOrderly size (command size ep e o e.state).endpoint
unfolding command
orderly_command size ep e o os ns c w = by_way (ways e.state e.errand o os (served_events e.line) c.tail c.phase)
  where
    stays : (state : EndpointState) → (is_past state e.errand ≡ true → AllNew e.line) → (is_past state e.errand ≡ false → leads_blank e.line ≡ false) → IsOrderly size (record e { state = state })
    stays state past leads = record { behind = w.behind; past = past; leads = leads; stalls = w.stalls; opens = w.opens; uncut = w.uncut }

    by_way : Ways e.state e.errand o os (served_events e.line) c.tail → IsOrderly size (command size ep e o e.state).endpoint
    by_way (inl v) = rw (v.0, v.2) (stays Stopped (λ q. absurd (by_errand e.errand v.1 q)) (λ q. w.leads (running_past e.state e.errand v.0 v.1)))
      where
        by_errand : (er : Option Errand) → er ≡ Some errand.Stop → is_past Stopped er ≡ true → ⊥
        by_errand None a q = cc
        by_errand (Some errand.Stop) a q = cc
        by_errand (Some errand.Reset) a q = cc
        by_errand (Some errand.Move) a q = cc

        running_past : (s : EndpointState) (er : Option Errand) → s ≡ Running → er ≡ Some errand.Stop → is_past s er ≡ false
        running_past s er a b = ap₂ is_past a b
    by_way (inr (inl v)) = rw (v.0, v.2) (stays Halted (λ q. w.past (ap (λ s. is_past s e.errand) v.0)) (λ q. absurd cc))
    by_way (inr (inr (inl (v, none)))) = rw (v.0, v.2) (stays Stopped (λ q. w.past (ap (λ s. is_past s e.errand) v.0)) (λ q. absurd (cc (q, ap (is_past Stopped) v.1))))
    by_way (inr (inr (inr (v, none)))) = rw (v.0, v.2) (stays Stopped (λ q. w.past (ap (λ s. is_past s e.errand) v.0 ∙ q)) (λ q. absurd (cc (q, ap (is_past Stopped) v.1))))

-- an ask
pub orderly_ask : (size : ℕ) (e : Endpoint) (n : ℕ) (ask : Ask) → IsOrderly size e → IsOrderly size (asks e n ask).endpoint
unfolding asks
orderly_ask size e n ask w = record {
  behind = behind_asked e.line w.behind;
  past = λ q. new_asked e.line (w.past (sym (same_past e.state e.errand) ∙ q));
  leads = λ q. leads_asked e.line (w.leads (sym (same_past e.state e.errand) ∙ q));
  stalls = λ q. new_asked e.line (w.stalls q);
  opens = opens_from size (map (with_ask n ask) e.line) (each_map (OpenItem size) (with_ask n ask) open_asked e.line (fine_of size e w).opens);
  uncut = uncut_from (map (with_ask n ask) e.line) (each_map UncutItem (with_ask n ask) uncut_asked e.line (fine_of size e w).uncut);
}
  where
    same_past : (s : EndpointState) (er : Option Errand) → is_past s (if is_some er then er else Some errand.Stop) ≡ is_past s er
    same_past Running None = refl
    same_past Stopped None = refl
    same_past Halted None = refl
    same_past s (Some x) = refl

    open_asked : (x : Item) → OpenItem size x → OpenItem size (with_ask n ask x)
    open_asked x o = by_test (x.n == n)
      where
        by_test : (t : Bool) → OpenItem size (if t then record x { ask = Some ask } else x)
        by_test true = o
        by_test false = o

    uncut_asked : (x : Item) → UncutItem x → UncutItem (with_ask n ask x)
    uncut_asked x o = by_test (x.n == n)
      where
        by_test : (t : Bool) → UncutItem (if t then record x { ask = Some ask } else x)
        by_test true = o
        by_test false = o

    new_asked : (xs : List Item) → AllNew xs → AllNew (map (with_ask n ask) xs)
    new_asked [] q = tt
    new_asked (x ∷ xs) q = by_test (x.n == n) (new_asked xs)
      where
        by_state : (s : ItemState) (P : Type 0) → new_by s x (AllNew xs) → (AllNew xs → P) → new_by s x P
        by_state Waiting P q f = (q.0, f q.1)
        by_state (Served c) P q f = f q
        by_state Blank P q f = f q

        by_test : (t : Bool) → (AllNew xs → AllNew (map (with_ask n ask) xs)) → AllNew ((if t then record x { ask = Some ask } else x) ∷ map (with_ask n ask) xs)
        by_test true f = by_same x.state (by_state x.state (AllNew (map (with_ask n ask) xs)) q f)
          where
            by_same : (s : ItemState) → new_by s x (AllNew (map (with_ask n ask) xs)) → new_by s (record x { ask = Some ask }) (AllNew (map (with_ask n ask) xs))
            by_same Waiting r = r
            by_same (Served c) r = r
            by_same Blank r = r
        by_test false f = by_state x.state (AllNew (map (with_ask n ask) xs)) q f

    behind_asked : (xs : List Item) → NewBehind xs → NewBehind (map (with_ask n ask) xs)
    behind_asked [] q = tt
    behind_asked (x ∷ xs) q = by_test (x.n == n) (behind_asked xs)
      where
        by_state : (s : ItemState) → known_by s (AllNew xs) (NewBehind xs) → (NewBehind xs → NewBehind (map (with_ask n ask) xs)) → known_by s (AllNew (map (with_ask n ask) xs)) (NewBehind (map (with_ask n ask) xs))
        by_state Waiting q f = new_asked xs q
        by_state (Served c) q f = f q
        by_state Blank q f = f q

        by_test : (t : Bool) → (NewBehind xs → NewBehind (map (with_ask n ask) xs)) → NewBehind ((if t then record x { ask = Some ask } else x) ∷ map (with_ask n ask) xs)
        by_test true f = by_state x.state q f
        by_test false f = by_state x.state q f

    leads_asked : (xs : List Item) → leads_blank xs ≡ false → leads_blank (map (with_ask n ask) xs) ≡ false
    leads_asked [] q = refl
    leads_asked (x ∷ xs) q = by_test (x.n == n)
      where
        by_test : (t : Bool) → is_blank (if t then record x { ask = Some ask } else x) ≡ false
        by_test true = q
        by_test false = q

-- an end that is handled
orderly_finished : (size ep : ℕ) (gone : Bool) (e : Endpoint) (n code : ℕ) (os : List Errand) (es : List Event) (tail : List Event) → IsPhase e.state e.errand os (served_events e.line) tail → served_events e.line ≡ Finished n code ∷ es → IsOrderly size e
    → IsOrderly size (deliver size ep gone e (Finished n code)).endpoint
unfolding deliver
orderly_finished size ep gone e n code os es tail phase first w = by_reset (needs_reset code e.errand) refl
  where
    left : (t : Bool) → (AllNew e.line → AllNew (if t then past_number n e.line else past_blanks (past_number n e.line))) × NewBehind (if t then past_number n e.line else past_blanks (past_number n e.line)) × Fine size (if t then past_number n e.line else past_blanks (past_number n e.line))
    left true = (λ q. new_number n e.line q, behind_number n e.line w.behind, fine_number size n e.line (fine_of size e w))
    left false = (λ q. new_blanks (past_number n e.line) (new_number n e.line q), behind_blanks (past_number n e.line) (behind_number n e.line w.behind), fine_blanks size (past_number n e.line) (fine_number size n e.line (fine_of size e w)))

    after : List Item
    after = line_after n code e.line

    l : (AllNew e.line → AllNew after) × NewBehind after × Fine size after
    l = left (halts code)

    is_halted : halts code ≡ true → e.state ≡ Halted
    is_halted stop = halted_if e.state e.errand os (served_events e.line) tail es n code first stop phase

    led : (er : Option Errand) → is_past e.state er ≡ false → leads_blank after ≡ false
    led er q = by_halt (halts code) refl
      where
        by_halt : (t : Bool) → halts code ≡ t → leads_blank (if t then past_number n e.line else past_blanks (past_number n e.line)) ≡ false
        by_halt true stop = absurd (cc (q, ap (λ s. is_past s er) (is_halted stop)))
        by_halt false go = led_by_none (past_number n e.line)

    at : (er : Option Errand) → (is_past e.state er ≡ true → AllNew e.line) → IsOrderly size (record e { line = after; errand = er })
    at er past = record { behind = l.1; past = λ q. l.0 (past q); leads = led er; stalls = λ q. l.0 (w.stalls q); opens = opens_from size after l.2.opens; uncut = uncut_from after l.2.uncut }

    by_reset : (t : Bool) → needs_reset code e.errand ≡ t → IsOrderly size (if t then orders_errand (record e { line = after }) errand.Reset (reply.Finished n) (finished_result size gone code (in_progress n e.line)) else record { reply = reply.Finished n; endpoint = record e { line = after }; orders = []; news = []; results = finished_result size gone code (in_progress n e.line) }).endpoint
    by_reset true needs =
        let stop = (and_parts (halts code) (not (is_some e.errand)) needs).0 in
        at (Some errand.Reset) (λ q. w.past (ap (λ s. is_past s e.errand) (is_halted stop)))
    by_reset false needs = at e.errand w.past

-- where the endpoint stands, it goes on or is moved
orderly_resume : (size : ℕ) (e : Endpoint) (r : Reply) (line : List Item) → NewBehind line → Fine size line → (e.device_halted ≡ true → AllNew line) → (leads_blank (map blanked line) ≡ true → AllNew (map blanked line)) → IsOrderly size (resume size e r line).endpoint
unfolding resume
orderly_resume size e r line behind f stalls moved = by_test (leads_blank (map blanked line)) refl
  where
    g : Fine size (map blanked line)
    g = fine_blanked size line f

    by_test : (t : Bool) → leads_blank (map blanked line) ≡ t → IsOrderly size (if t then orders_errand (record e { line = map blanked line }) errand.Move r (withdrawn size line) else record { reply = r; endpoint = record e { line = map blanked line; errand = None; state = Running }; orders = []; news = []; results = withdrawn size line }).endpoint
    by_test true leads = record { behind = behind_blanked line behind; past = λ q. moved leads; leads = λ q. absurd (by_state e.state q); stalls = λ q. new_blanked line (stalls q); opens = opens_from size (map blanked line) g.opens; uncut = uncut_from (map blanked line) g.uncut }
      where
        by_state : (s : EndpointState) → is_past s (Some errand.Move) ≡ false → ⊥
        by_state Running q = cc
        by_state Stopped q = cc
        by_state Halted q = cc
    by_test false leads = record { behind = behind_blanked line behind; past = λ q. absurd cc; leads = λ q. leads; stalls = λ q. new_blanked line (stalls q); opens = opens_from size (map blanked line) g.opens; uncut = uncut_from (map blanked line) g.uncut }

-- the end of an errand that is handled
orderly_settled : (size ep : ℕ) (gone : Bool) (e : Endpoint) (o : Errand) (ok : Bool) (os : List Errand) (ns : List Event) → EndWays e.state e.errand os o ok ns → IsOrderly size e → IsOrderly size (deliver size ep gone e (Settled o ok)).endpoint
unfolding deliver
orderly_settled size ep gone e o ok os ns way w = by_way way
  where
    f : Fine size e.line
    f = fine_of size e w

    Is : Errand → Bool → Type 0
    Is x t = IsOrderly size (deliver size ep gone e (Settled x t)).endpoint

    past_of : (x : Errand) → e.state ≡ Stopped → e.errand ≡ Some x → is_past Stopped (Some x) ≡ is_past e.state e.errand
    past_of x st er = sym (ap₂ is_past st er)

    by_way : EndWays e.state e.errand os o ok ns → Is o ok
    by_way (inl v) = subst₂ Is (sym v.3) (sym v.4) (orderly_resume size e (reply.Settled ep errand.Stop true) e.line w.behind f w.stalls (led_by_withdrawn e.line w.behind (w.leads (sym (past_of errand.Stop v.0 v.1)))))
    by_way (inr (inl v)) = subst₂ Is (sym v.3) (sym v.4) (record { behind = w.behind; past = λ q. w.past (ap (λ s. is_past s e.errand) v.0); leads = λ q. absurd (cc (q, ap (λ s. is_past s (Some errand.Reset)) v.0)); stalls = w.stalls; opens = w.opens; uncut = w.uncut })
    by_way (inr (inr (inl v))) =
        let new : AllNew e.line = w.past (sym (past_of errand.Reset v.0 v.1)) in
        let g = fine_blanked size e.line f in
        subst₂ Is (sym v.3) (sym v.4) (record { behind = behind_blanked e.line w.behind; past = λ q. new_blanked e.line new; leads = λ q. absurd (cc (q, ap (λ s. is_past s (Some errand.Move)) v.0)); stalls = λ q. new_blanked e.line new; opens = opens_from size (map blanked e.line) g.opens; uncut = uncut_from (map blanked e.line) g.uncut })
    by_way (inr (inr (inr v))) =
        let new : AllNew e.line = w.past (sym (past_of errand.Move v.0 v.1)) in
        subst₂ Is (sym v.3) (sym v.4) (orderly_resume size e (reply.Settled ep errand.Move true) (past_blanks e.line) (behind_blanks e.line w.behind) (fine_blanks size e.line f) (λ q. new_blanks e.line new) (λ q. new_blanked (past_blanks e.line) (new_blanks e.line new)))

-- any event that is handled
pub orderly_deliver : (size ep : ℕ) (gone : Bool) (e : Endpoint) (os : List Errand) (event : Event) (ns : List Event) → IsCoherent e os (event ∷ ns) → IsOrderly size e → IsOrderly size (deliver size ep gone e event).endpoint
unfolding deliver
orderly_deliver size ep gone e os (Finished n code) ns c w = let f = first_end e os n code ns c.tail c c.news in orderly_finished size ep gone e n code os f.es c.tail c.phase f.first w
orderly_deliver size ep gone e os (Paused n) ns c w = w
orderly_deliver size ep gone e os (Settled o ok) ns c w = orderly_settled size ep gone e o ok os ns (end_ways e.state e.errand os (served_events e.line) c.tail o ok ns (none_served e.line (Settled o ok) ns c.tail (λ n code q. cc) c.news).1 c.phase) w

-- the device's halt ends
pub orderly_cleared : (size : ℕ) (e : Endpoint) → IsOrderly size e → IsOrderly size (record e { device_halted = false })
orderly_cleared size e w = record { behind = w.behind; past = w.past; leads = w.leads; stalls = λ q. absurd cc; opens = w.opens; uncut = w.uncut }
