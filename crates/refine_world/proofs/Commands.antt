-- An order is carried out: the pause and the completion that are told are the definitions', and the controller stands where it should.
use Rattle.std.proofs.Common.{Bool, List, None, Option, Some, [], ap, append-nil, append_assoc, arith, ap₂, false, inl, inr, length, refl, subst, subst₂, sym, true, ℕ, ◌+◌, ◌++◌, ◌==◌, ◌∙◌, ◌∷◌, ◌≡◌, ◌⊎◌}
use Rattle.std.specs.Prelude.{if◌then◌else◌}
use Rattle.std.proofs.lemmas.List.{append_cancel_left}
use Rattle.std.proofs.lemmas.Bool.{eqb-true}
use Rattle.usb_model.specs.declared.errand.Errand.TheVariants as errand
use Rattle.usb_model.specs.declared.errand.Errand.{Errand}
use Rattle.usb_model.specs.declared.endpoint.Endpoint.{Endpoint}
use Rattle.usb_model.specs.declared.endpoint.EndpointState.TheVariants.{Halted, Running, Stopped}
use Rattle.usb_model.specs.declared.endpoint.EndpointState.{EndpointState}
use Rattle.usb_model.specs.declared.item.Item.{Item}
use Rattle.usb_model.specs.declared.news.Event.TheVariants.{Finished, Paused, Settled}
use Rattle.usb_model.specs.declared.news.Event.{Event}
use Rattle.usb_model.specs.Endpoint.Command.{command, pause_of}
use Rattle.usb_model.specs.Endpoint.{first_waiting, outcome_of}
use Rattle.usb_model.specs.Coherence.{IsCoherent, IsPhase, move_waits, reset_waits, served_events, stop_waits, stop_waits_halted}
use Rattle.refine_world.specs.ShownEndpoint.{AllNew, FirstPaused, FrontKnown, IsOrderly, ShowsEnd, count, front, has_pause, is_past, is_stale, orders_sent, pause_told, tail_told, telling_of, told_of}
use Rattle.usb_model.specs.Kept.{KeptEndpoint, Completion, KeptTransfer, SentErrand, Telling, code_of, first_place, index_of}
use Rattle.usb_model.specs.Events.{find_at, past_kept_blanks}
use Rattle.usb_model.specs.Packets.{event_at, walk}
use Rattle.refine_world.specs.Kept.{Carries, PauseTold}
use Rattle.usb_model.specs.Commands.{carry, pause_at}
use Rattle.refine_world.proofs.Fronts.{Fronted, front_new, fronts, known_new, known_none}
use Rattle.refine_world.proofs.Serves.{at_front, event_is, find_end, front_none, fresh_running}

-- an order waits alone, for its errand, and nothing is told behind the served
abbrev pub Waits : EndpointState → Errand → EndpointState → Option Errand → Errand → List Errand → List Event → Type 0
Waits st x s er o os tail = (s ≡ st) × (er ≡ Some x) × (o ≡ x) × (os ≡ []) × (tail ≡ [])

-- the four ways in which an order waits
abbrev pub Ways : EndpointState → Option Errand → Errand → List Errand → List Event → List Event → Type 0
Ways s er o os es tail =
    Waits Running errand.Stop s er o os tail
    ⊎ (Waits Halted errand.Stop s er o os tail
    ⊎ ((Waits Halted errand.Reset s er o os tail × (es ≡ []))
    ⊎ (Waits Stopped errand.Move s er o os tail × (es ≡ []))))

pub ways : (s : EndpointState) (er : Option Errand) (o : Errand) (os : List Errand) (es tail : List Event) → IsPhase s er (o ∷ os) es tail → Ways s er o os es tail
ways s er o os es tail (stop_waits g) = inl (refl, refl, refl, refl, refl)
ways s er o os es tail (stop_waits_halted g) = inr (inl (refl, refl, refl, refl, refl))
ways s er o os es tail reset_waits = inr (inr (inl ((refl, refl, refl, refl, refl), refl)))
ways s er o os es tail move_waits = inr (inr (inr ((refl, refl, refl, refl, refl), refl)))

-- what is told of two lists
tail_behind : (size : ℕ) (xs : List Item) (ys : List KeptTransfer) (sent : Option SentErrand) (es fs : List Event) → tail_told size xs ys sent (es ++ fs) ≡ tail_told size xs ys sent es ++ tail_told size xs ys sent fs
tail_behind size xs ys sent [] fs = refl
tail_behind size xs ys sent (Finished n code ∷ es) fs = tail_behind size xs ys sent es fs
tail_behind size xs ys sent (Paused n ∷ es) fs = ap (λ l. pause_told size xs ys ++ l) (tail_behind size xs ys sent es fs) ∙ sym (append_assoc (pause_told size xs ys) (tail_told size xs ys sent es) (tail_told size xs ys sent fs))
tail_behind size xs ys sent (Settled errand ok ∷ es) fs = ap (λ l. Completion (index_of sent) (code_of ok) ∷ l) (tail_behind size xs ys sent es fs)

-- what an order leaves, from what it tells and where the controller then stands
carried_shows : (size : ℕ) (e : Endpoint) (o : Errand) (os : List Errand) (ns : List Event) (b : KeptEndpoint) (w : SentErrand) (sent : List SentErrand) (told : List Telling) (state : EndpointState) (dequeue within : ℕ) (ok : Bool) (pe : List Event) (ps : List Telling)
    → (s : ShowsEnd size e (o ∷ os) ns b (w ∷ sent) told) → s.tail ≡ []
    → ps ≡ tail_told size e.line b.line b.errand pe → (is_stale state e.errand [] ≡ false → record { place = dequeue; within = within } ≡ front size e.line b.line b.end)
    → (state ≡ Stopped → has_pause (pe ++ Settled o ok ∷ []) ≡ false → FrontKnown size e.line b.line) → os ≡ [] → FirstPaused e.line (pe ++ Settled o ok ∷ [])
    → ShowsEnd size (record e { state = state }) (os ++ []) (ns ++ (pe ++ Settled o ok ∷ [])) (record b { state = state; dequeue = dequeue; within = within }) sent (told ++ (ps ++ Completion w.index (code_of ok) ∷ []))
carried_shows size e o os ns b w sent told state dequeue within ok pe ps s none told_pause stands known empty paused =
    let head : w ≡ record { errand = o; index = index_of b.errand } = cc in
    let rest : sent ≡ orders_sent b.errand os = cc in
    record {
      tail = pe ++ Settled o ok ∷ [];
      news = ap (λ l. l ++ (pe ++ Settled o ok ∷ [])) (s.news ∙ (ap (λ t. served_events e.line ++ t) none ∙ append-nil (served_events e.line)));
      kept = s.kept;
      row = s.row;
      state = refl;
      errand = s.errand;
      script_left = s.script_left;
      device_halted = s.device_halted;
      packets_received = s.packets_received;
      told_is = ap₂ (λ l t. l ++ t) (s.told_is ∙ (ap (λ t. told_of size e.line b.line ++ tail_told size e.line b.line b.errand t) none ∙ append-nil (told_of size e.line b.line)))
          (ap₂ (λ l t. l ++ Completion t (code_of ok) ∷ []) told_pause (ap (λ z. z.index) head) ∙ sym (tail_behind size e.line b.line b.errand pe (Settled o ok ∷ [])));
      sent_is = rest ∙ ap (orders_sent b.errand) (sym (append-nil os));
      stands = λ q. stands (subst (λ l. is_stale state e.errand l ≡ false) (ap (λ l. l ++ []) empty) q);
      paused = paused;
      known = known;
    }

-- Stop of a running endpoint
stop_shows : (size ep : ℕ) (e : Endpoint) (ns : List Event) (b : KeptEndpoint) (w : SentErrand) (sent : List SentErrand) (told : List Telling) (c : IsCoherent e (errand.Stop ∷ []) ns) → PauseTold size e
    → (s : ShowsEnd size e (errand.Stop ∷ []) ns b (w ∷ sent) told) → e.state ≡ Running → e.errand ≡ Some errand.Stop → s.tail ≡ []
    → Carries size ep errand.Stop (command size ep e errand.Stop Running) (carry w.index b errand.Stop Running) [] ns sent told
unfolding command carry
stop_shows size ep e ns b w sent told c pauses s run er none = record { reply = refl; shows = by_first (first_waiting e.line) refl }
  where
    stands : record { place = b.dequeue; within = b.within } ≡ front size e.line b.line b.end
    stands = s.stands (fresh_running e.state e.errand (errand.Stop ∷ []) run)

    by_test : (x : Item) → first_waiting e.line ≡ Some x → (f : Fronted size e.line b.line b.end x) (t : Telling) → t ≡ telling_of size x f.y 26 → (z : Bool) → (count size x == 0) ≡ z → (u : Bool) → u ≡ z
        → ShowsEnd size (record e { state = Stopped }) [] (ns ++ ((if u then [] else Paused x.n ∷ []) ++ Settled errand.Stop true ∷ [])) (record b { state = Stopped }) sent (told ++ ((if z then [] else t ∷ []) ++ Completion w.index 1 ∷ []))
    by_test x first f t event true zero true same =
        let moved : count size x ≡ 0 = eqb-true (count size x) 0 zero in
        carried_shows size e errand.Stop [] ns b w sent told Stopped b.dequeue b.within true [] [] s none refl (λ q. stands) (λ q r. f.known (f.live.unmoved moved ∙ sym moved)) refl tt
    by_test x first f t event false zero false same =
        let told_pause : t ∷ [] ≡ pause_told size e.line b.line ++ [] = ap (λ k. k ∷ []) event ∙ (sym f.paused ∙ sym (append-nil (pause_told size e.line b.line))) in
        carried_shows size e errand.Stop [] ns b w sent told Stopped b.dequeue b.within true (Paused x.n ∷ []) (t ∷ []) s none told_pause (λ q. stands) (λ q r. absurd cc) refl ((x, first, refl), tt)
    by_test x first f t event true zero false same = absurd cc
    by_test x first f t event false zero true same = absurd cc

    by_first : (f : Option Item) → first_waiting e.line ≡ f
        → ShowsEnd size (record e { state = Stopped }) [] (ns ++ (pause_of size f ++ Settled errand.Stop true ∷ [])) (record b { state = Stopped }) sent (told ++ (pause_at b (find_at b.dequeue b.line) ++ Completion w.index 1 ∷ []))
    by_first None first =
        let at : b.dequeue ≡ b.end = ap (λ f. f.place) stands ∙ front_none size e.line b.line b.end first in
        let nothing : find_at b.dequeue b.line ≡ None = (find_end b.dequeue b.end b.line s.row (omega (arith, at))).1 in
        rw nothing (carried_shows size e errand.Stop [] ns b w sent told Stopped b.dequeue b.within true [] [] s none refl (λ q. stands) (λ q r. known_none size e.line b.line first) refl tt)
    by_first (Some x) first =
        let f = fronts size e.line b.line b.end x s.kept s.row c.in_order first in
        let at = stands ∙ f.stands in
        let a = at_front size b x f.y f.some f.live at in
        let deq : b.dequeue ≡ f.p = ap (λ g. g.place) at ∙ sym f.at in
        let there : find_at b.dequeue b.line ≡ Some f.y = ap (λ p. find_at p b.line) deq ∙ f.found in
        let event : event_at b f.y (walk b f.y 0) 26 ≡ telling_of size x f.y 26 = event_is size b x x f.y f.y 0 26 f.some a refl refl (let same : count size x ≡ count size x + 0 = omega arith in same) in
        rw (there, a.before) (by_test x first f (event_at b f.y (walk b f.y 0) 26) event (count size x == 0) refl (length (outcome_of size x).packets == 0) (pauses x first))

-- Stop of a halted endpoint fails
fail_shows : (size ep : ℕ) (e : Endpoint) (ns : List Event) (b : KeptEndpoint) (w : SentErrand) (sent : List SentErrand) (told : List Telling)
    → (s : ShowsEnd size e (errand.Stop ∷ []) ns b (w ∷ sent) told) → e.state ≡ Halted → s.tail ≡ []
    → Carries size ep errand.Stop (command size ep e errand.Stop Halted) (carry w.index b errand.Stop Halted) [] ns sent told
unfolding command carry
fail_shows size ep e ns b w sent told s halt none = record {
  reply = refl;
  shows = rw (s.state) (carried_shows size e errand.Stop [] ns b w sent told e.state b.dequeue b.within false [] [] s none refl (λ q. absurd (not_stale e.state e.errand halt q)) (λ q r. absurd (cc (q, halt))) refl tt);
}
  where
    not_stale : (t : EndpointState) (er : Option Errand) → t ≡ Halted → is_stale t er [] ≡ false → ⊥
    not_stale Halted er h q = cc
    not_stale Running er h q = cc
    not_stale Stopped er h q = cc

-- Reset of a halted endpoint
reset_shows : (size ep : ℕ) (e : Endpoint) (ns : List Event) (b : KeptEndpoint) (w : SentErrand) (sent : List SentErrand) (told : List Telling) → AllNew e.line
    → (s : ShowsEnd size e (errand.Reset ∷ []) ns b (w ∷ sent) told) → e.errand ≡ Some errand.Reset → s.tail ≡ []
    → Carries size ep errand.Reset (command size ep e errand.Reset Halted) (carry w.index b errand.Reset Halted) [] ns sent told
unfolding command carry
reset_shows size ep e ns b w sent told new s er none = record {
  reply = refl;
  shows = carried_shows size e errand.Reset [] ns b w sent told Stopped b.dequeue b.within true [] [] s none refl (λ q. absurd (by_errand e.errand er q)) (λ q r. known_new size e.line b.line s.kept new) refl tt;
}
  where
    by_errand : (er : Option Errand) → er ≡ Some errand.Reset → is_stale Stopped er [] ≡ false → ⊥
    by_errand None e q = cc
    by_errand (Some errand.Stop) e q = cc
    by_errand (Some errand.Reset) e q = cc
    by_errand (Some errand.Move) e q = cc

-- Move of a stopped endpoint: the controller goes to the first transfer that isn't blank
move_shows : (size ep : ℕ) (e : Endpoint) (ns : List Event) (b : KeptEndpoint) (w : SentErrand) (sent : List SentErrand) (told : List Telling) → AllNew e.line
    → (s : ShowsEnd size e (errand.Move ∷ []) ns b (w ∷ sent) told) → e.state ≡ Stopped → served_events e.line ≡ [] → s.tail ≡ []
    → Carries size ep errand.Move (command size ep e errand.Move Stopped) (carry w.index b errand.Move Stopped) [] ns sent told
unfolding command carry
move_shows size ep e ns b w sent told new s stopped unserved none = record {
  reply = refl;
  shows = rw (s.state) (carried_shows size e errand.Move [] ns b w sent told e.state (first_place (past_kept_blanks b.line) b.end) 0 true [] [] s none refl
      (λ q. sym (front_new size e.line b.line b.end s.kept unserved new)) (λ q r. known_new size e.line b.line s.kept new) refl tt);
}

-- the first order is carried out: it is that of the endpoint's errand
pub command_shows : (size ep : ℕ) (e : Endpoint) (o : Errand) (os : List Errand) (ns : List Event) (b : KeptEndpoint) (w : SentErrand) (sent : List SentErrand) (told : List Telling)
    → IsCoherent e (o ∷ os) ns → IsOrderly size e → PauseTold size e → ShowsEnd size e (o ∷ os) ns b (w ∷ sent) told
    → (w.errand ≡ o) × Carries size ep o (command size ep e o e.state) (carry w.index b o b.state) os ns sent told
command_shows size ep e o os ns b w sent told c orderly pauses s =
    let head : w ≡ record { errand = o; index = index_of b.errand } = cc in
    (ap (λ z. z.errand) head, subst (λ t. Carries size ep o (command size ep e o e.state) (carry w.index b o t) os ns sent told) (sym s.state) (by_way (ways e.state e.errand o os (served_events e.line) c.tail c.phase)))
  where
    same : s.tail ≡ c.tail
    same = append_cancel_left (served_events e.line) s.tail c.tail (sym s.news ∙ c.news)

    Leaves : Errand → List Errand → EndpointState → Type 0
    Leaves x l t = Carries size ep x (command size ep e x t) (carry w.index b x t) l ns sent told

    Before : Errand → List Errand → Type 0
    Before x l = (IsCoherent e (x ∷ l) ns) × ((z : ShowsEnd size e (x ∷ l) ns b (w ∷ sent) told) × (z.tail ≡ c.tail))

    moved : (x : Errand) → o ≡ x → os ≡ [] → Before x []
    moved x a l = subst₂ Before a l (c, (s, same))

    leaves : (x : Errand) (t : EndpointState) → o ≡ x → os ≡ [] → e.state ≡ t → Leaves x [] t → Leaves o os e.state
    leaves x t a l st p = subst₂ (λ y m. Leaves y m e.state) (sym a) (sym l) (subst (Leaves x []) (sym st) p)

    past_halted : (t : EndpointState) (er : Option Errand) → t ≡ Halted → is_past t er ≡ true
    past_halted Halted er h = refl
    past_halted Running er h = absurd cc
    past_halted Stopped er h = absurd cc

    past_moved : (t : EndpointState) (er : Option Errand) → er ≡ Some errand.Move → is_past t er ≡ true
    past_moved Halted er h = refl
    past_moved Running er h = rw h refl
    past_moved Stopped er h = rw h refl

    by_way : Ways e.state e.errand o os (served_events e.line) c.tail → Leaves o os e.state
    by_way (inl v) = let q = moved errand.Stop v.2 v.3 in leaves errand.Stop Running v.2 v.3 v.0 (stop_shows size ep e ns b w sent told q.0 pauses q.1.0 v.0 v.1 (q.1.1 ∙ v.4))
    by_way (inr (inl v)) = let q = moved errand.Stop v.2 v.3 in leaves errand.Stop Halted v.2 v.3 v.0 (fail_shows size ep e ns b w sent told q.1.0 v.0 (q.1.1 ∙ v.4))
    by_way (inr (inr (inl (v, none)))) = let q = moved errand.Reset v.2 v.3 in leaves errand.Reset Halted v.2 v.3 v.0 (reset_shows size ep e ns b w sent told (orderly.past (past_halted e.state e.errand v.0)) q.1.0 v.1 (q.1.1 ∙ v.4))
    by_way (inr (inr (inr (v, none)))) = let q = moved errand.Move v.2 v.3 in leaves errand.Move Stopped v.2 v.3 v.0 (move_shows size ep e ns b w sent told (orderly.past (past_moved e.state e.errand v.1)) q.1.0 v.0 none (q.1.1 ∙ v.4))
