-- A pause is handled: its event finds the first waiting transfer, and the bytes that it moved are known from then on.
use Rattle.std.proofs.Common.{Bool, List, Option, Some, [], ap, append-nil, ap₂, false, refl, subst, sym, true, ℕ, ◌++◌, ◌∙◌, ◌∷◌, ◌≡◌}
use Rattle.std.specs.Prelude.{if◌then◌else◌}
use Rattle.usb_model.specs.declared.errand.Errand.TheVariants as errand
use Rattle.usb_model.specs.declared.errand.Errand.{Errand}
use Rattle.usb_model.specs.declared.endpoint.Endpoint.{Endpoint}
use Rattle.usb_model.specs.declared.endpoint.EndpointState.TheVariants.{Stopped}
use Rattle.usb_model.specs.declared.endpoint.EndpointState.{EndpointState}
use Rattle.usb_model.specs.declared.item.Item.{Item}
use Rattle.usb_model.specs.declared.news.Event.TheVariants.{Paused, Settled}
use Rattle.usb_model.specs.declared.news.Event.{Event}
use Rattle.usb_model.specs.declared.reply.Reply.TheVariants as reply
use Rattle.usb_model.specs.Endpoint.Deliver.{deliver}
use Rattle.usb_model.specs.Endpoint.{first_waiting, is_blank_state, is_waiting, with_first}
use Rattle.usb_model.specs.Coherence.{IsCoherent, IsPhase, ended, move_ran, move_waits, reset_ran, reset_waits, runs, served_events, stop_failed, stop_ran, stop_ran_paused, stop_waits, stop_waits_halted}
use Rattle.usb_model.specs.Stands.{residual}
use Rattle.refine_world.specs.ShownEndpoint.{AllKept, FirstPaused, FrontKnown, ShowsEnd, count, front, tail_told, telling_of, told_of}
use Rattle.usb_model.specs.Kept.{KeptEndpoint, KeptTransfer, SentErrand, Telling, Transfer}
use Rattle.refine_world.specs.Kept.{Handles}
use Rattle.usb_model.specs.Events.{Reading, reading}
use Rattle.usb_model.specs.Packets.{put_at}
use Rattle.usb_model.specs.Settlements.{pauses}
use Rattle.refine_world.proofs.Finished.{reads_at}
use Rattle.proof_model.proofs.Lists.Parts.{heads_same}
use Rattle.refine_world.proofs.Fronts.{fronts, told_none}
use Rattle.refine_world.proofs.Settled.{none_served}

-- a pause is told of a stopped endpoint alone, and just before the stop's end
record IsPause (s : EndpointState) (er : Option Errand) (os : List Errand) (ns : List Event) : Type 0 where
  stopped : s ≡ Stopped
  stops : er ≡ Some errand.Stop
  unordered : os ≡ []
  behind : ns ≡ Settled errand.Stop true ∷ []

is_pause : (s : EndpointState) (er : Option Errand) (os : List Errand) (es tail : List Event) (n : ℕ) (ns : List Event) → tail ≡ Paused n ∷ ns → IsPhase s er os es tail → IsPause s er os ns
is_pause s er os es tail n ns e (runs g) = absurd cc
is_pause s er os es tail n ns e (ended g) = absurd cc
is_pause s er os es tail n ns e (stop_waits g) = absurd cc
is_pause s er os es tail n ns e (stop_waits_halted g) = absurd cc
is_pause s er os es tail n ns e (stop_ran g) = absurd cc
is_pause s er os es tail n ns e (stop_ran_paused g) = record { stopped = refl; stops = refl; unordered = refl; behind = cc }
is_pause s er os es tail n ns e (stop_failed g) = absurd cc
is_pause s er os es tail n ns e reset_waits = absurd cc
is_pause s er os es tail n ns e reset_ran = absurd cc
is_pause s er os es tail n ns e move_waits = absurd cc
is_pause s er os es tail n ns e move_ran = absurd cc

-- the same in its own place
first_same : (x : Item) (line : List Item) → first_waiting line ≡ Some x → with_first x line ≡ line
unfolding first_waiting with_first
first_same x [] e = refl
first_same x (y ∷ ys) e = by_test (is_waiting y) e (first_same x ys)
  where
    by_test : (b : Bool) → (if b then Some y else first_waiting ys) ≡ Some x → (first_waiting ys ≡ Some x → with_first x ys ≡ ys) → (if b then x ∷ ys else y ∷ with_first x ys) ≡ y ∷ ys
    by_test true e rest = let same : y ≡ x = cc in ap (λ z. z ∷ ys) (sym same)
    by_test false e rest = ap (λ l. y ∷ l) (rest e)

-- the conclusion: the event's reading, and what handling it leaves
pub record PausedShows (size ep : ℕ) (gone : Bool) (e : Endpoint) (os : List Errand) (ns : List Event) (b : KeptEndpoint) (sent : List SentErrand) (t : Telling) (told : List Telling) (n : ℕ) : Type 0 where
  pub p : ℕ
  pub r : ℕ
  pub found : Reading
  pub event : t ≡ Transfer p r 26
  pub read : reading b.line p r ≡ Some found
  pub live : found.kept.blank ≡ false
  pub handles : Handles size (deliver size ep gone e (Paused n)) (pauses b p found) os ns sent told

pub paused_shows : (size ep : ℕ) (gone : Bool) (e : Endpoint) (os : List Errand) (ns : List Event) (b : KeptEndpoint) (sent : List SentErrand) (t : Telling) (told : List Telling) (n : ℕ)
    → IsCoherent e os (Paused n ∷ ns) → ShowsEnd size e os (Paused n ∷ ns) b sent (t ∷ told) → PausedShows size ep gone e os ns b sent t told n
unfolding deliver
paused_shows size ep gone e os ns b sent t told n c s =
    let none = none_served e.line (Paused n) ns s.tail (λ m code q. cc) s.news in
    let now = is_pause e.state e.errand os (served_events e.line) c.tail n ns (none_served e.line (Paused n) ns c.tail (λ m code q. cc) c.news).1 c.phase in
    let pause = subst (FirstPaused e.line) none.1 s.paused in
    let x : Item = pause.0.0 in
    let f = fronts size e.line b.line b.end x s.kept s.row c.in_order pause.0.1 in
    let behind : List Telling = tail_told size e.line b.line b.errand ns in
    let tells : t ∷ told ≡ telling_of size x f.y 26 ∷ behind = s.told_is ∙ (ap₂ (λ l m. l ++ tail_told size e.line b.line b.errand m) (told_none size e.line b.line none.0) none.1 ∙ ap (λ l. l ++ behind) f.paused) in
    let split = heads_same t (telling_of size x f.y 26) told behind tells in
    let y' : KeptTransfer = record f.y { moved = count size x } in
    let l = f.live in
    let blank : f.y.blank ≡ is_blank_state x.state = f.blank ∙ ap is_blank_state (sym f.waiting) in
    let q = f.puts x y' (record { blank = blank; some = f.some; live = λ z. record { n = l.n; request = l.request; round = l.round; ask = l.ask; bytes = l.bytes; lengths = l.lengths; fits = l.fits; unmoved = λ m. m } }) refl refl in
    let same = first_same x e.line pause.0.1 in
    let v = q.waits f.waiting in
    let told_same : told_of size e.line (put_at f.p y' b.line) ≡ told_of size e.line b.line = ap (λ k. told_of size k (put_at f.p y' b.line)) (sym same) ∙ v.0 in
    let front_same : front size e.line (put_at f.p y' b.line) b.end ≡ front size e.line b.line b.end = ap (λ k. front size k (put_at f.p y' b.line) b.end) (sym same) ∙ (v.1 ∙ sym f.stands) in
    let ends : tail_told size e.line b.line b.errand ns ≡ tail_told size e.line (put_at f.p y' b.line) b.errand ns = ap (tail_told size e.line b.line b.errand) now.behind ∙ sym (ap (tail_told size e.line (put_at f.p y' b.line) b.errand) now.behind) in
    record {
      p = f.p;
      r = residual f.y.lengths (count size x);
      found = record { kept = f.y; actual = count size x };
      event = split.0 ∙ ap (λ p. Transfer p (residual f.y.lengths (count size x)) 26) (sym f.at);
      read = reads_at size b.line x f.y f.p l f.some f.at f.found;
      live = blank ∙ ap is_blank_state f.waiting;
      handles = record {
        reply = ap (λ k. reply.Paused k) (l.n ∙ pause.0.2);
        results = refl;
        shows = rw (append-nil os, append-nil sent) (record {
          tail = ns;
          news = ap (λ k. k ++ ns) (sym none.0);
          kept = subst (λ k. AllKept size k (put_at f.p y' b.line)) same q.kept;
          row = q.row;
          state = s.state;
          errand = s.errand;
          script_left = s.script_left;
          device_halted = s.device_halted;
          packets_received = s.packets_received;
          told_is = split.1 ∙ (ends ∙ ap (λ k. k ++ tail_told size e.line (put_at f.p y' b.line) b.errand ns) (sym (told_same ∙ told_none size e.line b.line none.0)));
          sent_is = s.sent_is;
          stands = λ z. s.stands z ∙ sym front_same;
          paused = pause.1;
          known = λ z w. subst (λ k. FrontKnown size k (put_at f.p y' b.line)) same (q.knows f.waiting refl);
        });
      };
    }
