-- A transfer's end is handled: its event finds the item, the residual gives the bytes, and the next endpoint is shown.
use Rattle.usb_model.proofs.Stands.{stands_some}
use Rattle.std.proofs.Common.{Bool, List, None, Option, Some, [], append-nil, ap, arith, ap₂, false, length, refl, subst, sym, true, ℕ, ◌++◌, ◌-◌, ◌<◌, ◌∙◌, ◌∷◌, ◌≡◌}
use Rattle.std.specs.Prelude.{if◌then◌else◌, nat_lt, not, is_some}
use Rattle.std.proofs.lemmas.Bool.{le-ltb, and_parts}
use Rattle.std.proofs.lemmas.List.{append_cancel_left}
use Rattle.usb_model.specs.declared.errand.Errand.TheVariants as errand
use Rattle.usb_model.specs.declared.errand.Errand.{Errand}
use Rattle.usb_model.specs.declared.endpoint_effect.EndpointEffect.{EndpointEffect}
use Rattle.usb_model.specs.declared.endpoint.Endpoint.{Endpoint}
use Rattle.usb_model.specs.declared.endpoint.EndpointState.TheVariants.{Halted, Running, Stopped}
use Rattle.usb_model.specs.declared.endpoint.EndpointState.{EndpointState}
use Rattle.usb_model.specs.declared.item.Item.{Item}
use Rattle.usb_model.specs.declared.news.Event.TheVariants.{Finished, Paused, Settled}
use Rattle.usb_model.specs.declared.news.Event.{Event}
use Rattle.usb_model.specs.declared.result.TransferResult.{TransferResult}
use Rattle.usb_model.specs.declared.reply.Reply.TheVariants as reply
use Rattle.usb_model.specs.Endpoint.Deliver.{deliver, finished_result, line_after, needs_reset, orders_errand}
use Rattle.usb_model.specs.Endpoint.{first_waiting, in_progress, past_blanks, past_number, result_of}
use Rattle.usb_model.specs.Endpoint.Status.{halts}
use Rattle.usb_model.specs.Coherence.{IsCoherent, served_events}
use Rattle.usb_model.specs.Stands.{length_at, read_off, residual, stand}
use Rattle.usb_model.specs.Kept.{KeptEndpoint, KeptTransfer, SentErrand, Telling, Transfer, Completion, code_of, index_of}
use Rattle.refine_world.specs.ShownEndpoint.{IsLive, ShowsEnd, count, FirstPaused, is_stale, orders_sent, pause_told, tail_told, telling_of, told_of}
use Rattle.usb_model.specs.Events.{Handled, Reading, finish, find_at, kept_after, kept_result, past_at, past_kept_blanks, posts, read_at, reading}
use Rattle.refine_world.specs.Kept.{Handles}
use Rattle.refine_world.proofs.FirstServed.{Found, Less, blanks_leave, finds, pointer}
use Rattle.proof_model.proofs.Coherence.Delivers.{past_told}
use Rattle.proof_model.proofs.Work.Phases.{no_end, free, halted_if}
use Rattle.proof_model.proofs.Lists.Parts.{heads_same}

-- an end that is told first is that of the first served
pub record FirstEnd (line : List Item) (tail ns : List Event) (n code : ℕ) : Type 0 where
  pub es : List Event
  pub first : served_events line ≡ Finished n code ∷ es
  pub rest : ns ≡ es ++ tail

pub first_end : (e : Endpoint) (os : List Errand) (n code : ℕ) (ns tail : List Event) → IsCoherent e os (Finished n code ∷ ns) → Finished n code ∷ ns ≡ served_events e.line ++ tail → FirstEnd e.line tail ns n code
first_end e os n code ns tail c told = by_events (served_events e.line) refl told c.news
  where
    by_events : (l : List Event) → served_events e.line ≡ l → Finished n code ∷ ns ≡ l ++ tail → Finished n code ∷ ns ≡ l ++ c.tail → FirstEnd e.line tail ns n code
    by_events [] is told other = absurd (no_end e.state e.errand os (served_events e.line) c.tail n code ns c.phase (sym other))
    by_events (z ∷ zs) is told other =
        let head : z ≡ Finished n code = cc in
        let behind : ns ≡ zs ++ tail = cc in
        record { es = zs; first = is ∙ ap (λ y. y ∷ zs) head; rest = behind }

-- both tails are the same
pub same_tail : (line : List Item) (ns t u : List Event) → ns ≡ served_events line ++ t → ns ≡ served_events line ++ u → t ≡ u
same_tail line ns t u a b = append_cancel_left (served_events line) t u (sym a ∙ b)

-- a halted endpoint's controller stands elsewhere
stale_halted : (s : EndpointState) (er : Option Errand) (os : List Errand) → s ≡ Halted → is_stale s er os ≡ false → ⊥
stale_halted Halted er os e f = cc
stale_halted Running er os e f = cc
stale_halted Stopped er os e f = cc

-- what is told behind reads only where the first waiting transfer stands
pub tail_same : (size : ℕ) (xs xs' : List Item) (ys ys' : List KeptTransfer) (sent : Option SentErrand) (tail : List Event) → pause_told size xs ys ≡ pause_told size xs' ys' → tail_told size xs ys sent tail ≡ tail_told size xs' ys' sent tail
tail_same size xs xs' ys ys' sent [] e = refl
tail_same size xs xs' ys ys' sent (Finished n code ∷ es) e = tail_same size xs xs' ys ys' sent es e
tail_same size xs xs' ys ys' sent (Paused n ∷ es) e = ap₂ (λ a l. a ++ l) e (tail_same size xs xs' ys ys' sent es e)
tail_same size xs xs' ys ys' sent (Settled errand ok ∷ es) e = ap (λ l. Completion (index_of sent) (code_of ok) ∷ l) (tail_same size xs xs' ys ys' sent es e)

pub paused_same : (xs xs' : List Item) (tail : List Event) → first_waiting xs ≡ first_waiting xs' → FirstPaused xs tail → FirstPaused xs' tail
paused_same xs xs' [] e p = tt
paused_same xs xs' (Finished n code ∷ es) e p = paused_same xs xs' es e p
paused_same xs xs' (Paused n ∷ es) e p = ((p.0.0, sym e ∙ p.0.1, p.0.2), paused_same xs xs' es e p.1)
paused_same xs xs' (Settled errand ok ∷ es) e p = paused_same xs xs' es e p

-- the reading of an event that points at where a transfer stands
pub reads_at : (size : ℕ) (ys : List KeptTransfer) (x : Item) (y : KeptTransfer) (p : ℕ) → IsLive size x y → 0 < length y.lengths → p ≡ pointer size x y → find_at p ys ≡ Some y
    → reading ys p (residual y.lengths (count size x)) ≡ Some (record { kept = y; actual = count size x })
reads_at size ys x y p live some is found =
    let s = stands_some y.lengths (count size x) some live.fits in
    let i : ℕ = (stand y.lengths (count size x)).index in
    let at : p - y.place ≡ i = omega (arith, is) in
    let fine : nat_lt (length_at y.lengths i) (residual y.lengths (count size x)) ≡ false = le-ltb (length_at y.lengths i) (residual y.lengths (count size x)) (omega arith) in
    let back : read_off y.lengths i (residual y.lengths (count size x)) ≡ count size x = omega (arith, s.some_left, s.before) in
    ap (read_at p (residual y.lengths (count size x))) found ∙ rw (at, fine, back) refl

-- its result, as the core makes it, is the definitions'
pub same_result : (size : ℕ) (gone : Bool) (code : ℕ) (x : Item) (y : KeptTransfer) → IsLive size x y → kept_result gone code y (count size x) ≡ result_of size gone code x
same_result size gone code x y live = rw (live.n, live.request, live.round, live.ask, live.bytes) refl

-- what is left of the line, and is told of it, once the end is handled
abbrev Left : ℕ → Endpoint → KeptEndpoint → ℕ → ℕ → ℕ → Type 0
Left size e b n code p =
    Less size e.line b.line b.end (line_after n code e.line) (kept_after p code b.line)
    × (told_of size (line_after n code e.line) (kept_after p code b.line) ≡ told_of size (past_number n e.line) (past_at p b.line))

left_of : (size : ℕ) (e : Endpoint) (b : KeptEndpoint) (n code p : ℕ) → Less size e.line b.line b.end (past_number n e.line) (past_at p b.line) → Left size e b n code p
left_of size e b n code p l = by_test (halts code)
  where
    xs : List Item
    xs = past_number n e.line

    ys : List KeptTransfer
    ys = past_at p b.line

    by_test : (t : Bool) → (Less size e.line b.line b.end (if t then xs else past_blanks xs) (if t then ys else past_kept_blanks ys) × (told_of size (if t then xs else past_blanks xs) (if t then ys else past_kept_blanks ys) ≡ told_of size xs ys))
    by_test true = (l, refl)
    by_test false =
        let r = blanks_leave size xs ys b.end l.kept l.row in
        (record { kept = r.0.kept; row = r.0.row; front = l.front ∙ r.0.front; pause = l.pause ∙ r.0.pause; known = λ k. r.0.known (l.known k); first = l.first ∙ r.0.first }, r.1)

-- without an errand
no_errand : (er : Option Errand) → not (is_some er) ≡ true → er ≡ None
no_errand None e = refl
no_errand (Some x) e = absurd cc

-- the end is handled, with or without an errand that begins
finish_handles : (size ep : ℕ) (gone : Bool) (next : ℕ) (e : Endpoint) (os : List Errand) (ns : List Event) (b : KeptEndpoint) (sent : List SentErrand) (t : Telling) (told : List Telling) (n code : ℕ)
    → IsCoherent e os (Finished n code ∷ ns) → (s : ShowsEnd size e os (Finished n code ∷ ns) b sent (t ∷ told)) → FirstEnd e.line s.tail ns n code → (f : Found size e.line b.line b.end n code)
    → told ≡ told_of size (past_number n e.line) (past_at f.p b.line) ++ tail_told size e.line b.line b.errand s.tail
    → Handles size (deliver size ep gone e (Finished n code)) (finish gone next b f.p code (record { kept = f.y; actual = count size f.x })) os ns sent told
unfolding deliver finish
finish_handles size ep gone next e os ns b sent t told n code c s fe f more =
    subst (λ u. Handles size (if needs_reset code e.errand then done_halted else done_on) (if u then kept_halted else kept_on) os ns sent told) (sym (ap (needs_reset code) s.errand)) (by_test (needs_reset code e.errand) refl)
  where
    after : Endpoint
    after = record e { line = line_after n code e.line }

    results : List TransferResult
    results = finished_result size gone code (in_progress n e.line)

    done_halted : EndpointEffect
    done_halted = orders_errand after errand.Reset (reply.Finished n) results

    done_on : EndpointEffect
    done_on = record { reply = reply.Finished n; endpoint = after; orders = []; news = []; results = results }

    made : List TransferResult
    made = kept_result gone code f.y (count size f.x) ∷ []

    kept_halted : Handled
    kept_halted = posts (record b { line = kept_after f.p code b.line }) errand.Reset next (reply.Finished f.y.n) made

    kept_on : Handled
    kept_on = record { reply = reply.Finished f.y.n; endpoint = record b { line = kept_after f.p code b.line }; orders = []; results = made }

    left : Left size e b n code f.p
    left = left_of size e b n code f.p f.less

    says : reply.Finished f.y.n ≡ reply.Finished n
    says = ap (λ k. reply.Finished k) (f.live.n ∙ f.number)

    same : made ≡ results
    same = ap (λ r. r ∷ []) (same_result size gone code f.x f.y f.live) ∙ ap (finished_result size gone code) (sym f.item)

    events : served_events (line_after n code e.line) ≡ fe.es
    events = (past_told e.line n code fe.es c.in_order fe.first).0

    news : (tail : List Event) → s.tail ≡ tail → ns ≡ served_events (line_after n code e.line) ++ tail
    news tail is = fe.rest ∙ ap₂ (λ a l. a ++ l) (sym events) is

    tells : told ≡ told_of size (line_after n code e.line) (kept_after f.p code b.line) ++ tail_told size e.line b.line b.errand s.tail
    tells = more ∙ ap (λ l. l ++ tail_told size e.line b.line b.errand s.tail) (sym left.1)

    by_test : (u : Bool) → needs_reset code e.errand ≡ u → Handles size (if u then done_halted else done_on) (if u then kept_halted else kept_on) os ns sent told
    by_test true needs =
        let parts = and_parts (halts code) (not (is_some e.errand)) needs in
        let none : e.errand ≡ None = no_errand e.errand parts.1 in
        let nothing = free e.state e.errand os (served_events e.line) c.tail none c.phase in
        let tail : s.tail ≡ [] = same_tail e.line (Finished n code ∷ ns) s.tail c.tail s.news c.news ∙ nothing.1 in
        let there : e.state ≡ Halted = halted_if e.state e.errand os (served_events e.line) c.tail fe.es n code fe.first parts.0 c.phase in
        let unsent : sent ≡ [] = s.sent_is ∙ ap (orders_sent b.errand) nothing.0 in
        record {
          reply = says;
          results = same;
          shows = record {
            tail = [];
            news = news [] tail;
            kept = left.0.kept;
            row = left.0.row;
            state = s.state;
            errand = refl;
            script_left = s.script_left;
            device_halted = s.device_halted;
            packets_received = s.packets_received;
            told_is = tells ∙ ap (λ l. told_of size (line_after n code e.line) (kept_after f.p code b.line) ++ tail_told size e.line b.line b.errand l) tail;
            sent_is = rw (unsent, nothing.0) refl;
            paused = tt;
            stands = λ q. absurd (stale_halted e.state (Some errand.Reset) (os ++ errand.Reset ∷ []) there q);
            known = λ q. absurd (cc (q, there));
          };
        }
    by_test false needs =
        record {
          reply = says;
          results = same;
          shows = rw (append-nil os, append-nil sent) (record {
            tail = s.tail;
            news = news s.tail refl;
            kept = left.0.kept;
            row = left.0.row;
            state = s.state;
            errand = s.errand;
            script_left = s.script_left;
            device_halted = s.device_halted;
            packets_received = s.packets_received;
            told_is = tells ∙ ap (λ l. told_of size (line_after n code e.line) (kept_after f.p code b.line) ++ l) (tail_same size e.line (line_after n code e.line) b.line (kept_after f.p code b.line) b.errand s.tail left.0.pause);
            sent_is = s.sent_is;
            paused = paused_same e.line (line_after n code e.line) s.tail left.0.first s.paused;
            stands = λ q. s.stands q ∙ left.0.front;
            known = λ q none. left.0.known (s.known q none);
          });
        }

-- the conclusion: the event's reading, and what handling it leaves
pub record FinishedShows (size ep : ℕ) (gone : Bool) (next : ℕ) (e : Endpoint) (os : List Errand) (ns : List Event) (b : KeptEndpoint) (sent : List SentErrand) (t : Telling) (told : List Telling) (n code : ℕ) : Type 0 where
  pub p : ℕ
  pub r : ℕ
  pub found : Reading
  pub event : t ≡ Transfer p r code
  pub read : reading b.line p r ≡ Some found
  pub live : found.kept.blank ≡ false
  pub handles : Handles size (deliver size ep gone e (Finished n code)) (finish gone next b p code found) os ns sent told

pub finished_shows : (size ep : ℕ) (gone : Bool) (next : ℕ) (e : Endpoint) (os : List Errand) (ns : List Event) (b : KeptEndpoint) (sent : List SentErrand) (t : Telling) (told : List Telling) (n code : ℕ)
    → IsCoherent e os (Finished n code ∷ ns) → ShowsEnd size e os (Finished n code ∷ ns) b sent (t ∷ told) → FinishedShows size ep gone next e os ns b sent t told n code
finished_shows size ep gone next e os ns b sent t told n code c s =
    let fe = first_end e os n code ns s.tail c s.news in
    let f = finds size e.line b.line b.end n code fe.es s.kept s.row c.in_order fe.first in
    let behind : List Telling = tail_told size e.line b.line b.errand s.tail in
    let split = heads_same t (telling_of size f.x f.y code) told (told_of size (past_number n e.line) (past_at f.p b.line) ++ behind) (s.told_is ∙ ap (λ l. l ++ behind) f.told) in
    record {
      p = f.p;
      r = residual f.y.lengths (count size f.x);
      found = record { kept = f.y; actual = count size f.x };
      event = split.0 ∙ ap (λ q. Transfer q (residual f.y.lengths (count size f.x)) code) (sym f.at);
      read = reads_at size b.line f.x f.y f.p f.live f.some f.at f.found;
      live = f.blank;
      handles = finish_handles size ep gone next e os ns b sent t told n code c s fe f split.1;
    }
