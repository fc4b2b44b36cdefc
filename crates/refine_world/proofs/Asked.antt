-- A transfer is asked to end: Stop is ordered where there is no errand.
use Rattle.std.proofs.Common.{Bool, List, None, Option, Some, [], ap, append-nil, ap₂, false, map, refl, subst, subst₂, sym, true, ℕ, ◌++◌, ◌==◌, ◌∙◌, ◌∷◌, ◌≡◌}
use Rattle.std.specs.Prelude.{if◌then◌else◌, is_some, not, ◌&&◌}
use Rattle.std.specs.Option.{option_map}
use Rattle.usb_model.specs.declared.errand.Errand.TheVariants as errand
use Rattle.usb_model.specs.declared.errand.Errand.{Errand}
use Rattle.usb_model.specs.declared.endpoint_effect.EndpointEffect.{EndpointEffect}
use Rattle.usb_model.specs.declared.endpoint.Endpoint.{Endpoint}
use Rattle.usb_model.specs.declared.endpoint.EndpointState.TheVariants.{Halted, Running, Stopped}
use Rattle.usb_model.specs.declared.endpoint.EndpointState.{EndpointState}
use Rattle.usb_model.specs.declared.item.Ask.{Ask}
use Rattle.usb_model.specs.declared.item.Item.{Item}
use Rattle.usb_model.specs.declared.item.ItemState.TheVariants.{Blank, Served, Waiting}
use Rattle.usb_model.specs.declared.item.ItemState.{ItemState}
use Rattle.usb_model.specs.declared.news.Event.TheVariants.{Finished, Paused, Settled}
use Rattle.usb_model.specs.declared.news.Event.{Event}
use Rattle.usb_model.specs.declared.reply.Reply.TheVariants as reply
use Rattle.usb_model.specs.Machine.Calls.{asks, with_ask}
use Rattle.usb_model.specs.Endpoint.{first_waiting, is_blank, is_waiting, is_waiting_state}
use Rattle.proof_model.proofs.Work.Errands.{events-with_ask}
use Rattle.usb_model.specs.Coherence.{IsCoherent, served_events}
use Rattle.refine_world.specs.ShownEndpoint.{AllKept, FirstPaused, FrontKnown, IsKept, ShowsEnd, count, front, is_stale, known_by, orders_sent, pause_told, tail_told, told_of}
use Rattle.usb_model.specs.Kept.{InRow, KeptEndpoint, KeptTransfer, SentErrand, Telling, first_place}
use Rattle.usb_model.specs.Events.{Handled, posts}
use Rattle.refine_world.specs.Kept.{Handles}
use Rattle.usb_model.specs.Joins.{asked, kept_ask}
use Rattle.refine_world.proofs.Finished.{same_tail, tail_same}
use Rattle.proof_model.proofs.Work.Phases.{free}

-- an item that was asked, beside the one that it was
record AskedItem (size : ℕ) (x : Item) (y : KeptTransfer) (x' : Item) (y' : KeptTransfer) : Type 0 where
  kept : IsKept size x' y'
  place : y'.place ≡ y.place
  lengths : y'.lengths ≡ y.lengths
  moved : y'.moved ≡ y.moved
  n : x'.n ≡ x.n
  state : x'.state ≡ x.state
  request : x'.request ≡ x.request
  share : x'.share ≡ x.share

asked_item : (size n : ℕ) (ask : Ask) (x : Item) (y : KeptTransfer) → IsKept size x y → AskedItem size x y (with_ask n ask x) (kept_ask n ask y)
asked_item size n ask x y k = by_blank (is_blank x) refl
  where
    same : AskedItem size x y x y
    same = record { kept = k; place = refl; lengths = refl; moved = refl; n = refl; state = refl; request = refl; share = refl }

    -- of a blank the core keeps nothing
    by_number : (t : Bool) → is_blank x ≡ true → AskedItem size x y (if t then record x { ask = Some ask } else x) y
    by_number true blank = record { kept = record { blank = k.blank; some = k.some; live = λ q. absurd (cc (q, blank)) }; place = refl; lengths = refl; moved = refl; n = refl; state = refl; request = refl; share = refl }
    by_number false blank = same

    both : (t : Bool) → is_blank x ≡ false → AskedItem size x y (if t then record x { ask = Some ask } else x) (if t then record y { ask = Some ask } else y)
    both true live =
        let l = k.live live in
        record {
          kept = record { blank = k.blank; some = k.some; live = λ q. record { n = l.n; request = l.request; round = l.round; ask = refl; bytes = l.bytes; lengths = l.lengths; fits = l.fits; unmoved = l.unmoved } };
          place = refl;
          lengths = refl;
          moved = refl;
          n = refl;
          state = refl;
          request = refl;
          share = refl;
        }
    both false live = same

    by_blank : (t : Bool) → is_blank x ≡ t → AskedItem size x y (with_ask n ask x) (kept_ask n ask y)
    by_blank true blank =
        let test : (not y.blank && (y.n == n)) ≡ false = ap (λ b. not b && (y.n == n)) (k.blank ∙ blank) in
        subst (λ t. AskedItem size x y (with_ask n ask x) (if t then record y { ask = Some ask } else y)) (sym test) (by_number (x.n == n) blank)
    by_blank false blank =
        let test : (not y.blank && (y.n == n)) ≡ (x.n == n) = ap₂ (λ b m. not b && (m == n)) (k.blank ∙ blank) (k.live blank).n in
        subst (λ t. AskedItem size x y (with_ask n ask x) (if t then record y { ask = Some ask } else y)) (sym test) (both (x.n == n) blank)

-- the line with the ask
record AskedLine (size : ℕ) (xs : List Item) (ys : List KeptTransfer) (end : ℕ) (xs' : List Item) (ys' : List KeptTransfer) : Type 0 where
  kept : AllKept size xs' ys'
  row : InRow ys' end
  begins : first_place ys' end ≡ first_place ys end
  told : told_of size xs' ys' ≡ told_of size xs ys
  stands : front size xs' ys' end ≡ front size xs ys end
  pause : pause_told size xs ys ≡ pause_told size xs' ys'
  known : FrontKnown size xs ys → FrontKnown size xs' ys'
  first : (z : Item) → first_waiting xs ≡ Some z → (z' : Item) × (first_waiting xs' ≡ Some z') × (z'.n ≡ z.n)

asked_line : (size n : ℕ) (ask : Ask) (xs : List Item) (ys : List KeptTransfer) (end : ℕ) → AllKept size xs ys → InRow ys end → AskedLine size xs ys end (map (with_ask n ask) xs) (map (kept_ask n ask) ys)
unfolding told_of front pause_told first_waiting
asked_line size n ask [] [] end k row = record { kept = tt; row = tt; begins = refl; told = refl; stands = refl; pause = refl; known = λ q. tt; first = λ z e. absurd cc }
asked_line size n ask [] (y ∷ ys) end k row = absurd k
asked_line size n ask (x ∷ xs) [] end k row = absurd k
asked_line size n ask (x ∷ xs) (y ∷ ys) end k row = one (with_ask n ask x) (kept_ask n ask y) (asked_item size n ask x y k.0) (asked_line size n ask xs ys end k.1 row.1)
  where
    one : (x' : Item) (y' : KeptTransfer) → AskedItem size x y x' y' → AskedLine size xs ys end (map (with_ask n ask) xs) (map (kept_ask n ask) ys) → AskedLine size (x ∷ xs) (y ∷ ys) end (x' ∷ map (with_ask n ask) xs) (y' ∷ map (kept_ask n ask) ys)
    one x' y' a r = record {
      kept = (a.kept, r.kept);
      row = (rw (a.place, a.lengths) (r.begins ∙ row.0), r.row);
      begins = a.place;
      told = rw (a.state, a.place, a.lengths, a.request, a.share, r.told) refl;
      stands = rw (a.state, a.place, a.lengths, a.request, a.share, r.stands) refl;
      pause = rw (a.state, a.place, a.lengths, a.request, a.share, r.pause) refl;
      known = rw (a.state, a.moved, a.request, a.share) (by_known x.state r.known);
      first = λ z e. by_first z (is_waiting x) (is_waiting x') (ap is_waiting_state a.state) e (r.first z) a.n;
    }
      where
        by_known : (s : ItemState) → (FrontKnown size xs ys → FrontKnown size (map (with_ask n ask) xs) (map (kept_ask n ask) ys)) → known_by s (y.moved ≡ count size x) (FrontKnown size xs ys) → known_by s (y.moved ≡ count size x) (FrontKnown size (map (with_ask n ask) xs) (map (kept_ask n ask) ys))
        by_known Waiting rest q = q
        by_known (Served c) rest q = rest q
        by_known Blank rest q = rest q

        by_first : (z : Item) (t u : Bool) → u ≡ t → (if t then Some x else first_waiting xs) ≡ Some z → (first_waiting xs ≡ Some z → (z' : Item) × (first_waiting (map (with_ask n ask) xs) ≡ Some z') × (z'.n ≡ z.n)) → x'.n ≡ x.n
            → (z' : Item) × ((if u then Some x' else first_waiting (map (with_ask n ask) xs)) ≡ Some z') × (z'.n ≡ z.n)
        by_first z true true v e rest q = let same : x ≡ z = cc in (x', refl, q ∙ ap (λ i. i.n) same)
        by_first z false false v e rest q = rest e
        by_first z true false v e rest q = absurd cc
        by_first z false true v e rest q = absurd cc

-- what is told behind, and whose a pause is
asked_tail : (size : ℕ) (xs xs' : List Item) (ys ys' : List KeptTransfer) (sent : Option SentErrand) (tail : List Event) → pause_told size xs ys ≡ pause_told size xs' ys' → ((z : Item) → first_waiting xs ≡ Some z → (z' : Item) × (first_waiting xs' ≡ Some z') × (z'.n ≡ z.n)) → FirstPaused xs tail → FirstPaused xs' tail
asked_tail size xs xs' ys ys' sent [] e f p = tt
asked_tail size xs xs' ys ys' sent (Finished n code ∷ es) e f p = asked_tail size xs xs' ys ys' sent es e f p
asked_tail size xs xs' ys ys' sent (Paused n ∷ es) e f p = let q = f p.0.0 p.0.1 in ((q.0, q.1, q.2 ∙ p.0.2), asked_tail size xs xs' ys ys' sent es e f p.1)
asked_tail size xs xs' ys ys' sent (Settled errand ok ∷ es) e f p = asked_tail size xs xs' ys ys' sent es e f p

-- an ask that is accepted
pub asks_show : (size next : ℕ) (e : Endpoint) (os : List Errand) (ns : List Event) (b : KeptEndpoint) (sent : List SentErrand) (told : List Telling) (n : ℕ) (ask : Ask) → IsCoherent e os ns → ShowsEnd size e os ns b sent told
    → Handles size (asks e n ask) (asked next b n ask) os ns sent told
unfolding asks
asks_show size next e os ns b sent told n ask c s = subst (λ u. Handles size (doing (is_some e.errand)) (done u) os ns sent told) (sym same) (by_test (is_some e.errand) refl)
  where
    line : List Item
    line = map (with_ask n ask) e.line

    kept : List KeptTransfer
    kept = map (kept_ask n ask) b.line

    l : AskedLine size e.line b.line b.end line kept
    l = asked_line size n ask e.line b.line b.end s.kept s.row

    ends : (w : Option SentErrand) → tail_told size e.line b.line w s.tail ≡ tail_told size line kept w s.tail
    ends w = tail_same size e.line line b.line kept w s.tail l.pause

    stop_fresh : (t : EndpointState) (os : List Errand) → is_stale t (Some errand.Stop) os ≡ false → is_stale t None [] ≡ false
    stop_fresh Running os q = refl
    stop_fresh Stopped os q = refl
    stop_fresh Halted os q = absurd cc

    doing : Bool → EndpointEffect
    doing t = record { reply = reply.Done; endpoint = record e { line = line; errand = if t then e.errand else Some errand.Stop }; orders = if t then [] else errand.Stop ∷ []; news = []; results = [] }

    done : Bool → Handled
    done t = if t then record { reply = reply.Done; endpoint = record b { line = kept }; orders = []; results = [] } else posts (record b { line = kept }) errand.Stop next reply.Done []

    there : (w : Option SentErrand) → is_some w ≡ is_some (option_map (λ z. z.errand) w)
    there None = refl
    there (Some z) = refl

    same : is_some b.errand ≡ is_some e.errand
    same = there b.errand ∙ ap is_some s.errand

    nothing : (er : Option Errand) → is_some er ≡ false → er ≡ None
    nothing None q = refl
    nothing (Some x) q = absurd cc

    by_test : (t : Bool) → is_some e.errand ≡ t → Handles size (doing t) (done t) os ns sent told
    by_test false none_there =
        let er : e.errand ≡ None = nothing e.errand none_there in
        let none = free e.state e.errand os (served_events e.line) c.tail er c.phase in
        let tail : s.tail ≡ [] = same_tail e.line ns s.tail c.tail s.news c.news ∙ none.1 in
        let unsent : sent ≡ [] = s.sent_is ∙ ap (orders_sent b.errand) none.0 in
        record {
          reply = refl;
          results = refl;
          shows = record {
            tail = s.tail;
            news = s.news ∙ ap (λ k. k ++ s.tail) (sym (events-with_ask n ask e.line));
            kept = l.kept;
            row = l.row;
            state = s.state;
            errand = refl;
            script_left = s.script_left;
            device_halted = s.device_halted;
            packets_received = s.packets_received;
            told_is = s.told_is ∙ ap₂ (λ k m. k ++ m) (sym l.told) (ap (tail_told size e.line b.line b.errand) tail ∙ sym (ap (tail_told size line kept (Some (record { errand = errand.Stop; index = next }))) tail));
            sent_is = rw (unsent, none.0) refl;
            stands = λ q. s.stands (subst₂ (λ y m. is_stale e.state y m ≡ false) (sym er) (sym none.0) (stop_fresh e.state (os ++ errand.Stop ∷ []) q)) ∙ sym l.stands;
            paused = asked_tail size e.line line b.line kept b.errand s.tail l.pause l.first s.paused;
            known = λ q r. l.known (s.known q r);
          };
        }
    by_test true some_there =
        record {
          reply = refl;
          results = refl;
          shows = rw (append-nil os, append-nil sent) (record {
            tail = s.tail;
            news = s.news ∙ ap (λ k. k ++ s.tail) (sym (events-with_ask n ask e.line));
            kept = l.kept;
            row = l.row;
            state = s.state;
            errand = s.errand;
            script_left = s.script_left;
            device_halted = s.device_halted;
            packets_received = s.packets_received;
            told_is = s.told_is ∙ ap₂ (λ k m. k ++ m) (sym l.told) (ends b.errand);
            sent_is = s.sent_is;
            stands = λ q. s.stands q ∙ sym l.stands;
            paused = asked_tail size e.line line b.line kept b.errand s.tail l.pause l.first s.paused;
            known = λ q r. l.known (s.known q r);
          });
        }
