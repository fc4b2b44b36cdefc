-- Each transfer of a line has at most 5 TRBs; and while the controller stands at the first that waits, the line's first place is no further on.
use Rattle.std.proofs.Common.{Bool, List, None, Option, Some, [], ap, arith, false, length, map, refl, subst, true, ℕ, ◌&&◌, ◌+◌, ◌++◌, ◌≤◌, ◌==◌, ◌∷◌, ◌≡◌}
use Rattle.std.specs.Prelude.{nat_lt, ◌-◌, if◌then◌else◌, is_some, not}
use Rattle.usb_model.specs.declared.errand.Errand.TheVariants as errand
use Rattle.usb_model.specs.declared.errand.Errand.{Errand}
use Rattle.usb_model.specs.declared.endpoint.Endpoint.{Endpoint}
use Rattle.usb_model.specs.declared.endpoint.EndpointState.TheVariants.{Halted, Running, Stopped}
use Rattle.usb_model.specs.declared.endpoint.EndpointState.{EndpointState}
use Rattle.usb_model.specs.declared.item.Ask.{Ask}
use Rattle.usb_model.specs.declared.item.Item.{Item}
use Rattle.usb_model.specs.declared.news.Event.{Event}
use Rattle.usb_model.specs.declared.reply.Reply.TheVariants as reply
use Rattle.usb_model.specs.declared.reply.Reply.{Reply}
use Rattle.usb_model.specs.declared.request.Request.{Request}
use Rattle.usb_model.specs.Endpoint.Deliver.{needs_reset}
use Rattle.usb_model.specs.Endpoint.{is_waiting}
use Rattle.usb_model.specs.Requests.{length_of}
use Rattle.usb_model.specs.Endpoint.Status.{halts}
use Rattle.std.proofs.lemmas.Option.{same_Some}
use Rattle.refine_world.specs.ShownEndpoint.{AllFew, IsFew, AllKept, ShowsEnd, front, front_of, is_stale}
use Rattle.usb_model.specs.Kept.{InRow, KeptEndpoint, KeptTransfer, SentErrand, Telling, first_place, is_extra}
use Rattle.usb_model.specs.Commands.{carry}
use Rattle.usb_model.specs.Events.{read_at, reading, Handled, Reading, covers, errand_of, find_at, finish, kept_after, kept_result, past_at, past_kept_blanks, posts}
use Rattle.usb_model.specs.Joins.{asked, joined, kept_ask, new_kept}
use Rattle.usb_model.specs.Packets.{Packet, answer_now, answered_by, answered_gone, endpoint_with, gave, packet_now, put_at, sent_before, serve_at, serve_kept}
use Rattle.usb_model.specs.Settlements.{kept_blanked, kept_withdrawn, leads_kept, pauses, resume_kept, settle, withdrawn_results}
use Rattle.usb_model.specs.Stands.{length_at, read_off}
use Rattle.refine_world.proofs.Budget.{few_trbs, ring_fits}

few_put : (p : ℕ) (z : KeptTransfer) (ys : List KeptTransfer) → IsFew z → AllFew ys → AllFew (put_at p z ys)
unfolding put_at
few_put p z [] f a = tt
few_put p z (y ∷ ys) f a = by_test (covers p y) (few_put p z ys f a.1)
  where
    by_test : (t : Bool) → AllFew (put_at p z ys) → AllFew (if t then z ∷ ys else y ∷ put_at p z ys)
    by_test true rest = (f, a.1)
    by_test false rest = (a.0, rest)

pub few_find : (p : ℕ) (y : KeptTransfer) (ys : List KeptTransfer) → AllFew ys → find_at p ys ≡ Some y → IsFew y
unfolding find_at
few_find p y [] a q = absurd cc
few_find p y (z ∷ ys) a q = by_test (covers p z) q (few_find p y ys a.1)
  where
    by_test : (t : Bool) → (if t then Some z else find_at p ys) ≡ Some y → (find_at p ys ≡ Some y → IsFew y) → IsFew y
    by_test true e rest = subst IsFew (same_Some z y e) a.0
    by_test false e rest = rest e

few_past : (p : ℕ) (ys : List KeptTransfer) → AllFew ys → AllFew (past_at p ys)
unfolding past_at
few_past p [] a = tt
few_past p (y ∷ ys) a = by_test (covers p y) (few_past p ys a.1)
  where
    by_test : (t : Bool) → AllFew (past_at p ys) → AllFew (if t then ys else past_at p ys)
    by_test true rest = a.1
    by_test false rest = rest

few_blanks : (ys : List KeptTransfer) → AllFew ys → AllFew (past_kept_blanks ys)
unfolding past_kept_blanks
few_blanks [] a = tt
few_blanks (y ∷ ys) a = by_test y.blank (few_blanks ys a.1)
  where
    by_test : (t : Bool) → AllFew (past_kept_blanks ys) → AllFew (if t then past_kept_blanks ys else y ∷ ys)
    by_test true rest = rest
    by_test false rest = a

few_map : (f : KeptTransfer → KeptTransfer) (ys : List KeptTransfer) → ((y : KeptTransfer) → IsFew y → IsFew (f y)) → AllFew ys → AllFew (map f ys)
few_map f [] g a = tt
few_map f (y ∷ ys) g a = (g y a.0, few_map f ys g a.1)

few_push : (ys : List KeptTransfer) (z : KeptTransfer) → IsFew z → AllFew ys → AllFew (ys ++ z ∷ [])
few_push [] z f a = (f, tt)
few_push (y ∷ ys) z f a = (a.0, few_push ys z f a.1)

few_blanked : (y : KeptTransfer) → IsFew y → IsFew (kept_blanked y)
few_blanked y f = by_test (kept_withdrawn y)
  where
    by_test : (t : Bool) → IsFew (if t then record y { blank = true } else y)
    by_test true = f
    by_test false = f

few_ask : (n : ℕ) (ask : Ask) (y : KeptTransfer) → IsFew y → IsFew (kept_ask n ask y)
few_ask n ask y f = by_test (not y.blank && (y.n == n))
  where
    by_test : (t : Bool) → IsFew (if t then record y { ask = Some ask } else y)
    by_test true = f
    by_test false = f

-- each kind of work keeps it
pub serve_few : (size : ℕ) (gone : Bool) (b : KeptEndpoint) → AllFew b.line → AllFew (serve_kept size gone b).endpoint.line
unfolding serve_kept serve_at answered_by answered_gone
serve_few size gone b a = by_state gone b.state (find_at b.dequeue b.line) refl
  where
    by_code : (y : KeptTransfer) (k : Packet) (o : Option ℕ) → IsFew y → AllFew (answered_by b y k o).endpoint.line
    by_code y k None f = few_put b.dequeue _ b.line f a
    by_code y k (Some code) f = by_halt (halts code)
      where
        by_halt : (t : Bool) → AllFew (if◌then◌else◌ {A = KeptEndpoint} t (record (endpoint_with b y k (gave y.request.body (answer_now b) (sent_before b y) k.bytes)) { state = Halted })
            (record (endpoint_with b y k (gave y.request.body (answer_now b) (sent_before b y) k.bytes)) { dequeue = first_place (past_kept_blanks (past_at b.dequeue b.line)) b.end; within = 0 })).line
        by_halt true = few_put b.dequeue _ b.line f a
        by_halt false = few_put b.dequeue _ b.line f a

    by_state : (g : Bool) (s : EndpointState) (o : Option KeptTransfer) → find_at b.dequeue b.line ≡ o → AllFew (serve_at size g b s o).endpoint.line
    by_state true Running (Some y) q = a
    by_state false Running (Some y) q = by_code y (packet_now size b y) (packet_now size b y).code (few_find b.dequeue y b.line a q)
    by_state true Running None q = a
    by_state false Running None q = a
    by_state true Stopped o q = a
    by_state false Stopped o q = a
    by_state true Halted o q = a
    by_state false Halted o q = a

pub carry_few : (index : ℕ) (b : KeptEndpoint) (o : Errand) (s : EndpointState) → AllFew b.line → AllFew (carry index b o s).endpoint.line
unfolding carry
carry_few index b errand.Stop Running a = a
carry_few index b errand.Stop Stopped a = a
carry_few index b errand.Stop Halted a = a
carry_few index b errand.Reset Running a = a
carry_few index b errand.Reset Stopped a = a
carry_few index b errand.Reset Halted a = a
carry_few index b errand.Move Running a = a
carry_few index b errand.Move Stopped a = a
carry_few index b errand.Move Halted a = a

pub finish_few : (gone : Bool) (next : ℕ) (b : KeptEndpoint) (p code : ℕ) (found : Reading) → AllFew b.line → AllFew (finish gone next b p code found).endpoint.line
unfolding finish
finish_few gone next b p code found a = by_test (needs_reset code (errand_of b.errand))
  where
    after : AllFew (kept_after p code b.line)
    after = by_halt (halts code)
      where
        by_halt : (t : Bool) → AllFew (if t then past_at p b.line else past_kept_blanks (past_at p b.line))
        by_halt true = few_past p b.line a
        by_halt false = few_blanks (past_at p b.line) (few_past p b.line a)

    by_test : (t : Bool) → AllFew (if◌then◌else◌ {A = Handled} t (posts (record b { line = kept_after p code b.line }) errand.Reset next (reply.Finished found.kept.n) (kept_result gone code found.kept found.actual ∷ []))
        (record { reply = reply.Finished found.kept.n; endpoint = record b { line = kept_after p code b.line }; orders = []; results = kept_result gone code found.kept found.actual ∷ [] })).endpoint.line
    by_test true = after
    by_test false = after

pub pauses_few : (b : KeptEndpoint) (p : ℕ) (found : Reading) → AllFew b.line → find_at p b.line ≡ Some found.kept → AllFew (pauses b p found).endpoint.line
pauses_few b p found a q = few_put p _ b.line (few_find p found.kept b.line a q) a

pub settle_few : (ep next : ℕ) (b : KeptEndpoint) (o : Errand) (ok : Bool) → AllFew b.line → AllFew (settle ep next b o ok).endpoint.line
unfolding settle resume_kept
settle_few ep next b o ok a = by_errand o ok
  where
    resumed : (r : Reply) (line : List KeptTransfer) → AllFew line → AllFew (resume_kept next b r line).endpoint.line
    resumed r line l = by_test (leads_kept (map kept_blanked line))
      where
        by_test : (t : Bool) → AllFew (if◌then◌else◌ {A = Handled} t (posts (record b { line = map kept_blanked line }) errand.Move next r (withdrawn_results line))
            (record { reply = r; endpoint = record b { line = map kept_blanked line; errand = None; state = Running }; orders = []; results = withdrawn_results line })).endpoint.line
        by_test true = few_map kept_blanked line few_blanked l
        by_test false = few_map kept_blanked line few_blanked l

    by_errand : (x : Errand) (t : Bool) → AllFew (settle ep next b x t).endpoint.line
    by_errand errand.Stop false = a
    by_errand errand.Stop true = resumed (reply.Settled ep errand.Stop true) b.line a
    by_errand errand.Reset t = few_map kept_blanked b.line few_blanked a
    by_errand errand.Move t = resumed (reply.Settled ep errand.Move t) (past_kept_blanks b.line) (few_blanks b.line a)

pub asked_few : (next : ℕ) (b : KeptEndpoint) (n : ℕ) (ask : Ask) → AllFew b.line → AllFew (asked next b n ask).endpoint.line
asked_few next b n ask a = by_test (is_some b.errand)
  where
    by_test : (t : Bool) → AllFew (if◌then◌else◌ {A = Handled} t (record { reply = reply.Done; endpoint = record b { line = map (kept_ask n ask) b.line }; orders = []; results = [] })
        (posts (record b { line = map (kept_ask n ask) b.line }) errand.Stop next reply.Done [])).endpoint.line
    by_test true = few_map (kept_ask n ask) b.line (few_ask n ask) a
    by_test false = few_map (kept_ask n ask) b.line (few_ask n ask) a

pub joined_few : (size : ℕ) (b : KeptEndpoint) (n : ℕ) (request : Request) (round : ℕ) → length_of request.body ≤ 262144 → AllFew b.line → AllFew (joined size b n request round).line
joined_few size b n request round short a = few_push b.line (new_kept size b.end n request round) (few_trbs (is_extra size request request.body) (length_of request.body) short) a

-- the first that waits stands at the line's first place or behind it
pub front_behind : (size : ℕ) (xs : List Item) (ys : List KeptTransfer) (end : ℕ) → AllKept size xs ys → InRow ys end → first_place ys end ≤ (front size xs ys end).place
unfolding front
front_behind size [] [] end k row = omega arith
front_behind size [] (y ∷ ys) end k row = absurd k
front_behind size (x ∷ xs) [] end k row = absurd k
front_behind size (x ∷ xs) (y ∷ ys) end k row = by_test (is_waiting x) (front_behind size xs ys end k.1 row.1)
  where
    by_test : (t : Bool) → first_place ys end ≤ (front size xs ys end).place → y.place ≤ (if t then front_of size x y else front size xs ys end).place
    by_test true le = omega arith
    by_test false le = omega (arith, le, row.0)

-- so while the controller stands there, so does its dequeue place
pub near_fresh : (size : ℕ) (e : Endpoint) (os : List Errand) (ns : List Event) (b : KeptEndpoint) (sent : List SentErrand) (told : List Telling) → ShowsEnd size e os ns b sent told → is_stale e.state e.errand os ≡ false → first_place b.line b.end ≤ b.dequeue
near_fresh size e os ns b sent told s fresh = omega (arith, front_behind size e.line b.line b.end s.kept s.row, ap (λ f. f.place) (s.stands fresh))

-- then the ring has room: 85 places at most are in use
pub fits_fresh : (size : ℕ) (e : Endpoint) (os : List Errand) (ns : List Event) (b : KeptEndpoint) (sent : List SentErrand) (told : List Telling) → ShowsEnd size e os ns b sent told → is_stale e.state e.errand os ≡ false → AllFew b.line → length b.line ≤ 16 → b.end ≤ b.dequeue + 85
fits_fresh size e os ns b sent told s fresh few short =
    let le = near_fresh size e os ns b sent told s fresh in
    (ring_fits b.line b.end b.dequeue s.row few short (omega (arith, le))).1

-- an event's reading is of an item that is found
pub read_found : (p r : ℕ) (ys : List KeptTransfer) (found : Reading) → reading ys p r ≡ Some found → find_at p ys ≡ Some found.kept
read_found p r ys found q = by_found (find_at p ys) q
  where
    by_found : (o : Option KeptTransfer) → read_at p r o ≡ Some found → o ≡ Some found.kept
    by_found None e = absurd cc
    by_found (Some y) e = by_test (nat_lt (length_at y.lengths (p - y.place)) r) e
      where
        by_test : (t : Bool) → (if t then None else Some (record { kept = y; actual = read_off y.lengths (p - y.place) r })) ≡ Some found → Some y ≡ Some found.kept
        by_test true k = absurd cc
        by_test false k = ap (λ (f : Reading). Some f.kept) (same_Some (record { kept = y; actual = read_off y.lengths (p - y.place) r }) found k)
