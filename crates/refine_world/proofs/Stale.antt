-- An endpoint stays near, stale or not, where an event is handled, a transfer joins or one is asked to end.
use Rattle.std.proofs.Common.{Bool, List, None, Option, Some, [], ap, ap₂, append-nil, arith, false, inl, inr, length, map, not, refl, subst, sym, true, ℕ, ◌+◌, ◌++◌, ◌<◌, ◌≤◌, ◌∙◌, ◌∷◌, ◌≡◌}
use Rattle.std.specs.Prelude.{if◌then◌else◌, is_some}
use Rattle.std.proofs.lemmas.Bool.{and_parts}
use Rattle.proof_model.proofs.Coherence.Delivers.{past_told}
use Rattle.usb_model.specs.Coherence.{EndsStop, IsCoherent, IsPhase, ended, move_ran, move_waits, reset_ran, reset_waits, runs, served_events, stop_failed, stop_ran, stop_ran_paused, stop_waits, stop_waits_halted}
use Rattle.usb_model.specs.Endpoint.Deliver.{deliver, finished_result, line_after, needs_reset, orders_errand}
use Rattle.usb_model.specs.Endpoint.Status.{halts}
use Rattle.usb_model.specs.Endpoint.{in_progress}
use Rattle.usb_model.specs.declared.endpoint.Endpoint.{Endpoint}
use Rattle.usb_model.specs.declared.endpoint.EndpointState.{EndpointState}
use Rattle.usb_model.specs.declared.endpoint.EndpointState.TheVariants.{Running}
use Rattle.usb_model.specs.declared.endpoint_effect.EndpointEffect.{EndpointEffect}
use Rattle.usb_model.specs.declared.errand.Errand.TheVariants as errand
use Rattle.usb_model.specs.declared.errand.Errand.{Errand}
use Rattle.usb_model.specs.declared.item.Ask.{Ask}
use Rattle.usb_model.specs.declared.news.Event.TheVariants.{Finished, Settled}
use Rattle.usb_model.specs.declared.news.Event.{Event}
use Rattle.usb_model.specs.declared.reply.Reply.TheVariants as reply
use Rattle.usb_model.specs.declared.reply.Reply.{Reply}
use Rattle.usb_model.specs.declared.request.Request.{Request}
use Rattle.usb_model.specs.Events.{Handled, Reading, errand_of, find_at, finish, kept_after, kept_result, past_at, past_kept_blanks, posts}
use Rattle.usb_model.specs.Joins.{asked, joined, kept_ask, new_kept}
use Rattle.usb_model.specs.Kept.{InRow, KeptEndpoint, KeptTransfer, SentErrand, Telling, Transfer, first_place, trbs_of}
use Rattle.usb_model.specs.Settlements.{kept_blanked, leads_kept, pauses, resume_kept, settle, withdrawn_results}
use Rattle.refine_world.specs.ShownEndpoint.{AllBefore, AllFew, IsNear, ShowsEnd, StandsNear, is_stale}
use Rattle.refine_world.proofs.Ahead.{told_near}
use Rattle.refine_world.proofs.FirstServed.{Less, blanks_leave}
use Rattle.refine_world.proofs.Finished.{FirstEnd, first_end}
use Rattle.refine_world.proofs.RoomAndDequeue.{few_find, front_behind}
use Rattle.refine_world.proofs.Places.{ask_place, blanked_place, is_at, map_first, push_first, put_first}
use Rattle.refine_world.proofs.Settled.{EndWays, end_ways, none_served}

-- behind an end that doesn't halt, another is told that does
stops_later : (es rest : List Event) (n code : ℕ) → es ≡ Finished n code ∷ rest → halts code ≡ false → EndsStop es → 0 < length rest
stops_later es rest n code is on e = by_stop (subst EndsStop is e)
  where
    by_rest : (l : List Event) → EndsStop l → 0 < length l
    by_rest [] e = absurd e
    by_rest (x ∷ xs) e = omega arith

    by_stop : EndsStop (Finished n code ∷ rest) → 0 < length rest
    by_stop (inl (halt, none)) = absurd cc
    by_stop (inr (go, e)) = by_rest rest e

-- so where the endpoint is stale
more_told : (s : EndpointState) (er : Option Errand) (os : List Errand) (es tail rest : List Event) (n code : ℕ) → es ≡ Finished n code ∷ rest → halts code ≡ false → is_stale s er os ≡ true → IsPhase s er os es tail → 0 < length rest
more_told s er os es tail rest n code is on stale (runs g) = absurd cc
more_told s er os es tail rest n code is on stale (ended g) = stops_later es rest n code is on g
more_told s er os es tail rest n code is on stale (stop_waits g) = absurd cc
more_told s er os es tail rest n code is on stale (stop_waits_halted (inl none)) = absurd cc
more_told s er os es tail rest n code is on stale (stop_waits_halted (inr g)) = stops_later es rest n code is on g
more_told s er os es tail rest n code is on stale (stop_ran g) = absurd cc
more_told s er os es tail rest n code is on stale (stop_ran_paused g) = absurd cc
more_told s er os es tail rest n code is on stale (stop_failed (inl none)) = absurd cc
more_told s er os es tail rest n code is on stale (stop_failed (inr g)) = stops_later es rest n code is on g
more_told s er os es tail rest n code is on stale reset_waits = absurd cc
more_told s er os es tail rest n code is on stale reset_ran = absurd cc
more_told s er os es tail rest n code is on stale move_waits = absurd cc
more_told s er os es tail rest n code is on stale move_ran = absurd cc

-- what an end leaves in the definitions: the line; and a stale endpoint was stale, where it doesn't halt
deliver_leaves : (size ep : ℕ) (gone : Bool) (e : Endpoint) (os : List Errand) (n code : ℕ) → ((deliver size ep gone e (Finished n code)).endpoint.line ≡ line_after n code e.line)
    × (halts code ≡ false → is_stale (deliver size ep gone e (Finished n code)).endpoint.state (deliver size ep gone e (Finished n code)).endpoint.errand (os ++ (deliver size ep gone e (Finished n code)).orders) ≡ true → is_stale e.state e.errand os ≡ true)
unfolding deliver
deliver_leaves size ep gone e os n code = by_test (needs_reset code e.errand) refl
  where
    halted : EndpointEffect
    halted = orders_errand (record e { line = line_after n code e.line }) errand.Reset (reply.Finished n) (finished_result size gone code (in_progress n e.line))

    on : EndpointEffect
    on = record { reply = reply.Finished n; endpoint = record e { line = line_after n code e.line }; orders = []; news = []; results = finished_result size gone code (in_progress n e.line) }

    by_test : (t : Bool) → needs_reset code e.errand ≡ t → ((if◌then◌else◌ {A = EndpointEffect} t halted on).endpoint.line ≡ line_after n code e.line)
        × (halts code ≡ false → is_stale (if◌then◌else◌ {A = EndpointEffect} t halted on).endpoint.state (if◌then◌else◌ {A = EndpointEffect} t halted on).endpoint.errand (os ++ (if◌then◌else◌ {A = EndpointEffect} t halted on).orders) ≡ true → is_stale e.state e.errand os ≡ true)
    by_test true needs = (refl, λ goes stale. absurd (cc (goes, (and_parts (halts code) (not (is_some e.errand)) needs).0)))
    by_test false needs = (refl, λ goes stale. subst (λ l. is_stale e.state e.errand l ≡ true) (append-nil os) stale)

-- and what the core keeps
finish_leaves : (gone : Bool) (next : ℕ) (b : KeptEndpoint) (p code : ℕ) (found : Reading)
    → ((finish gone next b p code found).endpoint.line ≡ kept_after p code b.line) × ((finish gone next b p code found).endpoint.end ≡ b.end) × ((finish gone next b p code found).endpoint.dequeue ≡ b.dequeue)
unfolding finish
finish_leaves gone next b p code found = by_test (needs_reset code (errand_of b.errand))
  where
    halted : Handled
    halted = posts (record b { line = kept_after p code b.line }) errand.Reset next (reply.Finished found.kept.n) (kept_result gone code found.kept found.actual ∷ [])

    on : Handled
    on = record { reply = reply.Finished found.kept.n; endpoint = record b { line = kept_after p code b.line }; orders = []; results = kept_result gone code found.kept found.actual ∷ [] }

    by_test : (t : Bool) → ((if◌then◌else◌ {A = Handled} t halted on).endpoint.line ≡ kept_after p code b.line) × ((if◌then◌else◌ {A = Handled} t halted on).endpoint.end ≡ b.end) × ((if◌then◌else◌ {A = Handled} t halted on).endpoint.dequeue ≡ b.dequeue)
    by_test true = (refl, refl, refl)
    by_test false = (refl, refl, refl)

-- an end is handled at a stale endpoint: what leaves began where the controller stands or before, or another end is told
pub finish_near : (size ep : ℕ) (gone : Bool) (next : ℕ) (e : Endpoint) (os : List Errand) (ns : List Event) (b : KeptEndpoint) (sent : List SentErrand) (t : Telling) (told : List Telling) (n code p r : ℕ) (found : Reading)
    → IsCoherent e os (Finished n code ∷ ns) → InRow b.line b.end → AllFew b.line → StandsNear b (t ∷ told) → t ≡ Transfer p r code → find_at p b.line ≡ Some found.kept
    → ShowsEnd size (deliver size ep gone e (Finished n code)).endpoint (os ++ (deliver size ep gone e (Finished n code)).orders) ns (finish gone next b p code found).endpoint sent told
    → is_stale (deliver size ep gone e (Finished n code)).endpoint.state (deliver size ep gone e (Finished n code)).endpoint.errand (os ++ (deliver size ep gone e (Finished n code)).orders) ≡ true
    → StandsNear (finish gone next b p code found).endpoint told
finish_near size ep gone next e os ns b sent t told n code p r found c row few near event there s stale =
    record { near = by_halt (halts code) refl; inside = omega (arith, k.1, k.2, near.inside); before = before }
  where
    after : KeptEndpoint
    after = (finish gone next b p code found).endpoint

    k : (after.line ≡ kept_after p code b.line) × (after.end ≡ b.end) × (after.dequeue ≡ b.dequeue)
    k = finish_leaves gone next b p code found

    before : AllBefore after.dequeue told
    before = subst (λ q. AllBefore q told) (sym k.2) near.before.1

    reached : p ≤ b.dequeue
    reached = (subst (λ u. AllBefore b.dequeue (u ∷ told)) event near.before).0

    by_halt : (u : Bool) → halts code ≡ u → first_place after.line after.end ≤ after.dequeue + 5
    by_halt true halt =
        let passed : kept_after p code b.line ≡ past_at p b.line = ap (λ u. if u then past_at p b.line else past_kept_blanks (past_at p b.line)) halt in
        let a = is_at p found.kept b.line b.end row there in
        omega (arith, ap₂ first_place (k.0 ∙ passed) k.1, k.2, a.behind, a.low, few_find p found.kept b.line few there, reached)
    by_halt false on =
        let fe : FirstEnd e.line c.tail ns n code = first_end e os n code ns c.tail c c.news in
        let was : is_stale e.state e.errand os ≡ true = (deliver_leaves size ep gone e os n code).1 on stale in
        let left : served_events (deliver size ep gone e (Finished n code)).endpoint.line ≡ fe.es = ap served_events (deliver_leaves size ep gone e os n code).0 ∙ (past_told e.line n code fe.es c.in_order fe.first).0 in
        let some : 0 < length fe.es = more_told e.state e.errand os (served_events e.line) c.tail fe.es n code fe.first on was c.phase in
        omega (arith, told_near size _ _ ns after sent told s (omega (arith, ap length left, some)) before)

-- a pause is handled
pub pauses_near : (b : KeptEndpoint) (t : Telling) (told : List Telling) (p : ℕ) (found : Reading) → StandsNear b (t ∷ told) → find_at p b.line ≡ Some found.kept → StandsNear (pauses b p found).endpoint told
pauses_near b t told p found near there =
    record { near = omega (arith, near.near, put_first p found.kept (record found.kept { moved = found.actual }) b.line b.end there refl); inside = near.inside; before = near.before.1 }

-- Move, when it is handled, has put the controller at the first that waits
pub moved_near : (size : ℕ) (e : Endpoint) (os : List Errand) (ns : List Event) (b : KeptEndpoint) (sent : List SentErrand) (told : List Telling) (o : Errand) (ok : Bool) → IsCoherent e os (Settled o ok ∷ ns) → ShowsEnd size e os (Settled o ok ∷ ns) b sent told → o ≡ errand.Move
    → first_place (past_kept_blanks b.line) b.end ≤ b.dequeue
moved_near size e os ns b sent told o ok c s moves =
    let none = none_served e.line (Settled o ok) ns c.tail (λ m code q. cc) c.news in
    let fresh : is_stale e.state e.errand os ≡ false = by_way (end_ways e.state e.errand os (served_events e.line) c.tail o ok ns none.1 c.phase) in
    let l : Less size e.line b.line b.end _ (past_kept_blanks b.line) = (blanks_leave size e.line b.line b.end s.kept s.row).0 in
    omega (arith, ap (λ f. f.place) (s.stands fresh), ap (λ f. f.place) l.front, front_behind size _ (past_kept_blanks b.line) b.end l.kept l.row)
  where
    by_way : EndWays e.state e.errand os o ok ns → is_stale e.state e.errand os ≡ false
    by_way (inl w) = absurd (cc (moves, w.3))
    by_way (inr (inl w)) = absurd (cc (moves, w.3))
    by_way (inr (inr (inl w))) = absurd (cc (moves, w.3))
    by_way (inr (inr (inr w))) = rw (w.0, w.1, w.2) refl

-- the end of an errand is handled
pub settle_near : (ep next : ℕ) (b : KeptEndpoint) (t : Telling) (told : List Telling) (o : Errand) (ok : Bool) → StandsNear b (t ∷ told) → (o ≡ errand.Move → first_place (past_kept_blanks b.line) b.end ≤ b.dequeue) → StandsNear (settle ep next b o ok).endpoint told
unfolding settle resume_kept
settle_near ep next b t told o ok near moved = by_errand o ok moved
  where
    blanks : (line : List KeptTransfer) → first_place line b.end ≤ b.dequeue + 5 → IsNear (map kept_blanked line) b.end b.dequeue told
    blanks line le = record { near = omega (arith, le, map_first kept_blanked line b.end blanked_place); inside = near.inside; before = near.before.1 }

    resumed : (r : Reply) (line : List KeptTransfer) → first_place line b.end ≤ b.dequeue + 5 → StandsNear (resume_kept next b r line).endpoint told
    resumed r line le = by_test (leads_kept (map kept_blanked line))
      where
        by_test : (u : Bool) → StandsNear (if◌then◌else◌ {A = Handled} u (posts (record b { line = map kept_blanked line }) errand.Move next r (withdrawn_results line))
            (record { reply = r; endpoint = record b { line = map kept_blanked line; errand = None; state = Running }; orders = []; results = withdrawn_results line })).endpoint told
        by_test true = blanks line le
        by_test false = blanks line le

    by_errand : (x : Errand) (u : Bool) → (x ≡ errand.Move → first_place (past_kept_blanks b.line) b.end ≤ b.dequeue) → StandsNear (settle ep next b x u).endpoint told
    by_errand errand.Stop false moved = record { near = near.near; inside = near.inside; before = near.before.1 }
    by_errand errand.Stop true moved = resumed (reply.Settled ep errand.Stop true) b.line near.near
    by_errand errand.Reset u moved = blanks b.line near.near
    by_errand errand.Move u moved = resumed (reply.Settled ep errand.Move u) (past_kept_blanks b.line) (omega (arith, moved refl))

-- a transfer is asked to end
pub asked_near : (next : ℕ) (b : KeptEndpoint) (n : ℕ) (ask : Ask) (told : List Telling) → StandsNear b told → StandsNear (asked next b n ask).endpoint told
asked_near next b n ask told near = by_test (is_some b.errand)
  where
    same : IsNear (map (kept_ask n ask) b.line) b.end b.dequeue told
    same = record { near = omega (arith, near.near, map_first (kept_ask n ask) b.line b.end (ask_place n ask)); inside = near.inside; before = near.before }

    by_test : (u : Bool) → StandsNear (if◌then◌else◌ {A = Handled} u (record { reply = reply.Done; endpoint = record b { line = map (kept_ask n ask) b.line }; orders = []; results = [] })
        (posts (record b { line = map (kept_ask n ask) b.line }) errand.Stop next reply.Done [])).endpoint told
    by_test true = same
    by_test false = same

-- one joins
pub joined_near : (size : ℕ) (b : KeptEndpoint) (n : ℕ) (request : Request) (round : ℕ) (told : List Telling) → StandsNear b told → StandsNear (joined size b n request round) told
joined_near size b n request round told near =
    record { near = omega (arith, near.near, push_first b.line (new_kept size b.end n request round) b.end (b.end + length (trbs_of size request)) refl); inside = omega (arith, near.inside); before = near.before }
