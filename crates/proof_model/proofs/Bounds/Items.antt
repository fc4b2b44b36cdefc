-- What is known of each transfer by its number, its request and its round stays known: of those in the line, and of the results.
use Rattle.std.proofs.Common.{Bool, List, None, Option, Some, [], false, map, refl, subst, sym, true, ℕ, ◌++◌, ◌==◌, ◌∷◌, ◌≡◌}
use Rattle.std.specs.Prelude.{if◌then◌else◌}
use Rattle.std.specs.List.{AllByRecursion}
use Rattle.usb_model.specs.declared.errand.Errand.TheVariants as errand
use Rattle.usb_model.specs.declared.errand.Errand.{Errand}
use Rattle.usb_model.specs.declared.endpoint.Endpoint.{Endpoint}
use Rattle.usb_model.specs.declared.endpoint.EndpointState.TheVariants.{Halted, Running, Stopped}
use Rattle.usb_model.specs.declared.endpoint.EndpointState.{EndpointState}
use Rattle.usb_model.specs.declared.endpoint_effect.EndpointEffect.{EndpointEffect}
use Rattle.usb_model.specs.declared.item.Ask.{Ask}
use Rattle.usb_model.specs.declared.item.Item.{Item}
use Rattle.usb_model.specs.declared.item.ItemState.TheVariants.{Blank}
use Rattle.usb_model.specs.declared.news.Event.TheVariants.{Finished, Paused, Settled}
use Rattle.usb_model.specs.declared.news.Event.{Event}
use Rattle.usb_model.specs.declared.outcome.Outcome.{Outcome}
use Rattle.usb_model.specs.declared.reply.Reply.TheVariants as reply
use Rattle.usb_model.specs.declared.request.Request.{Request}
use Rattle.usb_model.specs.declared.result.TransferResult.{TransferResult}
use Rattle.usb_model.specs.Endpoint.Command.{command}
use Rattle.usb_model.specs.Endpoint.Deliver.{blanked, deliver, finished_result, is_withdrawn, line_after, resume, withdrawn}
use Rattle.usb_model.specs.Endpoint.Packets.{open_with, outcome}
use Rattle.usb_model.specs.Endpoint.Serve.{next_answer, serve, serve_by, serve_first, serve_gone}
use Rattle.usb_model.specs.Endpoint.Status.{halts}
use Rattle.usb_model.specs.Endpoint.{first_waiting, in_progress, new_item, outcome_of, past_blanks, past_number, result_of}
use Rattle.std.specs.Option.{unwrap_or}
use Rattle.usb_model.specs.Machine.Calls.{asks, with_ask}
use Rattle.usb_model.specs.Machine.{Machine, device_of, is_gone}
use Rattle.usb_model.specs.Setup.{Setup, packet_size_of}
use Rattle.usb_model.specs.declared.handle.Handle.{Handle}
use Rattle.usb_model.specs.declared.step.Step.{Step}
use Rattle.proof_model.proofs.Coherence.Doings.{line-command, line-finished, line-resume, results-finished, results-resume}
use Rattle.proof_model.proofs.Machines.Deeds.{IsSubmission, IsWork, asks_it, clears, commands, delivers, serves, submits}
use Rattle.proof_model.proofs.Lists.Parts.{each_append}
use Rattle.proof_model.proofs.Work.Each.{each-first_waiting, each-in_progress, each-map, each-past_blanks, each-past_number, each-with_first}
use Rattle.proof_model.proofs.Work.Sound.{serve_makes_none}

-- of a transfer in a line: what is known by its number, its request and its round
abbrev pub OfItem : (ℕ → Request → ℕ → Type 0) → Item → Type 0
OfItem P x = P x.n x.request x.round

-- and of its result
abbrev pub OfResult : (ℕ → Request → ℕ → Type 0) → TransferResult → Type 0
OfResult P r = P r.n r.request r.round

-- of all that a piece of work leaves, and makes
pub record KeepsItems (P : ℕ → Request → ℕ → Type 0) (d : EndpointEffect) : Type 0 where
  pub items : AllByRecursion (OfItem P) d.endpoint.line
  pub results : AllByRecursion (OfResult P) d.results

-- a line and results, by their equals
keeps_as : (P : ℕ → Request → ℕ → Type 0) (d : EndpointEffect) (line : List Item) (results : List TransferResult) → d.endpoint.line ≡ line → d.results ≡ results → AllByRecursion (OfItem P) line → AllByRecursion (OfResult P) results → KeepsItems P d
keeps_as P d line results left made items outs = record { items = subst (AllByRecursion (OfItem P)) (sym left) items; results = subst (AllByRecursion (OfResult P)) (sym made) outs }

-- an endpoint that serves
line_served : (P : ℕ → Request → ℕ → Type 0) (size : ℕ) (gone : Bool) (e : Endpoint) (s : EndpointState) (o : Option Item) → first_waiting e.line ≡ o → AllByRecursion (OfItem P) e.line → AllByRecursion (OfItem P) (serve_first size gone e s o).endpoint.line
unfolding serve_first serve_gone serve_by
line_served P size true e Running (Some x) first a = each-with_first (OfItem P) e.line _ (each-first_waiting (OfItem P) e.line x a first) a
line_served P size false e Running (Some x) first a = by_code (unwrap_or (outcome x.request size (x.share ++ next_answer e) e.device_halted) (open_with [])).code
  where
    after : Outcome
    after = unwrap_or (outcome x.request size (x.share ++ next_answer e) e.device_halted) (open_with [])

    by_code : (code : Option ℕ) → AllByRecursion (OfItem P) (serve_by e x (outcome_of size x) after code).endpoint.line
    by_code None = each-with_first (OfItem P) e.line _ (each-first_waiting (OfItem P) e.line x a first) a
    by_code (Some code) = each-with_first (OfItem P) e.line _ (each-first_waiting (OfItem P) e.line x a first) a
line_served P size gone e _ _ first a = a

-- the device answers a packet
keeps_serve : (P : ℕ → Request → ℕ → Type 0) (size : ℕ) (gone : Bool) (e : Endpoint) → AllByRecursion (OfItem P) e.line → KeepsItems P (serve size gone e)
unfolding serve
keeps_serve P size gone e a = keeps_as P (serve size gone e) (serve size gone e).endpoint.line [] refl (serve_makes_none size gone e) (line_served P size gone e e.state (first_waiting e.line) refl a) tt

-- an order makes no result
results_command : (size ep : ℕ) (e : Endpoint) (o : Errand) (s : EndpointState) → (command size ep e o s).results ≡ []
unfolding command
results_command size ep e errand.Stop Running = refl
results_command size ep e errand.Reset Halted = refl
results_command size ep e errand.Move Stopped = refl
results_command size ep e _ _ = refl

-- a withdrawal keeps what is known
blanked_keeps : (P : ℕ → Request → ℕ → Type 0) (x : Item) → OfItem P x → OfItem P (blanked x)
blanked_keeps P x p = by_test (is_withdrawn x)
  where
    by_test : (b : Bool) → OfItem P (if b then record x { state = Blank } else x)
    by_test true = p
    by_test false = p

-- an ask too
asked_keeps : (P : ℕ → Request → ℕ → Type 0) (n : ℕ) (ask : Ask) (x : Item) → OfItem P x → OfItem P (with_ask n ask x)
asked_keeps P n ask x p = by_test (x.n == n)
  where
    by_test : (b : Bool) → OfItem P (if b then record x { ask = Some ask } else x)
    by_test true = p
    by_test false = p

-- the results of the withdrawn
each_withdrawn : (P : ℕ → Request → ℕ → Type 0) (size : ℕ) (xs : List Item) → AllByRecursion (OfItem P) xs → AllByRecursion (OfResult P) (withdrawn size xs)
unfolding withdrawn
each_withdrawn P size [] a = tt
each_withdrawn P size (x ∷ xs) a = by_test (is_withdrawn x) (each_withdrawn P size xs a.1)
  where
    by_test : (b : Bool) → AllByRecursion (OfResult P) (withdrawn size xs) → AllByRecursion (OfResult P) (if b then result_of size false 26 x ∷ withdrawn size xs else withdrawn size xs)
    by_test true rest = (a.0, rest)
    by_test false rest = rest

-- the result of an end
each_finished : (P : ℕ → Request → ℕ → Type 0) (size : ℕ) (gone : Bool) (n code : ℕ) (xs : List Item) (o : Option Item) → in_progress n xs ≡ o → AllByRecursion (OfItem P) xs → AllByRecursion (OfResult P) (finished_result size gone code o)
each_finished P size gone n code xs None is a = tt
each_finished P size gone n code xs (Some x) is a = (each-in_progress (OfItem P) n xs x a is, tt)

-- the line behind an end
each_line_after : (P : ℕ → Request → ℕ → Type 0) (n code : ℕ) (xs : List Item) → AllByRecursion (OfItem P) xs → AllByRecursion (OfItem P) (line_after n code xs)
each_line_after P n code xs a = by_test (halts code)
  where
    by_test : (b : Bool) → AllByRecursion (OfItem P) (if b then past_number n xs else past_blanks (past_number n xs))
    by_test true = each-past_number (OfItem P) n xs a
    by_test false = each-past_blanks (OfItem P) (past_number n xs) (each-past_number (OfItem P) n xs a)

-- asked items are withdrawn from this line
keeps_withdrawn : (P : ℕ → Request → ℕ → Type 0) (size : ℕ) (d : EndpointEffect) (line : List Item) → d.endpoint.line ≡ map blanked line → d.results ≡ withdrawn size line → AllByRecursion (OfItem P) line → KeepsItems P d
keeps_withdrawn P size d line left made a = keeps_as P d (map blanked line) (withdrawn size line) left made (each-map (OfItem P) (OfItem P) blanked (blanked_keeps P) line a) (each_withdrawn P size line a)

-- a piece of news is handled
keeps_deliver : (P : ℕ → Request → ℕ → Type 0) (size ep : ℕ) (gone : Bool) (e : Endpoint) (event : Event) → AllByRecursion (OfItem P) e.line → KeepsItems P (deliver size ep gone e event)
unfolding deliver
keeps_deliver P size ep gone e (Finished n code) a =
    keeps_as P (deliver size ep gone e (Finished n code)) (line_after n code e.line) (finished_result size gone code (in_progress n e.line)) (line-finished size ep gone e n code) (results-finished size ep gone e n code)
    (each_line_after P n code e.line a) (each_finished P size gone n code e.line (in_progress n e.line) refl a)
keeps_deliver P size ep gone e (Paused n) a = record { items = a; results = tt }
keeps_deliver P size ep gone e (Settled errand.Stop false) a = record { items = a; results = tt }
keeps_deliver P size ep gone e (Settled errand.Stop true) a =
    keeps_withdrawn P size (resume size e (reply.Settled ep errand.Stop true) e.line) e.line (line-resume size e (reply.Settled ep errand.Stop true) e.line) (results-resume size e (reply.Settled ep errand.Stop true) e.line) a
keeps_deliver P size ep gone e (Settled errand.Reset ok) a = record { items = each-map (OfItem P) (OfItem P) blanked (blanked_keeps P) e.line a; results = each_withdrawn P size e.line a }
keeps_deliver P size ep gone e (Settled errand.Move ok) a =
    keeps_withdrawn P size (resume size e (reply.Settled ep errand.Move ok) (past_blanks e.line)) (past_blanks e.line) (line-resume size e (reply.Settled ep errand.Move ok) (past_blanks e.line))
    (results-resume size e (reply.Settled ep errand.Move ok) (past_blanks e.line)) (each-past_blanks (OfItem P) e.line a)

-- a transfer is asked to end
keeps_ask : (P : ℕ → Request → ℕ → Type 0) (e : Endpoint) (n : ℕ) (ask : Ask) → AllByRecursion (OfItem P) e.line → KeepsItems P (asks e n ask)
unfolding asks
keeps_ask P e n ask a = record { items = each-map (OfItem P) (OfItem P) (with_ask n ask) (asked_keeps P n ask) e.line a; results = tt }

-- each piece of work; a submission is known by its number, its request and its round
pub keeps_work : (P : ℕ → Request → ℕ → Type 0) (setup : Setup) (m : Machine) (ep : ℕ) (e : Endpoint) (step : Step) (handle : Handle) (d : EndpointEffect) → IsWork setup m ep e step handle d
    → ((left : Handle) (request : Request) (round : ℕ) → IsSubmission m.handle step left request round → request.ep ≡ ep → P m.handle.next_number request round) → AllByRecursion (OfItem P) e.line → KeepsItems P d
keeps_work P setup m ep e step handle d (serves dev) new a = keeps_serve P (packet_size_of setup (device_of m) ep) (is_gone m) e a
keeps_work P setup m ep e step handle d (commands o os is) new a =
    keeps_as P (command (packet_size_of setup (device_of m) ep) ep e o e.state) e.line [] (line-command (packet_size_of setup (device_of m) ep) ep e o e.state) (results_command (packet_size_of setup (device_of m) ep) ep e o e.state) a tt
keeps_work P setup m ep e step handle d (delivers event ns is) new a = keeps_deliver P (packet_size_of setup (device_of m) ep) ep (is_gone m) e event a
keeps_work P setup m ep e step handle d (asks_it {ask = ask} n i is at free) new a = keeps_ask P e n ask a
keeps_work P setup m ep e step handle d (submits {handle = left} {request = request} {round = round} is at fine short) new a =
    record { items = each_append (OfItem P) e.line (new_item m.handle.next_number request round ∷ []) a (new left request round is at, tt); results = tt }
keeps_work P setup m ep e step handle d (clears g empty) new a = record { items = a; results = tt }
