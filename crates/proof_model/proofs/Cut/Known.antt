-- What an account tells is of transfers that were accepted, and what ended at a gone device is told as of one.
use Rattle.std.proofs.Common.{Bool, List, Some, [], ap, arith, map, subst, sym, true, ℕ, ◌++◌, ◌<◌, ◌∙◌, ◌∷◌, ◌≡◌, ◌≤◌}
use Rattle.std.proofs.lemmas.Bool.{or_left}
use Rattle.std.proofs.lemmas.Grind.{flat_map-append}
use Rattle.std.proofs.lemmas.List.{map-append}
use Rattle.std.specs.List.{AllByRecursion, flat_map}
use Rattle.usb_model.specs.declared.response.Response.{Response}
use Rattle.usb_model.specs.declared.endpoint.Endpoint.{Endpoint}
use Rattle.usb_model.specs.declared.endpoint_effect.EndpointEffect.{EndpointEffect}
use Rattle.usb_model.specs.declared.handle.Handle.{Handle}
use Rattle.usb_model.specs.declared.reply.Reply.TheVariants.{Ended}
use Rattle.usb_model.specs.declared.reply.Reply.{Reply}
use Rattle.usb_model.specs.declared.result.TransferResult.{TransferResult}
use Rattle.usb_model.specs.declared.step.Step.TheVariants.{Unplug}
use Rattle.usb_model.specs.declared.step.Step.{Step}
use Rattle.usb_model.specs.Coherence.{IsCoherent}
use Rattle.usb_model.specs.Endpoint.{live_numbers}
use Rattle.usb_model.specs.Fitness.{IsWell, errands_of}
use Rattle.usb_model.specs.Laws.Account.{Accepted, Account, Asked, End, Made, accepted_by, asked_by, ended_by, new_account}
use Rattle.usb_model.specs.Laws.Cut.{numbers_of, parts_of, times}
use Rattle.usb_model.specs.Machine.Turns.{gone_after}
use Rattle.usb_model.specs.Machine.{Machine, device_of, endpoint_at, is_gone}
use Rattle.usb_model.specs.Setup.{Setup, packet_size_of}
use Rattle.proof_model.proofs.Cut.Accounts.{live_less}
use Rattle.proof_model.proofs.Cut.Ledger.{HoldsAt, IsAccepted, KnowsGone, accepted_number, accepted_numbers, all_cells, cell_numbers, numbers, part_of, parts_of_cells}
use Rattle.proof_model.proofs.Cut.Resumes.{made_with}
use Rattle.proof_model.proofs.Cut.Rows.{with_more}
use Rattle.proof_model.proofs.Cut.Steps.{asks_by, no_ask_by, reply_of}
use Rattle.proof_model.proofs.Machines.Deeds.{IsWork, asks_it, clears, commands, delivers, serves, submits}
use Rattle.proof_model.proofs.Machines.Well.{first_news, fit_at}
use Rattle.proof_model.proofs.Places.Exact.{exact_ask, exact_command, exact_deliver, exact_serve}
use Rattle.proof_model.proofs.Lists.Parts.{each_append, each_here, each_weaker}
use Rattle.proof_model.proofs.Lists.Times.{times-append}
use Rattle.proof_model.proofs.Work.Lines.{progress_times, result_numbers}

-- each result and each ask is of such a transfer; gone: whether the device is
pub record IsKnown (gone : Bool) (a : Account) : Type 0 where
  pub results : AllByRecursion (λ x. IsAccepted a x.result.n) a.made
  pub asks : AllByRecursion (λ x. IsAccepted a x.n) a.asked
  pub ends : KnowsGone gone a

-- of a new account
pub known_new : (gone : Bool) → IsKnown gone new_account
known_new gone = record { results = tt; asks = tt; ends = tt }

-- a gone device stays gone
pub gone_rises : (setup : Setup) (gone : ℕ → Bool) (step : Step) (d : ℕ) → gone d ≡ true → gone_after setup gone step d ≡ true
gone_rises setup gone (Unplug dev) d e = or_left (gone d) _ e
gone_rises setup gone _ d e = e

-- where the device goes, or has gone
pub known_later : (gone later : Bool) (a : Account) → (gone ≡ true → later ≡ true) → IsKnown gone a → IsKnown later a
known_later gone later a goes k = record { results = k.results; asks = k.asks; ends = each_weaker (λ x. x.gone ≡ true → gone ≡ true) (λ x. x.gone ≡ true → later ≡ true) a.ended (λ x f e. goes (f e)) k.ends }

-- more is accepted
accepted_more : (a : Account) (accepted : List Accepted) (n : ℕ) → IsAccepted a n → 0 < times n (accepted_numbers (a.accepted ++ accepted))
accepted_more a accepted n lt = omega (arith, lt, ap (times n) (flat_map-append accepted_number a.accepted accepted), times-append n (accepted_numbers a.accepted) (accepted_numbers accepted))

-- an account to which more joins, of transfers that were accepted
known_more : (gone : Bool) (a : Account) (accepted : List Accepted) (asked : List Asked) (ended : List End) (made : List Made) → AllByRecursion (λ x. IsAccepted a x.result.n) made → AllByRecursion (λ x. IsAccepted a x.n) asked → AllByRecursion (λ x. x.gone ≡ true → gone ≡ true) ended → IsKnown gone a
    → IsKnown gone (with_more a accepted asked ended made)
known_more gone a accepted asked ended made results asks ends k = record {
  results = each_append (λ x. 0 < times x.result.n (accepted_numbers (a.accepted ++ accepted))) a.made made (later_results a.made k.results) (later_results made results);
  asks = each_append (λ x. 0 < times x.n (accepted_numbers (a.accepted ++ accepted))) a.asked asked (later_asks a.asked k.asks) (later_asks asked asks);
  ends = each_append (λ x. x.gone ≡ true → gone ≡ true) a.ended ended k.ends ends;
}
  where
    later_results : (xs : List Made) → AllByRecursion (λ x. IsAccepted a x.result.n) xs → AllByRecursion (λ x. 0 < times x.result.n (accepted_numbers (a.accepted ++ accepted))) xs
    later_results xs p = each_weaker (λ x. IsAccepted a x.result.n) (λ x. 0 < times x.result.n (accepted_numbers (a.accepted ++ accepted))) xs (λ x lt. accepted_more a accepted x.result.n lt) p

    later_asks : (xs : List Asked) → AllByRecursion (λ x. IsAccepted a x.n) xs → AllByRecursion (λ x. 0 < times x.n (accepted_numbers (a.accepted ++ accepted))) xs
    later_asks xs p = each_weaker (λ x. IsAccepted a x.n) (λ x. 0 < times x.n (accepted_numbers (a.accepted ++ accepted))) xs (λ x lt. accepted_more a accepted x.n lt) p

-- what is in progress at the endpoint was accepted there
line_accepted : (size : ℕ) (inward : Bool) (next : ℕ) (script : List Response) (a : Account) (e : Endpoint) (n : ℕ) → HoldsAt size inward next script a e → 0 < times n (live_numbers e.line) → IsAccepted a n
line_accepted size inward next script a e n h lt =
    let joined : numbers_of (all_cells h.gone h.rows) ≡ numbers (flat_map parts_of h.gone) ++ numbers (map part_of h.rows) =
    ap numbers (parts_of_cells h.gone h.rows) ∙ map-append (λ x. x.n) (flat_map parts_of h.gone) (map part_of h.rows) in
    let here : accepted_numbers a.accepted ≡ numbers_of (all_cells h.gone h.rows) = ap accepted_numbers (sym h.all) ∙ cell_numbers (all_cells h.gone h.rows) in
    omega (arith, lt, ap (λ l. times n (live_numbers l)) h.is_line, live_less n h.rows, ap (times n) here, ap (times n) joined, times-append n (numbers (flat_map parts_of h.gone)) (numbers (map part_of h.rows)))

-- results with what the device is
each_made : (P : ℕ → Type 0) (gone : Bool) (rs : List TransferResult) → AllByRecursion (λ r. P r.n) rs → AllByRecursion (λ x. P x.result.n) (made_with gone rs)
each_made P gone [] p = tt
each_made P gone (x ∷ rs) p = (p.0, each_made P gone rs p.1)

-- results are made of what was in progress
work_results : (setup : Setup) (m : Machine) (ep : ℕ) (e : Endpoint) (step : Step) (handle : Handle) (d : EndpointEffect) (n : ℕ) → IsWell setup m → endpoint_at m ep ≡ Some e → IsWork setup m ep e step handle d → times n (result_numbers d.results) ≤ times n (live_numbers e.line)
work_results setup m ep e step handle d n well here (serves dev) = omega (arith, (exact_serve (packet_size_of setup (device_of m) ep) (is_gone m) e).exact n)
work_results setup m ep e step handle d n well here (commands o os is) = omega (arith, (exact_command (packet_size_of setup (device_of m) ep) ep e o e.state).exact n)
work_results setup m ep e step handle d n well here (delivers event ns is) =
    omega (arith, (exact_deliver (packet_size_of setup (device_of m) ep) ep (is_gone m) e event _ _ (subst (λ l. IsCoherent e (errands_of ep m.orders) l) (first_news ep event m.news ns is).0 (fit_at setup m ep e well here).coherent)).exact n)
work_results setup m ep e step handle d n well here (asks_it {ask = ask} k i is at free) = omega (arith, (exact_ask e k ask).exact n)
work_results setup m ep e step handle d n well here (submits is at fine short) = omega arith
work_results setup m ep e step handle d n well here (clears g empty) = omega arith

-- and what is asked is in progress
work_asks : (setup : Setup) (m : Machine) (ep : ℕ) (e : Endpoint) (step : Step) (handle : Handle) (d : EndpointEffect) → IsWork setup m ep e step handle d → AllByRecursion (λ x. 0 < times x.n (live_numbers e.line)) (asked_by step d.reply)
work_asks setup m ep e step handle d (serves dev) = tt
work_asks setup m ep e step handle d (commands o os is) = tt
work_asks setup m ep e step handle d (delivers event ns is) = tt
work_asks setup m ep e step handle d (asks_it {ask = ask} n i is at free) =
    let asked : asked_by step d.reply ≡ record { n = n; ask = ask } ∷ [] = ap (asked_by step) (reply_of e n ask) ∙ (asks_by m.handle step n ask is).1 in
    subst (AllByRecursion (λ x. 0 < times x.n (live_numbers e.line))) (sym asked) (omega (arith, progress_times n e.line i at), tt)
work_asks setup m ep e step handle d (submits {handle = left} {request = request} {round = round} is at fine short) =
    subst (AllByRecursion (λ x. 0 < times x.n (live_numbers e.line))) (sym (no_ask_by m.handle m.handle.next_number step left request round is)) tt
work_asks setup m ep e step handle d (clears g empty) = tt

-- an end is told with what the device is
ends_told : (gone : Bool) (r : Reply) → AllByRecursion (λ x. x.gone ≡ true → gone ≡ true) (ended_by gone r)
ends_told gone (Ended n code) = (λ e. e, tt)
ends_told gone _ = tt

-- work keeps an account known
pub known_work : (setup : Setup) (m : Machine) (size : ℕ) (inward : Bool) (script : List Response) (ep : ℕ) (a : Account) (e : Endpoint) (step : Step) (handle : Handle) (d : EndpointEffect) → IsWell setup m → endpoint_at m ep ≡ Some e → IsWork setup m ep e step handle d
    → HoldsAt size inward m.handle.next_number script a e → IsKnown (is_gone m) a
    → IsKnown (is_gone m) (with_more a (accepted_by m.handle step d.reply) (asked_by step d.reply) (ended_by (is_gone m) d.reply) (made_with (is_gone m) d.results))
known_work setup m size inward script ep a e step handle d well here work h k =
    known_more (is_gone m) a (accepted_by m.handle step d.reply) (asked_by step d.reply) (ended_by (is_gone m) d.reply) (made_with (is_gone m) d.results)
    (each_made (IsAccepted a) (is_gone m) d.results
    (each_weaker (λ r. 0 < times r.n (result_numbers d.results)) (λ r. IsAccepted a r.n) d.results (λ r lt. line_accepted size inward m.handle.next_number script a e r.n h (omega (arith, lt, work_results setup m ep e step handle d r.n well here work))) (each_here (λ r. r.n) d.results)))
    (each_weaker (λ x. 0 < times x.n (live_numbers e.line)) (λ x. IsAccepted a x.n) (asked_by step d.reply) (λ x lt. line_accepted size inward m.handle.next_number script a e x.n h lt) (work_asks setup m ep e step handle d work))
    (ends_told (is_gone m) d.reply) k
