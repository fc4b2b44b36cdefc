-- What the end of a transfer, and an order behind it, stand on.
use Rattle.std.proofs.Common.{Bool, List, None, Option, Some, [], ap, arith, false, length, not, refl, subst, subst₂, suc, sym, true, zero, ℕ, ◌+◌, ◌-◌, ◌<◌, ◌≤◌, ◌++◌, ◌∙◌, ◌∷◌, ◌≡◌, ◌⊎◌, inl, inr}
use Rattle.std.specs.Prelude.{drop, is_none, is_some, slice_get, slice_index_or, slice_set, count_by, ◌==◌, IfSome, IsSome, if◌then◌else◌}
use Rattle.std.specs.List.{prefix_len}
use Rattle.std.proofs.lemmas.Bool.{cases_eq, cases_lt}
use Rattle.std.proofs.lemmas.List.{length-drop}
use Rattle.std.proofs.lemmas.List.Sums.{prefix_len-le-length}
use Rattle.std.proofs.lemmas.Option.{same_Some, slice_get_within}
use Rattle.usb_model.specs.Endpoint.Status.{halts}
use Rattle.usb_model.specs.Setup.{Setup, endpoint_id}
use Rattle.proof_model.proofs.Lists.Times.{count-cons}
use Rattle.usb_tables.specs.declared.outstanding.Sent.{Sent}
use Rattle.usb_tables.specs.Outstanding.{sent_at}
use Rattle.refine_rings.proofs.Ends.{here}
use Rattle.std.specs.Option.{option_map}
use Rattle.usb_model.specs.Kept.{SentErrand, KeptEndpoint, KeptTransfer}
use Rattle.usb_model.specs.Events.{errand_of, kept_result}
use Rattle.usb_tables.specs.Orders.{without_ended}
use Rattle.usb_tables.specs.declared.transfer.Transfer.{Transfer as InFlight}
use Rattle.usb_tables.specs.HandleStates.{SameCallbacks, SameCounts, SameNumbers, is_there, results_at}
use Rattle.usb_tables.specs.HandleState.{Kept as HandleState}
use Rattle.usb_xhc.specs.Host.{with_ring, without_first}
use Rattle.usb_xhc.specs.Controller.{Controller, slot_changed}
use Rattle.refine_core.proofs.Leaves.{finishes}
use Rattle.usb_xhc.specs.Context.{Context}
use Rattle.usb_device.specs.Pipe.{pipe_at}
use Rattle.usb_xhc.specs.Slots.{DeviceSlot, changed, context_of}
use Rattle.usb_tables.specs.ByEndpoint.{lane_at}
use Rattle.usb_tables.specs.TransfersInFlight.{TransfersInFlight, blanked_at, item_at, left_at, line_at}
use Rattle.usb_tables.specs.declared.ending.Ending.{Ending}
use Rattle.refine_rings.specs.Endpoint.{IsContext}
use Rattle.refine_world.specs.Shows.{Core}
use Rattle.refine_world.proofs.Bounds.{few_everywhere}
use Rattle.refine_world.proofs.Numbers.{few_places}
use Rattle.refine_rings.specs.Holds.{HasRing, ring_at, with_end}
use Rattle.usb_model.specs.declared.step.Step.TheVariants.{Deliver}
use Rattle.refine_core.specs.Deliveries.{CanFinish, Tells, ending_of, leaving}
use Rattle.refine_core.specs.State.{KeepsEnd, State, in_ring}
use Rattle.refine_core.specs.Steps.{CanPost, amid}
use Rattle.refine_core.specs.Works.{Finishes, context_in}
use Rattle.refine_core.proofs.Deliveries.{IsTold, ends_amid, told}
use Rattle.refine_core.proofs.Items.{one_place}
use Rattle.refine_core.proofs.EndpointQueues.{has_lane}
use Rattle.refine_core.proofs.FirstEnds.{IsFirstAt, leads_line}
use Rattle.refine_core.proofs.Lines.{as_many, index_set, index_set_other, past_blanks, set_length}
use Rattle.refine_core.proofs.Posts.{ring_items}
use Rattle.refine_core.proofs.Rings.{ring_of}
use Rattle.refine_core.proofs.Reports.{ring_of_item}
use Rattle.refine_core.proofs.Transfers.{end_at}

-- each of the leading blanks is one
pub leading_none : {A : Type 0} (xs : List (Option A)) (k : ℕ) → k < prefix_len is_none xs → slice_index_or xs k None ≡ None
leading_none [] k lt = absurd (omega (arith, lt))
leading_none (None ∷ xs) zero lt = refl
leading_none (None ∷ xs) (suc k) lt = leading_none xs k (omega (arith, lt))
leading_none (Some x ∷ xs) k lt = absurd (omega (arith, lt))

-- what stands so far behind the first ones
index_drop : {A : Type 0} (xs : List A) (n k : ℕ) (z : A) → slice_index_or (drop n xs) k z ≡ slice_index_or xs (n + k) z
index_drop xs zero k z = ap (λ m. slice_index_or xs m z) (omega arith)
index_drop [] (suc n) k z = refl
index_drop (x ∷ xs) (suc n) k z =
    let more : suc n + k ≡ suc (n + k) = omega arith in
    index_drop xs n k z ∙ ap (λ m. slice_index_or (x ∷ xs) m z) (sym more)

-- what leads the rest of a list stands there
leads_there : {A : Type 0} (xs : List A) (n : ℕ) (x : A) (rest : List A) → drop n xs ≡ x ∷ rest → slice_get xs n ≡ Some x
leads_there xs zero x rest is = ap (λ l. slice_get l 0) is
leads_there [] (suc n) x rest is = absurd cc
leads_there (y ∷ xs) (suc n) x rest is = leads_there xs n x rest is

-- a transfer in progress is counted
pub live_counts : (ys : List KeptTransfer) (i : ℕ) (y : KeptTransfer) → slice_get ys i ≡ Some y → y.blank ≡ false → 1 ≤ count_by (λ z. not z.blank) ys
live_counts [] i y there live = absurd cc
live_counts (z ∷ zs) zero y there live =
    let blank : z.blank ≡ false = ap (λ (v : KeptTransfer). v.blank) (same_Some z y there) ∙ live in
    let one : ◌≡◌ {A = ℕ} (if not z.blank then 1 else 0) 1 = ap (λ (b : Bool). if not b then 1 else 0) blank in
    omega (arith, count-cons (λ (v : KeptTransfer). not v.blank) z zs, one)
live_counts (z ∷ zs) (suc i) y there live = omega (arith, count-cons (λ (v : KeptTransfer). not v.blank) z zs, live_counts zs i y there live)

module _ {P : Type 0} where
  -- of a line that leaves up to a transfer all others are blanks
  others_blank : (xs : List (Option (InFlight P))) (item i more : ℕ) → prefix_len is_none xs ≡ item → more ≤ prefix_len is_none (drop (item + 1) xs) → i < item + 1 + more → (i ≡ item → ⊥) → slice_index_or xs i None ≡ None
  others_blank xs item i more leading few lt other = by_order (cases_lt i item)
    where
      by_order : (i < item) ⊎ (item ≤ i) → slice_index_or xs i None ≡ None
      by_order (inl before) = leading_none xs i (omega (arith, leading, before))
      by_order (inr behind) =
          let apart : item < i = by_equal (cases_eq i item) in
          let whole : item + 1 + (i - (item + 1)) ≡ i = omega (arith, apart) in
          ap (λ m. slice_index_or xs m None) (sym whole) ∙ sym (index_drop xs (item + 1) (i - (item + 1)) None) ∙ leading_none (drop (item + 1) xs) (i - (item + 1)) (omega (arith, lt, few, apart))
        where
          by_equal : (i ≡ item) ⊎ (i ≡ item → ⊥) → item < i
          by_equal (inl same) = absurd (other same)
          by_equal (inr apart) = below (λ same. apart same)
            where
              below : (i ≡ item → ⊥) → item < i
              below apart = omega (arith, behind, apart)

  -- the transfer of an end that is told can leave
  pub can_finish : (setup : Setup) (s : State P) (c : Core) (h d e item n actual code : ℕ) → Tells setup s c h d e item n actual code → (code == 26) ≡ false → CanFinish s h d e item (leaving s d e item code)
  can_finish setup s c h d e item n actual code tells ends = record {
    live = ap is_some is.flight.found;
    lane = omega (arith, has_lane setup d e is.at.interface is.at.keeps.few is.at.there, is.at.keeps.lanes);
    before = omega arith;
    within = omega (arith, inside, few_more (halts code), prefix_len-le-length is_none (drop (item + 1) xs), length-drop (item + 1) xs);
    few = omega (arith, inside, few_more (halts code), prefix_len-le-length is_none (drop (item + 1) xs), length-drop (item + 1) xs, as_many (Some h) e xs b.line (end_at setup s (record c { events = tells.rest }) h d e is.at).line, (few_places setup is.at.keeps.fine tells.world c tells.shows h d e tells.holds).0);
    blank = λ i lt other. others_blank xs item i (if halts code then 0 else prefix_len is_none (drop (item + 1) xs)) leading (few_more (halts code)) lt other;
    room = omega (arith, (few_places setup is.at.keeps.fine tells.world c tells.shows h d e tells.holds).1, live_counts b.line item tells.kept tells.there is.live, (is.at.keeps.named h).waiting e (is.at.keeps.plain d e is.at.interface is.at.there));
    items = subst (λ (o : Option DeviceSlot). IfSome o (λ v. IfSome (context_of v e) (λ x. count ≤ length x.ring.line.items))) (sym slot.1)
        (subst (λ (o : Option Context). IfSome o (λ x. count ≤ length x.ring.line.items)) (sym slot.2) enough);
  }
    where
      is : IsTold setup s c tells.rest h d e item tells.place tells.kept
      is = told setup s c h d e item n actual code tells

      b : KeptEndpoint
      b = c.endpoints d e

      xs : List (Option (InFlight P))
      xs = line_at s.flights d e

      count : ℕ
      count = leaving s d e item code

      few_more : (t : Bool) → (if t then 0 else prefix_len is_none (drop (item + 1) xs)) ≤ prefix_len is_none (drop (item + 1) xs)
      few_more true = omega arith
      few_more false = omega arith

      inside : item < length xs
      inside = slice_get_within xs item (Some is.flight.t) is.flight.there

      ring : (x : Context) × (context_in s.controller d e ≡ Some x) × IsContext x b × (x.ring.line.base ≡ ring_at d e)
      ring = ring_of_item setup s (record c { events = tells.rest }) h d e item tells.kept is.at tells.there

      slot : (v : DeviceSlot) × (slice_get s.controller.slots d ≡ Some v) × (context_of v e ≡ Some ring.0) × HasRing setup d e (pipe_at v.pipes e) b ring.0
      slot = ring_of setup s.controller (record c { events = tells.rest }) d e is.at.interface ring.0 is.at.keeps.held is.at.there ring.1

      enough : count ≤ length ring.0.ring.line.items
      enough = omega (arith, inside, few_more (halts code), prefix_len-le-length is_none (drop (item + 1) xs), length-drop (item + 1) xs, ring_items setup s (record c { events = tells.rest }) d e is.at.interface ring.0 is.at.keeps is.at.there ring.1)

      first : IsFirstAt tells.place b.line
      first = leads_line setup tells.world c d e tells.place tells.residual code tells.rest is.at.keeps.fine tells.shows tells.first ends

      same : first.y ≡ tells.kept
      same = same_Some first.y tells.kept (sym first.found ∙ is.found)

      leads : drop (prefix_len is_none xs) b.line ≡ tells.kept ∷ first.rest
      leads = sym (past_blanks (Some h) e xs b.line (end_at setup s (record c { events = tells.rest }) h d e is.at).line) ∙ first.first ∙ ap (λ (y : KeptTransfer). y ∷ first.rest) same

      leading : prefix_len is_none xs ≡ item
      leading = one_place ring.0.size b.line ring.0.ring.line.items b.end (prefix_len is_none xs) item tells.kept ring.2.ring.items ring.2.ring.row (leads_there b.line (prefix_len is_none xs) tells.kept first.rest leads) tells.there

  -- where the transfer of an item ended, its line is as long as before
  ended_line : (s : State P) (h d e item count : ℕ) (x : Ending) (f : TransfersInFlight (InFlight P)) → CanFinish s h d e item count
      → ((t : InFlight P) → item_at s.flights d e item ≡ Some t → f ≡ record (blanked_at s.flights d e item) { ended = s.flights.ended ++ record { transfer = t; ending = x } ∷ [] })
      → line_at f d e ≡ slice_set (line_at s.flights d e) item None
  ended_line s h d e item count x f can ended = by_item (item_at s.flights d e item) refl can.live
    where
      by_item : (o : Option (InFlight P)) → item_at s.flights d e item ≡ o → IsSome o → line_at f d e ≡ slice_set (line_at s.flights d e) item None
      by_item None is some = absurd cc
      by_item (Some t) is some =
          ap (λ (v : TransfersInFlight (InFlight P)). line_at v d e) (ended t is) ∙ index_set s.flights.lines (lane_at d e) [] (slice_set (line_at s.flights d e) item None) can.lane

  -- so many items can leave then
  pub leave_within : (s : State P) (h d e item count : ℕ) (x : Ending) (f : TransfersInFlight (InFlight P)) → CanFinish s h d e item count
      → ((t : InFlight P) → item_at s.flights d e item ≡ Some t → f ≡ record (blanked_at s.flights d e item) { ended = s.flights.ended ++ record { transfer = t; ending = x } ∷ [] })
      → count ≤ length (line_at f d e)
  leave_within s h d e item count x f can ended = omega (arith, ap length (ended_line s h d e item count x f can ended), set_length (line_at s.flights d e) item None, can.within)

  -- and they are blanks
  pub leave_blank : (s : State P) (h d e item count : ℕ) (x : Ending) (f : TransfersInFlight (InFlight P)) → CanFinish s h d e item count
      → ((t : InFlight P) → item_at s.flights d e item ≡ Some t → f ≡ record (blanked_at s.flights d e item) { ended = s.flights.ended ++ record { transfer = t; ending = x } ∷ [] })
      → (i : ℕ) → i < count → item_at f d e i ≡ None
  leave_blank s h d e item count x f can ended i lt = ap (λ (l : List (Option (InFlight P))). slice_index_or l i None) (ended_line s h d e item count x f can ended) ∙ by_place (cases_eq i item)
    where
      by_place : (i ≡ item) ⊎ (i ≡ item → ⊥) → slice_index_or (slice_set (line_at s.flights d e) item None) i None ≡ None
      by_place (inl same) = ap (λ k. slice_index_or (slice_set (line_at s.flights d e) item None) k None) same ∙ index_set (line_at s.flights d e) item None None (omega (arith, can.before, can.within))
      by_place (inr other) = index_set_other (line_at s.flights d e) item i None None other ∙ can.blank i lt other

  -- an order can follow the end
  pub can_post_end : (setup : Setup) (old mid : State P) (c : Core) (h d e item n actual code : ℕ) → (tells : Tells setup old c h d e item n actual code) → Finishes old mid h d e item (ending_of c d tells.kept actual code) (leaving old d e item code) → CanPost mid d e
  can_post_end setup old mid c h d e item n actual code tells finished = record {
    setup = setup;
    core = amid h d e Deliver (without_ended tells.place code b) (kept_result (c.gone d) code tells.kept actual ∷ []) c;
    name = h;
    at = ends_amid setup old mid c h d e item n actual code tells finished;
    supported = slot.3.supported;
    room = omega (arith, (few_everywhere setup tells.world c tells.shows is.at.keeps.fine).1, is.at.keeps.bounded);
  }
    where
      is : IsTold setup old c tells.rest h d e item tells.place tells.kept
      is = told setup old c h d e item n actual code tells

      b : KeptEndpoint
      b = c.endpoints d e

      ring : (x : Context) × (context_in old.controller d e ≡ Some x) × IsContext x b × (x.ring.line.base ≡ ring_at d e)
      ring = ring_of_item setup old (record c { events = tells.rest }) h d e item tells.kept is.at tells.there

      slot : (v : DeviceSlot) × (slice_get old.controller.slots d ≡ Some v) × (context_of v e ≡ Some ring.0) × HasRing setup d e (pipe_at v.pipes e) b ring.0
      slot = ring_of setup old.controller (record c { events = tells.rest }) d e is.at.interface ring.0 is.at.keeps.held is.at.there ring.1

  -- the errand that is outstanding then is the endpoint's
  pub outstanding_is : (setup : Setup) (old mid : State P) (c : Core) (h d e item n actual code : ℕ) → (tells : Tells setup old c h d e item n actual code) → Finishes old mid h d e item (ending_of c d tells.kept actual code) (leaving old d e item code)
      → errand_of (c.endpoints d e).errand ≡ option_map (λ s. s.errand) (sent_at mid.outstanding d e)
  outstanding_is setup old mid c h d e item n actual code tells finished =
      sent_errand (c.endpoints d e).errand ∙ ap (option_map (λ (s : Sent). s.errand)) (sym (end.errand ∙ ap (λ (b : KeptEndpoint). option_map in_ring b.errand) (here c.endpoints d e after)))
    where
      after : KeptEndpoint
      after = without_ended tells.place code (c.endpoints d e)

      end : KeepsEnd mid (Some h) d e (with_end c.endpoints d e after d e)
      end = end_at setup mid (amid h d e Deliver after (kept_result (c.gone d) code tells.kept actual ∷ []) c) h d e (ends_amid setup old mid c h d e item n actual code tells finished)

      sent_errand : (o : Option SentErrand) → errand_of o ≡ option_map (λ (s : Sent). s.errand) (option_map in_ring o)
      sent_errand None = refl
      sent_errand (Some x) = refl

  -- the same of parts as a function finds them, v, by how many items it counted
  module _ (s v : State P) (same : v ≡ s) (h d e item n count : ℕ) (counted : count ≡ n) (x : Ending) (f : TransfersInFlight (InFlight P)) (can : CanFinish s h d e item n)
      (ended : (t : InFlight P) → item_at v.flights d e item ≡ Some t → f ≡ record (blanked_at v.flights d e item) { ended = v.flights.ended ++ record { transfer = t; ending = x } ∷ [] }) where
    seen : CanFinish v h d e item count
    seen = subst₂ (λ (u : State P) m. CanFinish u h d e item m) (sym same) (sym counted) can

    pub leaves_within : count ≤ length (line_at f d e)
    leaves_within = leave_within v h d e item count x f seen ended

    pub leaves_blank : (i : ℕ) → i < count → item_at f d e i ≡ None
    leaves_blank = leave_blank v h d e item count x f seen ended

    pub finishes_by : (k : Controller) (g : TransfersInFlight (InFlight P)) (callers : List HandleState) → g ≡ left_at f d e count
        → ((name id : ℕ) → results_at callers name id ≡ (if is_there h (endpoint_id e) name id then results_at v.callers name id + 1 else results_at v.callers name id))
        → SameNumbers v.callers callers → SameCallbacks v.callers callers → SameCounts v.callers callers
        → k ≡ slot_changed v.controller d (λ a. changed a (endpoint_id e) (λ b. with_ring b (without_first b.ring count)))
        → Finishes s (record v { controller = k; flights = g; callers = callers }) h d e item x n
    finishes_by k g callers is_g made numbers callbacks counts is_k =
        subst₂ (λ (u : State P) m. Finishes u (record v { controller = k; flights = g; callers = callers }) h d e item x m) same counted
        (finishes v k f g callers h d e item count x ended seen.before seen.within is_g made numbers callbacks counts is_k)
