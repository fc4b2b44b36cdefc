-- What the pieces of a settlement stand on.
use Rattle.std.proofs.Common.{Bool, List, None, Option, Some, [], ap, arith, false, length, not, refl, subst, suc, sym, true, zero, ℕ, ◌+◌, ◌++◌, ◌<◌, ◌≤◌, ◌∙◌, ◌∷◌, ◌≡◌, ap₂, map, ◌-◌}
use Rattle.std.specs.Prelude.{drop, is_none, is_some, slice_get, slice_set, slice_index_or, count_by, IfSome, IsSome, ◌==◌, if◌then◌else◌}
use Rattle.std.specs.List.{prefix_len}
use Rattle.std.proofs.lemmas.List.{length-drop, length-map}
use Rattle.std.proofs.lemmas.List.Sums.{prefix_len-le-length}
use Rattle.std.proofs.lemmas.Option.{same_Some, slice_get_within}
use Rattle.usb_tables.specs.HandleState.{Kept as HandleState}
use Rattle.usb_tables.specs.declared.ended.Mark.{Mark}
use Rattle.usb_tables.specs.declared.outstanding.Sent.{Sent}
use Rattle.usb_tables.specs.Settlements.{fails_stop, mark_of, settled_by}
use Rattle.usb_model.specs.Settlements.{settle}
use Rattle.usb_xhc.specs.Host.{rung, with_blank, with_ring, without_first}
use Rattle.usb_xhc.specs.Controller.{Controller, slot_changed}
use Rattle.refine_core.proofs.Leaves.{leaves, withdraws}
use Rattle.refine_core.proofs.Errands.{resumes}
use Rattle.usb_model.specs.declared.errand.Errand.{Errand}
use Rattle.usb_model.specs.Machine.{is_result_at}
use Rattle.usb_model.specs.Setup.{Setup, endpoint_id}
use Rattle.usb_model.specs.World.Shared.{pieces_of, tagged}
use Rattle.proof_model.proofs.Lists.Pieces.{pieces_of-append}
use Rattle.proof_model.proofs.Lists.Times.{count-cons}
use Rattle.usb_model.specs.Kept.{KeptEndpoint, KeptTransfer}
use Rattle.usb_tables.specs.declared.ended.Settlement.{Settlement}
use Rattle.usb_tables.specs.declared.transfer.Transfer.{Transfer as InFlight}
use Rattle.usb_tables.specs.HandleStates.{SameCallbacks, SameCounts, SameNumbers, is_there, results_at}
use Rattle.usb_tables.specs.declared.ending.Ending.{Ending}
use Rattle.usb_tables.specs.ByEndpoint.{lane_at}
use Rattle.usb_tables.specs.TransfersInFlight.{TransfersInFlight, blanked_at, item_at, left_at, line_at, mark_in}
use Rattle.usb_xhc.specs.Context.{Context}
use Rattle.usb_device.specs.Pipe.{pipe_at}
use Rattle.usb_xhc.specs.Slots.{DeviceSlot, changed, context_of}
use Rattle.refine_rings.proofs.Ends.{here}
use Rattle.refine_rings.specs.Holds.{HasRing}
use Rattle.refine_world.specs.Shows.{Core}
use Rattle.refine_core.specs.Deliveries.{CanLeave, CanSettle, Settles, asked_ending}
use Rattle.refine_core.specs.State.{AllItems, State}
use Rattle.refine_core.specs.Works.{IsAt, Leaves, Posts, Resumes, Withdraws, context_in, result_by, with_kept}
use Rattle.refine_core.proofs.Counts.{count_append, count_one}
use Rattle.refine_core.proofs.Ends.{leading_none, live_counts}
use Rattle.refine_core.proofs.Lines.{as_many, kept_of, past_blanks}
use Rattle.refine_core.proofs.Posts.{ring_items, ring_there}
use Rattle.refine_core.proofs.Rings.{ring_of}
use Rattle.refine_core.proofs.Settlements.{Fits, cleaned, fits, marks_are, with_cleaned}
use Rattle.refine_core.proofs.ErrandEnds.{IsEnded, ended, supported_there}
use Rattle.refine_core.proofs.Transfers.{end_at}

-- how many of a line are in progress
abbrev live_in : List KeptTransfer → ℕ
live_in ys = count_by (λ y. not y.blank) ys

-- fewer are left
fewer_left : (n : ℕ) (ys : List KeptTransfer) → live_in (drop n ys) ≤ live_in ys
fewer_left zero ys = omega arith
fewer_left (suc n) [] = omega arith
fewer_left (suc n) (y ∷ ys) = omega (arith, fewer_left n ys, count-cons (λ (v : KeptTransfer). not v.blank) y ys)

-- one less where one is blanked
one_less : (ys : List KeptTransfer) (k : ℕ) (y : KeptTransfer) → slice_get ys k ≡ Some y → y.blank ≡ false → live_in (slice_set ys k (record y { blank = true })) + 1 ≡ live_in ys
one_less [] k y there live = absurd cc
one_less (z ∷ zs) zero y there live =
    let blank : z.blank ≡ false = ap (λ (v : KeptTransfer). v.blank) (same_Some z y there) ∙ live in
    let one : ◌≡◌ {A = ℕ} (if not z.blank then 1 else 0) 1 = ap (λ (b : Bool). if not b then 1 else 0) blank in
    omega (arith, count-cons (λ (v : KeptTransfer). not v.blank) z zs, one, count-cons (λ (v : KeptTransfer). not v.blank) (record y { blank = true }) zs)
one_less (z ∷ zs) (suc k) y there live =
    omega (arith, one_less zs k y there live, count-cons (λ (v : KeptTransfer). not v.blank) z zs, count-cons (λ (v : KeptTransfer). not v.blank) z (slice_set zs k (record y { blank = true })))

-- an item that is found stands there
found_there : {A : Type 0} (xs : List (Option A)) (k : ℕ) (t : A) → slice_index_or xs k None ≡ Some t → slice_get xs k ≡ Some (Some t)
found_there [] k t is = absurd cc
found_there (x ∷ xs) zero t is = ap Some is
found_there (x ∷ xs) (suc k) t is = found_there xs k t is

module _ {P : Type 0} where
  -- a transfer that is to be withdrawn is in progress
  record IsWithdrawn (s : State P) (c : Core) (d e k : ℕ) : Type 0 where
    t : InFlight P
    found : item_at s.flights d e k ≡ Some t
    inside : k < length (line_at s.flights d e)
    y : KeptTransfer
    there : slice_get (c.endpoints d e).line k ≡ Some y
    live : y.blank ≡ false

  withdrawn_there : (setup : Setup) (s : State P) (c : Core) (h d e k : ℕ) (x : Ending) → IsAt setup s c h d e → Some x ≡ asked_ending (item_at s.flights d e k) → IsWithdrawn s c d e k
  withdrawn_there setup s c h d e k x at asked = by_item (item_at s.flights d e k) refl asked
    where
      by_item : (o : Option (InFlight P)) → item_at s.flights d e k ≡ o → Some x ≡ asked_ending o → IsWithdrawn s c d e k
      by_item None is said = absurd cc
      by_item (Some t) is said =
          let in_line = found_there (line_at s.flights d e) k t is in
          let kept = kept_of (Some h) e (line_at s.flights d e) (c.endpoints d e).line k (Some t) (end_at setup s c h d e at).line in_line in
          record { t = t; found = is; inside = slice_get_within (line_at s.flights d e) k (Some t) in_line; y = kept.0; there = kept.1; live = kept.2.live }

  -- what the withdrawal of one stands on
  pub can_withdraw : (s v : State P) → v ≡ s → (h d e k : ℕ) (x : Ending) → CanSettle s h d e → Some x ≡ asked_ending (item_at s.flights d e k)
      → (IsSome (item_at v.flights d e k)) × (results_at v.callers h (endpoint_id e) < 16) × (IfSome (slice_get v.controller.slots d) (λ u. IfSome (context_of u e) (λ z. k < length z.ring.line.items)))
  can_withdraw s v same h d e k x can asked = subst
      (λ (u : State P). (IsSome (item_at u.flights d e k)) × (results_at u.callers h (endpoint_id e) < 16) × (IfSome (slice_get u.controller.slots d) (λ w. IfSome (context_of w e) (λ z. k < length z.ring.line.items))))
      (sym same) (
        ap is_some is.found,
        omega (arith, can.few, live_counts (can.core.endpoints d e).line k is.y is.there is.live, (can.at.keeps.named h).waiting e (can.at.keeps.plain d e can.at.interface can.at.there)),
        subst (λ (o : Option DeviceSlot). IfSome o (λ w. IfSome (context_of w e) (λ z. k < length z.ring.line.items))) (sym slot.1)
            (subst (λ (o : Option Context). IfSome o (λ z. k < length z.ring.line.items)) (sym slot.2) (omega (arith, is.inside, ring_items can.setup s can.core d e can.at.interface ring.0 can.at.keeps can.at.there ring.1))),
      )
    where
      is : IsWithdrawn s can.core d e k
      is = withdrawn_there can.setup s can.core h d e k x can.at asked

      ring : (z : Context) × (context_in s.controller d e ≡ Some z)
      ring = ring_there can.setup s.controller can.core d e can.at.interface can.at.keeps.held can.at.there can.supported

      slot : (w : DeviceSlot) × (slice_get s.controller.slots d ≡ Some w) × (context_of w e ≡ Some ring.0) × HasRing can.setup d e (pipe_at w.pipes e) (can.core.endpoints d e) ring.0
      slot = ring_of can.setup s.controller can.core d e can.at.interface ring.0 can.at.keeps.held can.at.there ring.1

  -- and leaves an endpoint that can be settled
  pub can_settle_on : (s new : State P) (h d e k : ℕ) (x : Ending) → CanSettle s h d e → Some x ≡ asked_ending (item_at s.flights d e k) → Withdraws s new h d e k x → CanSettle new h d e
  can_settle_on s new h d e k x can asked withdrawn = record {
    setup = can.setup;
    core = after;
    at = record { keeps = withdrawn can.setup can.core is.y can.at can.still is.there is.live; interface = can.at.interface; there = can.at.there; holds = can.at.holds };
    still = can.still;
    few = omega (arith, ap (λ (v : KeptEndpoint). live_in v.line) (here can.core.endpoints d e b), one_less (can.core.endpoints d e).line k is.y is.there is.live, can.few, more);
    supported = can.supported;
    room = can.room;
  }
    where
      is : IsWithdrawn s can.core d e k
      is = withdrawn_there can.setup s can.core h d e k x can.at asked

      b : KeptEndpoint
      b = record (can.core.endpoints d e) { line = slice_set (can.core.endpoints d e).line k (record is.y { blank = true }) }

      after : Core
      after = record (with_kept d e b can.core) { results = can.core.results ++ tagged h (result_by is.y x ∷ []) }

      few_one : (t : Bool) → (if t then 1 else 0) ≤ 1
      few_one true = omega arith
      few_one false = omega arith

      one : (t : Bool) → count_by (is_result_at e) (if t then result_by is.y x ∷ [] else []) ≤ 1
      one true = omega (arith, count_one (is_result_at e) (result_by is.y x), few_one (is_result_at e (result_by is.y x)))
      one false = omega arith

      more : count_by (is_result_at e) (pieces_of h (can.core.results ++ tagged h (result_by is.y x ∷ []))) ≤ count_by (is_result_at e) (pieces_of h can.core.results) + 1
      more = omega (arith, ap (count_by (is_result_at e)) (pieces_of-append h can.core.results (tagged h (result_by is.y x ∷ []))), count_append (is_result_at e) (pieces_of h can.core.results) (pieces_of h (tagged h (result_by is.y x ∷ []))), one (h == h))

  -- so do blanks that leave
  pub can_settle_left : (s new : State P) (h d e count : ℕ) → CanSettle s h d e → Leaves s new h d e count → CanSettle new h d e
  can_settle_left s new h d e count can leaves = record {
    setup = can.setup;
    core = with_kept d e b can.core;
    at = record { keeps = leaves can.setup can.core can.at can.still; interface = can.at.interface; there = can.at.there; holds = can.at.holds };
    still = can.still;
    few = omega (arith, ap (λ (v : KeptEndpoint). live_in v.line) (here can.core.endpoints d e b), fewer_left count (can.core.endpoints d e).line, can.few);
    supported = can.supported;
    room = can.room;
  }
    where
      b : KeptEndpoint
      b = record (can.core.endpoints d e) { line = drop count (can.core.endpoints d e).line }

  -- the blanks of a settlement can leave
  pub can_leave : (setup : Setup) (s : State P) (c : Core) (h d e next : ℕ) (errand : Errand) (code : ℕ) (ok : Bool) (t : Settlement) → Settles setup s c h d e errand code → Fits e next (c.endpoints d e) errand ok t → CanLeave s d e t.leave
  can_leave setup s c h d e next errand code ok t is fits = record {
    within = omega (arith, few, prefix_len-le-length is_none xs);
    blank = λ i lt. leading_none xs i (omega (arith, lt, few));
    items = subst (λ (o : Option DeviceSlot). IfSome o (λ w. IfSome (context_of w e) (λ z. t.leave ≤ length z.ring.line.items))) (sym slot.1)
        (subst (λ (o : Option Context). IfSome o (λ z. t.leave ≤ length z.ring.line.items)) (sym slot.2) (omega (arith, few, prefix_len-le-length is_none xs, ring_items setup s (record c { events = is.rest }) d e known.at.interface ring.0 known.at.keeps known.at.there ring.1)));
  }
    where
      known : IsEnded setup s c is.rest h d e code errand
      known = ended setup s c h d e errand code is

      xs : List (Option (InFlight P))
      xs = line_at s.flights d e

      line : List KeptTransfer
      line = (c.endpoints d e).line

      all : AllItems (Some h) e xs line
      all = (end_at setup s (record c { events = is.rest }) h d e known.at).line

      few : t.leave ≤ prefix_len is_none xs
      few = omega (arith, fits.leaves, ap length (past_blanks (Some h) e xs line all), length-drop (prefix_len is_none xs) line, prefix_len-le-length is_none xs, as_many (Some h) e xs line all)

      ring : (z : Context) × (context_in s.controller d e ≡ Some z)
      ring = ring_there setup s.controller (record c { events = is.rest }) d e known.at.interface known.at.keeps.held known.at.there (supported_there setup s (record c { events = is.rest }) h d e known.order known.at known.sent)

      slot : (w : DeviceSlot) × (slice_get s.controller.slots d ≡ Some w) × (context_of w e ≡ Some ring.0) × HasRing setup d e (pipe_at w.pipes e) (c.endpoints d e) ring.0
      slot = ring_of setup s.controller (record c { events = is.rest }) d e known.at.interface ring.0 known.at.keeps.held known.at.there ring.1

  -- the pieces, of parts as a function finds them
  module _ (s v : State P) (same : v ≡ s) (d e : ℕ) where
    pub leaves_by : (count : ℕ) (k : Controller) (f : TransfersInFlight (InFlight P)) → CanLeave s d e count → f ≡ left_at v.flights d e count → k ≡ slot_changed v.controller d (λ a. changed a (endpoint_id e) (λ b. with_ring b (without_first b.ring count)))
        → (h : ℕ) → Leaves s (record v { controller = k; flights = f }) h d e count
    leaves_by count k f can is_f is_k h = subst (λ (u : State P). Leaves u (record v { controller = k; flights = f }) h d e count) same
        (leaves v k f h d e count (subst (λ (u : State P). CanLeave u d e count) (sym same) can).within is_f is_k)

    pub withdraws_by : (h item : ℕ) (x : Ending) (k : Controller) (f : TransfersInFlight (InFlight P)) (callers : List HandleState)
        → ((t : InFlight P) → item_at v.flights d e item ≡ Some t → f ≡ record (blanked_at v.flights d e item) { ended = v.flights.ended ++ record { transfer = t; ending = x } ∷ [] })
        → ((g id : ℕ) → results_at callers g id ≡ (if is_there h (endpoint_id e) g id then results_at v.callers g id + 1 else results_at v.callers g id))
        → SameNumbers v.callers callers → SameCallbacks v.callers callers → SameCounts v.callers callers
        → k ≡ slot_changed v.controller d (λ a. changed a (endpoint_id e) (λ b. with_ring b (with_blank b.ring item)))
        → Withdraws s (record v { controller = k; flights = f; callers = callers }) h d e item x
    withdraws_by h item x k f callers ends made numbers callbacks counts is_k = subst (λ (u : State P). Withdraws u (record v { controller = k; flights = f; callers = callers }) h d e item x) same
        (withdraws v k f callers h d e item x ends made numbers callbacks counts is_k)

    pub resumes_by : (k : Controller) (o : List (Option Sent)) (x : Context) (slot id : ℕ) → Some x ≡ context_in s.controller d e → slot ≡ x.slot → id ≡ x.id → k ≡ slot_changed v.controller (slot - 1) (λ a. changed a id rung) → o ≡ slice_set v.outstanding (lane_at d e) None
        → (h : ℕ) → Resumes s (record v { controller = k; outstanding = o }) h d e
    resumes_by k o x slot id there slot_is id_is is_k is_o h = subst (λ (u : State P). Resumes u (record v { controller = k; outstanding = o }) h d e) same
        (resumes v k o h d e x (ap (λ (u : State P). context_in u.controller d e) same ∙ sym there) (is_k ∙ ap₂ (λ m n. slot_changed v.controller (m - 1) (λ a. changed a n rung)) slot_is id_is) is_o)

    -- a settlement that was found by the marks of the line
    pub settle_fits : (setup : Setup) (c : Core) (h : ℕ) (errand : Errand) (code : ℕ) (t : Settlement) (marks : List Mark) → Settles setup s c h d e errand code → marks ≡ map mark_in (line_at v.flights d e) → t.leave ≤ length marks
        → t.withdraw ≡ not (fails_stop errand (code == 1)) → ((ep next : ℕ) (b : KeptEndpoint) → map mark_of b.line ≡ marks → settle ep next b errand (code == 1) ≡ settled_by t ep next b errand (code == 1))
        → Fits e c.posted (c.endpoints d e) errand (code == 1) t
    settle_fits setup c h errand code t marks is read few withdraws_is found =
        let known = ended setup s c h d e errand code is in
        let line = (c.endpoints d e).line in
        let all = (end_at setup s (record c { events = is.rest }) h d e known.at).line in
        let marked : map mark_of (map cleaned line) ≡ marks = marks_are (Some h) e (line_at s.flights d e) line all ∙ sym (read ∙ ap (λ (u : State P). map mark_in (line_at u.flights d e)) same) in
        fits e c.posted (c.endpoints d e) errand (code == 1) t
        (omega (arith, few, ap length (sym marked), length-map (map cleaned line) mark_of, length-map line cleaned))
        withdraws_is (found e c.posted (with_cleaned (c.endpoints d e)) marked)

  -- an errand that is ordered is the one that was to be
  pub posts_same : (s new : State P) (h d e : ℕ) (o errand : Errand) → Some o ≡ Some errand → Posts s new h d e o → Posts s new h d e errand
  posts_same s new h d e o errand same posted = subst (λ (x : Errand). Posts s new h d e x) (same_Some o errand same) posted
