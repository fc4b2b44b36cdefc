-- Transfers that end, and items that leave a line.
use Rattle.std.proofs.Common.{◌≡◌, ℕ, zero, suc, ◌+◌, ◌<◌, ◌≤◌, refl, ap, ap₂, sym, subst, ◌∙◌, arith, List, [], ◌∷◌, ◌++◌, length, drop, map, Option, Some, None, true}
use Rattle.std.specs.Prelude.{get_or, if◌then◌else◌, replicate, slice_set}
use Rattle.std.specs.List.{AllByRecursion}
use Rattle.std.proofs.lemmas.List.{map-append}
use Rattle.std.proofs.lemmas.Option.{same_Some}
use Rattle.usb_model.specs.declared.request.Request.{Request}
use Rattle.usb_model.specs.declared.result.TransferResult.{TransferResult}
use Rattle.usb_model.specs.declared.shared.Tagged.{Tagged}
use Rattle.usb_model.specs.Setup.{Setup, endpoint_id}
use Rattle.usb_model.specs.World.Shared.{pieces_of, tagged}
use Rattle.usb_tables.specs.Tables.{is_plain}
use Rattle.usb_trb.specs.declared.kind.TrbKind.TheVariants.{NoOp}
use Rattle.usb_model.specs.Kept.{KeptEndpoint, KeptTransfer}
use Rattle.usb_tables.specs.declared.transfer.Transfer.{Transfer as InFlight}
use Rattle.usb_xhc.specs.Host.{with_blank, with_ring, without_first}
use Rattle.usb_xhc.specs.Controller.{Controller, slot_changed}
use Rattle.usb_xhc.specs.Slots.{changed}
use Rattle.usb_tables.specs.HandleState.{Kept as HandleState}
use Rattle.usb_tables.specs.HandleStates.{SameCallbacks, SameCounts, SameNumbers, is_there, results_at}
use Rattle.usb_tables.specs.declared.ending.Ending.{Ending}
use Rattle.usb_tables.specs.ByEndpoint.{lane_at}
use Rattle.usb_tables.specs.TransfersInFlight.{TransfersInFlight, blanked_at, item_at, keys_at, left_at, line_at, with_keys, with_line}
use Rattle.refine_world.specs.Shows.{Core}
use Rattle.refine_rings.specs.Holds.{HoldsCore}
use Rattle.refine_rings.proofs.Ends.{here}
use Rattle.refine_rings.proofs.Renews.{hosts}
use Rattle.refine_core.specs.State.{AllItems, IsFlight, Keeps, KeepsEnd, NameBuffers, State, result_of}
use Rattle.refine_core.specs.Works.{Finishes, IsAt, Leaves, Withdraws, result_by, with_kept}
use Rattle.refine_core.proofs.Buffers.{blank_named, buffers_put, drop_named, keys_here, none_dropped, none_set}
use Rattle.refine_core.proofs.Changed.{keeps_with, name_still}
use Rattle.refine_core.proofs.Counts.{name_made}
use Rattle.refine_core.proofs.EndpointQueues.{has_lane, line_here, with_other}
use Rattle.refine_core.proofs.Lines.{as_many, drop_items, set_item, set_length}
use Rattle.refine_core.proofs.Transfers.{IsLiveAt, but_line, end_at, line_is, live_at}

-- what is set among the first items is gone where these leave
drop_set : {A : Type 0} (xs : List A) (i n : ℕ) (x : A) → i < n → drop n (slice_set xs i x) ≡ drop n xs
drop_set xs i zero x l = absurd (omega (arith, l))
drop_set [] i (suc n) x l = refl
drop_set (y ∷ ys) zero (suc n) x l = refl
drop_set (y ∷ ys) (suc i) (suc n) x l = drop_set ys i n x (omega (arith, l))

-- what was set last stands
set_twice : {A : Type 0} (xs : List A) (i : ℕ) (x y : A) → slice_set (slice_set xs i x) i y ≡ slice_set xs i y
set_twice [] i x y = refl
set_twice (z ∷ zs) zero x y = refl
set_twice (z ∷ zs) (suc i) x y = ap (λ ws. z ∷ ws) (set_twice zs i x y)

-- one more passes the test
pub all_more : {A : Type 0} (p : A → Type 0) (xs : List A) (x : A) → AllByRecursion p xs → p x → AllByRecursion p (xs ++ x ∷ [])
all_more p [] x all is = (is, tt)
all_more p (y ∷ ys) x all is = (all.0, all_more p ys x all.1 is)

module _ {P : Type 0} where
  -- the first items, which are blanks, leave
  pub leaves : (old : State P) (k : Controller) (f : TransfersInFlight (InFlight P)) (h d e count : ℕ) → count ≤ length (line_at old.flights d e) → f ≡ left_at old.flights d e count
      → k ≡ slot_changed old.controller d (λ s. changed s (endpoint_id e) (λ x. with_ring x (without_first x.ring count))) → Leaves old (record old { controller = k; flights = f }) h d e count
  leaves old k f h d e count within is_f is_k setup c at still = keeps_with setup old new c after h d e at
      (but_line old new d e line at.keeps.lanes (ap (λ (v : TransfersInFlight (InFlight P)). length v.keys) is_f ∙ set_length old.flights.keys (lane_at d e) keys ∙ at.keeps.keyed) at.keeps.cells refl refl lines)
      (record {
        same = refl;
        others = λ dev ep other. with_other c.endpoints d e b dev ep other;
        mine = subst (λ (x : KeptEndpoint). KeepsEnd new (Some h) d e x) (sym (here c.endpoints d e b))
            (record { line = subst (λ (l : List (Option (InFlight P))). AllItems (Some h) e l b.line) (sym (line_is setup old new c h d e line at lines)) (drop_items (Some h) e count (line_at old.flights d e) (c.endpoints d e).line end.line); errand = end.errand });
        buffers = buffers_put old new d e line keys (λ x. with_ring x (without_first x.ring count)) lines (line_is setup old new c h d e line at lines) (ap (λ (v : TransfersInFlight (InFlight P)). v.keys) is_f)
            (ap (λ (v : TransfersInFlight (InFlight P)). keys_at v.keys d e) is_f ∙ keys_here old.flights.keys d e keys (none_dropped count (keys_at old.flights.keys d e))) is_k
            (λ x there all. drop_named x.size count (keys_at old.flights.keys d e) (line_at old.flights d e) x.ring.line.items all) at.keeps.buffers;
        held = subst (λ (v : Controller). HoldsCore setup v after) (sym is_k) ((hosts setup old.controller c.gone c.endpoints c.orders c.events c.posted d e at.interface at.keeps.plain at.keeps.held at.there).drops count few still);
        named = λ g. name_still old new g (c.names g) (pieces_of g c.results) refl refl (at.keeps.named g);
        ended = at.keeps.ended ∙ ap (λ (v : TransfersInFlight (InFlight P)). map result_of v.ended) (sym is_f);
        ended_plain = at.keeps.ended_plain;
      })
    where
      new : State P
      new = record old { controller = k; flights = f }

      b : KeptEndpoint
      b = record (c.endpoints d e) { line = drop count (c.endpoints d e).line }

      after : Core
      after = with_kept d e b c

      line : List (Option (InFlight P))
      line = drop count (line_at old.flights d e)

      keys : List (Option ℕ)
      keys = drop count (keys_at old.flights.keys d e)

      lines : f.lines ≡ (with_line old.flights d e line).lines
      lines = ap (λ (v : TransfersInFlight (InFlight P)). v.lines) is_f

      end : KeepsEnd old (Some h) d e (c.endpoints d e)
      end = end_at setup old c h d e at

      few : count ≤ length (c.endpoints d e).line
      few =
          let all : length (line_at old.flights d e) ≡ length (c.endpoints d e).line = as_many (Some h) e (line_at old.flights d e) (c.endpoints d e).line end.line in
          omega (arith, all, within)

  -- what came of a transfer in flight, as the result of the kept one
  result_is : (h e : ℕ) (t : InFlight P) (y : KeptTransfer) (x : Ending) → IsFlight (Some h) e t y → result_of (record { transfer = t; ending = x }) ≡ record { name = h; piece = result_by y x }
  result_is h e t y x same =
      let name : t.name ≡ h = sym (same_Some h t.name same.whose) in
      ap (λ (n : ℕ). record { name = n; piece = record { n = t.n; request = t.request; round = t.round; status = x.status; actual = x.actual; bytes = t.bytes.items } }) name
      ∙ ap₂ (λ (n round : ℕ). record { name = h; piece = record { n = n; request = t.request; round = round; status = x.status; actual = x.actual; bytes = t.bytes.items } }) same.number same.again
      ∙ ap₂ (λ (request : Request) (bytes : List ℕ). record { name = h; piece = record { n = y.n; request = request; round = y.round; status = x.status; actual = x.actual; bytes = bytes } }) same.asks_for same.read

  -- a transfer in progress ended; with: what is put in the place of its line, l in flight and ys kept
  ends_with : (setup : Setup) (old : State P) (k : Controller) (f : TransfersInFlight (InFlight P)) (callers : List HandleState) (c : Core) (h d e item : ℕ) (x : Ending) (y : KeptTransfer) (l : List (Option (InFlight P))) (ys : List KeptTransfer) → IsAt setup old c h d e
      → (is : IsLiveAt old h d e item y) → f.lines ≡ (with_line old.flights d e l).lines → f.ended ≡ old.flights.ended ++ record { transfer = is.t; ending = x } ∷ [] → AllItems (Some h) e l ys
      → ((g id : ℕ) → results_at callers g id ≡ (if is_there h (endpoint_id e) g id then results_at old.callers g id + 1 else results_at old.callers g id))
      → SameNumbers old.callers callers → SameCallbacks old.callers callers → SameCounts old.callers callers
      → length f.keys ≡ 128 → NameBuffers (record old { controller = k; flights = f; callers = callers }) → HoldsCore setup k (with_kept d e (record (c.endpoints d e) { line = ys }) c)
      → Keeps setup (record old { controller = k; flights = f; callers = callers }) (record (with_kept d e (record (c.endpoints d e) { line = ys }) c) { results = c.results ++ tagged h (result_by y x ∷ []) })
  ends_with setup old k f callers c h d e item x y l ys at is lines ended all made numbers callbacks counts keyed buffers held = keeps_with setup old new c after h d e at
      (but_line old new d e l at.keeps.lanes keyed at.keeps.cells refl refl lines)
      (record {
        same = refl;
        others = λ dev ep other. with_other c.endpoints d e b dev ep other;
        mine = subst (λ (z : KeptEndpoint). KeepsEnd new (Some h) d e z) (sym (here c.endpoints d e b))
            (record { line = subst (λ (m : List (Option (InFlight P))). AllItems (Some h) e m ys) (sym (line_is setup old new c h d e l at lines)) all; errand = end.errand });
        buffers = buffers;
        held = held;
        named = λ g. name_made old new h e g (c.names g) c.results (result_by y x) plain is.same.at refl made numbers callbacks counts (at.keeps.named g);
        ended = ap₂ (λ (rs : List (Tagged TransferResult)) (r : Tagged TransferResult). rs ++ r ∷ []) at.keeps.ended (sym (result_is h e is.t y x is.same))
            ∙ sym (map-append result_of old.flights.ended (record { transfer = is.t; ending = x } ∷ [])) ∙ ap (map result_of) (sym ended);
        ended_plain = all_more (λ r. is_plain r.piece.request.ep ≡ true) c.results (record { name = h; piece = result_by y x }) at.keeps.ended_plain (ap is_plain is.same.at ∙ plain);
      })
    where
      new : State P
      new = record old { controller = k; flights = f; callers = callers }

      b : KeptEndpoint
      b = record (c.endpoints d e) { line = ys }

      after : Core
      after = record (with_kept d e b c) { results = c.results ++ tagged h (result_by y x ∷ []) }

      end : KeepsEnd old (Some h) d e (c.endpoints d e)
      end = end_at setup old c h d e at

      plain : is_plain e ≡ true
      plain = at.keeps.plain d e at.interface at.there

  -- a transfer in progress is withdrawn
  pub withdraws : (old : State P) (k : Controller) (f : TransfersInFlight (InFlight P)) (callers : List HandleState) (h d e item : ℕ) (x : Ending)
      → ((t : InFlight P) → item_at old.flights d e item ≡ Some t → f ≡ record (blanked_at old.flights d e item) { ended = old.flights.ended ++ record { transfer = t; ending = x } ∷ [] })
      → ((g id : ℕ) → results_at callers g id ≡ (if is_there h (endpoint_id e) g id then results_at old.callers g id + 1 else results_at old.callers g id))
      → SameNumbers old.callers callers → SameCallbacks old.callers callers → SameCounts old.callers callers
      → k ≡ slot_changed old.controller d (λ s. changed s (endpoint_id e) (λ v. with_ring v (with_blank v.ring item)))
      → Withdraws old (record old { controller = k; flights = f; callers = callers }) h d e item x
  withdraws old k f callers h d e item x ended made numbers callbacks counts is_k setup c y at still there live =
      let is = live_at setup old c h d e item y at there live in
      let is_f = ended is.t is.found in
      ends_with setup old k f callers c h d e item x y (slice_set (line_at old.flights d e) item None) (slice_set (c.endpoints d e).line item (record y { blank = true })) at is
      (ap (λ (v : TransfersInFlight (InFlight P)). v.lines) is_f) (ap (λ (v : TransfersInFlight (InFlight P)). v.ended) is_f)
      (set_item (Some h) e (line_at old.flights d e) (c.endpoints d e).line item None (record y { blank = true }) (end_at setup old c h d e at).line refl)
      made numbers callbacks counts
      (ap (λ (v : TransfersInFlight (InFlight P)). length v.keys) is_f ∙ set_length old.flights.keys (lane_at d e) (slice_set (keys_at old.flights.keys d e) item None) ∙ at.keeps.keyed)
      (buffers_put old (record old { controller = k; flights = f; callers = callers }) d e (slice_set (line_at old.flights d e) item None) (slice_set (keys_at old.flights.keys d e) item None) (λ v. with_ring v (with_blank v.ring item))
      (ap (λ (v : TransfersInFlight (InFlight P)). v.lines) is_f) (line_is setup old (record old { controller = k; flights = f; callers = callers }) c h d e (slice_set (line_at old.flights d e) item None) at (ap (λ (v : TransfersInFlight (InFlight P)). v.lines) is_f))
      (ap (λ (v : TransfersInFlight (InFlight P)). v.keys) is_f)
      (ap (λ (v : TransfersInFlight (InFlight P)). keys_at v.keys d e) is_f ∙ keys_here old.flights.keys d e (slice_set (keys_at old.flights.keys d e) item None) (none_set (keys_at old.flights.keys d e) item None)) is_k
      (λ v found all. blank_named v.size (keys_at old.flights.keys d e) (line_at old.flights d e) v.ring.line.items item (replicate (length (get_or v.ring.line.items item [])) NoOp) all) at.keeps.buffers)
      (subst (λ (v : Controller). HoldsCore setup v (with_kept d e (record (c.endpoints d e) { line = slice_set (c.endpoints d e).line item (record y { blank = true }) }) c)) (sym is_k)
      ((hosts setup old.controller c.gone c.endpoints c.orders c.events c.posted d e at.interface at.keeps.plain at.keeps.held at.there).blanks item y there still))

  -- a transfer in progress ended, and leaves with what stands before it and with what stands behind
  pub finishes : (old : State P) (k : Controller) (f g : TransfersInFlight (InFlight P)) (callers : List HandleState) (h d e item count : ℕ) (x : Ending)
      → ((t : InFlight P) → item_at old.flights d e item ≡ Some t → f ≡ record (blanked_at old.flights d e item) { ended = old.flights.ended ++ record { transfer = t; ending = x } ∷ [] })
      → item < count → count ≤ length (line_at old.flights d e) → g ≡ left_at f d e count
      → ((g id : ℕ) → results_at callers g id ≡ (if is_there h (endpoint_id e) g id then results_at old.callers g id + 1 else results_at old.callers g id))
      → SameNumbers old.callers callers → SameCallbacks old.callers callers → SameCounts old.callers callers
      → k ≡ slot_changed old.controller d (λ s. changed s (endpoint_id e) (λ v. with_ring v (without_first v.ring count)))
      → Finishes old (record old { controller = k; flights = g; callers = callers }) h d e item x count
  finishes old k f g callers h d e item count x ended before within is_g made numbers callbacks counts is_k setup c y at still there live =
      ends_with setup old k g callers c h d e item x y (drop count (line_at old.flights d e)) (drop count (c.endpoints d e).line) at is lines
      (ap (λ (v : TransfersInFlight (InFlight P)). v.ended) is_g ∙ ap (λ (v : TransfersInFlight (InFlight P)). v.ended) is_f)
      (drop_items (Some h) e count (line_at old.flights d e) (c.endpoints d e).line (end_at setup old c h d e at).line)
      made numbers callbacks counts
      (ap length keys ∙ set_length old.flights.keys (lane_at d e) (drop count (keys_at old.flights.keys d e)) ∙ at.keeps.keyed)
      (buffers_put old (record old { controller = k; flights = g; callers = callers }) d e (drop count (line_at old.flights d e)) (drop count (keys_at old.flights.keys d e)) (λ v. with_ring v (without_first v.ring count))
      lines (line_is setup old (record old { controller = k; flights = g; callers = callers }) c h d e (drop count (line_at old.flights d e)) at lines) keys
      (ap (λ (v : List (List (Option ℕ))). keys_at v d e) keys ∙ keys_here old.flights.keys d e (drop count (keys_at old.flights.keys d e)) (none_dropped count (keys_at old.flights.keys d e))) is_k
      (λ v found all. drop_named v.size count (keys_at old.flights.keys d e) (line_at old.flights d e) v.ring.line.items all) at.keeps.buffers)
      (subst (λ (v : Controller). HoldsCore setup v (with_kept d e (record (c.endpoints d e) { line = drop count (c.endpoints d e).line }) c)) (sym is_k)
      ((hosts setup old.controller c.gone c.endpoints c.orders c.events c.posted d e at.interface at.keeps.plain at.keeps.held at.there).drops count few still))
    where
      is : IsLiveAt old h d e item y
      is = live_at setup old c h d e item y at there live

      is_f : f ≡ record (blanked_at old.flights d e item) { ended = old.flights.ended ++ record { transfer = is.t; ending = x } ∷ [] }
      is_f = ended is.t is.found

      few : count ≤ length (c.endpoints d e).line
      few =
          let all : length (line_at old.flights d e) ≡ length (c.endpoints d e).line = as_many (Some h) e (line_at old.flights d e) (c.endpoints d e).line (end_at setup old c h d e at).line in
          omega (arith, all, within)

      here_f : line_at f d e ≡ slice_set (line_at old.flights d e) item None
      here_f = ap (λ (v : TransfersInFlight (InFlight P)). line_at v d e) is_f ∙ line_here old.flights d e (slice_set (line_at old.flights d e) item None) at.keeps.lanes (has_lane setup d e at.interface at.keeps.few at.there)

      lines : g.lines ≡ (with_line old.flights d e (drop count (line_at old.flights d e))).lines
      lines = ap (λ (v : TransfersInFlight (InFlight P)). v.lines) is_g
          ∙ ap₂ (λ (v : List (List (Option (InFlight P)))) (m : List (Option (InFlight P))). slice_set v (lane_at d e) (drop count m)) (ap (λ (v : TransfersInFlight (InFlight P)). v.lines) is_f) here_f
          ∙ set_twice old.flights.lines (lane_at d e) (slice_set (line_at old.flights d e) item None) (drop count (slice_set (line_at old.flights d e) item None))
          ∙ ap (λ (m : List (Option (InFlight P))). slice_set old.flights.lines (lane_at d e) m) (drop_set (line_at old.flights d e) item count None before)

      keys_f : keys_at f.keys d e ≡ slice_set (keys_at old.flights.keys d e) item None
      keys_f = ap (λ (v : TransfersInFlight (InFlight P)). keys_at v.keys d e) is_f ∙ keys_here old.flights.keys d e (slice_set (keys_at old.flights.keys d e) item None) (none_set (keys_at old.flights.keys d e) item None)

      keys : g.keys ≡ with_keys old.flights.keys d e (drop count (keys_at old.flights.keys d e))
      keys = ap (λ (v : TransfersInFlight (InFlight P)). v.keys) is_g
          ∙ ap₂ (λ (v : List (List (Option ℕ))) (m : List (Option ℕ)). slice_set v (lane_at d e) (drop count m)) (ap (λ (v : TransfersInFlight (InFlight P)). v.keys) is_f) keys_f
          ∙ set_twice old.flights.keys (lane_at d e) (slice_set (keys_at old.flights.keys d e) item None) (drop count (slice_set (keys_at old.flights.keys d e) item None))
          ∙ ap (λ (m : List (Option ℕ)). slice_set old.flights.keys (lane_at d e) m) (drop_set (keys_at old.flights.keys d e) item count None before)
