-- What changes of the transfers of a line.
use Rattle.std.proofs.Common.{◌≡◌, ℕ, zero, suc, refl, ap, sym, subst, ◌∙◌, List, [], ◌∷◌, length, map, Option, Some, None, true, false}
use Rattle.std.specs.Prelude.{slice_get, slice_set}
use Rattle.usb_model.specs.declared.item.Ask.{Ask}
use Rattle.usb_model.specs.Setup.{Setup}
use Rattle.usb_model.specs.World.Shared.{pieces_of}
use Rattle.usb_model.specs.Kept.{KeptEndpoint, KeptTransfer}
use Rattle.usb_tables.specs.declared.transfer.Transfer.{Transfer as InFlight}
use Rattle.usb_tables.specs.declared.outstanding.Sent.{Sent}
use Rattle.usb_tables.specs.Outstanding.{sent_at}
use Rattle.usb_xhc.specs.Slots.{DeviceSlot, context_of}
use Rattle.usb_tables.specs.ByEndpoint.{lane_at}
use Rattle.usb_tables.specs.TransfersInFlight.{TransfersInFlight, item_at, keys_at, line_at, with_item, with_line}
use Rattle.refine_rings.specs.EndpointLaws.{HaveTrbsOf}
use Rattle.refine_world.specs.Shows.{Core}
use Rattle.refine_rings.proofs.Ends.{here}
use Rattle.refine_rings.proofs.Renews.{hosts}
use Rattle.refine_core.specs.State.{AllItems, IsFlight, IsItem, Keeps, KeepsEnd, State, result_of}
use Rattle.refine_core.specs.Works.{Asks, IsAt, Pauses, with_kept}
use Rattle.refine_core.proofs.Buffers.{buffers_line, set_named}
use Rattle.refine_core.proofs.Changed.{IsBut, keeps_with, name_still}
use Rattle.refine_core.proofs.EndpointQueues.{has_lane, line_here, line_other, same_trbs, with_other}
use Rattle.refine_core.proofs.Rings.{no_ring_errand}
use Rattle.refine_core.proofs.Lines.{index_get, item_of, set_item, set_length}

module _ {P : Type 0} where
  -- the line and the errand of an endpoint that a name holds
  pub end_at : (setup : Setup) (s : State P) (c : Core) (h d e : ℕ) → IsAt setup s c h d e → KeepsEnd s (Some h) d e (c.endpoints d e)
  end_at setup s c h d e at = subst (λ (name : Option ℕ). KeepsEnd s name d e (c.endpoints d e)) at.holds (at.keeps.ends d e at.interface at.there)

  -- a transfer in progress, in flight and as it is kept
  pub record IsLiveAt (s : State P) (h d e item : ℕ) (y : KeptTransfer) : Type 0 where
    pub t : InFlight P
    pub found : item_at s.flights d e item ≡ Some t
    pub there : slice_get (line_at s.flights d e) item ≡ Some (Some t)
    pub same : IsFlight (Some h) e t y

  -- of each kept transfer that isn't a blank there is one in flight
  pub live_at : (setup : Setup) (s : State P) (c : Core) (h d e item : ℕ) (y : KeptTransfer) → IsAt setup s c h d e → slice_get (c.endpoints d e).line item ≡ Some y → y.blank ≡ false → IsLiveAt s h d e item y
  live_at setup s c h d e item y at there live =
      let found = item_of (Some h) e (line_at s.flights d e) (c.endpoints d e).line item y (end_at setup s c h d e at).line there in
      by_item found.0 found.1 found.2
    where
      by_item : (x : Option (InFlight P)) → slice_get (line_at s.flights d e) item ≡ Some x → IsItem (Some h) e x y → IsLiveAt s h d e item y
      by_item None in_line is =
          let both : false ≡ true = sym live ∙ is in
          absurd cc
      by_item (Some t) in_line is = record { t = t; found = index_get (line_at s.flights d e) item None (Some t) in_line; there = in_line; same = is }

  -- parts of which one line of transfers in flight is another
  pub but_line : (old new : State P) (d e : ℕ) (l : List (Option (InFlight P))) → length old.flights.lines ≡ 128 → length new.flights.keys ≡ 128 → length old.outstanding ≡ 128 → new.claims ≡ old.claims → new.outstanding ≡ old.outstanding
      → new.flights.lines ≡ (with_line old.flights d e l).lines → IsBut old new d e
  but_line old new d e l lanes keyed cells claims outstanding lines = record {
    claims = claims;
    lanes = ap length lines ∙ set_length old.flights.lines (lane_at d e) l ∙ lanes;
    keyed = keyed;
    cells = ap length outstanding ∙ cells;
    lines = λ dev ep other. at_lines dev ep ∙ line_other old.flights d e dev ep l other;
    sent = λ dev ep other. ap (λ (v : List (Option Sent)). sent_at v dev ep) outstanding;
  }
    where
      at_lines : (dev ep : ℕ) → line_at new.flights dev ep ≡ line_at (with_line old.flights d e l) dev ep
      at_lines dev ep = ap (λ (v : List (List (Option (InFlight P)))). line_at (record old.flights { lines = v }) dev ep) lines

  -- the new line is there
  pub line_is : (setup : Setup) (old new : State P) (c : Core) (h d e : ℕ) (l : List (Option (InFlight P))) → IsAt setup old c h d e → new.flights.lines ≡ (with_line old.flights d e l).lines → line_at new.flights d e ≡ l
  line_is setup old new c h d e l at lines =
      ap (λ (v : List (List (Option (InFlight P)))). line_at (record old.flights { lines = v }) d e) lines
      ∙ line_here old.flights d e l at.keeps.lanes (has_lane setup d e at.interface at.keeps.few at.there)

  -- a transfer in progress changed in what the core alone keeps of it
  pub item_changes : (setup : Setup) (old : State P) (f : TransfersInFlight (InFlight P)) (c : Core) (h d e item : ℕ) (y z : KeptTransfer) (t : InFlight P) → IsAt setup old c h d e → slice_get (c.endpoints d e).line item ≡ Some y
      → f ≡ with_item old.flights d e item (Some t) → IsFlight (Some h) e t z → z.place ≡ y.place → z.lengths ≡ y.lengths → z.blank ≡ y.blank → z.request ≡ y.request
      → Keeps setup (record old { flights = f }) (with_kept d e (record (c.endpoints d e) { line = slice_set (c.endpoints d e).line item z }) c)
  item_changes setup old f c h d e item y z t at there put is place lengths blank request = keeps_with setup old new c after h d e at
      (but_line old new d e line at.keeps.lanes (ap (λ (v : TransfersInFlight (InFlight P)). length v.keys) put ∙ at.keeps.keyed) at.keeps.cells refl refl lines)
      (record {
        same = refl;
        others = λ dev ep other. with_other c.endpoints d e b dev ep other;
        mine = subst (λ (x : KeptEndpoint). KeepsEnd new (Some h) d e x) (sym (here c.endpoints d e b))
            (record { line = subst (λ (l : List (Option (InFlight P))). AllItems (Some h) e l b.line) (sym (line_is setup old new c h d e line at lines)) (set_item (Some h) e (line_at old.flights d e) (c.endpoints d e).line item (Some t) z end.line is); errand = end.errand });
        buffers = buffers_line old new d e line lines (line_is setup old new c h d e line at lines) (ap (λ (v : TransfersInFlight (InFlight P)). v.keys) put) (λ dev id. refl)
            (λ size kss all. set_named size (keys_at old.flights.keys d e) (line_at old.flights d e) kss item was.t t all was.there (is.asks_for ∙ request ∙ sym was.same.asks_for)) at.keeps.buffers;
        held = (hosts setup old.controller c.gone c.endpoints c.orders c.events c.posted d e at.interface at.keeps.plain at.keeps.held at.there).keeps b
            (trbs_set (c.endpoints d e).line item there) refl refl refl refl refl refl refl no_errand;
        named = λ g. name_still old new g (c.names g) (pieces_of g c.results) refl refl (at.keeps.named g);
        ended = at.keeps.ended ∙ ap (λ (v : TransfersInFlight (InFlight P)). map result_of v.ended) (sym put);
        ended_plain = at.keeps.ended_plain;
      })
    where
      new : State P
      new = record old { flights = f }

      b : KeptEndpoint
      b = record (c.endpoints d e) { line = slice_set (c.endpoints d e).line item z }

      after : Core
      after = with_kept d e b c

      line : List (Option (InFlight P))
      line = slice_set (line_at old.flights d e) item (Some t)

      lines : f.lines ≡ (with_line old.flights d e line).lines
      lines = ap (λ (v : TransfersInFlight (InFlight P)). v.lines) put

      end : KeepsEnd old (Some h) d e (c.endpoints d e)
      end = end_at setup old c h d e at

      was : IsLiveAt old h d e item y
      was = live_at setup old c h d e item y at there (sym blank ∙ is.live)

      trbs_set : (ys : List KeptTransfer) (i : ℕ) → slice_get ys i ≡ Some y → HaveTrbsOf ys (slice_set ys i z)
      trbs_set [] i it = tt
      trbs_set (x ∷ xs) zero it =
          let same : x ≡ y = cc in
          (record { place = place ∙ ap (λ (v : KeptTransfer). v.place) (sym same); lengths = lengths ∙ ap (λ (v : KeptTransfer). v.lengths) (sym same); blank = blank ∙ ap (λ (v : KeptTransfer). v.blank) (sym same); request = request ∙ ap (λ (v : KeptTransfer). v.request) (sym same) }, same_trbs xs)
      trbs_set (x ∷ xs) (suc i) it = (record { place = refl; lengths = refl; blank = refl; request = refl }, trbs_set xs i it)

      no_errand : (s : DeviceSlot) → slice_get old.controller.slots d ≡ Some s → context_of s e ≡ None → b.errand ≡ None
      no_errand s in_slots none = no_ring_errand setup old c h d e s at in_slots none

  -- a transfer's pause is told
  pub pauses : (old : State P) (f : TransfersInFlight (InFlight P)) (h d e item actual : ℕ) → ((t : InFlight P) → item_at old.flights d e item ≡ Some t → f ≡ with_item old.flights d e item (Some (record t { moved = actual })))
      → Pauses old (record old { flights = f }) h d e item actual
  pauses old f h d e item actual paused setup c y at there live =
      let is = live_at setup old c h d e item y at there live in
      item_changes setup old f c h d e item y (record y { moved = actual }) (record is.t { moved = actual }) at there (paused is.t is.found)
      (record { live = is.same.live; number = is.same.number; asks_for = is.same.asks_for; again = is.same.again; asked = is.same.asked; told = refl; read = is.same.read; room = is.same.room; at = is.same.at; whose = is.same.whose })
      refl refl refl refl

  -- a transfer is asked to end
  pub asks : (old : State P) (f : TransfersInFlight (InFlight P)) (h d e item : ℕ) (why : Ask) → ((t : InFlight P) → item_at old.flights d e item ≡ Some t → f ≡ with_item old.flights d e item (Some (record t { ask = Some why })))
      → Asks old (record old { flights = f }) h d e item why
  asks old f h d e item why asked setup c y at there live =
      let is = live_at setup old c h d e item y at there live in
      item_changes setup old f c h d e item y (record y { ask = Some why }) (record is.t { ask = Some why }) at there (asked is.t is.found)
      (record { live = is.same.live; number = is.same.number; asks_for = is.same.asks_for; again = is.same.again; asked = refl; told = is.same.told; read = is.same.read; room = is.same.room; at = is.same.at; whose = is.same.whose })
      refl refl refl refl
