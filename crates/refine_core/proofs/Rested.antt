-- Parts after a call that does no work at an endpoint.
use Rattle.std.proofs.Common.{◌≡◌, ℕ, ap, sym, subst, subst₂, ◌∙◌, List, [], ◌∷◌, Option, Some, None, true, ◌⊎◌, inl, inr, refl}
use Rattle.std.specs.Prelude.{count_by}
use Rattle.std.specs.List.{AllByRecursion}
use Rattle.usb_model.specs.declared.handle.Handle.{Handle}
use Rattle.usb_model.specs.declared.result.InCallback.{InCallback}
use Rattle.usb_model.specs.declared.result.TransferResult.{TransferResult}
use Rattle.usb_model.specs.declared.shared.Tagged.{Tagged}
use Rattle.usb_model.specs.Machine.{is_callback_at}
use Rattle.usb_model.specs.Machine.Calls.{callback_of}
use Rattle.usb_model.specs.Setup.{Setup, endpoint_id, interface_of}
use Rattle.usb_model.specs.World.{holder}
use Rattle.usb_model.specs.World.Shared.{pieces_of}
use Rattle.usb_tables.specs.Holders.{Holding}
use Rattle.usb_tables.specs.Tables.{is_plain}
use Rattle.usb_trb.specs.declared.kind.TrbKind.{TrbKind}
use Rattle.usb_model.specs.Kept.{KeptEndpoint, KeptTransfer, SentErrand}
use Rattle.usb_tables.specs.declared.transfer.Transfer.{Transfer as InFlight}
use Rattle.usb_tables.specs.declared.outstanding.Sent.{Sent}
use Rattle.usb_tables.specs.Outstanding.{sent_at}
use Rattle.usb_xhc.specs.Controller.{Controller}
use Rattle.usb_tables.specs.TransfersInFlight.{keys_at, line_at}
use Rattle.refine_world.specs.Shows.{Core}
use Rattle.std.specs.Option.{option_map}
use Rattle.refine_core.specs.Handles.{IsLeft, NameRests, RestsTo, StaysHeld, StaysLeft}
use Rattle.refine_core.specs.State.{AllItems, Keeps, KeepsEnd, KeepsName, State, in_ring}
use Rattle.refine_core.proofs.Buffers.{NamesIn, buffers_same, named_at, none_named}
use Rattle.refine_core.proofs.Ringed.{IsBare, SameRings}

module _ {P : Type 0} where
  -- an empty line is empty in flight
  pub no_items : (name : Option ℕ) (e : ℕ) (xs : List (Option (InFlight P))) → AllItems name e xs [] → xs ≡ []
  no_items name e [] all = refl
  no_items name e (x ∷ xs) all = absurd all

  -- an endpoint where nothing is left is anybody's, or nobody's
  left_end : (old new : State P) (name other : Option ℕ) (d e : ℕ) (b after : KeptEndpoint) → new.flights ≡ old.flights → new.outstanding ≡ old.outstanding → IsLeft b → IsLeft after → KeepsEnd old name d e b → KeepsEnd new other d e after
  left_end old new name other d e b after flights outstanding was is keeps = record {
    line = subst₂ (λ (xs : List (Option (InFlight P))) (ys : List KeptTransfer). AllItems other e xs ys) (sym nothing) (sym is.line) tt;
    errand = ap (λ (v : List (Option Sent)). sent_at v d e) outstanding ∙ keeps.errand ∙ ap (λ (o : Option SentErrand). option_map in_ring o) (was.errand ∙ sym is.errand);
  }
    where
      nothing : line_at new.flights d e ≡ []
      nothing = ap (λ v. line_at v d e) flights ∙ no_items name e (line_at old.flights d e) (subst (λ (ys : List KeptTransfer). AllItems name e (line_at old.flights d e) ys) was.line keeps.line)

  -- a name of which at most the device changed
  name_rests : (old : State P) (v : Holding) (k : Controller) (g : ℕ) (x y : Handle) (results : List TransferResult) → NameRests v g x y → KeepsName old g x results → KeepsName (record old { claims = v; controller = k }) g y results
  name_rests old v k g x y results rests is = record {
    device = rests.device;
    number = rests.number ∙ is.number;
    callback = λ n. ap (λ (l : List InCallback). callback_of n l) rests.callbacks ∙ is.callback n;
    called = λ ep plain. ap (λ (l : List InCallback). count_by (is_callback_at ep) l) rests.callbacks ∙ is.called ep plain;
    waiting = is.waiting;
    plain = subst (λ (l : List InCallback). AllByRecursion (λ z. is_plain z.request.ep ≡ true) l) (sym rests.callbacks) is.plain;
  }

  -- the parts keep the core after the call
  pub keeps_rested : (setup : Setup) (old : State P) (v : Holding) (k : Controller) (c after : Core) → SameRings old.controller k → Keeps setup old c → RestsTo setup old v k c after → Keeps setup (record old { claims = v; controller = k }) after
  keeps_rested setup old v k c after rings keeps rests = record {
    set = keeps.set ∙ sym rests.configs;
    plain = keeps.plain;
    fine = keeps.fine;
    read = keeps.read;
    few = keeps.few;
    bounded = keeps.bounded;
    lanes = keeps.lanes;
    keyed = keeps.keyed;
    cells = keeps.cells;
    buffers = buffers_same old (record old { claims = v; controller = k }) refl refl rings keeps.buffers;
    held = rests.held;
    claimed = rests.claimed;
    named = λ g. subst (λ (l : List (Tagged TransferResult)). KeepsName new g (after.names g) (pieces_of g l)) (sym rests.results) (name_rests old v k g (c.names g) (after.names g) (pieces_of g c.results) (rests.named g) (keeps.named g));
    ended = rests.results ∙ keeps.ended;
    ended_plain = subst (λ (l : List (Tagged TransferResult)). AllByRecursion (λ x. is_plain x.piece.request.ep ≡ true) l) (sym rests.results) keeps.ended_plain;
    ends = λ d e i there. by_end d e i there (rests.ends d e i there);
    free = λ d e i there nobody. by_free d e i there nobody (rests.ends d e i there);
  }
    where
      new : State P
      new = record old { claims = v; controller = k }

      by_end : (d e i : ℕ) → interface_of setup d e ≡ Some i → StaysHeld setup c after d e ⊎ StaysLeft c after d e → KeepsEnd new (holder setup after.claims d e) d e (after.endpoints d e)
      by_end d e i there (inl stays) =
          let end = keeps.ends d e i there in
          subst₂ (λ (o : Option ℕ) (b : KeptEndpoint). KeepsEnd new o d e b) (sym stays.holder) (sym stays.endpoint) (record { line = end.line; errand = end.errand })
      by_end d e i there (inr left) = left_end old new (holder setup c.claims d e) (holder setup after.claims d e) d e (c.endpoints d e) (after.endpoints d e) refl refl left.was left.is (keeps.ends d e i there)

      by_free : (d e i : ℕ) → interface_of setup d e ≡ Some i → holder setup after.claims d e ≡ None → StaysHeld setup c after d e ⊎ StaysLeft c after d e → ((after.endpoints d e).line ≡ []) × ((after.endpoints d e).errand ≡ None)
      by_free d e i there nobody (inl stays) = subst (λ (b : KeptEndpoint). (b.line ≡ []) × (b.errand ≡ None)) (sym stays.endpoint) (keeps.free d e i there (sym stays.holder ∙ nobody))
      by_free d e i there nobody (inr left) = (left.is.line, left.is.errand)

  -- where nothing is left of a line no item is in its ring
  pub bare_left : (setup : Setup) (s : State P) (c : Core) (d e i : ℕ) → Keeps setup s c → interface_of setup d e ≡ Some i → (c.endpoints d e).line ≡ [] → IsBare s.controller d (endpoint_id e)
  bare_left setup s c d e i keeps there none r is =
      none_named r.0 (keys_at s.flights.keys d e) (line_at s.flights d e) r.1
      (subst (λ (o : Option (ℕ × List (List TrbKind))). NamesIn (keys_at s.flights.keys d e) (line_at s.flights d e) o) is (named_at s d e keeps.buffers)) nothing
    where
      name : Option ℕ
      name = holder setup c.claims d e

      nothing : line_at s.flights d e ≡ []
      nothing = no_items name e (line_at s.flights d e) (subst (λ (ys : List KeptTransfer). AllItems name e (line_at s.flights d e) ys) none (keeps.ends d e i there).line)
