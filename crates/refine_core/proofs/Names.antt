-- Parts of which only what is kept of names changed, and the results that wait.
use Rattle.std.proofs.Common.{◌≡◌, ℕ, refl, ap, sym, subst, ◌∙◌, List, length, map, Option, true}
use Rattle.std.specs.List.{AllByRecursion}
use Rattle.usb_model.specs.declared.handle.Handle.{Handle}
use Rattle.usb_model.specs.declared.result.TransferResult.{TransferResult}
use Rattle.usb_model.specs.declared.shared.Tagged.{Tagged}
use Rattle.usb_model.specs.Setup.{Setup, endpoint_id}
use Rattle.usb_model.specs.World.{holder}
use Rattle.usb_model.specs.World.Shared.{pieces_of}
use Rattle.usb_tables.specs.Holders.{Holding, device_of, owner_of}
use Rattle.usb_tables.specs.Tables.{is_plain}
use Rattle.usb_tables.specs.declared.transfer.Transfer.{Transfer as InFlight}
use Rattle.usb_tables.specs.declared.outstanding.Sent.{Sent}
use Rattle.usb_tables.specs.Outstanding.{sent_at}
use Rattle.usb_xhc.specs.Controller.{Controller}
use Rattle.usb_tables.specs.TransfersInFlight.{TransfersInFlight, line_at}
use Rattle.usb_tables.specs.HandleStates.{SameCallbacks, SameCounts, SameNumbers, SameResults}
use Rattle.refine_world.specs.Shows.{Core}
use Rattle.refine_rings.specs.Holds.{HoldsCore}
use Rattle.refine_core.specs.Calls.{Stays}
use Rattle.refine_core.specs.State.{Keeps, KeepsName, State, result_of}
use Rattle.refine_core.proofs.Buffers.{buffers_same}
use Rattle.refine_core.proofs.Changed.{end_still}
use Rattle.refine_core.proofs.Ringed.{rings_as}

module _ {P : Type 0} where
  -- they keep the core with these names and results
  pub keeps_named : (setup : Setup) (old new : State P) (c : Core) (names : ℕ → Handle) (results : List (Tagged TransferResult)) → Keeps setup old c
      → new.claims ≡ old.claims → new.controller ≡ old.controller → new.flights.lines ≡ old.flights.lines → new.flights.keys ≡ old.flights.keys → new.outstanding ≡ old.outstanding
      → ((g : ℕ) → KeepsName new g (names g) (pieces_of g results)) → results ≡ map result_of new.flights.ended → AllByRecursion (λ x. is_plain x.piece.request.ep ≡ true) results
      → Keeps setup new (record c { names = names; results = results })
  keeps_named setup old new c names results keeps claims controller lines keys outstanding named ended plain = record {
    set = keeps.set ∙ ap (λ (v : Holding). v.configs) (sym claims);
    plain = keeps.plain;
    fine = keeps.fine;
    read = keeps.read;
    few = keeps.few;
    bounded = keeps.bounded;
    lanes = ap length lines ∙ keeps.lanes;
    keyed = ap length keys ∙ keeps.keyed;
    cells = ap length outstanding ∙ keeps.cells;
    buffers = buffers_same old new lines keys (rings_as old.controller old.controller new.controller (λ d id. refl) controller) keeps.buffers;
    held = subst (λ (v : Controller). HoldsCore setup v c) (sym controller) keeps.held;
    claimed = λ d i. keeps.claimed d i ∙ ap (λ (v : Holding). owner_of v d i) (sym claims);
    named = named;
    ended = ended;
    ended_plain = plain;
    ends = λ d e i there. end_still old new (holder setup c.claims d e) d e (c.endpoints d e)
        (ap (λ (v : List (List (Option (InFlight P)))). line_at (record old.flights { lines = v }) d e) lines) (ap (λ (v : List (Option Sent)). sent_at v d e) outstanding) (keeps.ends d e i there);
    free = keeps.free;
  }

  -- a name of which each look-up answers as before
  pub name_same : (old new : State P) (g : ℕ) (x : Handle) (results : List TransferResult) → new.claims ≡ old.claims
      → SameNumbers old.callers new.callers → SameCallbacks old.callers new.callers → SameResults old.callers new.callers → SameCounts old.callers new.callers → KeepsName old g x results → KeepsName new g x results
  name_same old new g x results claims numbers callbacks waiting counts is = record {
    device = is.device ∙ ap (λ (v : Holding). device_of v g) (sym claims);
    number = is.number ∙ sym (numbers g);
    callback = λ n. is.callback n ∙ sym (callbacks g n);
    called = λ ep plain. is.called ep plain ∙ sym (counts g (endpoint_id ep));
    waiting = λ ep plain. is.waiting ep plain ∙ sym (waiting g (endpoint_id ep));
    plain = is.plain;
  }

  -- where each look-up of the callers answers as before nothing changed that anybody sees
  pub stays : (old new : State P) → new.claims ≡ old.claims → new.controller ≡ old.controller → new.flights ≡ old.flights → new.outstanding ≡ old.outstanding
      → SameNumbers old.callers new.callers → SameCallbacks old.callers new.callers → SameResults old.callers new.callers → SameCounts old.callers new.callers → Stays old new
  stays old new claims controller flights outstanding numbers callbacks waiting counts setup c keeps =
      keeps_named setup old new c c.names c.results keeps claims controller (ap (λ (f : TransfersInFlight (InFlight P)). f.lines) flights) (ap (λ (f : TransfersInFlight (InFlight P)). f.keys) flights) outstanding
      (λ g. name_same old new g (c.names g) (pieces_of g c.results) claims numbers callbacks waiting counts (keeps.named g))
      (keeps.ended ∙ ap (λ (f : TransfersInFlight (InFlight P)). map result_of f.ended) (sym flights)) keeps.ended_plain
