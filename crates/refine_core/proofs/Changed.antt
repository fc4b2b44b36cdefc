-- Parts that keep another core, where one endpoint changed.
use Rattle.std.proofs.Common.{◌≡◌, ℕ, ap, ap₂, sym, subst, subst₂, ◌∙◌, List, [], length, map, Option, Some, None, true, ◌⊎◌, inl, inr}
use Rattle.std.specs.List.{AllByRecursion}
use Rattle.std.proofs.lemmas.Bool.{cases_eq}
use Rattle.usb_model.specs.declared.handle.Handle.{Handle}
use Rattle.usb_model.specs.declared.result.TransferResult.{TransferResult}
use Rattle.usb_model.specs.Setup.{Setup, endpoint_id, interface_of}
use Rattle.usb_model.specs.World.{Claims, holder}
use Rattle.usb_model.specs.World.Shared.{pieces_of}
use Rattle.usb_tables.specs.Holders.{Holding, device_of, owner_of}
use Rattle.usb_tables.specs.Tables.{is_plain}
use Rattle.usb_model.specs.Kept.{KeptEndpoint}
use Rattle.usb_tables.specs.Outstanding.{sent_at}
use Rattle.usb_tables.specs.HandleState.{Kept as HandleState}
use Rattle.usb_tables.specs.HandleStates.{callback_at, callbacks_at, number_of, results_at}
use Rattle.usb_tables.specs.ByEndpoint.{lane_at}
use Rattle.usb_tables.specs.TransfersInFlight.{line_at}
use Rattle.refine_world.specs.Shows.{Core}
use Rattle.refine_rings.specs.Holds.{HoldsCore}
use Rattle.refine_core.specs.State.{AllItems, Keeps, KeepsEnd, KeepsName, NameBuffers, State, result_of}
use Rattle.refine_core.specs.Works.{IsAt}
use Rattle.refine_core.proofs.EndpointQueues.{lanes_apart}

module _ {P : Type 0} where
  -- of all other endpoints lines and errands are as they were
  pub record IsBut (old new : State P) (d e : ℕ) : Type 0 where
    pub claims : new.claims ≡ old.claims
    pub lanes : length new.flights.lines ≡ 128
    pub keyed : length new.flights.keys ≡ 128
    pub cells : length new.outstanding ≡ 128
    pub lines : (dev ep : ℕ) → (lane_at dev ep ≡ lane_at d e → ⊥) → line_at new.flights dev ep ≡ line_at old.flights dev ep
    pub sent : (dev ep : ℕ) → (lane_at dev ep ≡ lane_at d e → ⊥) → sent_at new.outstanding dev ep ≡ sent_at old.outstanding dev ep

  -- an endpoint of which nothing changed
  pub end_still : (old new : State P) (name : Option ℕ) (d e : ℕ) (b : KeptEndpoint) → line_at new.flights d e ≡ line_at old.flights d e → sent_at new.outstanding d e ≡ sent_at old.outstanding d e
      → KeepsEnd old name d e b → KeepsEnd new name d e b
  end_still old new name d e b line sent is = record {
    line = subst (λ l. AllItems name e l b.line) (sym line) is.line;
    errand = sent ∙ is.errand;
  }

  -- a name of which nothing changed
  pub name_still : (old new : State P) (g : ℕ) (x : Handle) (results : List TransferResult) → new.claims ≡ old.claims → new.callers ≡ old.callers → KeepsName old g x results → KeepsName new g x results
  name_still old new g x results claims callers is = record {
    device = is.device ∙ ap (λ (v : Holding). device_of v g) (sym claims);
    number = is.number ∙ ap (λ (v : List HandleState). number_of v g) (sym callers);
    callback = λ n. is.callback n ∙ ap (λ (v : List HandleState). callback_at v g n) (sym callers);
    called = λ ep plain. is.called ep plain ∙ ap (λ (v : List HandleState). callbacks_at v g (endpoint_id ep)) (sym callers);
    waiting = λ ep plain. is.waiting ep plain ∙ ap (λ (v : List HandleState). results_at v g (endpoint_id ep)) (sym callers);
    plain = is.plain;
  }

  -- what more is new of a core of which one endpoint changed
  pub record IsWith (setup : Setup) (new : State P) (c after : Core) (h d e : ℕ) : Type 0 where
    pub same : after.claims ≡ c.claims
    pub others : (dev ep : ℕ) → ((d ≡ dev) × (e ≡ ep) → ⊥) → after.endpoints dev ep ≡ c.endpoints dev ep
    pub mine : KeepsEnd new (Some h) d e (after.endpoints d e)
    pub buffers : NameBuffers new
    pub held : HoldsCore setup new.controller after
    pub named : (g : ℕ) → KeepsName new g (after.names g) (pieces_of g after.results)
    pub ended : after.results ≡ map result_of new.flights.ended
    pub ended_plain : AllByRecursion (λ x. is_plain x.piece.request.ep ≡ true) after.results

  -- the new parts keep that core
  pub keeps_with : (setup : Setup) (old new : State P) (c after : Core) (h d e : ℕ) → IsAt setup old c h d e → IsBut old new d e → IsWith setup new c after h d e → Keeps setup new after
  keeps_with setup old new c after h d e at but with = record {
    set = at.keeps.set ∙ ap (λ (x : Holding). x.configs) (sym but.claims);
    plain = at.keeps.plain;
    fine = at.keeps.fine;
    read = at.keeps.read;
    few = at.keeps.few;
    bounded = at.keeps.bounded;
    lanes = but.lanes;
    keyed = but.keyed;
    cells = but.cells;
    buffers = with.buffers;
    held = with.held;
    claimed = λ dev i. ap (λ (f : Claims). f dev i) with.same ∙ at.keeps.claimed dev i ∙ ap (λ x. owner_of x dev i) (sym but.claims);
    named = with.named;
    ended = with.ended;
    ended_plain = with.ended_plain;
    ends = λ dev ep i there. by_device dev ep i there (cases_eq d dev) (cases_eq e ep);
    free = λ dev ep i there nobody. unheld dev ep i there (sym (ap (λ (f : Claims). holder setup f dev ep) with.same) ∙ nobody) (cases_eq d dev) (cases_eq e ep);
  }
    where
      still : (dev ep i : ℕ) → interface_of setup dev ep ≡ Some i → ((d ≡ dev) × (e ≡ ep) → ⊥) → KeepsEnd new (holder setup after.claims dev ep) dev ep (after.endpoints dev ep)
      still dev ep i there other =
          let apart : lane_at dev ep ≡ lane_at d e → ⊥ = lanes_apart setup d e at.interface dev ep i at.keeps.plain at.there there other in
          subst₂ (λ (o : Option ℕ) (b : KeptEndpoint). KeepsEnd new o dev ep b) (ap (λ (f : Claims). holder setup f dev ep) (sym with.same)) (sym (with.others dev ep other))
          (end_still old new (holder setup c.claims dev ep) dev ep (c.endpoints dev ep) (but.lines dev ep apart) (but.sent dev ep apart) (at.keeps.ends dev ep i there))

      free_still : (dev ep i : ℕ) → interface_of setup dev ep ≡ Some i → holder setup c.claims dev ep ≡ None → ((d ≡ dev) × (e ≡ ep) → ⊥) → ((after.endpoints dev ep).line ≡ []) × ((after.endpoints dev ep).errand ≡ None)
      free_still dev ep i there nobody other =
          subst (λ (b : KeptEndpoint). (b.line ≡ []) × (b.errand ≡ None)) (sym (with.others dev ep other)) (at.keeps.free dev ep i there nobody)

      unheld : (dev ep i : ℕ) → interface_of setup dev ep ≡ Some i → holder setup c.claims dev ep ≡ None → (d ≡ dev) ⊎ (d ≡ dev → ⊥) → (e ≡ ep) ⊎ (e ≡ ep → ⊥) → ((after.endpoints dev ep).line ≡ []) × ((after.endpoints dev ep).errand ≡ None)
      unheld dev ep i there nobody (inl device) (inl end) =
          let both : None ≡ Some h = sym nobody ∙ ap₂ (λ (x y : ℕ). holder setup c.claims x y) (sym device) (sym end) ∙ at.holds in
          absurd cc
      unheld dev ep i there nobody (inl device) (inr other) = free_still dev ep i there nobody (λ both. other both.1)
      unheld dev ep i there nobody (inr other) end = free_still dev ep i there nobody (λ both. other both.0)

      mine : KeepsEnd new (holder setup after.claims d e) d e (after.endpoints d e)
      mine = subst (λ (o : Option ℕ). KeepsEnd new o d e (after.endpoints d e)) (sym (ap (λ (f : Claims). holder setup f d e) with.same ∙ at.holds)) with.mine

      by_device : (dev ep i : ℕ) → interface_of setup dev ep ≡ Some i → (d ≡ dev) ⊎ (d ≡ dev → ⊥) → (e ≡ ep) ⊎ (e ≡ ep → ⊥) → KeepsEnd new (holder setup after.claims dev ep) dev ep (after.endpoints dev ep)
      by_device dev ep i there (inl device) (inl end) =
          subst₂ (λ (x y : ℕ). KeepsEnd new (holder setup after.claims x y) x y (after.endpoints x y)) device end mine
      by_device dev ep i there (inl device) (inr other) = still dev ep i there (λ both. other both.1)
      by_device dev ep i there (inr other) end = still dev ep i there (λ both. other both.0)
