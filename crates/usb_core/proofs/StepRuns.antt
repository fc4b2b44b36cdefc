-- An order that was run is told by its endpoint.
use Rattle.std.proofs.Common.{◌≡◌, ℕ, suc, ◌<◌, ◌%◌, Some, None, Option, ap, ap₂, refl, sym, ◌∙◌}
use Rattle.std.specs.Prelude.{nat_lt, option_map, ◌==◌}
use Rattle.std.specs.Option.{option_map_or}
use Rattle.std.proofs.lemmas.Bool.{and_parts, ltb-true}
use Rattle.std.proofs.lemmas.Option.{same_Some}
use Rattle.usb_model.specs.declared.entry.Entry.{Entry}
use Rattle.usb_model.specs.declared.errand.Errand.{Errand}
use Rattle.usb_model.specs.declared.reply.Reply.TheVariants.{Idle, Ran}
use Rattle.usb_model.specs.declared.step.Step.TheVariants.{Command}
use Rattle.usb_model.specs.Setup.{Setup, endpoint_id}
use Rattle.usb_model.specs.World.{holder}
use Rattle.usb_trb.specs.declared.kind.TrbKind.{TrbKind}
use Rattle.usb_tables.specs.Holders.{Holding, IsSetup, owner_of}
use Rattle.usb_tables.specs.declared.held.HeldEndpoint.{HeldEndpoint}
use Rattle.usb_xhc.specs.Controller.{Controller, run_of}
use Rattle.refine_world.specs.Calls.{step_core}
use Rattle.refine_world.specs.Shows.{Core}
use Rattle.refine_core.specs.State.{IsState, Keeps, State}
use Rattle.refine_core.specs.Steps.{DoesCoreStep, order_in}
use Rattle.refine_core.proofs.Held.{holder_same}
use Rattle.refine_core.proofs.Orders.{IsCommand, commanded, not_commanded, told_of}

-- what is told of the endpoint of a slot and an id
abbrev pub Tells : Holding → (slot id : ℕ) → Option HeldEndpoint → Type 0
Tells v slot id o = (setup : Setup) → IsSetup v setup → (d e h : ℕ) → slot ≡ suc d → id ≡ endpoint_id e → e < 256 → holder setup (λ d i. owner_of v d i) d e ≡ Some h → o ≡ Some (record { dev = d; ep = e; name = h })

module _ {P : Type 0} where
  -- none was run
  pub ran_none : (s : State P) (k : Controller) → option_map told_of (run_of s.controller s.controller.commands.waits) ≡ None → k ≡ option_map_or (λ x. x.controller) (run_of s.controller s.controller.commands.waits) s.controller
      → DoesCoreStep s Command (record { owner = None; reply = Idle }) (record s { controller = k })
  unfolding step_core
  ran_none s k ran left = λ setup w c keeps shows. not_commanded setup w s c k keeps shows ran left

  -- an order that was run is of an endpoint
  pub its_order : (s : State P) (order : TrbKind) (code : ℕ) → IsState s → option_map told_of (run_of s.controller s.controller.commands.waits) ≡ Some (order, code)
      → order_in order ≡ None → ⊥
  its_order s order code is ran none =
      let was = commanded is.0 is.1 s is.2.0 _ order code is.2.1 is.2.2 ran refl in
      let both : ◌≡◌ {A = Option (ℕ × ℕ × Errand)} (Some (suc was.d, endpoint_id was.e, was.errand)) None = sym was.said ∙ none in
      absurd cc

  -- the endpoint of an order that was run is found, and so is its errand
  told_one : (setup : Setup) (s new : State P) (c : Core) (order : TrbKind) (code slot id n m : ℕ) (errand : Errand) (o : Option HeldEndpoint) → Keeps setup s c → (was : IsCommand setup new c order code) → order_in order ≡ Some (slot, id, errand)
      → n ≡ slot → m ≡ id → Tells s.claims n m o → (o ≡ Some (record { dev = was.d; ep = was.e; name = was.name })) × (errand ≡ was.errand)
  told_one setup s new c order code slot id n m errand o keeps was says is_slot is_id tells =
      let same : ◌≡◌ {A = ℕ × ℕ × Errand} (slot, id, errand) (suc was.d, endpoint_id was.e, was.errand) = same_Some (slot, id, errand) (suc was.d, endpoint_id was.e, was.errand) (sym says ∙ was.said) in
      let below : was.e < 256 = ltb-true was.e 256 (and_parts (nat_lt was.e 256) (nat_lt (was.e % 128) 16) was.plain).0 in (
        tells setup keeps.set was.d was.e was.name (is_slot ∙ ap (λ (x : ℕ × ℕ × Errand). x.0) same) (is_id ∙ ap (λ (x : ℕ × ℕ × Errand). x.1) same) below
            (sym (holder_same setup c.claims (λ d i. owner_of s.claims d i) was.d was.e keeps.claimed) ∙ was.holds),
        ap (λ (x : ℕ × ℕ × Errand). x.2) same,
      )

  -- so it is held
  pub its_endpoint : (s : State P) (order : TrbKind) (code slot id n m : ℕ) (errand : Errand) (o : Option HeldEndpoint) → IsState s → option_map told_of (run_of s.controller s.controller.commands.waits) ≡ Some (order, code)
      → order_in order ≡ Some (slot, id, errand) → n ≡ slot → m ≡ id → Tells s.claims n m o → o ≡ None → ⊥
  its_endpoint s order code slot id n m errand o is ran says is_slot is_id tells none =
      let was = commanded is.0 is.1 s is.2.0 _ order code is.2.1 is.2.2 ran refl in
      let told = told_one is.0 s _ is.2.0 order code slot id n m errand o is.2.1 was says is_slot is_id tells in
      let both : ◌≡◌ {A = Option HeldEndpoint} (Some (record { dev = was.d; ep = was.e; name = was.name })) None = sym told.0 ∙ none in
      absurd cc

  -- the step is the core's
  pub ran_one : (s : State P) (k : Controller) (order : TrbKind) (code slot id n m : ℕ) (errand : Errand) (o : Option HeldEndpoint) (at : HeldEndpoint) → option_map told_of (run_of s.controller s.controller.commands.waits) ≡ Some (order, code)
      → k ≡ option_map_or (λ x. x.controller) (run_of s.controller s.controller.commands.waits) s.controller → order_in order ≡ Some (slot, id, errand) → n ≡ slot → m ≡ id → Tells s.claims n m o → o ≡ Some at
      → DoesCoreStep s Command (record { owner = Some at.name; reply = Ran at.ep errand (code == 1) }) (record s { controller = k })
  unfolding step_core
  ran_one s k order code slot id n m errand o at ran left says is_slot is_id tells found = λ setup w c keeps shows.
      let was = commanded setup w s c k order code keeps shows ran left in
      let told = told_one setup s (record s { controller = k }) c order code slot id n m errand o keeps was says is_slot is_id tells in
      let same : at ≡ record { dev = was.d; ep = was.e; name = was.name } = same_Some at (record { dev = was.d; ep = was.e; name = was.name }) (sym found ∙ told.0) in
      (ap₂ (λ (x : HeldEndpoint) (y : Errand). entry_of x y) same told.1 ∙ sym was.entry, was.keeps)
    where
      entry_of : HeldEndpoint → Errand → Entry
      entry_of x y = record { owner = Some x.name; reply = Ran x.ep y (code == 1) }
