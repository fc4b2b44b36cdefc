-- Devices that go.
use Rattle.std.specs.Prelude.{[], ◌∷◌, codes}
use Rattle.usb_model.specs.declared.response.Response.TheVariants.{Data}
use Rattle.usb_model.specs.declared.request.Body.TheVariants.{In}
use Rattle.usb_model.specs.declared.step.Step.TheVariants.{Open, Claim, Submit, Serve, Deliver, Take, Unplug}
use Rattle.usb_model.specs.declared.plan.Plan.TheVariants.{Do, Return}
use Rattle.proof_laws.specs.Rows.{Row, example, bulk, interrupt}

-- Transfers end in order: those served as they were, those that waited with NO_DEVICE.
abbrev pub unplug_amid_transfers : Row
unplug_amid_transfers = record {
  setup = example (Data (1 ∷ 2 ∷ 3 ∷ 4 ∷ 5 ∷ 6 ∷ 7 ∷ 8 ∷ []) ∷ []) [] [];
  plan =
      Do (Open 1 0) ∷ Do (Open 2 0) ∷ Do (Claim 1 0) ∷ Do (Claim 2 1) ∷ Do (Submit 1 (bulk 0x81 (In 8))) ∷ Do (Submit 1 (bulk 0x81 (In 8))) ∷
      Do (Submit 2 (interrupt 0x83 (In 8))) ∷ Do (Serve 0 0x81) ∷ Do (Unplug 0) ∷ Do (Unplug 0) ∷ Do (Submit 1 (bulk 0x81 (In 8))) ∷ Do Deliver ∷
      Do (Serve 0 0x81) ∷ Do (Serve 0 0x83) ∷ Do Deliver ∷ Do Deliver ∷ Do Take ∷ Do Take ∷ Do Take ∷ Return 1 0 ∷ Do (Open 3 0) ∷ [];
  rules = [];
  lines =
      codes "h1 done" ∷ codes "h2 done" ∷ codes "h1 done" ∷ codes "h2 done" ∷ codes "h1 number 0" ∷ codes "h1 number 1" ∷ codes "h2 number 0" ∷
      codes "h1 ended 0 code 1" ∷ codes "- done" ∷ codes "- refused 2" ∷ codes "h1 refused 2" ∷ codes "h1 finished 0" ∷
      codes "h1 ended 1 code 4" ∷ codes "h2 ended 0 code 4" ∷ codes "h1 finished 1" ∷ codes "h2 finished 0" ∷
      codes "h1 called 0 ep 81 round 0 COMPLETED 8 data 0102030405060708" ∷ codes "h1 called 1 ep 81 round 0 NO_DEVICE 0 data -" ∷
      codes "h2 called 0 ep 83 round 0 NO_DEVICE 0 data -" ∷ codes "h1 done" ∷ codes "h3 refused 2" ∷ [];
}

-- A device that is not there.
abbrev pub unplug_of_nothing : Row
unplug_of_nothing = record {
  setup = example [] [] [];
  plan =
      Do (Open 1 0) ∷ Do (Claim 1 0) ∷ Do (Unplug 3) ∷ [];
  rules = [];
  lines =
      codes "h1 done" ∷ codes "h1 done" ∷ codes "- refused 3" ∷ [];
}
