-- Callbacks that submit again.
use Rattle.std.specs.Prelude.{[], ◌∷◌, codes}
use Rattle.usb_model.specs.declared.response.Response.TheVariants.{Data, Stall}
use Rattle.usb_model.specs.declared.request.Body.TheVariants.{In}
use Rattle.usb_model.specs.declared.step.Step.TheVariants.{Open, Claim, Submit, Serve, Deliver, Take, Unplug}
use Rattle.usb_model.specs.declared.verdict.Rule.TheVariants.{Again}
use Rattle.usb_model.specs.declared.plan.Plan.TheVariants.{Do, Return}
use Rattle.proof_laws.specs.Rows.{Row, example, bulk}

-- Three rounds by rule, then Stop.
abbrev pub resubmit_three_rounds : Row
resubmit_three_rounds = record {
  setup = example (Data (10 ∷ []) ∷ Data (11 ∷ []) ∷ Data (12 ∷ []) ∷ Data (13 ∷ []) ∷ []) [] [];
  plan =
      Do (Open 1 0) ∷ Do (Claim 1 0) ∷ Do (Submit 1 (bulk 0x81 (In 1))) ∷ Do (Serve 0 0x81) ∷ Do Deliver ∷ Do Take ∷ Return 1 0 ∷
      Do (Serve 0 0x81) ∷ Do Deliver ∷ Do Take ∷ Return 1 1 ∷ Do (Serve 0 0x81) ∷ Do Deliver ∷ Do Take ∷ Return 1 2 ∷ Do (Serve 0 0x81) ∷
      Do Deliver ∷ Do Take ∷ Return 1 3 ∷ [];
  rules = Again (record { 0 = 1 }) 3 ∷ [];
  lines =
      codes "h1 done" ∷ codes "h1 done" ∷ codes "h1 number 0" ∷ codes "h1 ended 0 code 1" ∷ codes "h1 finished 0" ∷
      codes "h1 called 0 ep 81 round 0 COMPLETED 1 data 0a" ∷ codes "h1 number 1" ∷ codes "h1 ended 1 code 1" ∷ codes "h1 finished 1" ∷
      codes "h1 called 1 ep 81 round 1 COMPLETED 1 data 0b" ∷ codes "h1 number 2" ∷ codes "h1 ended 2 code 1" ∷ codes "h1 finished 2" ∷
      codes "h1 called 2 ep 81 round 2 COMPLETED 1 data 0c" ∷ codes "h1 number 3" ∷ codes "h1 ended 3 code 1" ∷ codes "h1 finished 3" ∷
      codes "h1 called 3 ep 81 round 3 COMPLETED 1 data 0d" ∷ codes "h1 done" ∷ [];
}

-- A rule on COMPLETED ends at a stall.
abbrev pub resubmit_until_stall : Row
resubmit_until_stall = record {
  setup = example (Data (10 ∷ []) ∷ Stall ∷ []) [] [];
  plan =
      Do (Open 1 0) ∷ Do (Claim 1 0) ∷ Do (Submit 1 (bulk 0x81 (In 1))) ∷ Do (Serve 0 0x81) ∷ Do Deliver ∷ Do Take ∷ Return 1 0 ∷
      Do (Serve 0 0x81) ∷ Do Deliver ∷ Do Take ∷ Return 1 1 ∷ [];
  rules = Again (record { 0 = 1 }) 3 ∷ [];
  lines =
      codes "h1 done" ∷ codes "h1 done" ∷ codes "h1 number 0" ∷ codes "h1 ended 0 code 1" ∷ codes "h1 finished 0" ∷
      codes "h1 called 0 ep 81 round 0 COMPLETED 1 data 0a" ∷ codes "h1 number 1" ∷ codes "h1 ended 1 code 6" ∷ codes "h1 finished 1" ∷
      codes "h1 called 1 ep 81 round 1 STALL 0 data -" ∷ codes "h1 done" ∷ [];
}

-- Again is refused where no place is left, and Stop is answered.
abbrev pub again_without_a_place : Row
again_without_a_place = record {
  setup = example (Data (10 ∷ []) ∷ []) [] [];
  plan =
      Do (Open 1 0) ∷ Do (Claim 1 0) ∷ Do (Submit 1 (bulk 0x81 (In 1))) ∷ Do (Serve 0 0x81) ∷ Do Deliver ∷ Do Take ∷
      Do (Submit 1 (bulk 0x81 (In 8))) ∷ Do (Submit 1 (bulk 0x81 (In 8))) ∷ Do (Submit 1 (bulk 0x81 (In 8))) ∷ Do (Submit 1 (bulk 0x81 (In 8))) ∷
      Do (Submit 1 (bulk 0x81 (In 8))) ∷ Do (Submit 1 (bulk 0x81 (In 8))) ∷ Do (Submit 1 (bulk 0x81 (In 8))) ∷ Do (Submit 1 (bulk 0x81 (In 8))) ∷
      Do (Submit 1 (bulk 0x81 (In 8))) ∷ Do (Submit 1 (bulk 0x81 (In 8))) ∷ Do (Submit 1 (bulk 0x81 (In 8))) ∷ Do (Submit 1 (bulk 0x81 (In 8))) ∷
      Do (Submit 1 (bulk 0x81 (In 8))) ∷ Do (Submit 1 (bulk 0x81 (In 8))) ∷ Do (Submit 1 (bulk 0x81 (In 8))) ∷ Do (Submit 1 (bulk 0x81 (In 8))) ∷
      Return 1 0 ∷ Return 1 0 ∷ [];
  rules = Again (record { 0 = 1 }) 1 ∷ [];
  lines =
      codes "h1 done" ∷ codes "h1 done" ∷ codes "h1 number 0" ∷ codes "h1 ended 0 code 1" ∷ codes "h1 finished 0" ∷
      codes "h1 called 0 ep 81 round 0 COMPLETED 1 data 0a" ∷ codes "h1 number 1" ∷ codes "h1 number 2" ∷ codes "h1 number 3" ∷
      codes "h1 number 4" ∷ codes "h1 number 5" ∷ codes "h1 number 6" ∷ codes "h1 number 7" ∷ codes "h1 number 8" ∷ codes "h1 number 9" ∷
      codes "h1 number 10" ∷ codes "h1 number 11" ∷ codes "h1 number 12" ∷ codes "h1 number 13" ∷ codes "h1 number 14" ∷ codes "h1 number 15" ∷
      codes "h1 number 16" ∷ codes "h1 refused 4" ∷ codes "h1 done" ∷ codes "h1 refused 3" ∷ [];
}

-- Again is refused at a gone device, and Stop is answered.
abbrev pub again_at_a_gone_device : Row
again_at_a_gone_device = record {
  setup = example [] [] [];
  plan =
      Do (Open 1 0) ∷ Do (Claim 1 0) ∷ Do (Submit 1 (bulk 0x81 (In 8))) ∷ Do (Unplug 0) ∷ Do (Serve 0 0x81) ∷ Do Deliver ∷ Do Take ∷ Return 1 0 ∷ [];
  rules = Again (record { 0 = 32 }) 1 ∷ [];
  lines =
      codes "h1 done" ∷ codes "h1 done" ∷ codes "h1 number 0" ∷ codes "- done" ∷ codes "h1 ended 0 code 4" ∷ codes "h1 finished 0" ∷
      codes "h1 called 0 ep 81 round 0 NO_DEVICE 0 data -" ∷ codes "h1 refused 2" ∷ codes "h1 done" ∷ [];
}
