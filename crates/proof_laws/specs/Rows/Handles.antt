-- Handles and what they hold.
use Rattle.std.specs.Prelude.{[], ◌∷◌, codes}
use Rattle.usb_model.specs.declared.response.Response.TheVariants.{Data, Stall}
use Rattle.usb_model.specs.declared.request.Body.TheVariants.{In}
use Rattle.usb_model.specs.declared.step.Step.TheVariants.{Open, Close, Claim, Release, Reset, Submit, Serve, Command, Deliver, Take}
use Rattle.usb_model.specs.declared.plan.Plan.TheVariants.{Do, Return}
use Rattle.proof_laws.specs.Rows.{Row, example, bulk, interrupt}

-- Refusals of Open, Claim, Submit and Serve.
abbrev pub refusals_of_handles : Row
refusals_of_handles = record {
  setup = example [] [] [];
  plan =
      Do (Open 1 1) ∷ Do (Open 1 0) ∷ Do (Open 1 0) ∷ Do (Claim 1 7) ∷ Do (Claim 1 0) ∷ Do (Claim 1 0) ∷ Do (Submit 1 (interrupt 0x81 (In 8))) ∷
      Do (Submit 1 (interrupt 0x83 (In 8))) ∷ Do (Serve 0 0x83) ∷ Do (Serve 0 0x81) ∷ [];
  rules = [];
  lines =
      codes "h1 refused 3" ∷ codes "h1 done" ∷ codes "h1 refused 4" ∷ codes "h1 refused 3" ∷ codes "h1 done" ∷ codes "h1 done" ∷
      codes "h1 refused 1" ∷ codes "h1 refused 3" ∷ codes "- idle" ∷ codes "h1 idle" ∷ [];
}

-- A Reset waits for quiet endpoints, and for the device to be held by none but the caller.
abbrev pub reset_with_other_holder : Row
reset_with_other_holder = record {
  setup = example (Data (1 ∷ []) ∷ Data (2 ∷ []) ∷ []) [] [];
  plan =
      Do (Open 1 0) ∷ Do (Open 2 0) ∷ Do (Claim 1 0) ∷ Do (Submit 1 (bulk 0x81 (In 8))) ∷ Do (Serve 0 0x81) ∷ Do Deliver ∷ Do Take ∷
      Do (Reset 1) ∷ Return 1 0 ∷ Do (Reset 1) ∷ Do (Claim 2 1) ∷ Do (Reset 1) ∷ Do (Submit 1 (bulk 0x81 (In 8))) ∷ Do (Serve 0 0x81) ∷
      Do Deliver ∷ Do Take ∷ [];
  rules = [];
  lines =
      codes "h1 done" ∷ codes "h2 done" ∷ codes "h1 done" ∷ codes "h1 number 0" ∷ codes "h1 ended 0 code 13" ∷ codes "h1 finished 0" ∷
      codes "h1 called 0 ep 81 round 0 COMPLETED 1 data 01" ∷ codes "h1 refused 4" ∷ codes "h1 done" ∷ codes "h1 done" ∷ codes "h2 done" ∷
      codes "h1 refused 5" ∷ codes "h1 number 1" ∷ codes "h1 ended 1 code 13" ∷ codes "h1 finished 1" ∷
      codes "h1 called 1 ep 81 round 0 COMPLETED 1 data 01" ∷ [];
}

-- Who claims an interface begins its script anew.
abbrev pub interface_changes_hands : Row
interface_changes_hands = record {
  setup = example (Data (1 ∷ []) ∷ Data (2 ∷ []) ∷ []) [] [];
  plan =
      Do (Open 1 0) ∷ Do (Open 2 0) ∷ Do (Claim 1 0) ∷ Do (Submit 1 (bulk 0x81 (In 8))) ∷ Do (Serve 0 0x81) ∷ Do (Claim 2 0) ∷ Do Deliver ∷
      Do (Release 1 0) ∷ Do Take ∷ Return 1 0 ∷ Do (Release 1 0) ∷ Do (Claim 2 0) ∷ Do (Submit 2 (bulk 0x81 (In 8))) ∷ Do (Serve 0 0x81) ∷
      Do Deliver ∷ Do Take ∷ [];
  rules = [];
  lines =
      codes "h1 done" ∷ codes "h2 done" ∷ codes "h1 done" ∷ codes "h1 number 0" ∷ codes "h1 ended 0 code 13" ∷ codes "h2 refused 5" ∷
      codes "h1 finished 0" ∷ codes "h1 refused 4" ∷ codes "h1 called 0 ep 81 round 0 COMPLETED 1 data 01" ∷ codes "h1 done" ∷ codes "h1 done" ∷
      codes "h2 done" ∷ codes "h2 number 0" ∷ codes "h2 ended 0 code 13" ∷ codes "h2 finished 0" ∷
      codes "h2 called 0 ep 81 round 0 COMPLETED 1 data 01" ∷ [];
}

-- Release and Close wait until the callback is answered.
abbrev pub close_waits_for_quiet : Row
close_waits_for_quiet = record {
  setup = example (Data (1 ∷ []) ∷ []) [] [];
  plan =
      Do (Open 1 0) ∷ Do (Claim 1 0) ∷ Do (Submit 1 (bulk 0x81 (In 8))) ∷ Do (Serve 0 0x81) ∷ Do Deliver ∷ Do Take ∷ Do (Release 1 0) ∷
      Do (Close 1) ∷ Return 1 0 ∷ Do (Close 1) ∷ Do (Submit 1 (bulk 0x81 (In 8))) ∷ [];
  rules = [];
  lines =
      codes "h1 done" ∷ codes "h1 done" ∷ codes "h1 number 0" ∷ codes "h1 ended 0 code 13" ∷ codes "h1 finished 0" ∷
      codes "h1 called 0 ep 81 round 0 COMPLETED 1 data 01" ∷ codes "h1 refused 4" ∷ codes "h1 refused 4" ∷ codes "h1 done" ∷ codes "h1 done" ∷
      codes "h1 refused 3" ∷ [];
}

-- And until no errand is under way.
abbrev pub close_waits_for_errand : Row
close_waits_for_errand = record {
  setup = example (Stall ∷ []) [] [];
  plan =
      Do (Open 1 0) ∷ Do (Claim 1 0) ∷ Do (Submit 1 (bulk 0x81 (In 8))) ∷ Do (Serve 0 0x81) ∷ Do Deliver ∷ Do Take ∷ Return 1 0 ∷ Do (Close 1) ∷
      Do Command ∷ Do Deliver ∷ Do Command ∷ Do Deliver ∷ Do (Close 1) ∷ Do (Submit 1 (bulk 0x81 (In 8))) ∷ [];
  rules = [];
  lines =
      codes "h1 done" ∷ codes "h1 done" ∷ codes "h1 number 0" ∷ codes "h1 ended 0 code 6" ∷ codes "h1 finished 0" ∷
      codes "h1 called 0 ep 81 round 0 STALL 0 data -" ∷ codes "h1 done" ∷ codes "h1 refused 4" ∷ codes "h1 ran reset 81 ok" ∷
      codes "h1 settled reset 81 ok" ∷ codes "h1 ran move 81 ok" ∷ codes "h1 settled move 81 ok" ∷ codes "h1 done" ∷ codes "h1 refused 3" ∷ [];
}
