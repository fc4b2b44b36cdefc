-- What takes a place of an endpoint, and when it is given back.
use Rattle.std.specs.Prelude.{[], ◌∷◌, codes}
use Rattle.usb_model.specs.declared.response.Response.TheVariants.{Data, Ack, Broken}
use Rattle.usb_model.specs.declared.request.Body.TheVariants.{In, Out}
use Rattle.usb_model.specs.declared.step.Step.TheVariants.{Open, Claim, ClearHalt, Submit, Cancel, Serve, Command, Deliver, Take}
use Rattle.usb_model.specs.declared.plan.Plan.TheVariants.{Do}
use Rattle.proof_laws.specs.Rows.{Row, example, bulk}

-- A withdrawn transfer behind one that failed stands in the line until the pointer has moved.
abbrev pub blanks_behind_a_failed_transfer : Row
blanks_behind_a_failed_transfer = record {
  setup = example (Broken ∷ []) [] [];
  plan =
      Do (Open 1 0) ∷ Do (Claim 1 0) ∷ Do (Submit 1 (bulk 0x81 (In 8))) ∷ Do (Submit 1 (bulk 0x81 (In 8))) ∷ Do (Cancel 1 1) ∷ Do Command ∷
      Do Deliver ∷ Do (Serve 0 0x81) ∷ Do Deliver ∷ Do (ClearHalt 1 0x81) ∷ Do Command ∷ Do Deliver ∷ Do (ClearHalt 1 0x81) ∷ Do Command ∷
      Do (ClearHalt 1 0x81) ∷ Do Deliver ∷ Do (ClearHalt 1 0x81) ∷ Do Take ∷ Do Take ∷ [];
  rules = [];
  lines =
      codes "h1 done" ∷ codes "h1 done" ∷ codes "h1 number 0" ∷ codes "h1 number 1" ∷ codes "h1 done" ∷ codes "h1 ran stop 81 ok" ∷
      codes "h1 settled stop 81 ok" ∷ codes "h1 ended 0 code 4" ∷ codes "h1 finished 0" ∷ codes "h1 refused 4" ∷ codes "h1 ran reset 81 ok" ∷
      codes "h1 settled reset 81 ok" ∷ codes "h1 refused 4" ∷ codes "h1 ran move 81 ok" ∷ codes "h1 refused 4" ∷ codes "h1 settled move 81 ok" ∷
      codes "h1 done" ∷ codes "h1 called 1 ep 81 round 0 CANCELLED 0 data -" ∷ codes "h1 called 0 ep 81 round 0 ERROR 0 data -" ∷ [];
}

-- Behind one that completed it leaves with it.
abbrev pub blanks_behind_a_completed_transfer : Row
blanks_behind_a_completed_transfer = record {
  setup = example (Data (1 ∷ []) ∷ []) [] [];
  plan =
      Do (Open 1 0) ∷ Do (Claim 1 0) ∷ Do (Submit 1 (bulk 0x81 (In 8))) ∷ Do (Submit 1 (bulk 0x81 (In 8))) ∷ Do (Cancel 1 1) ∷ Do Command ∷
      Do Deliver ∷ Do (Serve 0 0x81) ∷ Do (ClearHalt 1 0x81) ∷ Do Deliver ∷ Do (ClearHalt 1 0x81) ∷ Do Command ∷ Do Take ∷ Do Take ∷ [];
  rules = [];
  lines =
      codes "h1 done" ∷ codes "h1 done" ∷ codes "h1 number 0" ∷ codes "h1 number 1" ∷ codes "h1 done" ∷ codes "h1 ran stop 81 ok" ∷
      codes "h1 settled stop 81 ok" ∷ codes "h1 ended 0 code 13" ∷ codes "h1 refused 4" ∷ codes "h1 finished 0" ∷ codes "h1 done" ∷ codes "- idle" ∷
      codes "h1 called 1 ep 81 round 0 CANCELLED 0 data -" ∷ codes "h1 called 0 ep 81 round 0 COMPLETED 1 data 01" ∷ [];
}

-- Transfers and results of another endpoint take none of its places; its own results do, until they are taken.
abbrev pub sixteen_places_at_each_endpoint : Row
sixteen_places_at_each_endpoint = record {
  setup = example (Data (1 ∷ []) ∷ []) (Ack ∷ []) [];
  plan =
      Do (Open 1 0) ∷ Do (Claim 1 0) ∷ Do (Submit 1 (bulk 0x02 (Out (0 ∷ [])))) ∷ Do (Submit 1 (bulk 0x02 (Out (0 ∷ [])))) ∷ Do (Serve 0 0x02) ∷
      Do Deliver ∷ Do (Submit 1 (bulk 0x81 (In 8))) ∷ Do (Submit 1 (bulk 0x81 (In 8))) ∷ Do (Submit 1 (bulk 0x81 (In 8))) ∷
      Do (Submit 1 (bulk 0x81 (In 8))) ∷ Do (Submit 1 (bulk 0x81 (In 8))) ∷ Do (Submit 1 (bulk 0x81 (In 8))) ∷ Do (Submit 1 (bulk 0x81 (In 8))) ∷
      Do (Submit 1 (bulk 0x81 (In 8))) ∷ Do (Submit 1 (bulk 0x81 (In 8))) ∷ Do (Submit 1 (bulk 0x81 (In 8))) ∷ Do (Submit 1 (bulk 0x81 (In 8))) ∷
      Do (Submit 1 (bulk 0x81 (In 8))) ∷ Do (Submit 1 (bulk 0x81 (In 8))) ∷ Do (Submit 1 (bulk 0x81 (In 8))) ∷ Do (Submit 1 (bulk 0x81 (In 8))) ∷
      Do (Submit 1 (bulk 0x81 (In 8))) ∷ Do (Submit 1 (bulk 0x81 (In 8))) ∷ Do (Submit 1 (bulk 0x02 (Out (0 ∷ [])))) ∷ Do (Serve 0 0x81) ∷
      Do Deliver ∷ Do (Submit 1 (bulk 0x81 (In 8))) ∷ Do Take ∷ Do (Submit 1 (bulk 0x81 (In 8))) ∷ Do Take ∷ Do (Submit 1 (bulk 0x81 (In 8))) ∷
      Do (Submit 1 (bulk 0x81 (In 8))) ∷ [];
  rules = [];
  lines =
      codes "h1 done" ∷ codes "h1 done" ∷ codes "h1 number 0" ∷ codes "h1 number 1" ∷ codes "h1 ended 0 code 1" ∷ codes "h1 finished 0" ∷
      codes "h1 number 2" ∷ codes "h1 number 3" ∷ codes "h1 number 4" ∷ codes "h1 number 5" ∷ codes "h1 number 6" ∷ codes "h1 number 7" ∷
      codes "h1 number 8" ∷ codes "h1 number 9" ∷ codes "h1 number 10" ∷ codes "h1 number 11" ∷ codes "h1 number 12" ∷ codes "h1 number 13" ∷
      codes "h1 number 14" ∷ codes "h1 number 15" ∷ codes "h1 number 16" ∷ codes "h1 number 17" ∷ codes "h1 refused 4" ∷ codes "h1 number 18" ∷
      codes "h1 ended 2 code 13" ∷ codes "h1 finished 2" ∷ codes "h1 refused 4" ∷ codes "h1 called 0 ep 02 round 0 COMPLETED 1 data -" ∷
      codes "h1 refused 4" ∷ codes "h1 called 2 ep 81 round 0 COMPLETED 1 data 01" ∷ codes "h1 number 19" ∷ codes "h1 refused 4" ∷ [];
}
