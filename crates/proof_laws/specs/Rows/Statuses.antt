-- What each status and each flag says.
use Rattle.std.specs.Prelude.{[], ◌∷◌, codes}
use Rattle.usb_model.specs.declared.response.Response.TheVariants.{Data, Ack, Stall}
use Rattle.usb_model.specs.declared.request.Body.TheVariants.{In, Out}
use Rattle.usb_model.specs.declared.step.Step.TheVariants.{Open, Claim, Submit, Cancel, Expire, Serve, Command, Deliver, Take, Unplug}
use Rattle.usb_model.specs.declared.plan.Plan.TheVariants.{Do}
use Rattle.proof_laws.specs.Rows.{Row, example, bulk, interrupt}

-- Each status once.
abbrev pub every_status : Row
every_status = record {
  setup = example (Data (1 ∷ []) ∷ Data (2 ∷ []) ∷ []) (Stall ∷ []) (Data (1 ∷ 2 ∷ []) ∷ []);
  plan =
      Do (Open 1 0) ∷ Do (Claim 1 0) ∷ Do (Claim 1 1) ∷ Do (Submit 1 (bulk 0x81 (In 8))) ∷
      Do (Submit 1 (record (bulk 0x81 (In 8)) { flags = record { 0 = 1 } })) ∷ Do (Submit 1 (bulk 0x81 (In 8))) ∷ Do (Submit 1 (bulk 0x81 (In 8))) ∷
      Do (Submit 1 (record (bulk 0x81 (In 8)) { timeout = 5 })) ∷ Do (Submit 1 (bulk 0x02 (Out (0 ∷ [])))) ∷ Do (Submit 1 (interrupt 0x83 (In 1))) ∷
      Do (Serve 0 0x81) ∷ Do (Serve 0 0x81) ∷ Do (Cancel 1 3) ∷ Do (Expire 1 4) ∷ Do (Serve 0 0x02) ∷ Do (Serve 0 0x83) ∷ Do Command ∷ Do Deliver ∷
      Do Deliver ∷ Do Deliver ∷ Do Deliver ∷ Do Deliver ∷ Do (Unplug 0) ∷ Do (Serve 0 0x81) ∷ Do Deliver ∷ Do Take ∷ Do Take ∷ Do Take ∷ Do Take ∷
      Do Take ∷ Do Take ∷ Do Take ∷ [];
  rules = [];
  lines =
      codes "h1 done" ∷ codes "h1 done" ∷ codes "h1 done" ∷ codes "h1 number 0" ∷ codes "h1 number 1" ∷ codes "h1 number 2" ∷ codes "h1 number 3" ∷
      codes "h1 number 4" ∷ codes "h1 number 5" ∷ codes "h1 number 6" ∷ codes "h1 ended 0 code 13" ∷ codes "h1 ended 1 code 13" ∷ codes "h1 done" ∷
      codes "h1 done" ∷ codes "h1 ended 5 code 6" ∷ codes "h1 ended 6 code 3" ∷ codes "h1 ran stop 81 ok" ∷ codes "h1 finished 0" ∷
      codes "h1 finished 1" ∷ codes "h1 finished 5" ∷ codes "h1 finished 6" ∷ codes "h1 settled stop 81 ok" ∷ codes "- done" ∷
      codes "h1 ended 2 code 4" ∷ codes "h1 finished 2" ∷ codes "h1 called 0 ep 81 round 0 COMPLETED 1 data 01" ∷
      codes "h1 called 1 ep 81 round 0 ERROR 1 data 02" ∷ codes "h1 called 5 ep 02 round 0 STALL 0 data -" ∷
      codes "h1 called 6 ep 83 round 0 OVERFLOW 0 data -" ∷ codes "h1 called 3 ep 81 round 0 CANCELLED 0 data -" ∷
      codes "h1 called 4 ep 81 round 0 TIMED_OUT 0 data -" ∷ codes "h1 called 2 ep 81 round 0 NO_DEVICE 0 data -" ∷ [];
}

-- A short read is an error, an empty packet stands behind whole ones; for the other direction these two say nothing, nor do the others for any.
abbrev pub every_flag : Row
every_flag = record {
  setup = example (Data (1 ∷ []) ∷ Data (1 ∷ []) ∷ Data (1 ∷ []) ∷ Data (1 ∷ 2 ∷ 3 ∷ 4 ∷ 5 ∷ 6 ∷ 7 ∷ 8 ∷ []) ∷ []) (Ack ∷ Ack ∷ Ack ∷ []) [];
  plan =
      Do (Open 1 0) ∷ Do (Claim 1 0) ∷ Do (Submit 1 (record (bulk 0x81 (In 8)) { flags = record { 0 = 1 } })) ∷
      Do (Submit 1 (record (bulk 0x81 (In 8)) { flags = record { 0 = 2 } })) ∷
      Do (Submit 1 (record (bulk 0x81 (In 8)) { flags = record { 0 = 4 } })) ∷
      Do (Submit 1 (record (bulk 0x81 (In 8)) { flags = record { 0 = 8 } })) ∷
      Do (Submit 1 (record (bulk 0x02 (Out (0 ∷ 1 ∷ 2 ∷ 3 ∷ 4 ∷ 5 ∷ 6 ∷ 7 ∷ []))) { flags = record { 0 = 8 } })) ∷
      Do (Submit 1 (record (bulk 0x02 (Out (0 ∷ 1 ∷ 2 ∷ 3 ∷ 4 ∷ 5 ∷ 6 ∷ 7 ∷ []))) { flags = record { 0 = 7 } })) ∷ Do (Serve 0 0x81) ∷
      Do (Serve 0 0x81) ∷ Do (Serve 0 0x81) ∷ Do (Serve 0 0x81) ∷ Do (Serve 0 0x02) ∷ Do (Serve 0 0x02) ∷ Do (Serve 0 0x02) ∷ Do Deliver ∷
      Do Deliver ∷ Do Deliver ∷ Do Deliver ∷ Do Deliver ∷ Do Deliver ∷ Do Take ∷ Do Take ∷ Do Take ∷ Do Take ∷ Do Take ∷ Do Take ∷ [];
  rules = [];
  lines =
      codes "h1 done" ∷ codes "h1 done" ∷ codes "h1 number 0" ∷ codes "h1 number 1" ∷ codes "h1 number 2" ∷ codes "h1 number 3" ∷
      codes "h1 number 4" ∷ codes "h1 number 5" ∷ codes "h1 ended 0 code 13" ∷ codes "h1 ended 1 code 13" ∷ codes "h1 ended 2 code 13" ∷
      codes "h1 ended 3 code 1" ∷ codes "h1 moved 4 8" ∷ codes "h1 ended 4 code 1" ∷ codes "h1 ended 5 code 1" ∷ codes "h1 finished 0" ∷
      codes "h1 finished 1" ∷ codes "h1 finished 2" ∷ codes "h1 finished 3" ∷ codes "h1 finished 4" ∷ codes "h1 finished 5" ∷
      codes "h1 called 0 ep 81 round 0 ERROR 1 data 01" ∷ codes "h1 called 1 ep 81 round 0 COMPLETED 1 data 01" ∷
      codes "h1 called 2 ep 81 round 0 COMPLETED 1 data 01" ∷ codes "h1 called 3 ep 81 round 0 COMPLETED 8 data 0102030405060708" ∷
      codes "h1 called 4 ep 02 round 0 COMPLETED 8 data -" ∷ codes "h1 called 5 ep 02 round 0 COMPLETED 8 data -" ∷ [];
}
