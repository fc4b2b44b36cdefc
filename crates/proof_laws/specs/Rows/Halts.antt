-- Ways into a halt, and out of it.
use Rattle.std.specs.Prelude.{[], ◌∷◌, codes}
use Rattle.usb_model.specs.declared.response.Response.TheVariants.{Data, Stall}
use Rattle.usb_model.specs.declared.request.Body.TheVariants.{In}
use Rattle.usb_model.specs.declared.step.Step.TheVariants.{Open, Claim, ClearHalt, Submit, Cancel, Serve, Command, Deliver, Take}
use Rattle.usb_model.specs.declared.plan.Plan.TheVariants.{Do}
use Rattle.proof_laws.specs.Rows.{Row, example, bulk, interrupt}

-- A packet that is too long moves nothing; Reset and Move lead out of the halt.
abbrev pub babble_then_recovery : Row
babble_then_recovery = record {
  setup = example (Data (1 ∷ 2 ∷ 3 ∷ 4 ∷ 5 ∷ []) ∷ Data (17 ∷ 18 ∷ 19 ∷ 20 ∷ 21 ∷ 22 ∷ 23 ∷ 24 ∷ []) ∷ []) [] [];
  plan =
      Do (Open 1 0) ∷ Do (Claim 1 0) ∷ Do (Submit 1 (bulk 0x81 (In 4))) ∷ Do (Submit 1 (bulk 0x81 (In 8))) ∷ Do (Serve 0 0x81) ∷
      Do (Serve 0 0x81) ∷ Do Deliver ∷ Do Take ∷ Do Command ∷ Do Deliver ∷ Do Command ∷ Do Deliver ∷ Do (Serve 0 0x81) ∷ Do Deliver ∷ Do Take ∷ [];
  rules = [];
  lines =
      codes "h1 done" ∷ codes "h1 done" ∷ codes "h1 number 0" ∷ codes "h1 number 1" ∷ codes "h1 ended 0 code 3" ∷ codes "h1 idle" ∷
      codes "h1 finished 0" ∷ codes "h1 called 0 ep 81 round 0 OVERFLOW 0 data -" ∷ codes "h1 ran reset 81 ok" ∷ codes "h1 settled reset 81 ok" ∷
      codes "h1 ran move 81 ok" ∷ codes "h1 settled move 81 ok" ∷ codes "h1 ended 1 code 1" ∷ codes "h1 finished 1" ∷
      codes "h1 called 1 ep 81 round 0 COMPLETED 8 data 1112131415161718" ∷ [];
}

-- The same three times over.
abbrev pub three_babbles : Row
three_babbles = record {
  setup = example (Data (1 ∷ 2 ∷ 3 ∷ 4 ∷ 5 ∷ 6 ∷ 7 ∷ 8 ∷ 9 ∷ []) ∷ Data (1 ∷ 2 ∷ 3 ∷ 4 ∷ 5 ∷ 6 ∷ 7 ∷ 8 ∷ 9 ∷ []) ∷ Data (1 ∷ 2 ∷ 3 ∷ 4 ∷ 5 ∷ 6 ∷ 7 ∷ 8 ∷ 9 ∷ []) ∷ []) [] [];
  plan =
      Do (Open 1 0) ∷ Do (Claim 1 0) ∷ Do (Submit 1 (bulk 0x81 (In 8))) ∷ Do (Serve 0 0x81) ∷ Do Deliver ∷ Do Take ∷ Do Command ∷ Do Deliver ∷
      Do Command ∷ Do Deliver ∷ Do (Submit 1 (bulk 0x81 (In 8))) ∷ Do (Serve 0 0x81) ∷ Do Deliver ∷ Do Take ∷ Do Command ∷ Do Deliver ∷
      Do Command ∷ Do Deliver ∷ Do (Submit 1 (bulk 0x81 (In 8))) ∷ Do (Serve 0 0x81) ∷ Do Deliver ∷ Do Take ∷ Do Command ∷ Do Deliver ∷
      Do Command ∷ Do Deliver ∷ Do (Serve 0 0x81) ∷ [];
  rules = [];
  lines =
      codes "h1 done" ∷ codes "h1 done" ∷ codes "h1 number 0" ∷ codes "h1 ended 0 code 3" ∷ codes "h1 finished 0" ∷
      codes "h1 called 0 ep 81 round 0 OVERFLOW 0 data -" ∷ codes "h1 ran reset 81 ok" ∷ codes "h1 settled reset 81 ok" ∷
      codes "h1 ran move 81 ok" ∷ codes "h1 settled move 81 ok" ∷ codes "h1 number 1" ∷ codes "h1 ended 1 code 3" ∷ codes "h1 finished 1" ∷
      codes "h1 called 1 ep 81 round 0 OVERFLOW 0 data -" ∷ codes "h1 ran reset 81 ok" ∷ codes "h1 settled reset 81 ok" ∷
      codes "h1 ran move 81 ok" ∷ codes "h1 settled move 81 ok" ∷ codes "h1 number 2" ∷ codes "h1 ended 2 code 3" ∷ codes "h1 finished 2" ∷
      codes "h1 called 2 ep 81 round 0 OVERFLOW 0 data -" ∷ codes "h1 ran reset 81 ok" ∷ codes "h1 settled reset 81 ok" ∷
      codes "h1 ran move 81 ok" ∷ codes "h1 settled move 81 ok" ∷ codes "h1 idle" ∷ [];
}

-- Behind a stall the device stalls on, until its halt is cleared.
abbrev pub stall_and_clear_halt : Row
stall_and_clear_halt = record {
  setup = example (Stall ∷ Data (1 ∷ []) ∷ []) [] [];
  plan =
      Do (Open 1 0) ∷ Do (Claim 1 0) ∷ Do (Submit 1 (bulk 0x81 (In 8))) ∷ Do (Submit 1 (bulk 0x81 (In 8))) ∷ Do (Serve 0 0x81) ∷
      Do (ClearHalt 1 0x81) ∷ Do Deliver ∷ Do Command ∷ Do Deliver ∷ Do Command ∷ Do Deliver ∷ Do (Serve 0 0x81) ∷ Do Deliver ∷
      Do (ClearHalt 1 0x81) ∷ Do Command ∷ Do Deliver ∷ Do Command ∷ Do Deliver ∷ Do (Submit 1 (bulk 0x81 (In 8))) ∷ Do (Serve 0 0x81) ∷
      Do Deliver ∷ Do Take ∷ Do Take ∷ Do Take ∷ [];
  rules = [];
  lines =
      codes "h1 done" ∷ codes "h1 done" ∷ codes "h1 number 0" ∷ codes "h1 number 1" ∷ codes "h1 ended 0 code 6" ∷ codes "h1 refused 4" ∷
      codes "h1 finished 0" ∷ codes "h1 ran reset 81 ok" ∷ codes "h1 settled reset 81 ok" ∷ codes "h1 ran move 81 ok" ∷
      codes "h1 settled move 81 ok" ∷ codes "h1 ended 1 code 6" ∷ codes "h1 finished 1" ∷ codes "h1 done" ∷ codes "h1 ran reset 81 ok" ∷
      codes "h1 settled reset 81 ok" ∷ codes "h1 ran move 81 ok" ∷ codes "h1 settled move 81 ok" ∷ codes "h1 number 2" ∷
      codes "h1 ended 2 code 13" ∷ codes "h1 finished 2" ∷ codes "h1 called 0 ep 81 round 0 STALL 0 data -" ∷
      codes "h1 called 1 ep 81 round 0 STALL 0 data -" ∷ codes "h1 called 2 ep 81 round 0 COMPLETED 1 data 01" ∷ [];
}

-- A Stop that finds the endpoint halted fails, and a Reset follows.
abbrev pub cancel_loses_to_stall : Row
cancel_loses_to_stall = record {
  setup = example (Stall ∷ []) [] [];
  plan =
      Do (Open 1 0) ∷ Do (Claim 1 0) ∷ Do (Submit 1 (bulk 0x81 (In 8))) ∷ Do (Submit 1 (bulk 0x81 (In 8))) ∷ Do (Cancel 1 1) ∷
      Do (Serve 0 0x81) ∷ Do Command ∷ Do Deliver ∷ Do Deliver ∷ Do Command ∷ Do Deliver ∷ Do Command ∷ Do Deliver ∷ Do Take ∷ Do Take ∷ [];
  rules = [];
  lines =
      codes "h1 done" ∷ codes "h1 done" ∷ codes "h1 number 0" ∷ codes "h1 number 1" ∷ codes "h1 done" ∷ codes "h1 ended 0 code 6" ∷
      codes "h1 ran stop 81 fail" ∷ codes "h1 finished 0" ∷ codes "h1 settled stop 81 fail" ∷ codes "h1 ran reset 81 ok" ∷
      codes "h1 settled reset 81 ok" ∷ codes "h1 ran move 81 ok" ∷ codes "h1 settled move 81 ok" ∷
      codes "h1 called 0 ep 81 round 0 STALL 0 data -" ∷ codes "h1 called 1 ep 81 round 0 CANCELLED 0 data -" ∷ [];
}

-- One handle stalls, another cancels; the lists are shared.
abbrev pub stall_beside_cancel : Row
stall_beside_cancel = record {
  setup = example (Stall ∷ []) [] (Data (170 ∷ []) ∷ []);
  plan =
      Do (Open 1 0) ∷ Do (Open 2 0) ∷ Do (Claim 1 0) ∷ Do (Claim 2 1) ∷ Do (Submit 1 (bulk 0x81 (In 8))) ∷
      Do (Submit 2 (interrupt 0x83 (In 8))) ∷ Do (Serve 0 0x81) ∷ Do (Serve 0 0x83) ∷ Do Deliver ∷ Do (Cancel 2 0) ∷ Do Command ∷ Do Deliver ∷
      Do Deliver ∷ Do Command ∷ Do Take ∷ Do Deliver ∷ Do Take ∷ Do Command ∷ Do Deliver ∷ [];
  rules = [];
  lines =
      codes "h1 done" ∷ codes "h2 done" ∷ codes "h1 done" ∷ codes "h2 done" ∷ codes "h1 number 0" ∷ codes "h2 number 0" ∷
      codes "h1 ended 0 code 6" ∷ codes "h2 ended 0 code 13" ∷ codes "h1 finished 0" ∷ codes "h2 done" ∷ codes "h1 ran reset 81 ok" ∷
      codes "h2 finished 0" ∷ codes "h1 settled reset 81 ok" ∷ codes "h2 ran stop 83 ok" ∷ codes "h1 called 0 ep 81 round 0 STALL 0 data -" ∷
      codes "h2 settled stop 83 ok" ∷ codes "h2 called 0 ep 83 round 0 COMPLETED 1 data aa" ∷ codes "h1 ran move 81 ok" ∷
      codes "h1 settled move 81 ok" ∷ [];
}
