-- Transfers that are asked to end.
use Rattle.std.specs.Prelude.{[], ◌∷◌, codes}
use Rattle.usb_model.specs.declared.response.Response.TheVariants.{Data, Ack, Nak}
use Rattle.usb_model.specs.declared.request.Body.TheVariants.{In, Out}
use Rattle.usb_model.specs.declared.step.Step.TheVariants.{Open, Claim, Submit, Cancel, Expire, Serve, Command, Deliver, Take}
use Rattle.usb_model.specs.declared.plan.Plan.TheVariants.{Do}
use Rattle.proof_laws.specs.Rows.{Row, example, bulk}

-- A transfer that has moved a packet is paused; its bytes are given.
abbrev pub cancel_amid_transfer : Row
cancel_amid_transfer = record {
  setup = example (Data (1 ∷ 2 ∷ 3 ∷ 4 ∷ 5 ∷ 6 ∷ 7 ∷ 8 ∷ []) ∷ []) [] [];
  plan =
      Do (Open 1 0) ∷ Do (Claim 1 0) ∷ Do (Submit 1 (bulk 0x81 (In 24))) ∷ Do (Serve 0 0x81) ∷ Do (Cancel 1 0) ∷ Do (Cancel 1 0) ∷ Do Command ∷
      Do Deliver ∷ Do Deliver ∷ Do Take ∷ Do Command ∷ Do Deliver ∷ [];
  rules = [];
  lines =
      codes "h1 done" ∷ codes "h1 done" ∷ codes "h1 number 0" ∷ codes "h1 moved 0 8" ∷ codes "h1 done" ∷ codes "h1 refused 3" ∷
      codes "h1 ran stop 81 ok" ∷ codes "h1 paused 0" ∷ codes "h1 settled stop 81 ok" ∷
      codes "h1 called 0 ep 81 round 0 CANCELLED 8 data 0102030405060708" ∷ codes "h1 ran move 81 ok" ∷ codes "h1 settled move 81 ok" ∷ [];
}

-- A transfer that had ended at its device ends as it did.
abbrev pub cancel_after_served : Row
cancel_after_served = record {
  setup = example (Data (1 ∷ 2 ∷ 3 ∷ 4 ∷ 5 ∷ 6 ∷ 7 ∷ 8 ∷ []) ∷ []) [] [];
  plan =
      Do (Open 1 0) ∷ Do (Claim 1 0) ∷ Do (Submit 1 (bulk 0x81 (In 8))) ∷ Do (Serve 0 0x81) ∷ Do (Cancel 1 0) ∷ Do Deliver ∷ Do Command ∷
      Do Deliver ∷ Do Take ∷ Do Command ∷ [];
  rules = [];
  lines =
      codes "h1 done" ∷ codes "h1 done" ∷ codes "h1 number 0" ∷ codes "h1 ended 0 code 1" ∷ codes "h1 done" ∷ codes "h1 finished 0" ∷
      codes "h1 ran stop 81 ok" ∷ codes "h1 settled stop 81 ok" ∷ codes "h1 called 0 ep 81 round 0 COMPLETED 8 data 0102030405060708" ∷
      codes "- idle" ∷ [];
}

-- A withdrawn transfer keeps its place in the line until the one before it ends.
abbrev pub cancel_in_the_middle : Row
cancel_in_the_middle = record {
  setup = example (Data (1 ∷ 2 ∷ 3 ∷ 4 ∷ 5 ∷ 6 ∷ 7 ∷ 8 ∷ []) ∷ []) [] [];
  plan =
      Do (Open 1 0) ∷ Do (Claim 1 0) ∷ Do (Submit 1 (bulk 0x81 (In 8))) ∷ Do (Submit 1 (bulk 0x81 (In 8))) ∷ Do (Submit 1 (bulk 0x81 (In 8))) ∷
      Do (Cancel 1 1) ∷ Do Command ∷ Do Deliver ∷ Do Take ∷ Do (Submit 1 (bulk 0x81 (In 8))) ∷ Do (Submit 1 (bulk 0x81 (In 8))) ∷
      Do (Submit 1 (bulk 0x81 (In 8))) ∷ Do (Submit 1 (bulk 0x81 (In 8))) ∷ Do (Submit 1 (bulk 0x81 (In 8))) ∷ Do (Submit 1 (bulk 0x81 (In 8))) ∷
      Do (Submit 1 (bulk 0x81 (In 8))) ∷ Do (Submit 1 (bulk 0x81 (In 8))) ∷ Do (Submit 1 (bulk 0x81 (In 8))) ∷ Do (Submit 1 (bulk 0x81 (In 8))) ∷
      Do (Submit 1 (bulk 0x81 (In 8))) ∷ Do (Submit 1 (bulk 0x81 (In 8))) ∷ Do (Submit 1 (bulk 0x81 (In 8))) ∷ Do (Submit 1 (bulk 0x81 (In 8))) ∷
      Do (Serve 0 0x81) ∷ Do Deliver ∷ Do (Submit 1 (bulk 0x81 (In 8))) ∷ Do (Submit 1 (bulk 0x81 (In 8))) ∷ [];
  rules = [];
  lines =
      codes "h1 done" ∷ codes "h1 done" ∷ codes "h1 number 0" ∷ codes "h1 number 1" ∷ codes "h1 number 2" ∷ codes "h1 done" ∷
      codes "h1 ran stop 81 ok" ∷ codes "h1 settled stop 81 ok" ∷ codes "h1 called 1 ep 81 round 0 CANCELLED 0 data -" ∷ codes "h1 number 3" ∷
      codes "h1 number 4" ∷ codes "h1 number 5" ∷ codes "h1 number 6" ∷ codes "h1 number 7" ∷ codes "h1 number 8" ∷ codes "h1 number 9" ∷
      codes "h1 number 10" ∷ codes "h1 number 11" ∷ codes "h1 number 12" ∷ codes "h1 number 13" ∷ codes "h1 number 14" ∷ codes "h1 number 15" ∷
      codes "h1 refused 4" ∷ codes "h1 ended 0 code 1" ∷ codes "h1 finished 0" ∷ codes "h1 number 16" ∷ codes "h1 refused 4" ∷ [];
}

-- A transfer whose empty packet is left has moved all its bytes.
abbrev pub pause_before_the_zero_packet : Row
pause_before_the_zero_packet = record {
  setup = example [] (Ack ∷ Ack ∷ Nak ∷ []) [];
  plan =
      Do (Open 1 0) ∷ Do (Claim 1 0) ∷
      Do (Submit 1 (record (bulk 0x02 (Out (0 ∷ 1 ∷ 2 ∷ 3 ∷ 4 ∷ 5 ∷ 6 ∷ 7 ∷ 8 ∷ 9 ∷ 10 ∷ 11 ∷ 12 ∷ 13 ∷ 14 ∷ 15 ∷ []))) { flags = record { 0 = 8 } })) ∷
      Do (Serve 0 0x02) ∷ Do (Serve 0 0x02) ∷ Do (Cancel 1 0) ∷ Do Command ∷ Do Deliver ∷ Do Deliver ∷ Do Take ∷ [];
  rules = [];
  lines =
      codes "h1 done" ∷ codes "h1 done" ∷ codes "h1 number 0" ∷ codes "h1 moved 0 8" ∷ codes "h1 moved 0 8" ∷ codes "h1 done" ∷
      codes "h1 ran stop 02 ok" ∷ codes "h1 paused 0" ∷ codes "h1 settled stop 02 ok" ∷ codes "h1 called 0 ep 02 round 0 CANCELLED 16 data -" ∷ [];
}

-- Without a timeout no time is over.
abbrev pub expire_without_timeout : Row
expire_without_timeout = record {
  setup = example [] [] [];
  plan =
      Do (Open 1 0) ∷ Do (Claim 1 0) ∷ Do (Submit 1 (bulk 0x81 (In 8))) ∷ Do (Expire 1 0) ∷ [];
  rules = [];
  lines =
      codes "h1 done" ∷ codes "h1 done" ∷ codes "h1 number 0" ∷ codes "h1 refused 3" ∷ [];
}

-- The first ask names the status: a cancel.
abbrev pub cancel_then_expire : Row
cancel_then_expire = record {
  setup = example [] [] [];
  plan =
      Do (Open 1 0) ∷ Do (Claim 1 0) ∷ Do (Submit 1 (record (bulk 0x81 (In 8)) { timeout = 5 })) ∷ Do (Cancel 1 0) ∷ Do (Expire 1 0) ∷
      Do Command ∷ Do Deliver ∷ Do Take ∷ [];
  rules = [];
  lines =
      codes "h1 done" ∷ codes "h1 done" ∷ codes "h1 number 0" ∷ codes "h1 done" ∷ codes "h1 refused 3" ∷ codes "h1 ran stop 81 ok" ∷
      codes "h1 settled stop 81 ok" ∷ codes "h1 called 0 ep 81 round 0 CANCELLED 0 data -" ∷ [];
}

-- The first ask names the status: time.
abbrev pub expire_then_cancel : Row
expire_then_cancel = record {
  setup = example [] [] [];
  plan =
      Do (Open 1 0) ∷ Do (Claim 1 0) ∷ Do (Submit 1 (record (bulk 0x81 (In 8)) { timeout = 5 })) ∷ Do (Expire 1 0) ∷ Do (Cancel 1 0) ∷
      Do Command ∷ Do Deliver ∷ Do Take ∷ [];
  rules = [];
  lines =
      codes "h1 done" ∷ codes "h1 done" ∷ codes "h1 number 0" ∷ codes "h1 done" ∷ codes "h1 refused 3" ∷ codes "h1 ran stop 81 ok" ∷
      codes "h1 settled stop 81 ok" ∷ codes "h1 called 0 ep 81 round 0 TIMED_OUT 0 data -" ∷ [];
}

-- A cancel while a Move is outstanding is not forgotten.
abbrev pub cancel_amid_move : Row
cancel_amid_move = record {
  setup = example (Data (1 ∷ []) ∷ []) [] [];
  plan =
      Do (Open 1 0) ∷ Do (Claim 1 0) ∷ Do (Submit 1 (bulk 0x81 (In 8))) ∷ Do (Submit 1 (bulk 0x81 (In 8))) ∷ Do (Submit 1 (bulk 0x81 (In 8))) ∷
      Do (Cancel 1 0) ∷ Do Command ∷ Do Deliver ∷ Do (Cancel 1 1) ∷ Do Command ∷ Do Deliver ∷ Do Take ∷ Do Take ∷ Do (Serve 0 0x81) ∷
      Do Command ∷ Do Deliver ∷ Do (Serve 0 0x81) ∷ [];
  rules = [];
  lines =
      codes "h1 done" ∷ codes "h1 done" ∷ codes "h1 number 0" ∷ codes "h1 number 1" ∷ codes "h1 number 2" ∷ codes "h1 done" ∷
      codes "h1 ran stop 81 ok" ∷ codes "h1 settled stop 81 ok" ∷ codes "h1 done" ∷ codes "h1 ran move 81 ok" ∷ codes "h1 settled move 81 ok" ∷
      codes "h1 called 0 ep 81 round 0 CANCELLED 0 data -" ∷ codes "h1 called 1 ep 81 round 0 CANCELLED 0 data -" ∷ codes "h1 idle" ∷
      codes "h1 ran move 81 ok" ∷ codes "h1 settled move 81 ok" ∷ codes "h1 ended 2 code 13" ∷ [];
}

-- A later Stop does not withdraw a blank again.
abbrev pub second_cancel_repeats_nothing : Row
second_cancel_repeats_nothing = record {
  setup = example [] [] [];
  plan =
      Do (Open 1 0) ∷ Do (Claim 1 0) ∷ Do (Submit 1 (bulk 0x81 (In 8))) ∷ Do (Submit 1 (bulk 0x81 (In 8))) ∷ Do (Submit 1 (bulk 0x81 (In 8))) ∷
      Do (Submit 1 (bulk 0x81 (In 8))) ∷ Do (Cancel 1 1) ∷ Do Command ∷ Do Deliver ∷ Do (Cancel 1 2) ∷ Do Command ∷ Do Deliver ∷ Do Take ∷
      Do Take ∷ Do Take ∷ [];
  rules = [];
  lines =
      codes "h1 done" ∷ codes "h1 done" ∷ codes "h1 number 0" ∷ codes "h1 number 1" ∷ codes "h1 number 2" ∷ codes "h1 number 3" ∷
      codes "h1 done" ∷ codes "h1 ran stop 81 ok" ∷ codes "h1 settled stop 81 ok" ∷ codes "h1 done" ∷ codes "h1 ran stop 81 ok" ∷
      codes "h1 settled stop 81 ok" ∷ codes "h1 called 1 ep 81 round 0 CANCELLED 0 data -" ∷
      codes "h1 called 2 ep 81 round 0 CANCELLED 0 data -" ∷ codes "- idle" ∷ [];
}

-- Sixteen Delivers before the seventeenth ends the asked transfer.
abbrev pub cancel_at_its_bound : Row
cancel_at_its_bound = record {
  setup = example (Data (1 ∷ []) ∷ Data (1 ∷ []) ∷ Data (1 ∷ []) ∷ Data (1 ∷ []) ∷ Data (1 ∷ []) ∷ Data (1 ∷ []) ∷ Data (1 ∷ []) ∷ Data (1 ∷ []) ∷ Data (1 ∷ []) ∷ Data (1 ∷ []) ∷ Data (1 ∷ []) ∷ Data (1 ∷ []) ∷ Data (1 ∷ []) ∷ Data (1 ∷ []) ∷ Data (1 ∷ []) ∷ Data (1 ∷ 2 ∷ 3 ∷ 4 ∷ 5 ∷ 6 ∷ 7 ∷ 8 ∷ []) ∷ []) [] [];
  plan =
      Do (Open 1 0) ∷ Do (Claim 1 0) ∷ Do (Submit 1 (bulk 0x81 (In 8))) ∷ Do (Submit 1 (bulk 0x81 (In 8))) ∷ Do (Submit 1 (bulk 0x81 (In 8))) ∷
      Do (Submit 1 (bulk 0x81 (In 8))) ∷ Do (Submit 1 (bulk 0x81 (In 8))) ∷ Do (Submit 1 (bulk 0x81 (In 8))) ∷ Do (Submit 1 (bulk 0x81 (In 8))) ∷
      Do (Submit 1 (bulk 0x81 (In 8))) ∷ Do (Submit 1 (bulk 0x81 (In 8))) ∷ Do (Submit 1 (bulk 0x81 (In 8))) ∷ Do (Submit 1 (bulk 0x81 (In 8))) ∷
      Do (Submit 1 (bulk 0x81 (In 8))) ∷ Do (Submit 1 (bulk 0x81 (In 8))) ∷ Do (Submit 1 (bulk 0x81 (In 8))) ∷ Do (Submit 1 (bulk 0x81 (In 8))) ∷
      Do (Submit 1 (bulk 0x81 (In 16))) ∷ Do (Serve 0 0x81) ∷ Do (Serve 0 0x81) ∷ Do (Serve 0 0x81) ∷ Do (Serve 0 0x81) ∷ Do (Serve 0 0x81) ∷
      Do (Serve 0 0x81) ∷ Do (Serve 0 0x81) ∷ Do (Serve 0 0x81) ∷ Do (Serve 0 0x81) ∷ Do (Serve 0 0x81) ∷ Do (Serve 0 0x81) ∷ Do (Serve 0 0x81) ∷
      Do (Serve 0 0x81) ∷ Do (Serve 0 0x81) ∷ Do (Serve 0 0x81) ∷ Do (Serve 0 0x81) ∷ Do (Cancel 1 15) ∷ Do Command ∷ Do Deliver ∷ Do Deliver ∷
      Do Deliver ∷ Do Deliver ∷ Do Deliver ∷ Do Deliver ∷ Do Deliver ∷ Do Deliver ∷ Do Deliver ∷ Do Deliver ∷ Do Deliver ∷ Do Deliver ∷
      Do Deliver ∷ Do Deliver ∷ Do Deliver ∷ Do Deliver ∷ Do Deliver ∷ Do Take ∷ Do Take ∷ Do Take ∷ Do Take ∷ Do Take ∷ Do Take ∷ Do Take ∷
      Do Take ∷ Do Take ∷ Do Take ∷ Do Take ∷ Do Take ∷ Do Take ∷ Do Take ∷ Do Take ∷ Do Take ∷ [];
  rules = [];
  lines =
      codes "h1 done" ∷ codes "h1 done" ∷ codes "h1 number 0" ∷ codes "h1 number 1" ∷ codes "h1 number 2" ∷ codes "h1 number 3" ∷
      codes "h1 number 4" ∷ codes "h1 number 5" ∷ codes "h1 number 6" ∷ codes "h1 number 7" ∷ codes "h1 number 8" ∷ codes "h1 number 9" ∷
      codes "h1 number 10" ∷ codes "h1 number 11" ∷ codes "h1 number 12" ∷ codes "h1 number 13" ∷ codes "h1 number 14" ∷ codes "h1 number 15" ∷
      codes "h1 ended 0 code 13" ∷ codes "h1 ended 1 code 13" ∷ codes "h1 ended 2 code 13" ∷ codes "h1 ended 3 code 13" ∷
      codes "h1 ended 4 code 13" ∷ codes "h1 ended 5 code 13" ∷ codes "h1 ended 6 code 13" ∷ codes "h1 ended 7 code 13" ∷
      codes "h1 ended 8 code 13" ∷ codes "h1 ended 9 code 13" ∷ codes "h1 ended 10 code 13" ∷ codes "h1 ended 11 code 13" ∷
      codes "h1 ended 12 code 13" ∷ codes "h1 ended 13 code 13" ∷ codes "h1 ended 14 code 13" ∷ codes "h1 moved 15 8" ∷ codes "h1 done" ∷
      codes "h1 ran stop 81 ok" ∷ codes "h1 finished 0" ∷ codes "h1 finished 1" ∷ codes "h1 finished 2" ∷ codes "h1 finished 3" ∷
      codes "h1 finished 4" ∷ codes "h1 finished 5" ∷ codes "h1 finished 6" ∷ codes "h1 finished 7" ∷ codes "h1 finished 8" ∷
      codes "h1 finished 9" ∷ codes "h1 finished 10" ∷ codes "h1 finished 11" ∷ codes "h1 finished 12" ∷ codes "h1 finished 13" ∷
      codes "h1 finished 14" ∷ codes "h1 paused 15" ∷ codes "h1 settled stop 81 ok" ∷ codes "h1 called 0 ep 81 round 0 COMPLETED 1 data 01" ∷
      codes "h1 called 1 ep 81 round 0 COMPLETED 1 data 01" ∷ codes "h1 called 2 ep 81 round 0 COMPLETED 1 data 01" ∷
      codes "h1 called 3 ep 81 round 0 COMPLETED 1 data 01" ∷ codes "h1 called 4 ep 81 round 0 COMPLETED 1 data 01" ∷
      codes "h1 called 5 ep 81 round 0 COMPLETED 1 data 01" ∷ codes "h1 called 6 ep 81 round 0 COMPLETED 1 data 01" ∷
      codes "h1 called 7 ep 81 round 0 COMPLETED 1 data 01" ∷ codes "h1 called 8 ep 81 round 0 COMPLETED 1 data 01" ∷
      codes "h1 called 9 ep 81 round 0 COMPLETED 1 data 01" ∷ codes "h1 called 10 ep 81 round 0 COMPLETED 1 data 01" ∷
      codes "h1 called 11 ep 81 round 0 COMPLETED 1 data 01" ∷ codes "h1 called 12 ep 81 round 0 COMPLETED 1 data 01" ∷
      codes "h1 called 13 ep 81 round 0 COMPLETED 1 data 01" ∷ codes "h1 called 14 ep 81 round 0 COMPLETED 1 data 01" ∷
      codes "h1 called 15 ep 81 round 0 CANCELLED 8 data 0102030405060708" ∷ [];
}
