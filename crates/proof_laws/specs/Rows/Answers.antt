-- Answers of a device that end a transfer badly.
use Rattle.std.specs.Prelude.{[], ◌∷◌, codes}
use Rattle.usb_model.specs.declared.response.Response.TheVariants.{Data, Ack, Nak, Stall, Broken}
use Rattle.usb_model.specs.declared.request.Body.TheVariants.{In, Out}
use Rattle.usb_model.specs.declared.step.Step.TheVariants.{Open, Claim, ClearHalt, Submit, Cancel, Serve, Command, Deliver, Take}
use Rattle.usb_model.specs.declared.plan.Plan.TheVariants.{Do}
use Rattle.proof_laws.specs.Rows.{Row, example, bulk, interrupt}

-- A transaction that fails halts the endpoint, and not the device: what is submitted behind Reset and Move is answered.
abbrev pub broken_at_first : Row
broken_at_first = record {
  setup = example (Broken ∷ Data (1 ∷ []) ∷ []) (Broken ∷ Ack ∷ []) [];
  plan =
      Do (Open 1 0) ∷ Do (Claim 1 0) ∷ Do (Submit 1 (bulk 0x81 (In 8))) ∷ Do (Submit 1 (bulk 0x02 (Out (0 ∷ [])))) ∷ Do (Serve 0 0x81) ∷
      Do (Serve 0 0x02) ∷ Do Deliver ∷ Do Deliver ∷ Do Take ∷ Do Take ∷ Do Command ∷ Do Command ∷ Do Deliver ∷ Do Deliver ∷ Do Command ∷ Do Command ∷
      Do Deliver ∷ Do Deliver ∷ Do (Submit 1 (bulk 0x81 (In 8))) ∷ Do (Submit 1 (bulk 0x02 (Out (0 ∷ [])))) ∷ Do (Serve 0 0x81) ∷
      Do (Serve 0 0x02) ∷ [];
  rules = [];
  lines =
      codes "h1 done" ∷ codes "h1 done" ∷ codes "h1 number 0" ∷ codes "h1 number 1" ∷ codes "h1 ended 0 code 4" ∷ codes "h1 ended 1 code 4" ∷
      codes "h1 finished 0" ∷ codes "h1 finished 1" ∷ codes "h1 called 0 ep 81 round 0 ERROR 0 data -" ∷
      codes "h1 called 1 ep 02 round 0 ERROR 0 data -" ∷ codes "h1 ran reset 81 ok" ∷ codes "h1 ran reset 02 ok" ∷ codes "h1 settled reset 81 ok" ∷
      codes "h1 settled reset 02 ok" ∷ codes "h1 ran move 81 ok" ∷ codes "h1 ran move 02 ok" ∷ codes "h1 settled move 81 ok" ∷
      codes "h1 settled move 02 ok" ∷ codes "h1 number 2" ∷ codes "h1 number 3" ∷ codes "h1 ended 2 code 13" ∷ codes "h1 ended 3 code 1" ∷ [];
}

-- What had moved before it is told.
abbrev pub broken_amid_packets : Row
broken_amid_packets = record {
  setup = example (Data (1 ∷ 2 ∷ 3 ∷ 4 ∷ 5 ∷ 6 ∷ 7 ∷ 8 ∷ []) ∷ Broken ∷ []) (Ack ∷ Broken ∷ []) [];
  plan =
      Do (Open 1 0) ∷ Do (Claim 1 0) ∷ Do (Submit 1 (bulk 0x81 (In 24))) ∷
      Do (Submit 1 (bulk 0x02 (Out (0 ∷ 1 ∷ 2 ∷ 3 ∷ 4 ∷ 5 ∷ 6 ∷ 7 ∷ 8 ∷ 9 ∷ 10 ∷ 11 ∷ 12 ∷ 13 ∷ 14 ∷ 15 ∷ 16 ∷ [])))) ∷ Do (Serve 0 0x81) ∷
      Do (Serve 0 0x81) ∷ Do (Serve 0 0x02) ∷ Do (Serve 0 0x02) ∷ Do Deliver ∷ Do Deliver ∷ Do Take ∷ Do Take ∷ [];
  rules = [];
  lines =
      codes "h1 done" ∷ codes "h1 done" ∷ codes "h1 number 0" ∷ codes "h1 number 1" ∷ codes "h1 moved 0 8" ∷ codes "h1 ended 0 code 4" ∷
      codes "h1 moved 1 8" ∷ codes "h1 ended 1 code 4" ∷ codes "h1 finished 0" ∷ codes "h1 finished 1" ∷
      codes "h1 called 0 ep 81 round 0 ERROR 8 data 0102030405060708" ∷ codes "h1 called 1 ep 02 round 0 ERROR 8 data -" ∷ [];
}

-- A transfer that fails before the Stop is carried out ends as it failed.
abbrev pub broken_behind_a_cancel : Row
broken_behind_a_cancel = record {
  setup = example (Data (1 ∷ 2 ∷ 3 ∷ 4 ∷ 5 ∷ 6 ∷ 7 ∷ 8 ∷ []) ∷ Broken ∷ []) (Broken ∷ []) [];
  plan =
      Do (Open 1 0) ∷ Do (Claim 1 0) ∷ Do (Submit 1 (bulk 0x81 (In 24))) ∷ Do (Submit 1 (bulk 0x02 (Out (0 ∷ [])))) ∷ Do (Serve 0 0x81) ∷
      Do (Cancel 1 0) ∷ Do (Cancel 1 1) ∷ Do (Serve 0 0x81) ∷ Do (Serve 0 0x02) ∷ Do Command ∷ Do Command ∷ Do Deliver ∷ Do Deliver ∷ Do Deliver ∷
      Do Deliver ∷ Do Take ∷ Do Take ∷ Do Command ∷ [];
  rules = [];
  lines =
      codes "h1 done" ∷ codes "h1 done" ∷ codes "h1 number 0" ∷ codes "h1 number 1" ∷ codes "h1 moved 0 8" ∷ codes "h1 done" ∷ codes "h1 done" ∷
      codes "h1 ended 0 code 4" ∷ codes "h1 ended 1 code 4" ∷ codes "h1 ran stop 81 fail" ∷ codes "h1 ran stop 02 fail" ∷ codes "h1 finished 0" ∷
      codes "h1 finished 1" ∷ codes "h1 settled stop 81 fail" ∷ codes "h1 settled stop 02 fail" ∷
      codes "h1 called 0 ep 81 round 0 ERROR 8 data 0102030405060708" ∷ codes "h1 called 1 ep 02 round 0 ERROR 0 data -" ∷
      codes "h1 ran reset 81 ok" ∷ [];
}

-- The packets before a stall were sent; the transfer behind it stalls without an answer, and behind the end of the halt the script goes on.
abbrev pub stall_amid_out : Row
stall_amid_out = record {
  setup = example [] (Ack ∷ Nak ∷ Stall ∷ Ack ∷ []) [];
  plan =
      Do (Open 1 0) ∷ Do (Claim 1 0) ∷
      Do (Submit 1 (bulk 0x02 (Out (0 ∷ 1 ∷ 2 ∷ 3 ∷ 4 ∷ 5 ∷ 6 ∷ 7 ∷ 8 ∷ 9 ∷ 10 ∷ 11 ∷ 12 ∷ 13 ∷ 14 ∷ 15 ∷ 16 ∷ [])))) ∷
      Do (Submit 1 (bulk 0x02 (Out (0 ∷ [])))) ∷ Do (Serve 0 0x02) ∷ Do (Serve 0 0x02) ∷ Do (Serve 0 0x02) ∷ Do Deliver ∷ Do Command ∷ Do Deliver ∷
      Do Command ∷ Do Deliver ∷ Do (Serve 0 0x02) ∷ Do Deliver ∷ Do Command ∷ Do Deliver ∷ Do Command ∷ Do Deliver ∷ Do (ClearHalt 1 0x02) ∷
      Do (Submit 1 (bulk 0x02 (Out (0 ∷ [])))) ∷ Do (Serve 0 0x02) ∷ Do Take ∷ Do Take ∷ [];
  rules = [];
  lines =
      codes "h1 done" ∷ codes "h1 done" ∷ codes "h1 number 0" ∷ codes "h1 number 1" ∷ codes "h1 moved 0 8" ∷ codes "h1 nak 0" ∷
      codes "h1 ended 0 code 6" ∷ codes "h1 finished 0" ∷ codes "h1 ran reset 02 ok" ∷ codes "h1 settled reset 02 ok" ∷ codes "h1 ran move 02 ok" ∷
      codes "h1 settled move 02 ok" ∷ codes "h1 ended 1 code 6" ∷ codes "h1 finished 1" ∷ codes "h1 ran reset 02 ok" ∷
      codes "h1 settled reset 02 ok" ∷ codes "h1 ran move 02 ok" ∷ codes "h1 settled move 02 ok" ∷ codes "h1 done" ∷ codes "h1 number 2" ∷
      codes "h1 ended 2 code 1" ∷ codes "h1 called 0 ep 02 round 0 STALL 8 data -" ∷ codes "h1 called 1 ep 02 round 0 STALL 0 data -" ∷ [];
}

-- What had moved before a stall is told, and before a packet that is too long for its endpoint, though there is room.
abbrev pub stall_and_babble_amid_reads : Row
stall_and_babble_amid_reads = record {
  setup = example (Data (1 ∷ 2 ∷ 3 ∷ 4 ∷ 5 ∷ 6 ∷ 7 ∷ 8 ∷ []) ∷ Stall ∷ []) [] (Data (1 ∷ 2 ∷ 3 ∷ 4 ∷ 5 ∷ 6 ∷ 7 ∷ 8 ∷ []) ∷ Data (1 ∷ 2 ∷ 3 ∷ 4 ∷ 5 ∷ 6 ∷ 7 ∷ 8 ∷ 9 ∷ []) ∷ []);
  plan =
      Do (Open 1 0) ∷ Do (Claim 1 0) ∷ Do (Claim 1 1) ∷ Do (Submit 1 (bulk 0x81 (In 24))) ∷ Do (Submit 1 (interrupt 0x83 (In 24))) ∷
      Do (Serve 0 0x81) ∷ Do (Serve 0 0x81) ∷ Do (Serve 0 0x83) ∷ Do (Serve 0 0x83) ∷ Do Deliver ∷ Do Deliver ∷ Do Take ∷ Do Take ∷ [];
  rules = [];
  lines =
      codes "h1 done" ∷ codes "h1 done" ∷ codes "h1 done" ∷ codes "h1 number 0" ∷ codes "h1 number 1" ∷ codes "h1 moved 0 8" ∷
      codes "h1 ended 0 code 6" ∷ codes "h1 moved 1 8" ∷ codes "h1 ended 1 code 3" ∷ codes "h1 finished 0" ∷ codes "h1 finished 1" ∷
      codes "h1 called 0 ep 81 round 0 STALL 8 data 0102030405060708" ∷ codes "h1 called 1 ep 83 round 0 OVERFLOW 8 data 0102030405060708" ∷ [];
}

-- A transfer that is asked to end behind one that failed needs no Stop: it is withdrawn when the Reset is settled, before the Move.
abbrev pub cancel_behind_a_stall : Row
cancel_behind_a_stall = record {
  setup = example (Stall ∷ []) [] [];
  plan =
      Do (Open 1 0) ∷ Do (Claim 1 0) ∷ Do (Submit 1 (bulk 0x81 (In 8))) ∷ Do (Submit 1 (bulk 0x81 (In 8))) ∷ Do (Serve 0 0x81) ∷ Do Deliver ∷
      Do (Cancel 1 1) ∷ Do Command ∷ Do Deliver ∷ Do Take ∷ Do Take ∷ Do Command ∷ Do Deliver ∷ Do (ClearHalt 1 0x81) ∷ Do Command ∷ [];
  rules = [];
  lines =
      codes "h1 done" ∷ codes "h1 done" ∷ codes "h1 number 0" ∷ codes "h1 number 1" ∷ codes "h1 ended 0 code 6" ∷ codes "h1 finished 0" ∷
      codes "h1 done" ∷ codes "h1 ran reset 81 ok" ∷ codes "h1 settled reset 81 ok" ∷ codes "h1 called 0 ep 81 round 0 STALL 0 data -" ∷
      codes "h1 called 1 ep 81 round 0 CANCELLED 0 data -" ∷ codes "h1 ran move 81 ok" ∷ codes "h1 settled move 81 ok" ∷ codes "h1 done" ∷
      codes "- idle" ∷ [];
}
