-- Transfers by themselves.
use Rattle.std.specs.Prelude.{[], ◌∷◌, codes}
use Rattle.usb_model.specs.declared.response.Response.TheVariants.{Data, Ack, Nak}
use Rattle.usb_model.specs.declared.request.Body.TheVariants.{In, Out}
use Rattle.usb_model.specs.declared.step.Step.TheVariants.{Open, Claim, Submit, Serve, Command, Deliver, Take}
use Rattle.usb_model.specs.declared.plan.Plan.TheVariants.{Do}
use Rattle.proof_laws.specs.Rows.{Row, example, bulk}

-- Nothing is asked, and nothing said.
abbrev pub empty_scenario : Row
empty_scenario = record {
  setup = example [] [] [];
  plan =
      [];
  rules = [];
  lines =
      [];
}

-- A read of one full packet.
abbrev pub bulk_in_eight_bytes : Row
bulk_in_eight_bytes = record {
  setup = example (Data (1 ∷ 2 ∷ 3 ∷ 4 ∷ 5 ∷ 6 ∷ 7 ∷ 8 ∷ []) ∷ []) [] [];
  plan =
      Do (Open 1 0) ∷ Do (Claim 1 0) ∷ Do (Submit 1 (bulk 0x81 (In 8))) ∷ Do (Serve 0 0x81) ∷ Do Deliver ∷ Do Take ∷ [];
  rules = [];
  lines =
      codes "h1 done" ∷ codes "h1 done" ∷ codes "h1 number 0" ∷ codes "h1 ended 0 code 1" ∷ codes "h1 finished 0" ∷
      codes "h1 called 0 ep 81 round 0 COMPLETED 8 data 0102030405060708" ∷ [];
}

-- A read ends with the first short packet.
abbrev pub short_third_packet : Row
short_third_packet = record {
  setup = example (Data (1 ∷ 2 ∷ 3 ∷ 4 ∷ 5 ∷ 6 ∷ 7 ∷ 8 ∷ []) ∷ Data (17 ∷ 18 ∷ 19 ∷ 20 ∷ 21 ∷ 22 ∷ 23 ∷ 24 ∷ []) ∷ Data (33 ∷ 34 ∷ 35 ∷ []) ∷ []) [] [];
  plan =
      Do (Open 1 0) ∷ Do (Claim 1 0) ∷ Do (Submit 1 (bulk 0x81 (In 20))) ∷ Do (Serve 0 0x81) ∷ Do (Serve 0 0x81) ∷ Do (Serve 0 0x81) ∷
      Do Deliver ∷ Do Take ∷ [];
  rules = [];
  lines =
      codes "h1 done" ∷ codes "h1 done" ∷ codes "h1 number 0" ∷ codes "h1 moved 0 8" ∷ codes "h1 moved 0 8" ∷ codes "h1 ended 0 code 13" ∷
      codes "h1 finished 0" ∷ codes "h1 called 0 ep 81 round 0 COMPLETED 19 data 01020304050607081112131415161718212223" ∷ [];
}

-- The same, where a short read is an error; it halts nothing.
abbrev pub short_is_not_ok : Row
short_is_not_ok = record {
  setup = example (Data (1 ∷ 2 ∷ 3 ∷ 4 ∷ 5 ∷ 6 ∷ 7 ∷ 8 ∷ []) ∷ Data (17 ∷ 18 ∷ 19 ∷ 20 ∷ 21 ∷ 22 ∷ 23 ∷ 24 ∷ []) ∷ Data (33 ∷ 34 ∷ 35 ∷ []) ∷ []) [] [];
  plan =
      Do (Open 1 0) ∷ Do (Claim 1 0) ∷ Do (Submit 1 (record (bulk 0x81 (In 20)) { flags = record { 0 = 1 } })) ∷ Do (Serve 0 0x81) ∷
      Do (Serve 0 0x81) ∷ Do (Serve 0 0x81) ∷ Do Deliver ∷ Do Take ∷ Do Command ∷ [];
  rules = [];
  lines =
      codes "h1 done" ∷ codes "h1 done" ∷ codes "h1 number 0" ∷ codes "h1 moved 0 8" ∷ codes "h1 moved 0 8" ∷ codes "h1 ended 0 code 13" ∷
      codes "h1 finished 0" ∷ codes "h1 called 0 ep 81 round 0 ERROR 19 data 01020304050607081112131415161718212223" ∷ codes "- idle" ∷ [];
}

-- A read of no bytes takes one empty packet.
abbrev pub zero_length_in : Row
zero_length_in = record {
  setup = example (Data [] ∷ []) [] [];
  plan =
      Do (Open 1 0) ∷ Do (Claim 1 0) ∷ Do (Submit 1 (bulk 0x81 (In 0))) ∷ Do (Serve 0 0x81) ∷ Do Deliver ∷ Do Take ∷ [];
  rules = [];
  lines =
      codes "h1 done" ∷ codes "h1 done" ∷ codes "h1 number 0" ∷ codes "h1 ended 0 code 1" ∷ codes "h1 finished 0" ∷
      codes "h1 called 0 ep 81 round 0 COMPLETED 0 data -" ∷ [];
}

-- A packet for a read of no bytes is one too much.
abbrev pub zero_length_in_babble : Row
zero_length_in_babble = record {
  setup = example (Data (170 ∷ []) ∷ []) [] [];
  plan =
      Do (Open 1 0) ∷ Do (Claim 1 0) ∷ Do (Submit 1 (bulk 0x81 (In 0))) ∷ Do (Serve 0 0x81) ∷ Do Deliver ∷ Do Take ∷ [];
  rules = [];
  lines =
      codes "h1 done" ∷ codes "h1 done" ∷ codes "h1 number 0" ∷ codes "h1 ended 0 code 3" ∷ codes "h1 finished 0" ∷
      codes "h1 called 0 ep 81 round 0 OVERFLOW 0 data -" ∷ [];
}

-- Two reads share the script in order of submission; a nak is used up.
abbrev pub two_transfers_in_order : Row
two_transfers_in_order = record {
  setup = example (Data (1 ∷ 2 ∷ 3 ∷ 4 ∷ 5 ∷ 6 ∷ 7 ∷ 8 ∷ []) ∷ Data (17 ∷ []) ∷ Nak ∷ Data (33 ∷ 34 ∷ 35 ∷ 36 ∷ 37 ∷ 38 ∷ 39 ∷ 40 ∷ []) ∷ []) [] [];
  plan =
      Do (Open 1 0) ∷ Do (Claim 1 0) ∷ Do (Submit 1 (bulk 0x81 (In 16))) ∷ Do (Submit 1 (bulk 0x81 (In 8))) ∷ Do (Serve 0 0x81) ∷
      Do (Serve 0 0x81) ∷ Do (Serve 0 0x81) ∷ Do (Serve 0 0x81) ∷ Do Deliver ∷ Do Deliver ∷ Do Take ∷ Do Take ∷ Do (Serve 0 0x81) ∷ [];
  rules = [];
  lines =
      codes "h1 done" ∷ codes "h1 done" ∷ codes "h1 number 0" ∷ codes "h1 number 1" ∷ codes "h1 moved 0 8" ∷ codes "h1 ended 0 code 13" ∷
      codes "h1 nak 1" ∷ codes "h1 ended 1 code 1" ∷ codes "h1 finished 0" ∷ codes "h1 finished 1" ∷
      codes "h1 called 0 ep 81 round 0 COMPLETED 9 data 010203040506070811" ∷
      codes "h1 called 1 ep 81 round 0 COMPLETED 8 data 2122232425262728" ∷ codes "h1 idle" ∷ [];
}

-- Sixteen places at an endpoint.
abbrev pub seventeen_submissions : Row
seventeen_submissions = record {
  setup = example [] [] [];
  plan =
      Do (Open 1 0) ∷ Do (Claim 1 0) ∷ Do (Submit 1 (bulk 0x81 (In 8))) ∷ Do (Submit 1 (bulk 0x81 (In 8))) ∷ Do (Submit 1 (bulk 0x81 (In 8))) ∷
      Do (Submit 1 (bulk 0x81 (In 8))) ∷ Do (Submit 1 (bulk 0x81 (In 8))) ∷ Do (Submit 1 (bulk 0x81 (In 8))) ∷ Do (Submit 1 (bulk 0x81 (In 8))) ∷
      Do (Submit 1 (bulk 0x81 (In 8))) ∷ Do (Submit 1 (bulk 0x81 (In 8))) ∷ Do (Submit 1 (bulk 0x81 (In 8))) ∷ Do (Submit 1 (bulk 0x81 (In 8))) ∷
      Do (Submit 1 (bulk 0x81 (In 8))) ∷ Do (Submit 1 (bulk 0x81 (In 8))) ∷ Do (Submit 1 (bulk 0x81 (In 8))) ∷ Do (Submit 1 (bulk 0x81 (In 8))) ∷
      Do (Submit 1 (bulk 0x81 (In 8))) ∷ Do (Submit 1 (bulk 0x81 (In 8))) ∷ [];
  rules = [];
  lines =
      codes "h1 done" ∷ codes "h1 done" ∷ codes "h1 number 0" ∷ codes "h1 number 1" ∷ codes "h1 number 2" ∷ codes "h1 number 3" ∷
      codes "h1 number 4" ∷ codes "h1 number 5" ∷ codes "h1 number 6" ∷ codes "h1 number 7" ∷ codes "h1 number 8" ∷ codes "h1 number 9" ∷
      codes "h1 number 10" ∷ codes "h1 number 11" ∷ codes "h1 number 12" ∷ codes "h1 number 13" ∷ codes "h1 number 14" ∷ codes "h1 number 15" ∷
      codes "h1 refused 4" ∷ [];
}

-- 262,144 bytes, and one more.
abbrev pub read_over_the_limit : Row
read_over_the_limit = record {
  setup = example [] [] [];
  plan =
      Do (Open 1 0) ∷ Do (Claim 1 0) ∷ Do (Submit 1 (bulk 0x81 (In 262145))) ∷ Do (Submit 1 (bulk 0x81 (In 262144))) ∷ [];
  rules = [];
  lines =
      codes "h1 done" ∷ codes "h1 done" ∷ codes "h1 refused 1" ∷ codes "h1 number 0" ∷ [];
}

-- Whole packets have one empty packet behind them where that is asked, others none.
abbrev pub out_with_zero_packet : Row
out_with_zero_packet = record {
  setup = example [] (Ack ∷ Ack ∷ Ack ∷ Ack ∷ Ack ∷ []) [];
  plan =
      Do (Open 1 0) ∷ Do (Claim 1 0) ∷
      Do (Submit 1 (record (bulk 0x02 (Out (0 ∷ 1 ∷ 2 ∷ 3 ∷ 4 ∷ 5 ∷ 6 ∷ 7 ∷ 8 ∷ 9 ∷ 10 ∷ 11 ∷ 12 ∷ 13 ∷ 14 ∷ 15 ∷ []))) { flags = record { 0 = 8 } })) ∷
      Do (Serve 0 0x02) ∷ Do (Serve 0 0x02) ∷ Do (Serve 0 0x02) ∷ Do Deliver ∷ Do Take ∷
      Do (Submit 1 (record (bulk 0x02 (Out (0 ∷ 1 ∷ 2 ∷ 3 ∷ 4 ∷ 5 ∷ 6 ∷ 7 ∷ 8 ∷ 9 ∷ 10 ∷ 11 ∷ 12 ∷ 13 ∷ 14 ∷ []))) { flags = record { 0 = 8 } })) ∷
      Do (Serve 0 0x02) ∷ Do (Serve 0 0x02) ∷ Do Deliver ∷ Do Take ∷ [];
  rules = [];
  lines =
      codes "h1 done" ∷ codes "h1 done" ∷ codes "h1 number 0" ∷ codes "h1 moved 0 8" ∷ codes "h1 moved 0 8" ∷ codes "h1 ended 0 code 1" ∷
      codes "h1 finished 0" ∷ codes "h1 called 0 ep 02 round 0 COMPLETED 16 data -" ∷ codes "h1 number 1" ∷ codes "h1 moved 1 8" ∷
      codes "h1 ended 1 code 1" ∷ codes "h1 finished 1" ∷ codes "h1 called 1 ep 02 round 0 COMPLETED 15 data -" ∷ [];
}
