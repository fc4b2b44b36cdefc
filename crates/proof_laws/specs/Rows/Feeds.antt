-- What lines amid the steps feed is known from the beginning.
use Rattle.std.specs.Prelude.{[], ◌∷◌, ◌++◌, codes}
use Rattle.usb_model.specs.declared.response.Response.TheVariants.{Data, Ack, Nak, Stall}
use Rattle.usb_model.specs.declared.request.Body.TheVariants.{In, Out}
use Rattle.usb_model.specs.declared.step.Step.TheVariants.{Open, Claim, Release, Reset, ClearHalt, Submit, Serve, Command, Deliver, Take, Unplug}
use Rattle.usb_model.specs.declared.plan.Plan.TheVariants.{Do, Return}
use Rattle.proof_laws.specs.Rows.{Row, example, bulk}

-- Each packet is fed before the Serve that takes it.
abbrev pub fed_amid_a_transfer : Row
fed_amid_a_transfer = record {
  setup = example (Data (1 ∷ 2 ∷ 3 ∷ 4 ∷ 5 ∷ 6 ∷ 7 ∷ 8 ∷ []) ∷ Data (9 ∷ 10 ∷ []) ∷ []) [] [];
  plan =
      Do (Open 1 0) ∷ Do (Claim 1 0) ∷ Do (Submit 1 (bulk 0x81 (In 16))) ∷ Do (Serve 0 0x81) ∷ Do (Serve 0 0x81) ∷ Do Deliver ∷ Do Take ∷ [];
  rules = [];
  lines =
      codes "h1 done" ∷ codes "h1 done" ∷ codes "h1 number 0" ∷ codes "h1 moved 0 8" ∷ codes "h1 ended 0 code 13" ∷ codes "h1 finished 0" ∷
      codes "h1 called 0 ep 81 round 0 COMPLETED 10 data 0102030405060708090a" ∷ [];
}

-- A Serve takes what a line behind it feeds.
abbrev pub fed_behind_a_serve : Row
fed_behind_a_serve = record {
  setup = example (Data (1 ∷ 2 ∷ 3 ∷ 4 ∷ 5 ∷ 6 ∷ 7 ∷ 8 ∷ []) ∷ []) [] [];
  plan =
      Do (Open 1 0) ∷ Do (Claim 1 0) ∷ Do (Submit 1 (bulk 0x81 (In 8))) ∷ Do (Serve 0 0x81) ∷ Do (Serve 0 0x81) ∷ Do Deliver ∷ Do Take ∷ [];
  rules = [];
  lines =
      codes "h1 done" ∷ codes "h1 done" ∷ codes "h1 number 0" ∷ codes "h1 ended 0 code 1" ∷ codes "h1 idle" ∷ codes "h1 finished 0" ∷
      codes "h1 called 0 ep 81 round 0 COMPLETED 8 data 0102030405060708" ∷ [];
}

-- So does the last of three, where the device isn't ready before.
abbrev pub fed_at_the_very_end : Row
fed_at_the_very_end = record {
  setup = example (Nak ∷ Nak ∷ Data (10 ∷ []) ∷ []) [] [];
  plan =
      Do (Open 1 0) ∷ Do (Claim 1 0) ∷ Do (Submit 1 (bulk 0x81 (In 8))) ∷ Do (Serve 0 0x81) ∷ Do (Serve 0 0x81) ∷ Do (Serve 0 0x81) ∷ Do Deliver ∷
      Do Take ∷ [];
  rules = [];
  lines =
      codes "h1 done" ∷ codes "h1 done" ∷ codes "h1 number 0" ∷ codes "h1 nak 0" ∷ codes "h1 nak 0" ∷ codes "h1 ended 0 code 13" ∷
      codes "h1 finished 0" ∷ codes "h1 called 0 ep 81 round 0 COMPLETED 1 data 0a" ∷ [];
}

-- What is fed stands behind the script, in the order of the lines.
abbrev pub fed_behind_its_script : Row
fed_behind_its_script = record {
  setup = example (Data (1 ∷ []) ∷ Data (2 ∷ []) ∷ Data (3 ∷ []) ∷ Nak ∷ []) [] [];
  plan =
      Do (Open 1 0) ∷ Do (Claim 1 0) ∷ Do (Submit 1 (bulk 0x81 (In 8))) ∷ Do (Submit 1 (bulk 0x81 (In 8))) ∷ Do (Submit 1 (bulk 0x81 (In 8))) ∷
      Do (Submit 1 (bulk 0x81 (In 8))) ∷ Do (Serve 0 0x81) ∷ Do (Serve 0 0x81) ∷ Do (Serve 0 0x81) ∷ Do (Serve 0 0x81) ∷ Do (Serve 0 0x81) ∷
      Do Deliver ∷ Do Deliver ∷ Do Deliver ∷ Do Take ∷ Do Take ∷ Do Take ∷ [];
  rules = [];
  lines =
      codes "h1 done" ∷ codes "h1 done" ∷ codes "h1 number 0" ∷ codes "h1 number 1" ∷ codes "h1 number 2" ∷ codes "h1 number 3" ∷
      codes "h1 ended 0 code 13" ∷ codes "h1 ended 1 code 13" ∷ codes "h1 ended 2 code 13" ∷ codes "h1 nak 3" ∷ codes "h1 nak 3" ∷
      codes "h1 finished 0" ∷ codes "h1 finished 1" ∷ codes "h1 finished 2" ∷ codes "h1 called 0 ep 81 round 0 COMPLETED 1 data 01" ∷
      codes "h1 called 1 ep 81 round 0 COMPLETED 1 data 02" ∷ codes "h1 called 2 ep 81 round 0 COMPLETED 1 data 03" ∷ [];
}

-- An endpoint that is claimed anew begins with the script, and goes on with what was fed.
abbrev pub fed_over_a_claim : Row
fed_over_a_claim = record {
  setup = example (Data (1 ∷ []) ∷ Data (2 ∷ []) ∷ []) [] [];
  plan =
      Do (Open 1 0) ∷ Do (Claim 1 0) ∷ Do (Submit 1 (bulk 0x81 (In 8))) ∷ Do (Serve 0 0x81) ∷ Do Deliver ∷ Do Take ∷ Return 1 0 ∷ Do (Release 1 0) ∷
      Do (Claim 1 0) ∷ Do (Submit 1 (bulk 0x81 (In 8))) ∷ Do (Submit 1 (bulk 0x81 (In 8))) ∷ Do (Serve 0 0x81) ∷ Do (Serve 0 0x81) ∷ Do Deliver ∷
      Do Deliver ∷ Do Take ∷ Do Take ∷ [];
  rules = [];
  lines =
      codes "h1 done" ∷ codes "h1 done" ∷ codes "h1 number 0" ∷ codes "h1 ended 0 code 13" ∷ codes "h1 finished 0" ∷
      codes "h1 called 0 ep 81 round 0 COMPLETED 1 data 01" ∷ codes "h1 done" ∷ codes "h1 done" ∷ codes "h1 done" ∷ codes "h1 number 1" ∷
      codes "h1 number 2" ∷ codes "h1 ended 1 code 13" ∷ codes "h1 ended 2 code 13" ∷ codes "h1 finished 1" ∷ codes "h1 finished 2" ∷
      codes "h1 called 1 ep 81 round 0 COMPLETED 1 data 01" ∷ codes "h1 called 2 ep 81 round 0 COMPLETED 1 data 02" ∷ [];
}

-- So does one that is reset, also with what is fed behind that.
abbrev pub fed_over_a_reset : Row
fed_over_a_reset = record {
  setup = example (Data (1 ∷ []) ∷ Data (2 ∷ []) ∷ []) [] [];
  plan =
      Do (Open 1 0) ∷ Do (Claim 1 0) ∷ Do (Submit 1 (bulk 0x81 (In 8))) ∷ Do (Serve 0 0x81) ∷ Do Deliver ∷ Do Take ∷ Return 1 0 ∷ Do (Reset 1) ∷
      Do (Submit 1 (bulk 0x81 (In 8))) ∷ Do (Submit 1 (bulk 0x81 (In 8))) ∷ Do (Serve 0 0x81) ∷ Do (Serve 0 0x81) ∷ Do Deliver ∷ Do Deliver ∷
      Do Take ∷ Do Take ∷ [];
  rules = [];
  lines =
      codes "h1 done" ∷ codes "h1 done" ∷ codes "h1 number 0" ∷ codes "h1 ended 0 code 13" ∷ codes "h1 finished 0" ∷
      codes "h1 called 0 ep 81 round 0 COMPLETED 1 data 01" ∷ codes "h1 done" ∷ codes "h1 done" ∷ codes "h1 number 1" ∷ codes "h1 number 2" ∷
      codes "h1 ended 1 code 13" ∷ codes "h1 ended 2 code 13" ∷ codes "h1 finished 1" ∷ codes "h1 finished 2" ∷
      codes "h1 called 1 ep 81 round 0 COMPLETED 1 data 01" ∷ codes "h1 called 2 ep 81 round 0 COMPLETED 1 data 02" ∷ [];
}

-- What is fed while an endpoint is halted stays for the transfer behind the end of the halt.
abbrev pub fed_at_a_stall : Row
fed_at_a_stall = record {
  setup = example (Stall ∷ Data (1 ∷ []) ∷ []) [] [];
  plan =
      Do (Open 1 0) ∷ Do (Claim 1 0) ∷ Do (Submit 1 (bulk 0x81 (In 8))) ∷ Do (Serve 0 0x81) ∷ Do (Serve 0 0x81) ∷ Do Deliver ∷ Do Command ∷
      Do Deliver ∷ Do Command ∷ Do Deliver ∷ Do (ClearHalt 1 0x81) ∷ Do (Submit 1 (bulk 0x81 (In 8))) ∷ Do (Serve 0 0x81) ∷ Do Deliver ∷ Do Take ∷
      Do Take ∷ [];
  rules = [];
  lines =
      codes "h1 done" ∷ codes "h1 done" ∷ codes "h1 number 0" ∷ codes "h1 ended 0 code 6" ∷ codes "h1 idle" ∷ codes "h1 finished 0" ∷
      codes "h1 ran reset 81 ok" ∷ codes "h1 settled reset 81 ok" ∷ codes "h1 ran move 81 ok" ∷ codes "h1 settled move 81 ok" ∷ codes "h1 done" ∷
      codes "h1 number 1" ∷ codes "h1 ended 1 code 13" ∷ codes "h1 finished 1" ∷ codes "h1 called 0 ep 81 round 0 STALL 0 data -" ∷
      codes "h1 called 1 ep 81 round 0 COMPLETED 1 data 01" ∷ [];
}

-- Packets of a write are taken as they are fed.
abbrev pub fed_to_an_out_endpoint : Row
fed_to_an_out_endpoint = record {
  setup = example [] (Ack ∷ Nak ∷ Ack ∷ []) [];
  plan =
      Do (Open 1 0) ∷ Do (Claim 1 0) ∷ Do (Submit 1 (bulk 0x02 (Out (1 ∷ 2 ∷ 3 ∷ 4 ∷ 5 ∷ 6 ∷ 7 ∷ 8 ∷ 9 ∷ 10 ∷ [])))) ∷ Do (Serve 0 0x02) ∷
      Do (Serve 0 0x02) ∷ Do (Serve 0 0x02) ∷ Do Deliver ∷ Do Take ∷ [];
  rules = [];
  lines =
      codes "h1 done" ∷ codes "h1 done" ∷ codes "h1 number 0" ∷ codes "h1 moved 0 8" ∷ codes "h1 nak 0" ∷ codes "h1 ended 0 code 1" ∷
      codes "h1 finished 0" ∷ codes "h1 called 0 ep 02 round 0 COMPLETED 10 data -" ∷ [];
}

-- Each device has what is fed to it.
abbrev pub fed_to_two_devices : Row
fed_to_two_devices = record {
  setup = example (Data (170 ∷ []) ∷ []) [] [] ++ example (Data (187 ∷ []) ∷ []) [] [];
  plan =
      Do (Open 1 0) ∷ Do (Claim 1 0) ∷ Do (Open 2 1) ∷ Do (Claim 2 0) ∷ Do (Submit 1 (bulk 0x81 (In 8))) ∷ Do (Submit 2 (bulk 0x81 (In 8))) ∷
      Do (Serve 0 0x81) ∷ Do (Serve 1 0x81) ∷ Do Deliver ∷ Do Deliver ∷ Do Take ∷ Do Take ∷ [];
  rules = [];
  lines =
      codes "h1 done" ∷ codes "h1 done" ∷ codes "h2 done" ∷ codes "h2 done" ∷ codes "h1 number 0" ∷ codes "h2 number 0" ∷ codes "h1 ended 0 code 13" ∷
      codes "h2 ended 0 code 13" ∷ codes "h1 finished 0" ∷ codes "h2 finished 0" ∷ codes "h1 called 0 ep 81 round 0 COMPLETED 1 data aa" ∷
      codes "h2 called 0 ep 81 round 0 COMPLETED 1 data bb" ∷ [];
}

-- What is fed to a device that is gone is asked of nobody.
abbrev pub fed_behind_an_unplug : Row
fed_behind_an_unplug = record {
  setup = example (Data (1 ∷ []) ∷ []) [] [];
  plan =
      Do (Open 1 0) ∷ Do (Claim 1 0) ∷ Do (Submit 1 (bulk 0x81 (In 8))) ∷ Do (Unplug 0) ∷ Do (Serve 0 0x81) ∷ Do Deliver ∷ Do Take ∷ [];
  rules = [];
  lines =
      codes "h1 done" ∷ codes "h1 done" ∷ codes "h1 number 0" ∷ codes "- done" ∷ codes "h1 ended 0 code 4" ∷ codes "h1 finished 0" ∷
      codes "h1 called 0 ep 81 round 0 NO_DEVICE 0 data -" ∷ [];
}
