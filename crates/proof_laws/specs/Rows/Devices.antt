-- Several devices, and what an unplugged one leaves of its transfers.
use Rattle.std.specs.Prelude.{[], ◌∷◌, ◌++◌, codes}
use Rattle.usb_model.specs.declared.response.Response.TheVariants.{Data, Ack, Stall, Broken}
use Rattle.usb_model.specs.declared.request.Body.TheVariants.{In, Out}
use Rattle.usb_model.specs.declared.step.Step.TheVariants.{Open, Claim, Submit, Cancel, Serve, Command, Deliver, Take, Unplug}
use Rattle.usb_model.specs.declared.plan.Plan.TheVariants.{Do}
use Rattle.proof_laws.specs.Rows.{Row, example, bulk, interrupt}

-- The other device goes on; each has interfaces of its own.
abbrev pub two_devices_one_unplugged : Row
two_devices_one_unplugged = record {
  setup = example (Data (1 ∷ []) ∷ []) [] [] ++ example (Data (2 ∷ []) ∷ []) [] [];
  plan =
      Do (Open 1 0) ∷ Do (Open 2 1) ∷ Do (Open 1 1) ∷ Do (Claim 2 0) ∷ Do (Submit 2 (bulk 0x81 (In 8))) ∷ Do (Claim 1 0) ∷ Do (Claim 1 1) ∷
      Do (Submit 1 (bulk 0x81 (In 8))) ∷ Do (Unplug 0) ∷ Do (Serve 0 0x81) ∷ Do (Serve 1 0x81) ∷ Do Deliver ∷ Do Deliver ∷ Do Take ∷ Do Take ∷
      Do (Submit 1 (bulk 0x81 (In 8))) ∷ Do (Submit 2 (bulk 0x81 (In 8))) ∷ Do (Open 3 0) ∷ Do (Open 3 1) ∷ Do (Claim 3 1) ∷ [];
  rules = [];
  lines =
      codes "h1 done" ∷ codes "h2 done" ∷ codes "h1 refused 4" ∷ codes "h2 done" ∷ codes "h2 number 0" ∷ codes "h1 done" ∷ codes "h1 done" ∷
      codes "h1 number 0" ∷ codes "- done" ∷ codes "h1 ended 0 code 4" ∷ codes "h2 ended 0 code 13" ∷ codes "h1 finished 0" ∷ codes "h2 finished 0" ∷
      codes "h1 called 0 ep 81 round 0 NO_DEVICE 0 data -" ∷ codes "h2 called 0 ep 81 round 0 COMPLETED 1 data 02" ∷ codes "h1 refused 2" ∷
      codes "h2 number 1" ∷ codes "h3 refused 2" ∷ codes "h3 done" ∷ codes "h3 done" ∷ [];
}

-- The third of four devices is gone, and the others go on.
abbrev pub four_devices_one_unplugged : Row
four_devices_one_unplugged = record {
  setup = example (Data (10 ∷ []) ∷ []) [] [] ++ example (Data (11 ∷ []) ∷ []) [] [] ++ example (Data (12 ∷ []) ∷ []) [] [] ++ example (Data (13 ∷ []) ∷ []) [] [];
  plan =
      Do (Open 1 0) ∷ Do (Open 2 1) ∷ Do (Open 3 2) ∷ Do (Open 4 3) ∷ Do (Claim 1 0) ∷ Do (Claim 2 0) ∷ Do (Claim 3 0) ∷ Do (Claim 4 0) ∷
      Do (Submit 1 (bulk 0x81 (In 8))) ∷ Do (Submit 2 (bulk 0x81 (In 8))) ∷ Do (Submit 3 (bulk 0x81 (In 8))) ∷ Do (Submit 4 (bulk 0x81 (In 8))) ∷
      Do (Unplug 2) ∷ Do (Unplug 2) ∷ Do (Serve 0 0x81) ∷ Do (Serve 1 0x81) ∷ Do (Serve 2 0x81) ∷ Do (Serve 3 0x81) ∷ Do Deliver ∷ Do Deliver ∷
      Do Deliver ∷ Do Deliver ∷ Do Take ∷ Do Take ∷ Do Take ∷ Do Take ∷ Do (Claim 3 1) ∷ Do (Claim 4 1) ∷ [];
  rules = [];
  lines =
      codes "h1 done" ∷ codes "h2 done" ∷ codes "h3 done" ∷ codes "h4 done" ∷ codes "h1 done" ∷ codes "h2 done" ∷ codes "h3 done" ∷ codes "h4 done" ∷
      codes "h1 number 0" ∷ codes "h2 number 0" ∷ codes "h3 number 0" ∷ codes "h4 number 0" ∷ codes "- done" ∷ codes "- refused 2" ∷
      codes "h1 ended 0 code 13" ∷ codes "h2 ended 0 code 13" ∷ codes "h3 ended 0 code 4" ∷ codes "h4 ended 0 code 13" ∷ codes "h1 finished 0" ∷
      codes "h2 finished 0" ∷ codes "h3 finished 0" ∷ codes "h4 finished 0" ∷ codes "h1 called 0 ep 81 round 0 COMPLETED 1 data 0a" ∷
      codes "h2 called 0 ep 81 round 0 COMPLETED 1 data 0b" ∷ codes "h3 called 0 ep 81 round 0 NO_DEVICE 0 data -" ∷
      codes "h4 called 0 ep 81 round 0 COMPLETED 1 data 0d" ∷ codes "h3 refused 2" ∷ codes "h4 done" ∷ [];
}

-- What is told is decided where the end is handled: only a transaction error that is handled behind the unplug says that there is no device.
abbrev pub served_before_the_unplug : Row
served_before_the_unplug = record {
  setup = example (Data (1 ∷ []) ∷ Broken ∷ []) (Stall ∷ []) (Broken ∷ []);
  plan =
      Do (Open 1 0) ∷ Do (Claim 1 0) ∷ Do (Claim 1 1) ∷ Do (Submit 1 (interrupt 0x83 (In 8))) ∷ Do (Submit 1 (bulk 0x81 (In 8))) ∷
      Do (Submit 1 (bulk 0x81 (In 8))) ∷ Do (Submit 1 (bulk 0x02 (Out (0 ∷ [])))) ∷ Do (Serve 0 0x83) ∷ Do Deliver ∷ Do (Serve 0 0x81) ∷
      Do (Serve 0 0x81) ∷ Do (Serve 0 0x02) ∷ Do (Unplug 0) ∷ Do Deliver ∷ Do Deliver ∷ Do Deliver ∷ Do Take ∷ Do Take ∷ Do Take ∷ Do Take ∷ [];
  rules = [];
  lines =
      codes "h1 done" ∷ codes "h1 done" ∷ codes "h1 done" ∷ codes "h1 number 0" ∷ codes "h1 number 1" ∷ codes "h1 number 2" ∷ codes "h1 number 3" ∷
      codes "h1 ended 0 code 4" ∷ codes "h1 finished 0" ∷ codes "h1 ended 1 code 13" ∷ codes "h1 ended 2 code 4" ∷ codes "h1 ended 3 code 6" ∷
      codes "- done" ∷ codes "h1 finished 1" ∷ codes "h1 finished 2" ∷ codes "h1 finished 3" ∷ codes "h1 called 0 ep 83 round 0 ERROR 0 data -" ∷
      codes "h1 called 1 ep 81 round 0 COMPLETED 1 data 01" ∷ codes "h1 called 2 ep 81 round 0 NO_DEVICE 0 data -" ∷
      codes "h1 called 3 ep 02 round 0 STALL 0 data -" ∷ [];
}

-- What had moved before the device went is told.
abbrev pub unplug_amid_packets : Row
unplug_amid_packets = record {
  setup = example (Data (1 ∷ 2 ∷ 3 ∷ 4 ∷ 5 ∷ 6 ∷ 7 ∷ 8 ∷ []) ∷ []) (Ack ∷ []) [];
  plan =
      Do (Open 1 0) ∷ Do (Claim 1 0) ∷ Do (Submit 1 (bulk 0x81 (In 24))) ∷ Do (Submit 1 (bulk 0x02 (Out (0 ∷ 1 ∷ 2 ∷ 3 ∷ 4 ∷ 5 ∷ 6 ∷ 7 ∷ 8 ∷ [])))) ∷
      Do (Serve 0 0x81) ∷ Do (Serve 0 0x02) ∷ Do (Unplug 0) ∷ Do (Serve 0 0x81) ∷ Do (Serve 0 0x02) ∷ Do Deliver ∷ Do Deliver ∷ Do Take ∷ Do Take ∷ [];
  rules = [];
  lines =
      codes "h1 done" ∷ codes "h1 done" ∷ codes "h1 number 0" ∷ codes "h1 number 1" ∷ codes "h1 moved 0 8" ∷ codes "h1 moved 1 8" ∷ codes "- done" ∷
      codes "h1 ended 0 code 4" ∷ codes "h1 ended 1 code 4" ∷ codes "h1 finished 0" ∷ codes "h1 finished 1" ∷
      codes "h1 called 0 ep 81 round 0 NO_DEVICE 8 data 0102030405060708" ∷ codes "h1 called 1 ep 02 round 0 NO_DEVICE 8 data -" ∷ [];
}

-- A transfer of a gone device can still be withdrawn, and the one behind it ends without a device.
abbrev pub cancel_at_a_gone_device : Row
cancel_at_a_gone_device = record {
  setup = example [] [] [];
  plan =
      Do (Open 1 0) ∷ Do (Claim 1 0) ∷ Do (Submit 1 (bulk 0x81 (In 8))) ∷ Do (Submit 1 (bulk 0x81 (In 8))) ∷ Do (Unplug 0) ∷ Do (Cancel 1 0) ∷
      Do Command ∷ Do Deliver ∷ Do Command ∷ Do Deliver ∷ Do (Serve 0 0x81) ∷ Do Deliver ∷ Do Take ∷ Do Take ∷ [];
  rules = [];
  lines =
      codes "h1 done" ∷ codes "h1 done" ∷ codes "h1 number 0" ∷ codes "h1 number 1" ∷ codes "- done" ∷ codes "h1 done" ∷ codes "h1 ran stop 81 ok" ∷
      codes "h1 settled stop 81 ok" ∷ codes "h1 ran move 81 ok" ∷ codes "h1 settled move 81 ok" ∷ codes "h1 ended 1 code 4" ∷ codes "h1 finished 1" ∷
      codes "h1 called 0 ep 81 round 0 CANCELLED 0 data -" ∷ codes "h1 called 1 ep 81 round 0 NO_DEVICE 0 data -" ∷ [];
}

-- A transfer that was asked to end, and is served at a gone device before the Stop, ends without a device.
abbrev pub cancel_loses_to_the_unplug : Row
cancel_loses_to_the_unplug = record {
  setup = example [] [] [];
  plan =
      Do (Open 1 0) ∷ Do (Claim 1 0) ∷ Do (Submit 1 (bulk 0x81 (In 8))) ∷ Do (Cancel 1 0) ∷ Do (Unplug 0) ∷ Do (Serve 0 0x81) ∷ Do Command ∷
      Do Deliver ∷ Do Deliver ∷ Do Take ∷ Do Command ∷ [];
  rules = [];
  lines =
      codes "h1 done" ∷ codes "h1 done" ∷ codes "h1 number 0" ∷ codes "h1 done" ∷ codes "- done" ∷ codes "h1 ended 0 code 4" ∷
      codes "h1 ran stop 81 fail" ∷ codes "h1 finished 0" ∷ codes "h1 settled stop 81 fail" ∷ codes "h1 called 0 ep 81 round 0 NO_DEVICE 0 data -" ∷
      codes "h1 ran reset 81 ok" ∷ [];
}
