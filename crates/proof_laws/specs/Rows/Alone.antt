-- What one handle alone says, amid the others and by itself.
use Rattle.std.specs.Prelude.{[], ◌∷◌, codes}
use Rattle.usb_model.specs.declared.response.Response.TheVariants.{Data, Stall}
use Rattle.usb_model.specs.declared.request.Body.TheVariants.{In}
use Rattle.usb_model.specs.declared.step.Step.TheVariants.{Open, Claim, Release, Submit, Cancel, Serve, Command, Deliver, Take, Unplug}
use Rattle.usb_model.specs.declared.verdict.Rule.TheVariants.{Again}
use Rattle.usb_model.specs.declared.plan.Plan.TheVariants.{Do, Return}
use Rattle.proof_laws.specs.Rows.{Row, example, bulk, interrupt}

-- The stalling handle alone.
abbrev pub stall_beside_cancel_alone_1 : Row
stall_beside_cancel_alone_1 = record {
  setup = example (Stall ∷ []) [] (Data (170 ∷ []) ∷ []);
  plan =
      Do (Open 1 0) ∷ Do (Open 2 0) ∷ Do (Claim 1 0) ∷ Do (Claim 2 1) ∷ Do (Submit 1 (bulk 0x81 (In 8))) ∷ Do (Submit 2 (interrupt 0x83 (In 8))) ∷
      Do (Serve 0 0x81) ∷ Do (Serve 0 0x83) ∷ Do Deliver ∷ Do (Cancel 2 0) ∷ Do Command ∷ Do Deliver ∷ Do Deliver ∷ Do Command ∷ Do Take ∷
      Do Deliver ∷ Do Take ∷ Do Command ∷ Do Deliver ∷ [];
  rules = [];
  lines =
      codes "h1 done" ∷ codes "h1 done" ∷ codes "h1 number 0" ∷ codes "h1 ended 0 code 6" ∷ codes "h1 finished 0" ∷ codes "h1 ran reset 81 ok" ∷
      codes "h1 settled reset 81 ok" ∷ codes "h1 called 0 ep 81 round 0 STALL 0 data -" ∷ codes "h1 ran move 81 ok" ∷
      codes "h1 settled move 81 ok" ∷ [];
}

-- The cancelling handle alone.
abbrev pub stall_beside_cancel_alone_2 : Row
stall_beside_cancel_alone_2 = record {
  setup = example (Stall ∷ []) [] (Data (170 ∷ []) ∷ []);
  plan =
      Do (Open 1 0) ∷ Do (Open 2 0) ∷ Do (Claim 1 0) ∷ Do (Claim 2 1) ∷ Do (Submit 1 (bulk 0x81 (In 8))) ∷ Do (Submit 2 (interrupt 0x83 (In 8))) ∷
      Do (Serve 0 0x81) ∷ Do (Serve 0 0x83) ∷ Do Deliver ∷ Do (Cancel 2 0) ∷ Do Command ∷ Do Deliver ∷ Do Deliver ∷ Do Command ∷ Do Take ∷
      Do Deliver ∷ Do Take ∷ Do Command ∷ Do Deliver ∷ [];
  rules = [];
  lines =
      codes "h2 done" ∷ codes "h2 done" ∷ codes "h2 number 0" ∷ codes "h2 ended 0 code 13" ∷ codes "h2 done" ∷ codes "h2 finished 0" ∷
      codes "h2 ran stop 83 ok" ∷ codes "h2 settled stop 83 ok" ∷ codes "h2 called 0 ep 83 round 0 COMPLETED 1 data aa" ∷ [];
}

-- Who claims second, alone: the claim that was refused since another held the interface is none of its own.
abbrev pub interface_changes_hands_alone_2 : Row
interface_changes_hands_alone_2 = record {
  setup = example (Data (1 ∷ []) ∷ Data (2 ∷ []) ∷ []) [] [];
  plan =
      Do (Open 1 0) ∷ Do (Open 2 0) ∷ Do (Claim 1 0) ∷ Do (Submit 1 (bulk 0x81 (In 8))) ∷ Do (Serve 0 0x81) ∷ Do (Claim 2 0) ∷ Do Deliver ∷
      Do (Release 1 0) ∷ Do Take ∷ Return 1 0 ∷ Do (Release 1 0) ∷ Do (Claim 2 0) ∷ Do (Submit 2 (bulk 0x81 (In 8))) ∷ Do (Serve 0 0x81) ∷
      Do Deliver ∷ Do Take ∷ [];
  rules = [];
  lines =
      codes "h2 done" ∷ codes "h2 done" ∷ codes "h2 number 0" ∷ codes "h2 ended 0 code 13" ∷ codes "h2 finished 0" ∷
      codes "h2 called 0 ep 81 round 0 COMPLETED 1 data 01" ∷ [];
}

-- Two handles submit again by rule, in turn: the first alone.
abbrev pub two_handles_two_rules_alone_1 : Row
two_handles_two_rules_alone_1 = record {
  setup = example (Data (10 ∷ []) ∷ Data (11 ∷ []) ∷ []) [] (Data (170 ∷ []) ∷ Data (187 ∷ []) ∷ []);
  plan =
      Do (Open 1 0) ∷ Do (Open 2 0) ∷ Do (Claim 1 0) ∷ Do (Claim 2 1) ∷ Do (Submit 1 (bulk 0x81 (In 1))) ∷ Do (Submit 2 (interrupt 0x83 (In 1))) ∷
      Do (Serve 0 0x83) ∷ Do (Serve 0 0x81) ∷ Do Deliver ∷ Do Deliver ∷ Do Take ∷ Do Take ∷ Return 1 0 ∷ Return 2 0 ∷ Do (Serve 0 0x81) ∷
      Do (Serve 0 0x83) ∷ Do Deliver ∷ Do Deliver ∷ Do Take ∷ Do Take ∷ Return 2 1 ∷ Return 1 1 ∷ [];
  rules = Again (record { 0 = 1 }) 1 ∷ Again (record { 0 = 1 }) 1 ∷ [];
  lines =
      codes "h1 done" ∷ codes "h1 done" ∷ codes "h1 number 0" ∷ codes "h1 ended 0 code 1" ∷ codes "h1 finished 0" ∷
      codes "h1 called 0 ep 81 round 0 COMPLETED 1 data 0a" ∷ codes "h1 number 1" ∷ codes "h1 ended 1 code 1" ∷ codes "h1 finished 1" ∷
      codes "h1 called 1 ep 81 round 1 COMPLETED 1 data 0b" ∷ codes "h1 done" ∷ [];
}

-- And the second alone.
abbrev pub two_handles_two_rules_alone_2 : Row
two_handles_two_rules_alone_2 = record {
  setup = example (Data (10 ∷ []) ∷ Data (11 ∷ []) ∷ []) [] (Data (170 ∷ []) ∷ Data (187 ∷ []) ∷ []);
  plan =
      Do (Open 1 0) ∷ Do (Open 2 0) ∷ Do (Claim 1 0) ∷ Do (Claim 2 1) ∷ Do (Submit 1 (bulk 0x81 (In 1))) ∷ Do (Submit 2 (interrupt 0x83 (In 1))) ∷
      Do (Serve 0 0x83) ∷ Do (Serve 0 0x81) ∷ Do Deliver ∷ Do Deliver ∷ Do Take ∷ Do Take ∷ Return 1 0 ∷ Return 2 0 ∷ Do (Serve 0 0x81) ∷
      Do (Serve 0 0x83) ∷ Do Deliver ∷ Do Deliver ∷ Do Take ∷ Do Take ∷ Return 2 1 ∷ Return 1 1 ∷ [];
  rules = Again (record { 0 = 1 }) 1 ∷ Again (record { 0 = 1 }) 1 ∷ [];
  lines =
      codes "h2 done" ∷ codes "h2 done" ∷ codes "h2 number 0" ∷ codes "h2 ended 0 code 1" ∷ codes "h2 finished 0" ∷
      codes "h2 called 0 ep 83 round 0 COMPLETED 1 data aa" ∷ codes "h2 number 1" ∷ codes "h2 ended 1 code 1" ∷ codes "h2 finished 1" ∷
      codes "h2 called 1 ep 83 round 1 COMPLETED 1 data bb" ∷ codes "h2 done" ∷ [];
}

-- Each Unplug is every handle's own.
abbrev pub unplug_amid_transfers_alone_2 : Row
unplug_amid_transfers_alone_2 = record {
  setup = example (Data (1 ∷ 2 ∷ 3 ∷ 4 ∷ 5 ∷ 6 ∷ 7 ∷ 8 ∷ []) ∷ []) [] [];
  plan =
      Do (Open 1 0) ∷ Do (Open 2 0) ∷ Do (Claim 1 0) ∷ Do (Claim 2 1) ∷ Do (Submit 1 (bulk 0x81 (In 8))) ∷ Do (Submit 1 (bulk 0x81 (In 8))) ∷
      Do (Submit 2 (interrupt 0x83 (In 8))) ∷ Do (Serve 0 0x81) ∷ Do (Unplug 0) ∷ Do (Unplug 0) ∷ Do (Submit 1 (bulk 0x81 (In 8))) ∷ Do Deliver ∷
      Do (Serve 0 0x81) ∷ Do (Serve 0 0x83) ∷ Do Deliver ∷ Do Deliver ∷ Do Take ∷ Do Take ∷ Do Take ∷ Return 1 0 ∷ Do (Open 3 0) ∷ [];
  rules = [];
  lines =
      codes "h2 done" ∷ codes "h2 done" ∷ codes "h2 number 0" ∷ codes "- done" ∷ codes "- refused 2" ∷ codes "h2 ended 0 code 4" ∷
      codes "h2 finished 0" ∷ codes "h2 called 0 ep 83 round 0 NO_DEVICE 0 data -" ∷ [];
}

-- Who reads what is fed to another endpoint of the device meanwhile, alone.
abbrev pub fed_answers_alone : Row
fed_answers_alone = record {
  setup = example (Data (170 ∷ []) ∷ []) [] (Data (187 ∷ []) ∷ []);
  plan =
      Do (Open 1 0) ∷ Do (Open 2 0) ∷ Do (Claim 1 0) ∷ Do (Claim 2 1) ∷ Do (Submit 1 (bulk 0x81 (In 8))) ∷ Do (Submit 2 (interrupt 0x83 (In 8))) ∷
      Do (Serve 0 0x83) ∷ Do (Serve 0 0x81) ∷ Do Deliver ∷ Do Deliver ∷ Do Take ∷ Do Take ∷ [];
  rules = [];
  lines =
      codes "h2 done" ∷ codes "h2 done" ∷ codes "h2 number 0" ∷ codes "h2 ended 0 code 13" ∷ codes "h2 finished 0" ∷
      codes "h2 called 0 ep 83 round 0 COMPLETED 1 data bb" ∷ [];
}
