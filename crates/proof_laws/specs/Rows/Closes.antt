-- What keeps an interface from being given back, and what is left behind that.
use Rattle.std.specs.Prelude.{[], ◌∷◌, codes}
use Rattle.usb_model.specs.declared.response.Response.TheVariants.{Data, Stall}
use Rattle.usb_model.specs.declared.request.Body.TheVariants.{In}
use Rattle.usb_model.specs.declared.step.Step.TheVariants.{Open, Close, Claim, Release, Reset, ClearHalt, Submit, Serve, Command, Deliver, Take}
use Rattle.usb_model.specs.declared.plan.Plan.TheVariants.{Do, Return}
use Rattle.proof_laws.specs.Rows.{Row, example, bulk, interrupt}

-- What a handle held is free once it is closed, for another to claim and to reset.
abbrev pub close_frees_its_interfaces : Row
close_frees_its_interfaces = record {
  setup = example [] [] [];
  plan =
      Do (Open 1 0) ∷ Do (Open 2 0) ∷ Do (Claim 1 0) ∷ Do (Claim 1 1) ∷ Do (Claim 2 0) ∷ Do (Reset 2) ∷ Do (Close 1) ∷ Do (Claim 2 0) ∷
      Do (Claim 2 1) ∷ Do (Reset 2) ∷ Do (Submit 2 (bulk 0x81 (In 8))) ∷ Do (Open 1 0) ∷ Do (Release 1 0) ∷ Do (Claim 1 1) ∷ [];
  rules = [];
  lines =
      codes "h1 done" ∷ codes "h2 done" ∷ codes "h1 done" ∷ codes "h1 done" ∷ codes "h2 refused 5" ∷ codes "h2 refused 5" ∷ codes "h1 done" ∷
      codes "h2 done" ∷ codes "h2 done" ∷ codes "h2 done" ∷ codes "h2 number 0" ∷ codes "h1 done" ∷ codes "h1 refused 3" ∷ codes "h1 refused 5" ∷ [];
}

-- A handle that is opened again holds nothing; its numbers go on, and the script begins anew.
abbrev pub numbers_go_on_behind_a_close : Row
numbers_go_on_behind_a_close = record {
  setup = example (Data (1 ∷ []) ∷ Data (2 ∷ []) ∷ []) [] [];
  plan =
      Do (Open 1 0) ∷ Do (Claim 1 0) ∷ Do (Submit 1 (bulk 0x81 (In 8))) ∷ Do (Serve 0 0x81) ∷ Do Deliver ∷ Do Take ∷ Return 1 0 ∷ Do (Close 1) ∷
      Do (Open 1 0) ∷ Do (Submit 1 (bulk 0x81 (In 8))) ∷ Do (Claim 1 0) ∷ Do (Submit 1 (bulk 0x81 (In 8))) ∷ Do (Serve 0 0x81) ∷ Do Deliver ∷
      Do Take ∷ [];
  rules = [];
  lines =
      codes "h1 done" ∷ codes "h1 done" ∷ codes "h1 number 0" ∷ codes "h1 ended 0 code 13" ∷ codes "h1 finished 0" ∷
      codes "h1 called 0 ep 81 round 0 COMPLETED 1 data 01" ∷ codes "h1 done" ∷ codes "h1 done" ∷ codes "h1 done" ∷ codes "h1 refused 3" ∷
      codes "h1 done" ∷ codes "h1 number 1" ∷ codes "h1 ended 1 code 13" ∷ codes "h1 finished 1" ∷
      codes "h1 called 1 ep 81 round 0 COMPLETED 1 data 01" ∷ [];
}

-- Close, Release and Reset wait for the result to be taken, and for its callback; the end of a halt waits for the line alone.
abbrev pub result_that_waits_is_in_the_way : Row
result_that_waits_is_in_the_way = record {
  setup = example (Data (1 ∷ []) ∷ []) [] [];
  plan =
      Do (Open 1 0) ∷ Do (Claim 1 0) ∷ Do (Submit 1 (bulk 0x81 (In 8))) ∷ Do (Serve 0 0x81) ∷ Do Deliver ∷ Do (Close 1) ∷ Do (Release 1 0) ∷
      Do (Reset 1) ∷ Do (ClearHalt 1 0x81) ∷ Do Take ∷ Do (Reset 1) ∷ Return 1 0 ∷ Do (Reset 1) ∷ Do (Release 1 0) ∷ [];
  rules = [];
  lines =
      codes "h1 done" ∷ codes "h1 done" ∷ codes "h1 number 0" ∷ codes "h1 ended 0 code 13" ∷ codes "h1 finished 0" ∷ codes "h1 refused 4" ∷
      codes "h1 refused 4" ∷ codes "h1 refused 4" ∷ codes "h1 done" ∷ codes "h1 called 0 ep 81 round 0 COMPLETED 1 data 01" ∷ codes "h1 refused 4" ∷
      codes "h1 done" ∷ codes "h1 done" ∷ codes "h1 done" ∷ [];
}

-- Release and Reset wait for the way out of a halt to be at its end.
abbrev pub errand_is_in_the_way : Row
errand_is_in_the_way = record {
  setup = example (Stall ∷ []) [] [];
  plan =
      Do (Open 1 0) ∷ Do (Claim 1 0) ∷ Do (Submit 1 (bulk 0x81 (In 8))) ∷ Do (Serve 0 0x81) ∷ Do Deliver ∷ Do Take ∷ Return 1 0 ∷ Do (Release 1 0) ∷
      Do (Reset 1) ∷ Do (ClearHalt 1 0x81) ∷ Do Command ∷ Do Deliver ∷ Do (Release 1 0) ∷ Do Command ∷ Do Deliver ∷ Do (Reset 1) ∷
      Do (Release 1 0) ∷ [];
  rules = [];
  lines =
      codes "h1 done" ∷ codes "h1 done" ∷ codes "h1 number 0" ∷ codes "h1 ended 0 code 6" ∷ codes "h1 finished 0" ∷
      codes "h1 called 0 ep 81 round 0 STALL 0 data -" ∷ codes "h1 done" ∷ codes "h1 refused 4" ∷ codes "h1 refused 4" ∷ codes "h1 done" ∷
      codes "h1 ran reset 81 ok" ∷ codes "h1 settled reset 81 ok" ∷ codes "h1 refused 4" ∷ codes "h1 ran move 81 ok" ∷ codes "h1 settled move 81 ok" ∷
      codes "h1 done" ∷ codes "h1 done" ∷ [];
}

-- A transfer of another interface isn't in the way, and goes on.
abbrev pub release_looks_at_one_interface : Row
release_looks_at_one_interface = record {
  setup = example (Data (1 ∷ []) ∷ []) [] [];
  plan =
      Do (Open 1 0) ∷ Do (Open 2 0) ∷ Do (Claim 1 0) ∷ Do (Claim 1 1) ∷ Do (Submit 1 (bulk 0x81 (In 8))) ∷ Do (Release 1 1) ∷ Do (Release 1 0) ∷
      Do (Submit 1 (interrupt 0x83 (In 8))) ∷ Do (Claim 2 1) ∷ Do (Serve 0 0x81) ∷ [];
  rules = [];
  lines =
      codes "h1 done" ∷ codes "h2 done" ∷ codes "h1 done" ∷ codes "h1 done" ∷ codes "h1 number 0" ∷ codes "h1 done" ∷ codes "h1 refused 4" ∷
      codes "h1 refused 3" ∷ codes "h2 done" ∷ codes "h1 ended 0 code 13" ∷ [];
}

-- Whoever claims an interface again amid a transfer has changed nothing.
abbrev pub claim_of_what_is_held : Row
claim_of_what_is_held = record {
  setup = example (Data (1 ∷ 2 ∷ 3 ∷ 4 ∷ 5 ∷ 6 ∷ 7 ∷ 8 ∷ []) ∷ Data (9 ∷ []) ∷ []) [] [];
  plan =
      Do (Open 1 0) ∷ Do (Claim 1 0) ∷ Do (Submit 1 (bulk 0x81 (In 16))) ∷ Do (Serve 0 0x81) ∷ Do (Claim 1 0) ∷ Do (Serve 0 0x81) ∷ Do Deliver ∷
      Do Take ∷ [];
  rules = [];
  lines =
      codes "h1 done" ∷ codes "h1 done" ∷ codes "h1 number 0" ∷ codes "h1 moved 0 8" ∷ codes "h1 done" ∷ codes "h1 ended 0 code 13" ∷
      codes "h1 finished 0" ∷ codes "h1 called 0 ep 81 round 0 COMPLETED 9 data 010203040506070809" ∷ [];
}

-- A Reset ends the halt of the device's endpoint, and its script begins anew.
abbrev pub reset_ends_a_halt : Row
reset_ends_a_halt = record {
  setup = example (Data (1 ∷ []) ∷ Stall ∷ []) [] [];
  plan =
      Do (Open 1 0) ∷ Do (Claim 1 0) ∷ Do (Submit 1 (bulk 0x81 (In 8))) ∷ Do (Submit 1 (bulk 0x81 (In 8))) ∷ Do (Serve 0 0x81) ∷ Do (Serve 0 0x81) ∷
      Do Deliver ∷ Do Deliver ∷ Do Command ∷ Do Deliver ∷ Do Command ∷ Do Deliver ∷ Do Take ∷ Do Take ∷ Return 1 0 ∷ Return 1 1 ∷ Do (Reset 1) ∷
      Do (Submit 1 (bulk 0x81 (In 8))) ∷ Do (Serve 0 0x81) ∷ [];
  rules = [];
  lines =
      codes "h1 done" ∷ codes "h1 done" ∷ codes "h1 number 0" ∷ codes "h1 number 1" ∷ codes "h1 ended 0 code 13" ∷ codes "h1 ended 1 code 6" ∷
      codes "h1 finished 0" ∷ codes "h1 finished 1" ∷ codes "h1 ran reset 81 ok" ∷ codes "h1 settled reset 81 ok" ∷ codes "h1 ran move 81 ok" ∷
      codes "h1 settled move 81 ok" ∷ codes "h1 called 0 ep 81 round 0 COMPLETED 1 data 01" ∷ codes "h1 called 1 ep 81 round 0 STALL 0 data -" ∷
      codes "h1 done" ∷ codes "h1 done" ∷ codes "h1 done" ∷ codes "h1 number 2" ∷ codes "h1 ended 2 code 13" ∷ [];
}
