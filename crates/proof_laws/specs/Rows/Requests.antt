-- Refusals of submissions, asks and answers, in their order.
use Rattle.std.specs.Prelude.{[], ◌∷◌, codes}
use Rattle.usb_model.specs.declared.response.Response.TheVariants.{Data}
use Rattle.usb_model.specs.declared.request.Body.TheVariants.{In, Out}
use Rattle.usb_model.specs.declared.step.Step.TheVariants.{Open, Claim, Submit, Cancel, Expire, Serve, Command, Deliver, Take, Unplug}
use Rattle.usb_model.specs.declared.plan.Plan.TheVariants.{Do, Return}
use Rattle.proof_laws.specs.Rows.{Row, example, unsupported_kinds, bulk, interrupt}

-- An unplugged device stands before an unsupported endpoint, and that before a wrong kind, direction or length.
abbrev pub unsupported_endpoints : Row
unsupported_endpoints = record {
  setup = unsupported_kinds;
  plan =
      Do (Open 1 0) ∷ Do (Claim 1 0) ∷ Do (Submit 1 (bulk 0x84 (In 262145))) ∷ Do (Submit 1 (interrupt 0x84 (Out (0 ∷ [])))) ∷
      Do (Submit 1 (bulk 0x05 (In 262145))) ∷ Do (Submit 1 (interrupt 0x05 (Out (0 ∷ [])))) ∷ Do (Submit 1 (interrupt 0x81 (In 8))) ∷
      Do (Submit 1 (bulk 0x81 (Out (0 ∷ [])))) ∷ Do (Submit 1 (bulk 0x81 (In 262145))) ∷ Do (Submit 1 (bulk 0x06 (In 262145))) ∷ Do (Unplug 0) ∷
      Do (Submit 1 (bulk 0x84 (In 262145))) ∷ Do (Submit 1 (bulk 0x05 (In 262145))) ∷ Do (Submit 1 (interrupt 0x81 (In 8))) ∷
      Do (Submit 1 (bulk 0x81 (In 8))) ∷ Do (Submit 1 (bulk 0x06 (In 262145))) ∷ [];
  rules = [];
  lines =
      codes "h1 done" ∷ codes "h1 done" ∷ codes "h1 refused 7" ∷ codes "h1 refused 7" ∷ codes "h1 refused 7" ∷ codes "h1 refused 7" ∷
      codes "h1 refused 1" ∷ codes "h1 refused 1" ∷ codes "h1 refused 1" ∷ codes "h1 refused 3" ∷ codes "- done" ∷ codes "h1 refused 2" ∷
      codes "h1 refused 2" ∷ codes "h1 refused 2" ∷ codes "h1 refused 2" ∷ codes "h1 refused 3" ∷ [];
}

-- A bad request stands before want of a place, and an unplugged device before both.
abbrev pub bad_requests_at_a_full_endpoint : Row
bad_requests_at_a_full_endpoint = record {
  setup = example [] [] [];
  plan =
      Do (Open 1 0) ∷ Do (Claim 1 0) ∷ Do (Submit 1 (bulk 0x81 (In 8))) ∷ Do (Submit 1 (bulk 0x81 (In 8))) ∷ Do (Submit 1 (bulk 0x81 (In 8))) ∷
      Do (Submit 1 (bulk 0x81 (In 8))) ∷ Do (Submit 1 (bulk 0x81 (In 8))) ∷ Do (Submit 1 (bulk 0x81 (In 8))) ∷ Do (Submit 1 (bulk 0x81 (In 8))) ∷
      Do (Submit 1 (bulk 0x81 (In 8))) ∷ Do (Submit 1 (bulk 0x81 (In 8))) ∷ Do (Submit 1 (bulk 0x81 (In 8))) ∷ Do (Submit 1 (bulk 0x81 (In 8))) ∷
      Do (Submit 1 (bulk 0x81 (In 8))) ∷ Do (Submit 1 (bulk 0x81 (In 8))) ∷ Do (Submit 1 (bulk 0x81 (In 8))) ∷ Do (Submit 1 (bulk 0x81 (In 8))) ∷
      Do (Submit 1 (bulk 0x81 (In 8))) ∷ Do (Submit 1 (interrupt 0x81 (In 8))) ∷ Do (Submit 1 (bulk 0x81 (Out (0 ∷ [])))) ∷
      Do (Submit 1 (bulk 0x81 (In 262145))) ∷ Do (Submit 1 (bulk 0x02 (In 8))) ∷ Do (Submit 1 (bulk 0x81 (In 8))) ∷ Do (Unplug 0) ∷
      Do (Submit 1 (interrupt 0x81 (In 8))) ∷ Do (Submit 1 (bulk 0x81 (In 8))) ∷ [];
  rules = [];
  lines =
      codes "h1 done" ∷ codes "h1 done" ∷ codes "h1 number 0" ∷ codes "h1 number 1" ∷ codes "h1 number 2" ∷ codes "h1 number 3" ∷
      codes "h1 number 4" ∷ codes "h1 number 5" ∷ codes "h1 number 6" ∷ codes "h1 number 7" ∷ codes "h1 number 8" ∷ codes "h1 number 9" ∷
      codes "h1 number 10" ∷ codes "h1 number 11" ∷ codes "h1 number 12" ∷ codes "h1 number 13" ∷ codes "h1 number 14" ∷ codes "h1 number 15" ∷
      codes "h1 refused 1" ∷ codes "h1 refused 1" ∷ codes "h1 refused 1" ∷ codes "h1 refused 1" ∷ codes "h1 refused 4" ∷ codes "- done" ∷
      codes "h1 refused 2" ∷ codes "h1 refused 2" ∷ [];
}

-- An ask is refused where its transfer isn't in progress, was asked before, or has no time that can be over. Two asks order one Stop, and are met in line order.
abbrev pub refused_asks : Row
refused_asks = record {
  setup = example [] [] [];
  plan =
      Do (Open 1 0) ∷ Do (Claim 1 0) ∷ Do (Submit 1 (record (bulk 0x81 (In 8)) { timeout = 5 })) ∷ Do (Submit 1 (bulk 0x81 (In 8))) ∷
      Do (Cancel 1 2) ∷ Do (Expire 1 2) ∷ Do (Expire 1 1) ∷ Do (Cancel 1 1) ∷ Do (Cancel 1 1) ∷ Do (Expire 1 0) ∷ Do (Expire 1 0) ∷ Do Command ∷
      Do Deliver ∷ Do (Cancel 1 0) ∷ Do (Expire 1 0) ∷ Do Take ∷ Do (Cancel 1 0) ∷ Do Take ∷ Do Command ∷ [];
  rules = [];
  lines =
      codes "h1 done" ∷ codes "h1 done" ∷ codes "h1 number 0" ∷ codes "h1 number 1" ∷ codes "h1 refused 3" ∷ codes "h1 refused 3" ∷
      codes "h1 refused 3" ∷ codes "h1 done" ∷ codes "h1 refused 3" ∷ codes "h1 done" ∷ codes "h1 refused 3" ∷ codes "h1 ran stop 81 ok" ∷
      codes "h1 settled stop 81 ok" ∷ codes "h1 refused 3" ∷ codes "h1 refused 3" ∷ codes "h1 called 0 ep 81 round 0 TIMED_OUT 0 data -" ∷
      codes "h1 refused 3" ∷ codes "h1 called 1 ep 81 round 0 CANCELLED 0 data -" ∷ codes "h1 ran move 81 ok" ∷ [];
}

-- A callback is answered once, after it came out, and by its own handle.
abbrev pub answers_of_no_callback : Row
answers_of_no_callback = record {
  setup = example (Data (1 ∷ []) ∷ []) [] [];
  plan =
      Do (Open 1 0) ∷ Do (Open 2 0) ∷ Do (Claim 1 0) ∷ Return 1 0 ∷ Do (Submit 1 (bulk 0x81 (In 8))) ∷ Return 1 0 ∷ Do (Serve 0 0x81) ∷ Return 1 0 ∷
      Do Deliver ∷ Return 1 0 ∷ Do Take ∷ Return 2 0 ∷ Return 1 1 ∷ Return 1 0 ∷ Return 1 0 ∷ [];
  rules = [];
  lines =
      codes "h1 done" ∷ codes "h2 done" ∷ codes "h1 done" ∷ codes "h1 refused 3" ∷ codes "h1 number 0" ∷ codes "h1 refused 3" ∷
      codes "h1 ended 0 code 13" ∷ codes "h1 refused 3" ∷ codes "h1 finished 0" ∷ codes "h1 refused 3" ∷
      codes "h1 called 0 ep 81 round 0 COMPLETED 1 data 01" ∷ codes "h2 refused 3" ∷ codes "h1 refused 3" ∷ codes "h1 done" ∷
      codes "h1 refused 3" ∷ [];
}
