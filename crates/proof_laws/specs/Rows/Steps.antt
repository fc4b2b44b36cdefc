-- What no scenario says, or none of a few lines: callbacks that submit other bytes, the longest write, requests of unsupported kinds, the last number.
use Rattle.std.specs.Prelude.{[], ◌∷◌, replicate, codes}
use Rattle.usb_model.specs.declared.response.Response.TheVariants.{Data, Ack}
use Rattle.usb_model.specs.declared.request.Kind.TheVariants.{Control, Isochronous}
use Rattle.usb_model.specs.declared.request.Body.TheVariants.{In, Out}
use Rattle.usb_model.specs.declared.verdict.Verdict.TheVariants.{Stop, Again, AgainWith}
use Rattle.usb_model.specs.declared.step.Step.TheVariants.{Open, Claim, Submit, Serve, Deliver, Take, Answer, Unplug}
use Rattle.usb_model.specs.Setup.{Setup}
use Rattle.usb_model.specs.World.{World, new_world, world_from}
use Rattle.proof_laws.specs.Rows.{StepRow, example, unsupported_kinds, bulk, interrupt}

-- The bytes of the next round are others, here of two packets.
abbrev pub again_with_other_bytes : StepRow
again_with_other_bytes =
    let setup : Setup = example [] (Ack ∷ Ack ∷ Ack ∷ []) [] in
    record {
      setup = setup;
      world = new_world setup;
      steps =
          Open 1 0 ∷ Claim 1 0 ∷ Submit 1 (bulk 0x02 (Out (1 ∷ []))) ∷ Serve 0 0x02 ∷ Deliver ∷ Take ∷
          Answer 1 0 (AgainWith (1 ∷ 2 ∷ 3 ∷ 4 ∷ 5 ∷ 6 ∷ 7 ∷ 8 ∷ 9 ∷ [])) ∷ Serve 0 0x02 ∷ Serve 0 0x02 ∷ Deliver ∷ Take ∷ Answer 1 1 Stop ∷ [];
      lines =
          codes "h1 done" ∷ codes "h1 done" ∷ codes "h1 number 0" ∷ codes "h1 ended 0 code 1" ∷ codes "h1 finished 0" ∷
          codes "h1 called 0 ep 02 round 0 COMPLETED 1 data -" ∷ codes "h1 number 1" ∷ codes "h1 moved 1 8" ∷ codes "h1 ended 1 code 1" ∷
          codes "h1 finished 1" ∷ codes "h1 called 1 ep 02 round 1 COMPLETED 9 data -" ∷ codes "h1 done" ∷ [];
    }

-- Bytes are a wrong direction for IN: no callback stands before that, and so does an unplugged device. What is refused leaves the callback as it was.
abbrev pub again_with_bytes_for_in : StepRow
again_with_bytes_for_in =
    let setup : Setup = example (Data (1 ∷ []) ∷ Data (2 ∷ []) ∷ []) [] [] in
    record {
      setup = setup;
      world = new_world setup;
      steps =
          Open 1 0 ∷ Claim 1 0 ∷ Submit 1 (bulk 0x81 (In 8)) ∷ Serve 0 0x81 ∷ Deliver ∷ Answer 1 0 (AgainWith []) ∷ Take ∷
          Answer 1 0 (AgainWith (1 ∷ [])) ∷ Answer 1 0 (AgainWith []) ∷ Answer 1 0 Again ∷ Answer 1 0 Again ∷ Serve 0 0x81 ∷ Deliver ∷ Take ∷
          Unplug 0 ∷ Answer 1 1 (AgainWith []) ∷ Answer 1 1 Again ∷ Answer 1 1 Stop ∷ [];
      lines =
          codes "h1 done" ∷ codes "h1 done" ∷ codes "h1 number 0" ∷ codes "h1 ended 0 code 13" ∷ codes "h1 finished 0" ∷ codes "h1 refused 3" ∷
          codes "h1 called 0 ep 81 round 0 COMPLETED 1 data 01" ∷ codes "h1 refused 1" ∷ codes "h1 refused 1" ∷ codes "h1 number 1" ∷
          codes "h1 refused 3" ∷ codes "h1 ended 1 code 13" ∷ codes "h1 finished 1" ∷ codes "h1 called 1 ep 81 round 1 COMPLETED 1 data 02" ∷
          codes "- done" ∷ codes "h1 refused 2" ∷ codes "h1 refused 2" ∷ codes "h1 done" ∷ [];
    }

-- A write has 262,144 bytes at most, from a callback too.
abbrev pub write_over_the_limit : StepRow
write_over_the_limit =
    let setup : Setup = example [] (Ack ∷ []) [] in
    record {
      setup = setup;
      world = new_world setup;
      steps =
          Open 1 0 ∷ Claim 1 0 ∷ Submit 1 (bulk 0x02 (Out (1 ∷ []))) ∷ Serve 0 0x02 ∷ Deliver ∷ Take ∷
          Submit 1 (bulk 0x02 (Out (replicate 262145 0))) ∷ Submit 1 (bulk 0x02 (Out (replicate 262144 0))) ∷
          Answer 1 0 (AgainWith (replicate 262145 0)) ∷ Answer 1 0 (AgainWith (replicate 262144 0)) ∷ [];
      lines =
          codes "h1 done" ∷ codes "h1 done" ∷ codes "h1 number 0" ∷ codes "h1 ended 0 code 1" ∷ codes "h1 finished 0" ∷
          codes "h1 called 0 ep 02 round 0 COMPLETED 1 data -" ∷ codes "h1 refused 1" ∷ codes "h1 number 1" ∷ codes "h1 refused 1" ∷
          codes "h1 number 2" ∷ [];
    }

-- A request of the endpoint's own kind is refused too where that isn't supported; elsewhere such a kind is a wrong one.
abbrev pub requests_of_unsupported_kinds : StepRow
requests_of_unsupported_kinds = record {
  setup = unsupported_kinds;
  world = new_world unsupported_kinds;
  steps =
      Open 1 0 ∷ Claim 1 0 ∷ Submit 1 (record (bulk 0x84 (In 8)) { kind = Isochronous }) ∷ Submit 1 (record (bulk 0x05 (Out [])) { kind = Control }) ∷
      Submit 1 (record (bulk 0x81 (In 8)) { kind = Isochronous }) ∷ Submit 1 (record (bulk 0x81 (In 8)) { kind = Control }) ∷ [];
  lines =
      codes "h1 done" ∷ codes "h1 done" ∷ codes "h1 refused 7" ∷ codes "h1 refused 7" ∷ codes "h1 refused 1" ∷ codes "h1 refused 1" ∷ [];
}

-- the world where handle 1 has claimed interface 0, and its next number is 2^64 - 2
abbrev pub near_the_last_number : Setup → World
near_the_last_number setup =
    let w : World = world_from setup (new_world setup) (Open 1 0 ∷ Claim 1 0 ∷ []) in
    record w { names = λ h. record (w.names h) { next_number = 18446744073709551614 } }

-- No transfer has the number 2^64 - 1. A bad request and an unplugged device stand before that.
abbrev pub last_number_is_given_to_none : StepRow
last_number_is_given_to_none =
    let setup : Setup = example (Data (1 ∷ []) ∷ []) [] [] in
    record {
      setup = setup;
      world = near_the_last_number setup;
      steps =
          Submit 1 (bulk 0x81 (In 8)) ∷ Submit 1 (bulk 0x81 (In 8)) ∷ Submit 1 (interrupt 0x81 (In 8)) ∷ Serve 0 0x81 ∷ Deliver ∷ Take ∷
          Answer 1 18446744073709551614 Again ∷ Answer 1 18446744073709551614 (AgainWith []) ∷ Unplug 0 ∷ Submit 1 (bulk 0x81 (In 8)) ∷
          Answer 1 18446744073709551614 Stop ∷ [];
      lines =
          codes "h1 number 18446744073709551614" ∷ codes "h1 refused 4" ∷ codes "h1 refused 1" ∷ codes "h1 ended 18446744073709551614 code 13" ∷
          codes "h1 finished 18446744073709551614" ∷ codes "h1 called 18446744073709551614 ep 81 round 0 COMPLETED 1 data 01" ∷
          codes "h1 refused 4" ∷ codes "h1 refused 1" ∷ codes "- done" ∷ codes "h1 refused 2" ∷ codes "h1 done" ∷ [];
    }
