-- Refusals of a handle's calls, in their order: where several hold at once, the first of them is told.
use Rattle.std.specs.Prelude.{[], ◌∷◌, codes}
use Rattle.usb_model.specs.declared.request.Body.TheVariants.{In}
use Rattle.usb_model.specs.declared.step.Step.TheVariants.{Open, Close, Claim, Release, Reset, ClearHalt, Submit, Cancel, Expire, Serve, Unplug}
use Rattle.usb_model.specs.declared.plan.Plan.TheVariants.{Do}
use Rattle.proof_laws.specs.Rows.{Row, example, bulk, interrupt}

-- No such device stands before an unplugged one, and that before a handle that is open.
abbrev pub refusals_of_open : Row
refusals_of_open = record {
  setup = example [] [] [];
  plan =
      Do (Open 1 0) ∷ Do (Open 1 3) ∷ Do (Open 1 0) ∷ Do (Unplug 0) ∷ Do (Open 1 3) ∷ Do (Open 1 0) ∷ Do (Open 2 0) ∷ Do (Close 1) ∷ [];
  rules = [];
  lines =
      codes "h1 done" ∷ codes "h1 refused 3" ∷ codes "h1 refused 4" ∷ codes "- done" ∷ codes "h1 refused 3" ∷ codes "h1 refused 2" ∷
      codes "h2 refused 2" ∷ codes "h1 done" ∷ [];
}

-- Not open stands before an unplugged device, before another holder, and before a bad request.
abbrev pub handle_that_is_not_open : Row
handle_that_is_not_open = record {
  setup = example [] [] [];
  plan =
      Do (Open 2 0) ∷ Do (Claim 2 0) ∷ Do (Close 1) ∷ Do (Claim 1 0) ∷ Do (Release 1 0) ∷ Do (Reset 1) ∷ Do (ClearHalt 1 0x81) ∷
      Do (Submit 1 (interrupt 0x81 (In 262145))) ∷ Do (Cancel 1 0) ∷ Do (Expire 1 0) ∷ Do (Unplug 0) ∷ Do (Close 1) ∷ Do (Claim 1 0) ∷
      Do (Release 1 0) ∷ Do (Reset 1) ∷ Do (ClearHalt 1 0x81) ∷ Do (Submit 1 (interrupt 0x81 (In 262145))) ∷ [];
  rules = [];
  lines =
      codes "h2 done" ∷ codes "h2 done" ∷ codes "h1 refused 3" ∷ codes "h1 refused 3" ∷ codes "h1 refused 3" ∷ codes "h1 refused 3" ∷
      codes "h1 refused 3" ∷ codes "h1 refused 3" ∷ codes "h1 refused 3" ∷ codes "h1 refused 3" ∷ codes "- done" ∷ codes "h1 refused 3" ∷
      codes "h1 refused 3" ∷ codes "h1 refused 3" ∷ codes "h1 refused 3" ∷ codes "h1 refused 3" ∷ codes "h1 refused 3" ∷ [];
}

-- Who doesn't hold the interface has no endpoint there. An unplugged device stands before a wrong interface and another holder.
abbrev pub interface_that_is_not_held : Row
interface_that_is_not_held = record {
  setup = example [] [] [];
  plan =
      Do (Open 1 0) ∷ Do (Open 2 0) ∷ Do (Claim 2 0) ∷ Do (Submit 2 (record (bulk 0x81 (In 8)) { timeout = 5 })) ∷ Do (Release 1 0) ∷
      Do (ClearHalt 1 0x81) ∷ Do (Submit 1 (interrupt 0x81 (In 262145))) ∷ Do (Cancel 1 0) ∷ Do (Expire 1 0) ∷ Do (Claim 1 7) ∷ Do (Claim 1 0) ∷
      Do (Reset 1) ∷ Do (Unplug 0) ∷ Do (Release 1 0) ∷ Do (ClearHalt 1 0x81) ∷ Do (Submit 1 (interrupt 0x81 (In 262145))) ∷ Do (Claim 1 7) ∷
      Do (Claim 1 0) ∷ Do (Claim 1 1) ∷ Do (Reset 1) ∷ Do (Close 1) ∷ [];
  rules = [];
  lines =
      codes "h1 done" ∷ codes "h2 done" ∷ codes "h2 done" ∷ codes "h2 number 0" ∷ codes "h1 refused 3" ∷ codes "h1 refused 3" ∷ codes "h1 refused 3" ∷
      codes "h1 refused 3" ∷ codes "h1 refused 3" ∷ codes "h1 refused 3" ∷ codes "h1 refused 5" ∷ codes "h1 refused 5" ∷ codes "- done" ∷
      codes "h1 refused 3" ∷ codes "h1 refused 3" ∷ codes "h1 refused 3" ∷ codes "h1 refused 2" ∷ codes "h1 refused 2" ∷ codes "h1 refused 2" ∷
      codes "h1 refused 2" ∷ codes "h1 done" ∷ [];
}

-- A transfer in its line is in the way: that stands before another holder, and behind an unplugged device.
abbrev pub calls_amid_a_transfer : Row
calls_amid_a_transfer = record {
  setup = example [] [] [];
  plan =
      Do (Open 1 0) ∷ Do (Open 2 0) ∷ Do (Claim 1 0) ∷ Do (Claim 2 1) ∷ Do (Submit 1 (bulk 0x81 (In 8))) ∷ Do (Close 1) ∷ Do (Release 1 0) ∷
      Do (Reset 1) ∷ Do (ClearHalt 1 0x81) ∷ Do (Release 1 1) ∷ Do (Claim 1 1) ∷ Do (ClearHalt 1 0x02) ∷ Do (Claim 1 0) ∷ Do (Unplug 0) ∷
      Do (Close 1) ∷ Do (Release 1 0) ∷ Do (Reset 1) ∷ Do (ClearHalt 1 0x81) ∷ Do (ClearHalt 1 0x02) ∷ Do (Claim 1 0) ∷ Do (Serve 0 0x81) ∷ [];
  rules = [];
  lines =
      codes "h1 done" ∷ codes "h2 done" ∷ codes "h1 done" ∷ codes "h2 done" ∷ codes "h1 number 0" ∷ codes "h1 refused 4" ∷ codes "h1 refused 4" ∷
      codes "h1 refused 4" ∷ codes "h1 refused 4" ∷ codes "h1 refused 3" ∷ codes "h1 refused 5" ∷ codes "h1 done" ∷ codes "h1 done" ∷ codes "- done" ∷
      codes "h1 refused 4" ∷ codes "h1 refused 4" ∷ codes "h1 refused 2" ∷ codes "h1 refused 2" ∷ codes "h1 refused 2" ∷ codes "h1 refused 2" ∷
      codes "h1 ended 0 code 4" ∷ [];
}
