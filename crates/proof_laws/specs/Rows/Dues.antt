-- Whose time is over, at some moments.
use Rattle.std.specs.Prelude.{ℕ, [], ◌∷◌, ◌++◌}
use Rattle.usb_model.specs.declared.response.Response.TheVariants.{Data}
use Rattle.usb_model.specs.declared.request.Body.TheVariants.{In, Out}
use Rattle.usb_model.specs.declared.request.Request.{Request}
use Rattle.usb_model.specs.declared.verdict.Verdict.TheVariants.{Again}
use Rattle.usb_model.specs.declared.step.Step.TheVariants.{Open, Claim, Submit, Cancel, Expire, Serve, Command, Deliver, Take, Answer}
use Rattle.proof_laws.specs.Rows.{DueRow, made_at, example, bulk}

-- a read with this timeout
abbrev pub timed : ℕ → Request
timed timeout = record (bulk 0x81 (In 8)) { timeout = timeout }

-- The first and the last name, at two devices. Deadlines: 30 and 30 of name 63, 30 and 25 of name 0. What is due at once comes by name, then by
-- number, whoever submitted first. A transfer is due as soon as the moment is its deadline, and no earlier.
abbrev pub two_names_at_two_devices : DueRow
two_names_at_two_devices = record {
  setup = example [] [] [] ++ example [] [] [];
  steps =
      made_at 0 (Open 63 0) ∷ made_at 0 (Claim 63 0) ∷ made_at 1 (Open 0 1) ∷ made_at 1 (Claim 0 0) ∷ made_at 10 (Submit 63 (timed 20)) ∷ made_at 10 (Submit 63 (timed 20)) ∷
      made_at 20 (Submit 0 (timed 10)) ∷ made_at 20 (Submit 0 (record (bulk 0x02 (Out (1 ∷ []))) { timeout = 5 })) ∷ [];
  moments = 20 ∷ 24 ∷ 25 ∷ 29 ∷ 30 ∷ [];
  dues =
      [] ∷ [] ∷ (Expire 0 1 ∷ []) ∷ (Expire 0 1 ∷ []) ∷ (Expire 0 0 ∷ Expire 0 1 ∷ Expire 63 0 ∷ Expire 63 1 ∷ []) ∷ [];
}

-- A timeout of 0 is none: such a transfer is never due.
abbrev pub no_timeout_is_never_due : DueRow
no_timeout_is_never_due = record {
  setup = example [] [] [];
  steps = made_at 0 (Open 1 0) ∷ made_at 0 (Claim 1 0) ∷ made_at 7 (Submit 1 (timed 0)) ∷ made_at 7 (Submit 1 (timed 1)) ∷ [];
  moments = 7 ∷ 8 ∷ 18446744073709551615 ∷ [];
  dues = [] ∷ (Expire 1 1 ∷ []) ∷ (Expire 1 1 ∷ []) ∷ [];
}

-- Submitted 5 before the largest moment. A timeout of 4 is over one before it; of 5, 10 and 4,294,967,295, at it: no deadline is later.
abbrev pub no_deadline_is_later : DueRow
no_deadline_is_later = record {
  setup = example [] [] [];
  steps =
      made_at 0 (Open 1 0) ∷ made_at 0 (Claim 1 0) ∷ made_at 18446744073709551610 (Submit 1 (timed 10)) ∷ made_at 18446744073709551610 (Submit 1 (timed 4)) ∷
      made_at 18446744073709551610 (Submit 1 (timed 5)) ∷ made_at 18446744073709551615 (Submit 1 (timed 4294967295)) ∷ [];
  moments = 18446744073709551613 ∷ 18446744073709551614 ∷ 18446744073709551615 ∷ [];
  dues = [] ∷ (Expire 1 1 ∷ []) ∷ (Expire 1 0 ∷ Expire 1 1 ∷ Expire 1 2 ∷ Expire 1 3 ∷ []) ∷ [];
}

-- What is submitted again has a number of its own, and its time begins anew: 8 and 10, not 0 and 10. The one behind it was submitted at 2.
abbrev pub submitted_again_begins_anew : DueRow
submitted_again_begins_anew = record {
  setup = example (Data (1 ∷ []) ∷ []) [] [];
  steps =
      made_at 0 (Open 1 0) ∷ made_at 0 (Claim 1 0) ∷ made_at 0 (Submit 1 (timed 10)) ∷ made_at 2 (Submit 1 (timed 15)) ∷ made_at 3 (Serve 0 0x81) ∷ made_at 3 Deliver ∷
      made_at 4 Take ∷ made_at 8 (Answer 1 0 Again) ∷ [];
  moments = 10 ∷ 16 ∷ 17 ∷ 18 ∷ [];
  dues = [] ∷ [] ∷ (Expire 1 1 ∷ []) ∷ (Expire 1 1 ∷ Expire 1 2 ∷ []) ∷ [];
}

-- What was cancelled, or expired, isn't due again, though it is in progress until the controller has stopped.
abbrev pub asked_already : DueRow
asked_already = record {
  setup = example [] [] [];
  steps =
      made_at 0 (Open 1 0) ∷ made_at 0 (Claim 1 0) ∷ made_at 0 (Submit 1 (timed 10)) ∷ made_at 0 (Submit 1 (timed 10)) ∷ made_at 0 (Submit 1 (timed 10)) ∷
      made_at 5 (Cancel 1 0) ∷ made_at 10 (Expire 1 1) ∷ [];
  moments = 9 ∷ 10 ∷ 1000 ∷ [];
  dues = [] ∷ (Expire 1 2 ∷ []) ∷ (Expire 1 2 ∷ []) ∷ [];
}

-- A result that waits, or that its callback has, is in progress no more; nor is what was withdrawn. What ended at its device is, until that is handled.
abbrev pub ended_already : DueRow
ended_already = record {
  setup = example (Data (1 ∷ []) ∷ Data (2 ∷ []) ∷ Data (3 ∷ []) ∷ []) [] [];
  steps =
      made_at 0 (Open 1 0) ∷ made_at 0 (Claim 1 0) ∷ made_at 0 (Submit 1 (timed 10)) ∷ made_at 0 (Submit 1 (timed 10)) ∷ made_at 0 (Submit 1 (timed 10)) ∷
      made_at 0 (Submit 1 (record (bulk 0x02 (Out (1 ∷ []))) { timeout = 10 })) ∷ made_at 1 (Cancel 1 3) ∷ made_at 1 Command ∷ made_at 1 Deliver ∷ made_at 2 (Serve 0 0x81) ∷
      made_at 2 (Serve 0 0x81) ∷ made_at 2 (Serve 0 0x81) ∷ made_at 3 Deliver ∷ made_at 3 Deliver ∷ made_at 4 Take ∷ made_at 4 Take ∷ [];
  moments = 9 ∷ 10 ∷ 1000 ∷ [];
  dues = [] ∷ (Expire 1 2 ∷ []) ∷ (Expire 1 2 ∷ []) ∷ [];
}
