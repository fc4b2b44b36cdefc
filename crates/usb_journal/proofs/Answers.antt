-- What a submission is answered.
use Rattle.std.proofs.Common.{◌≡◌, ◌∙◌, ℕ, List, Some, Result, Ok, Err, IfOk, IfErr, OnErr, ap, refl, subst, sym}
use Rattle.usb_model.specs.declared.refused.Refused.{Refused}
use Rattle.usb_model.specs.declared.refused.Refused.TheVariants.{Busy, HeldElsewhere, InvalidParam, NoDevice, NoMem, NotFound, NotSupported}
use Rattle.usb_model.specs.declared.reply.Reply.TheVariants.{Number, Refused as IsRefused}
use Rattle.usb_model.specs.declared.request.Request.{Request}
use Rattle.usb_model.specs.declared.step.Step.{Step}
use Rattle.usb_model.specs.declared.step.Step.TheVariants.{Answer, Submit}
use Rattle.usb_model.specs.declared.verdict.Verdict.TheVariants.{Again, AgainWith}
use Rattle.usb_core.specs.Public.{State, TurnsWorld}
use Rattle.usb_core.specs.declared.submission.SubmitError.{SubmitError}
use Rattle.usb_journal.specs.declared.record.RecordError.{RecordError}
use Rattle.usb_journal.specs.declared.timer.Timer.{Timer}
use Rattle.usb_journal.specs.Booked.{answer_entry, turned_down, unless_no_memory}
use Rattle.usb_journal.specs.Timers.{started_again_if, started_if, timers_by}

-- no other cause is want of memory
abbrev Other : Refused → Type 0
Other NoMem = ⊥
Other why = Unit {0}

module _ {G P : Type 0} where
  -- what is turned down for want of memory isn't answered
  down_none : (a : Result ℕ (SubmitError G P)) (given : G) (payload : P) → turned_down NoMem given payload ≡ Ok a → ⊥
  down_none a given payload e = absurd cc

  -- where something is answered it is what the core answered
  same_answer : (r a : Result ℕ (SubmitError G P)) (x : Result (Result ℕ (SubmitError G P)) (RecordError G P)) → x ≡ Ok r → x ≡ Ok a → r ≡ a
  same_answer r a x d e = cc

  same_back : (x y : RecordError G P) (z : Result (Result ℕ (SubmitError G P)) (RecordError G P)) → z ≡ Err x → z ≡ Err y → x ≡ y
  same_back x y z d e = cc

module _ {G P : Type 0} (core new : State P) (step : Step) (h : ℕ) where
  -- a refusal that isn't for want of memory
  refused_turns : (why : Refused) (given : G) (payload : P) (a : Result ℕ (SubmitError G P)) → turned_down why given payload ≡ Ok a → ((why ≡ NoMem → ⊥) → TurnsWorld core step (record { owner = Some h; reply = IsRefused why }) new) → TurnsWorld core step (answer_entry h a) new
  refused_turns NoMem given payload a e turn = absurd (down_none a given payload e)
  refused_turns InvalidParam given payload a e turn = subst (λ r. TurnsWorld core step (answer_entry h r) new) (same_answer _ a _ refl e) (turn (λ is. subst Other is tt))
  refused_turns NoDevice given payload a e turn = subst (λ r. TurnsWorld core step (answer_entry h r) new) (same_answer _ a _ refl e) (turn (λ is. subst Other is tt))
  refused_turns NotFound given payload a e turn = subst (λ r. TurnsWorld core step (answer_entry h r) new) (same_answer _ a _ refl e) (turn (λ is. subst Other is tt))
  refused_turns Busy given payload a e turn = subst (λ r. TurnsWorld core step (answer_entry h r) new) (same_answer _ a _ refl e) (turn (λ is. subst Other is tt))
  refused_turns HeldElsewhere given payload a e turn = subst (λ r. TurnsWorld core step (answer_entry h r) new) (same_answer _ a _ refl e) (turn (λ is. subst Other is tt))
  refused_turns NotSupported given payload a e turn = subst (λ r. TurnsWorld core step (answer_entry h r) new) (same_answer _ a _ refl e) (turn (λ is. subst Other is tt))

  -- what is answered is a turn
  pub answer_turns : (r a : Result ℕ (SubmitError G P)) → unless_no_memory r ≡ Ok a → IfOk r (λ n. TurnsWorld core step (record { owner = Some h; reply = Number n }) new)
      → IfErr r (λ x. (x.why ≡ NoMem → ⊥) → TurnsWorld core step (record { owner = Some h; reply = IsRefused x.why }) new) → TurnsWorld core step (answer_entry h a) new
  answer_turns (Ok n) a e accepted refused = subst (λ r. TurnsWorld core step (answer_entry h r) new) (same_answer (Ok n) a _ refl e) accepted
  answer_turns (Err x) a e accepted refused = refused_turns x.why x.given x.payload a e refused

module _ {G P : Type 0} where
  -- what is turned down, by its cause
  down_back : (why : Refused) (given : G) (payload : P) (y : RecordError G P) → turned_down why given payload ≡ Err y → (y.given ≡ given) × (y.payload ≡ payload)
  down_back NoMem given payload y e = let same : record { given = given; payload = payload } ≡ y = same_back _ y _ refl e in (ap (λ (z : RecordError G P). z.given) (sym same), ap (λ (z : RecordError G P). z.payload) (sym same))
  down_back InvalidParam given payload y e = absurd cc
  down_back NoDevice given payload y e = absurd cc
  down_back NotFound given payload y e = absurd cc
  down_back Busy given payload y e = absurd cc
  down_back HeldElsewhere given payload y e = absurd cc
  down_back NotSupported given payload y e = absurd cc

  -- where memory is wanting, what was given comes back
  pub given_back : (r : Result ℕ (SubmitError G P)) (y : RecordError G P) (given : G) → unless_no_memory r ≡ Err y → IfErr r (λ x. x.given ≡ given) → y.given ≡ given
  given_back (Ok n) y given e back = absurd cc
  given_back (Err x) y given e back = (down_back x.why x.given x.payload y e).0 ∙ back

  pub payload_comes_back : (r : Result ℕ (SubmitError G P)) (y : RecordError G P) (payload : P) → unless_no_memory r ≡ Err y → IfErr r (λ x. x.payload ≡ payload) → y.payload ≡ payload
  payload_comes_back (Ok n) y payload e back = absurd cc
  payload_comes_back (Err x) y payload e back = (down_back x.why x.given x.payload y e).1 ∙ back

  -- and nothing changed
  pub none_done : (r : Result ℕ (SubmitError G P)) (y : RecordError G P) (Q : Type 0) → unless_no_memory r ≡ Err y → OnErr r Q → Q
  none_done (Ok n) y Q e q = absurd cc
  none_done (Err x) y Q e q = q

  -- what a refusal says of what is answered
  down_says : (why : Refused) (given : G) (payload : P) (a : Result ℕ (SubmitError G P)) (Q : G → P → Type 0) → turned_down why given payload ≡ Ok a → Q given payload → IfErr a (λ x. Q x.given x.payload)
  down_says NoMem given payload a Q e q = absurd (down_none a given payload e)
  down_says InvalidParam given payload a Q e q = subst (λ r. IfErr r (λ x. Q x.given x.payload)) (same_answer _ a _ refl e) q
  down_says NoDevice given payload a Q e q = subst (λ r. IfErr r (λ x. Q x.given x.payload)) (same_answer _ a _ refl e) q
  down_says NotFound given payload a Q e q = subst (λ r. IfErr r (λ x. Q x.given x.payload)) (same_answer _ a _ refl e) q
  down_says Busy given payload a Q e q = subst (λ r. IfErr r (λ x. Q x.given x.payload)) (same_answer _ a _ refl e) q
  down_says HeldElsewhere given payload a Q e q = subst (λ r. IfErr r (λ x. Q x.given x.payload)) (same_answer _ a _ refl e) q
  down_says NotSupported given payload a Q e q = subst (λ r. IfErr r (λ x. Q x.given x.payload)) (same_answer _ a _ refl e) q

  -- what is said of the core's refusal is said of the answer
  pub says_back : (r a : Result ℕ (SubmitError G P)) (Q : G → P → Type 0) → unless_no_memory r ≡ Ok a → IfErr r (λ x. Q x.given x.payload) → IfErr a (λ x. Q x.given x.payload)
  says_back (Ok n) a Q e back = subst (λ r. IfErr r (λ x. Q x.given x.payload)) (same_answer (Ok n) a _ refl e) tt
  says_back (Err x) a Q e back = down_says x.why x.given x.payload a Q e back

  -- and of its acceptance
  pub says_number : (r a : Result ℕ (SubmitError G P)) (Q : ℕ → Type 0) → unless_no_memory r ≡ Ok a → IfOk r Q → IfOk a Q
  says_number (Ok n) a Q e said = subst (λ r. IfOk r Q) (same_answer (Ok n) a _ refl e) said
  says_number (Err x) a Q e said = by_cause x.why e
    where
      by_cause : (why : Refused) → turned_down why x.given x.payload ≡ Ok a → IfOk a Q
      by_cause NoMem is = absurd (down_none a x.given x.payload is)
      by_cause InvalidParam is = subst (λ r. IfOk r Q) (same_answer _ a _ refl is) tt
      by_cause NoDevice is = subst (λ r. IfOk r Q) (same_answer _ a _ refl is) tt
      by_cause NotFound is = subst (λ r. IfOk r Q) (same_answer _ a _ refl is) tt
      by_cause Busy is = subst (λ r. IfOk r Q) (same_answer _ a _ refl is) tt
      by_cause HeldElsewhere is = subst (λ r. IfOk r Q) (same_answer _ a _ refl is) tt
      by_cause NotSupported is = subst (λ r. IfOk r Q) (same_answer _ a _ refl is) tt

-- the timers behind a submission
pub submitted_timers : {G P : Type 0} (h : ℕ) (request : Request) (moment : ℕ) (a : Result ℕ (SubmitError G P)) (ts : List Timer) → started_if h request.timeout moment a ts ≡ timers_by ts (Submit h request) (answer_entry h a).reply moment
submitted_timers h request moment (Ok n) ts = refl
submitted_timers h request moment (Err x) ts = refl

-- behind one from within a callback
pub again_timers : {G P : Type 0} (h n moment : ℕ) (a : Result ℕ (SubmitError G P)) (ts : List Timer) → started_again_if h n moment a ts ≡ timers_by ts (Answer h n Again) (answer_entry h a).reply moment
again_timers h n moment (Ok k) ts = refl
again_timers h n moment (Err x) ts = refl

-- and with other bytes
pub again_with_timers : {G P : Type 0} (h n : ℕ) (bytes : List ℕ) (moment : ℕ) (a : Result ℕ (SubmitError G P)) (ts : List Timer) → started_again_if h n moment a ts ≡ timers_by ts (Answer h n (AgainWith bytes)) (answer_entry h a).reply moment
again_with_timers h n bytes moment (Ok k) ts = refl
again_with_timers h n bytes moment (Err x) ts = refl
