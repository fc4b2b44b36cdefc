-- The transfer of a callback is submitted once more: the step of the core.
use Rattle.std.proofs.Common.{◌≡◌, ℕ, ◌+◌, ◌<◌, Bool, true, false, refl, ap, sym, subst, ◌∙◌, arith, List, Option, Some, None}
use Rattle.std.specs.Prelude.{◌==◌, ◌&&◌, if◌then◌else◌}
use Rattle.std.proofs.lemmas.Bool.{and_parts, eqb-true}
use Rattle.std.proofs.lemmas.Option.{same_Some}
use Rattle.usb_model.specs.declared.refused.Refused.{Refused as Why}
use Rattle.usb_model.specs.declared.refused.Refused.TheVariants.{NotFound}
use Rattle.usb_model.specs.declared.reply.Reply.TheVariants.{Number, Refused}
use Rattle.usb_model.specs.declared.request.Body.TheVariants.{Out}
use Rattle.usb_model.specs.declared.request.Request.{Request}
use Rattle.usb_model.specs.declared.result.InCallback.{InCallback}
use Rattle.usb_model.specs.declared.step.Step.TheVariants.{Answer}
use Rattle.usb_model.specs.declared.verdict.Verdict.{Verdict}
use Rattle.usb_model.specs.declared.verdict.Verdict.TheVariants.{Again, AgainWith, Stop}
use Rattle.usb_model.specs.Limits.{last_number}
use Rattle.usb_model.specs.Machine.Calls.{callback_of}
use Rattle.usb_model.specs.Setup.{Setup, endpoint_id}
use Rattle.usb_model.specs.World.{World}
use Rattle.usb_tables.specs.Tds.{Tds}
use Rattle.usb_tables.specs.HandleState.{Kept as HandleState, is_one_of}
use Rattle.usb_tables.specs.HandleStates.{SameCallbacks, SameNumbers, SameResults, callback_at, callbacks_at, is_there, number_of}
use Rattle.refine_world.specs.Calls.{answer_core, called_back, step_core}
use Rattle.refine_world.specs.Shows.{Core, Shows}
use Rattle.refine_world.specs.Steps.{Stepped}
use Rattle.refine_core.specs.Calls.{Stays}
use Rattle.refine_core.specs.Handles.{says}
use Rattle.refine_core.specs.State.{IsState, Keeps, State}
use Rattle.refine_core.specs.Steps.{DoesCoreStep, Is}
use Rattle.refine_core.specs.Submissions.{Admits, CanStart, RefusesIt, submits}
use Rattle.refine_core.specs.Works.{Starts}
use Rattle.refine_core.proofs.Called.{found_number, round_called}
use Rattle.refine_core.proofs.Names.{stays}
use Rattle.refine_core.proofs.Stops.{Ended, keeps_ended}
use Rattle.refine_core.proofs.Submissions.{submit_is, submit_refused}

-- what is submitted once more, by the verdict
abbrev pub again_of : Verdict → InCallback → Option Request
again_of Stop x = None
again_of Again x = Some x.request
again_of (AgainWith bytes) x = Some (record x.request { body = Out bytes })

-- the core's step is this submission
again_is : (setup : Setup) (c : Core) (h n : ℕ) (verdict : Verdict) (x : InCallback) (request : Request) → callback_of n (c.names h).in_callbacks ≡ Some x → again_of verdict x ≡ Some request
    → step_core setup c (Answer h n verdict) ≡ submits setup c h request (called_back c h x.n) (Answer h n verdict) (x.round + 1)
unfolding step_core answer_core
again_is setup c h n Stop x request found is = absurd cc
again_is setup c h n Again x request found is =
    ap (answer_core setup c h (Answer h n Again) Again) found ∙ ap (λ (r : Request). submits setup c h r (called_back c h x.n) (Answer h n Again) (x.round + 1)) (same_Some x.request request is)
again_is setup c h n (AgainWith bytes) x request found is =
    ap (answer_core setup c h (Answer h n (AgainWith bytes)) (AgainWith bytes)) found
    ∙ ap (λ (r : Request). submits setup c h r (called_back c h x.n) (Answer h n (AgainWith bytes)) (x.round + 1)) (same_Some (record x.request { body = Out bytes }) request is)

-- the callers where a callback that ended is put back
put_callbacks : (old amid new : List HandleState) (h n : ℕ) (x : InCallback) → x.n ≡ n → callback_at old h n ≡ Some x → Ended old amid h n → ((g k : ℕ) → callback_at new g k ≡ (if is_there h x.n g k then Some x else callback_at amid g k)) → SameCallbacks old new
put_callbacks old amid new h n x number found ended put g k =
    put g k ∙ ap (λ (v : ℕ). if is_there h v g k then Some x else callback_at amid g k) number ∙ ap (λ (o : Option InCallback). if is_there h n g k then Some x else o) (ended.callbacks g k)
    ∙ by_test (is_there h n g k) refl
  where
    by_test : (b : Bool) → is_there h n g k ≡ b → (if b then Some x else if b then None else callback_at old g k) ≡ callback_at old g k
    by_test true both =
        let parts = and_parts (h == g) (n == k) both in
        sym found ∙ ap (λ (v : ℕ). callback_at old v n) (eqb-true h g parts.0) ∙ ap (callback_at old g) (eqb-true n k parts.1)
    by_test false both = refl

module _ {P : Type 0} where
  -- there is no such callback
  pub again_none : (s : State P) (h n : ℕ) (verdict : Verdict) → callback_at s.callers h n ≡ None → DoesCoreStep s (Answer h n verdict) (says h (Refused NotFound)) s
  unfolding step_core answer_core
  again_none s h n verdict none setup w c keeps shows =
      subst (λ (v : Option InCallback). Is setup (answer_core setup c h (Answer h n verdict) verdict v) (says h (Refused NotFound)) s) (sym ((keeps.named h).callback n ∙ none)) (refl, keeps)

  -- the submission is refused: the callback goes on
  pub again_refused : (s : State P) (h n : ℕ) (verdict : Verdict) (x : InCallback) (request : Request) (why : Why) → callback_at s.callers h n ≡ Some x → again_of verdict x ≡ Some request
      → ((setup : Setup) (w : World) (c : Core) → Keeps setup s c → Shows setup w c → RefusesIt setup c h request why) → DoesCoreStep s (Answer h n verdict) (says h (Refused why)) s
  again_refused s h n verdict x request why found is refused setup w c keeps shows =
      subst (λ (t : Stepped). Is setup t (says h (Refused why)) s) (sym (again_is setup c h n verdict x request ((keeps.named h).callback n ∙ found) is))
      (submit_refused setup s c h request why (called_back c h x.n) (Answer h n verdict) (x.round + 1) keeps (refused setup w c keeps shows))

  -- it is accepted: the callback ends, and the transfer joins its line
  pub again_joins : (old new : State P) (callers : List HandleState) (h d n k : ℕ) (verdict : Verdict) (x : InCallback) (request : Request) (tds : Tds) → callback_at old.callers h n ≡ Some x → again_of verdict x ≡ Some request
      → Ended old.callers callers h n → ((setup : Setup) (w : World) (c : Core) → Keeps setup old c → Shows setup w c → Admits setup old c h d request tds)
      → Starts (record old { callers = callers }) new h d request.ep request (x.round + 1) → k ≡ number_of callers h → DoesCoreStep old (Answer h n verdict) (says h (Number k)) new
  again_joins old new callers h d n k verdict x request tds found is ended admits starts given setup w c keeps shows =
      subst (λ (t : Stepped). Is setup t (says h (Number k)) new) (sym (again_is setup c h n verdict x request here is))
      (submit_is setup old (record old { callers = callers }) new c h d k request tds (called_back c h x.n) (Answer h n verdict) (x.round + 1) refl refl (admits setup w c keeps shows) refl
      (subst (λ (m : ℕ). Keeps setup (record old { callers = callers }) (record c { names = λ g. if h == g then called_back c h m else c.names g })) (sym (found_number n (c.names h).in_callbacks x here))
      (keeps_ended setup w old (record old { callers = callers }) c h n refl refl refl refl ended keeps shows))
      starts (given ∙ ended.numbers h))
    where
      here : callback_of n (c.names h).in_callbacks ≡ Some x
      here = (keeps.named h).callback n ∙ found

  -- it can join once its callback ended
  pub can_again : (old : State P) (callers : List HandleState) (h d n : ℕ) (request : Request) (tds : Tds) → Ended old.callers callers h n → CanStart old h d request tds → CanStart (record old { callers = callers }) h d request tds
  can_again old callers h d n request tds ended can = record {
    context = can.context;
    there = can.there;
    split = can.split;
    fits = can.fits;
    place = can.place;
    number = subst (λ (k : ℕ). k < last_number) (sym (ended.numbers h)) can.number;
  }

  -- its round is counted
  pub round_fits : (s : State P) (h n : ℕ) (x : InCallback) → IsState s → callback_at s.callers h n ≡ Some x → number_of s.callers h < last_number → x.round + 1 < last_number
  round_fits s h n x is found few =
      let keeps = is.2.1 in
      omega (arith, round_called is.0 is.1 is.2.0 is.2.2 h n x ((keeps.named h).callback n ∙ found), (keeps.named h).number, few)

  -- its callback has its number
  pub number_found : (s : State P) (h n : ℕ) (x : InCallback) → IsState s → callback_at s.callers h n ≡ Some x → x.n ≡ n
  number_found s h n x is found =
      let keeps = is.2.1 in
      found_number n ((is.2.0).names h).in_callbacks x ((keeps.named h).callback n ∙ found)

  -- where memory is refused the callback is put back
  pub put_back : (old : State P) (amid new : List HandleState) (h n : ℕ) (x : InCallback) → x.n ≡ n → callback_at old.callers h n ≡ Some x → Ended old.callers amid h n
      → ((g k : ℕ) → callback_at new g k ≡ (if is_there h x.n g k then Some x else callback_at amid g k))
      → ((g id : ℕ) → callbacks_at new g id ≡ (if is_there h (endpoint_id x.request.ep) g id then callbacks_at amid g id + 1 else callbacks_at amid g id)) → SameNumbers amid new → SameResults amid new
      → Stays old (record old { callers = new })
  put_back old amid new h n x number found ended put counts numbers results =
      stays old (record old { callers = new }) refl refl refl refl (λ g. numbers g ∙ ended.numbers g) (put_callbacks old.callers amid new h n x number found ended put) (λ g id. results g id ∙ ended.results g id)
      (λ g id. counted g id (h == g) (endpoint_id x.request.ep == id) refl refl)
    where
      counted : (g id : ℕ) (a b : Bool) → (h == g) ≡ a → (endpoint_id x.request.ep == id) ≡ b → callbacks_at new g id ≡ callbacks_at old.callers g id
      counted g id a b is its = by_tests a b
          (counts g id ∙ ap (λ (v : Bool). if v && (endpoint_id x.request.ep == id) then callbacks_at amid g id + 1 else callbacks_at amid g id) is ∙ ap (λ (v : Bool). if a && v then callbacks_at amid g id + 1 else callbacks_at amid g id) its)
          (ended.counts g id ∙ ap (λ (o : Option InCallback). callbacks_at amid g id + (if (h == g) && is_one_of id o then 1 else 0)) found
          ∙ ap (λ (v : Bool). callbacks_at amid g id + (if v && (endpoint_id x.request.ep == id) then 1 else 0)) is ∙ ap (λ (v : Bool). callbacks_at amid g id + (if a && v then 1 else 0)) its)
        where
          by_tests : (p q : Bool) → callbacks_at new g id ≡ (if p && q then callbacks_at amid g id + 1 else callbacks_at amid g id) → callbacks_at old.callers g id ≡ callbacks_at amid g id + (if p && q then 1 else 0) → callbacks_at new g id ≡ callbacks_at old.callers g id
          by_tests true true is_new is_old = omega (arith, is_new, is_old)
          by_tests true false is_new is_old = omega (arith, is_new, is_old)
          by_tests false q is_new is_old = omega (arith, is_new, is_old)
