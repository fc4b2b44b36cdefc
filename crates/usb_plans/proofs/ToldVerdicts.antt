-- What is told of a callback's verdict, and which stage of a plan a return leads to.
use Rattle.std.proofs.Common.{◌≡◌, ℕ, Bool, true, false, ◌⊎◌, inl, inr, List, [], ◌∷◌, Option, Some, None, refl, ap, sym, ◌∙◌, subst}
use Rattle.std.specs.Prelude.{Result, Ok, Err, IfOk, IfSome, if◌then◌else◌, is_some}
use Rattle.std.proofs.lemmas.Option.{same_Some}
use Rattle.usb_model.specs.declared.effect.Effect.{Effect}
use Rattle.usb_model.specs.declared.endpoint.Endpoint.{Endpoint}
use Rattle.usb_model.specs.declared.entry.Entry.{Entry}
use Rattle.usb_model.specs.declared.handle.Handle.{Handle}
use Rattle.usb_model.specs.declared.plan.Plan.TheVariants.{Do, Return}
use Rattle.usb_model.specs.declared.refused.Refused.{Refused}
use Rattle.usb_model.specs.declared.refused.Refused.TheVariants as refused
use Rattle.usb_model.specs.declared.reply.Reply.{Reply}
use Rattle.usb_model.specs.declared.reply.Reply.TheVariants as reply
use Rattle.usb_model.specs.declared.reply.Returned.{Returned}
use Rattle.usb_model.specs.declared.request.Request.{Request}
use Rattle.usb_model.specs.declared.result.InCallback.{InCallback}
use Rattle.usb_model.specs.declared.step.Step.{Step}
use Rattle.usb_model.specs.declared.step.Step.TheVariants.{Answer, Submit}
use Rattle.usb_model.specs.declared.verdict.Rule.{Rule}
use Rattle.usb_model.specs.declared.verdict.Verdict.{Verdict}
use Rattle.usb_model.specs.declared.verdict.Verdict.TheVariants as verdict
use Rattle.usb_model.specs.Machine.{Machine, at_endpoint, endpoint_at, refused_if}
use Rattle.usb_model.specs.Machine.Calls.{answer_callback, answer_effect, submit_effect, submit_to}
use Rattle.usb_model.specs.Machine.Turns.{effect}
use Rattle.usb_model.specs.Numbers.{is_stop, takes_payload}
use Rattle.usb_model.specs.Setup.{Setup}
use Rattle.usb_model.specs.World.{World, machine_of, turn, world_from}
use Rattle.usb_model.specs.World.Journal.{journal_from, run_from}
use Rattle.usb_model.specs.World.Plans.{Book, FitsReturn, FitsRule, Stage, is_other_refusal, is_submit, needs_stop, noted_by, return_steps, returning, rule_for, rules_after, stage_after}
use Rattle.usb_core.specs.Callbacks.{Fits}
use Rattle.usb_core.specs.declared.results.Taken.{Taken}
use Rattle.usb_plans.specs.declared.plan_run.Performed.{Performed}
use Rattle.usb_plans.specs.PlanRuns.{CallsThere, GivesVerdict, IsUnder, MakesAnswer, MakesStep, Performs, PlanState, Returns, ReturnsBy, RunBehindReturn, ShowsBut, ShowsStage, entries_of, of_option, running_at, stage_behind, still_called}
use Rattle.proof_laws.specs.InCallbacks.{AnswerEnds, IsReached, IsTold, callback_at, ends_callback, is_answer, is_there}
use Rattle.proof_laws.proofs.Homes.{homed}
use Rattle.proof_laws.proofs.InCallbacks.{keeps_callbacks}
use Rattle.usb_plans.proofs.Stages.{due, none_called, none_due, reached, taken_out}
use Rattle.proof_laws.proofs.Verdicts.{answer_own}

-- a verdict ends its callback, or is refused for another cause than that there is no such thing
abbrev EndsOrNot : Reply → Type 0
EndsOrNot r = (ends_callback r ≡ true) ⊎ (is_other_refusal r ≡ true)

-- where it may be refused for such a cause
ends_if : (m : Machine) (b : Bool) (why : Refused) (rest : Effect) → is_other_refusal (reply.Refused why) ≡ true → EndsOrNot rest.reply → EndsOrNot (refused_if m b why rest).reply
unfolding refused_if
ends_if m true why rest other later = inr other
ends_if m false why rest other later = later

-- where it submits once more
submit_ends : (setup : Setup) (m : Machine) (handle : Handle) (request : Request) (round : ℕ) (o : Option Endpoint) → is_some o ≡ true → EndsOrNot (submit_to setup m handle request round o).reply
unfolding submit_to at_endpoint
submit_ends setup m handle request round None there = absurd cc
submit_ends setup m handle request round (Some e) there =
    ends_if m _ _ _ refl (ends_if m _ _ _ refl (ends_if m _ _ _ refl (ends_if m _ _ _ refl (ends_if m _ _ _ refl (inl refl)))))

-- each verdict, of a transfer that is in its callback
verdict_ends : (setup : Setup) (m : Machine) (v : Verdict) (x : InCallback) → is_some (endpoint_at m x.request.ep) ≡ true → EndsOrNot (answer_callback setup m v (Some x)).reply
unfolding answer_callback submit_effect
verdict_ends setup m verdict.Stop x there = inl refl
verdict_ends setup m verdict.Again x there = submit_ends setup m _ _ _ (endpoint_at m x.request.ep) there
verdict_ends setup m (verdict.AgainWith bytes) x there = submit_ends setup m _ _ _ (endpoint_at m x.request.ep) there

-- the reply to a verdict
answer_reply : (setup : Setup) (w : World) (h n : ℕ) (v : Verdict) → (turn setup w (Answer h n v)).entry.reply ≡ (answer_callback setup (machine_of setup h w) v (callback_at w h n)).reply
unfolding effect answer_effect machine_of
answer_reply setup w h n v = ap (λ e. e.reply) (answer_own setup h w n v).1

-- in a world that a run leads to
answer_ends_or_not : (setup : Setup) (w : World) → IsReached setup w → (h n : ℕ) (v : Verdict) (x : InCallback) → callback_at w h n ≡ Some x → EndsOrNot (turn setup w (Answer h n v)).entry.reply
answer_ends_or_not setup w r h n v x there =
    subst EndsOrNot (sym (answer_reply setup w h n v ∙ ap (λ o. (answer_callback setup (machine_of setup h w) v o).reply) there)) (verdict_ends setup (machine_of setup h w) v x (homed setup w r h n x there))

-- Stop is done
stop_done : (setup : Setup) (w : World) (h n : ℕ) (x : InCallback) → callback_at w h n ≡ Some x → (turn setup w (Answer h n verdict.Stop)).entry.reply ≡ reply.Done
unfolding answer_callback
stop_done setup w h n x there = answer_reply setup w h n verdict.Stop ∙ ap (λ o. (answer_callback setup (machine_of setup h w) verdict.Stop o).reply) there

-- where there is no such callback it is refused
stop_refused : (setup : Setup) (w : World) (h n : ℕ) → callback_at w h n ≡ None → (turn setup w (Answer h n verdict.Stop)).entry.reply ≡ reply.Refused refused.NotFound
unfolding answer_callback
stop_refused setup w h n none = answer_reply setup w h n verdict.Stop ∙ ap (λ o. (answer_callback setup (machine_of setup h w) verdict.Stop o).reply) none

-- when a verdict needs a second one, told by a test
pub needs_by : (v : Verdict) (r : Reply) (stops : Bool) (b : Bool) → stops ≡ is_stop v → b ≡ (if stops then false else is_other_refusal r) → needs_stop v r ≡ b
needs_by verdict.Stop r stops b stop_is is = sym (is ∙ ap (λ (k : Bool). if k then false else is_other_refusal r) stop_is)
needs_by verdict.Again r stops b stop_is is = sym (is ∙ ap (λ (k : Bool). if k then false else is_other_refusal r) stop_is)
needs_by (verdict.AgainWith bytes) r stops b stop_is is = sym (is ∙ ap (λ (k : Bool). if k then false else is_other_refusal r) stop_is)

-- it is one that was refused
needs_refused : (v : Verdict) (r : Reply) → needs_stop v r ≡ true → is_other_refusal r ≡ true
needs_refused verdict.Stop r needs = absurd cc
needs_refused verdict.Again r needs = needs
needs_refused (verdict.AgainWith bytes) r needs = needs

-- a verdict that takes its callback again has one, where a callback that can't be called again stops
pub takes_back : {P : Type 0} (h n : ℕ) (v : Verdict) (again : Option P) (repeats : Bool) → is_some again ≡ repeats → (repeats ≡ false → v ≡ verdict.Stop) → takes_payload (Answer h n v) ≡ true → is_some again ≡ true
takes_back h n v again true back stops takes = back
takes_back h n v again false back stops takes = let stop : takes_payload (Answer h n verdict.Stop) ≡ true = subst (λ k. takes_payload (Answer h n k) ≡ true) (stops refl) takes in absurd cc

-- of the steps that are no verdicts a submission alone takes a callback
takes_submits : (step : Step) → takes_payload step ≡ true → is_answer step ≡ false → is_submit step ≡ true
takes_submits (Submit h request) takes plain = refl
takes_submits (Answer h n v) takes plain = absurd cc
takes_submits _ takes plain = absurd cc

-- a refusal ends no callback
refusal_goes_on : (r : Reply) → is_other_refusal r ≡ true → ends_callback r ≡ false
refusal_goes_on (reply.Refused why) other = refl
refusal_goes_on reply.Done other = absurd cc
refusal_goes_on (reply.Number n) other = absurd cc
refusal_goes_on _ other = refl

-- an entry that gives no number leaves the book
noted_done : (book : Book) (owner : Option ℕ) (r : Reply) (rule : Rule) → r ≡ reply.Done → noted_by book owner r rule ≡ book
noted_done book None r rule done = refl
noted_done book (Some h) r rule done = rw done refl

-- the stage behind one verdict
behind_one : (setup : Setup) (s : Stage) (h n : ℕ) (v : Verdict) → stage_behind setup s (Answer h n v) (s.book h n) s.rules ≡ stage_after setup s (Return h n) (Answer h n v ∷ [])
unfolding stage_after world_from
behind_one setup s h n v = refl

-- the stage behind two, of which the second is done
behind_two : (setup : Setup) (s t : Stage) (h n : ℕ) (v w : Verdict) → t ≡ stage_behind setup s (Answer h n v) (s.book h n) s.rules → (turn setup t.world (Answer h n w)).entry.reply ≡ reply.Done
    → stage_behind setup t (Answer h n w) (s.book h n) s.rules ≡ stage_after setup s (Return h n) (Answer h n v ∷ Answer h n w ∷ [])
unfolding stage_after world_from
behind_two setup s t h n v w is done =
    ap (λ (b : Book). record { world = (turn setup t.world (Answer h n w)).world; book = b; rules = s.rules }) (noted_done t.book (turn setup t.world (Answer h n w)).entry.owner _ (s.book h n) done)
    ∙ ap (λ (u : Stage). record { world = (turn setup u.world (Answer h n w)).world; book = u.book; rules = s.rules }) is

-- the entries of one verdict, and of two
one_entry : (setup : Setup) (w : World) (x : Step) → run_from setup w (x ∷ []) ≡ (turn setup w x).entry ∷ []
unfolding journal_from
one_entry setup w x = refl

two_entries : (setup : Setup) (w : World) (x y : Step) → run_from setup w (x ∷ y ∷ []) ≡ (turn setup w x).entry ∷ (turn setup (turn setup w x).world y).entry ∷ []
unfolding journal_from
two_entries setup w x y = refl

module _ {P : Type 0} (rule : P → Rule) where
  -- a callback that was called is under its transfer's rule, and its verdict fits that
  record IsCalled (s : Stage) (h n : ℕ) (taken : Taken P) (v : Verdict) (again : Option P) : Type 0 where
    fits : Fits (rule taken.payload) taken.returned v
    same : IfSome again (λ c. c ≡ taken.payload)

  -- then it fits at its return
  fits_return : (s : Stage) (h n : ℕ) (taken : Taken P) (v : Verdict) (x : InCallback) → Fits (rule taken.payload) taken.returned v → returning s h n ≡ Some x → IsTold taken.returned x → rule taken.payload ≡ s.book h n
      → FitsReturn (returning s h n) (s.book h n) v
  fits_return s h n taken v x fits there told under =
      subst (λ o. FitsReturn o (s.book h n) v) (sym there)
      (subst (λ r. FitsReturn (Some x) r v) under (subst (λ k. FitsRule (rule taken.payload) x.status k v) (sym told.0) (subst (λ k. FitsRule (rule taken.payload) k taken.returned.round v) (sym told.1) fits)))

  -- the callback comes back under its rule
  back_under : (taken : Taken P) (again : Option P) (r : Rule) → IfSome again (λ c. c ≡ taken.payload) → rule taken.payload ≡ r → IsUnder rule r again
  back_under taken None r same under = tt
  back_under taken (Some c) r same under = ap rule same ∙ under

  -- what a return with this verdict is at each stage at which its callback was called
  abbrev ReturnsAt : PlanState P → (h n : ℕ) → Taken P → Verdict → List Entry → PlanState P → Type 0
  ReturnsAt old h n taken v entries new = (setup : Setup) (s : Stage) (x : InCallback) → ShowsBut rule setup (is_there h n) old s → returning s h n ≡ Some x → IsTold taken.returned x → rule taken.payload ≡ s.book h n
      → ReturnsBy rule setup s h n v (return_steps setup s.world h n v) entries new

  -- a return of one verdict, at a stage
  once_at : (old : PlanState P) (h n : ℕ) (taken : Taken P) (v : Verdict) (again : Option P) (entry : Entry) (new : PlanState P) → Fits (rule taken.payload) taken.returned v → IfSome again (λ c. c ≡ taken.payload)
      → MakesAnswer rule old h n (Answer h n v) again entry new → needs_stop v entry.reply ≡ false → ReturnsAt old h n taken v (entry ∷ []) new
  once_at old h n taken v again entry new fits same makes once setup s x shown there told under = subst (λ l. ReturnsBy rule setup s h n v l (entry ∷ []) new) (sym is) (
    fits_return s h n taken v x fits there told under,
    ap (λ e. e ∷ []) now.0 ∙ sym (one_entry setup s.world (Answer h n v)),
    subst (ShowsStage rule setup new) (behind_one setup s h n v) (subst (λ b. ShowsBut rule setup (still_called b h n) new behind) ends now.1),
  )
    where
      behind : Stage
      behind = stage_behind setup s (Answer h n v) (s.book h n) s.rules

      now : (entry ≡ (turn setup s.world (Answer h n v)).entry) × ShowsBut rule setup (still_called (ends_callback entry.reply) h n) new behind
      now = makes setup s (s.book h n) s.rules shown (back_under taken again (s.book h n) same under)

      once_there : needs_stop v (turn setup s.world (Answer h n v)).entry.reply ≡ false
      once_there = subst (λ (e : Entry). needs_stop v e.reply ≡ false) now.0 once

      is : return_steps setup s.world h n v ≡ Answer h n v ∷ []
      is = rw once_there refl

      by_verdict : (k : Verdict) → v ≡ k → EndsOrNot (turn setup s.world (Answer h n v)).entry.reply → needs_stop k (turn setup s.world (Answer h n v)).entry.reply ≡ false → ends_callback (turn setup s.world (Answer h n v)).entry.reply ≡ true
      by_verdict verdict.Stop is told no_stop = ap (λ k. ends_callback (turn setup s.world (Answer h n k)).entry.reply) is ∙ ap ends_callback (stop_done setup s.world h n x there)
      by_verdict _ is (inl ends) no_stop = ends
      by_verdict _ is (inr other) no_stop = absurd (cc (other, no_stop))

      ends : ends_callback entry.reply ≡ true
      ends = ap (λ (e : Entry). ends_callback e.reply) now.0 ∙ by_verdict v refl (answer_ends_or_not setup s.world (reached setup old.core s.world shown.world) h n v x there) once_there

  -- and of two
  twice_at : (old : PlanState P) (h n : ℕ) (taken : Taken P) (v : Verdict) (again : Option P) (entry : Entry) (mid : PlanState P) (stop : Entry) (new : PlanState P) → Fits (rule taken.payload) taken.returned v
      → IfSome again (λ c. c ≡ taken.payload) → MakesAnswer rule old h n (Answer h n v) again entry mid → needs_stop v entry.reply ≡ true → MakesAnswer rule mid h n (Answer h n verdict.Stop) None stop new
      → ReturnsAt old h n taken v (entry ∷ stop ∷ []) new
  twice_at old h n taken v again entry mid stop new fits same makes twice makes_stop setup s x shown there told under = subst (λ l. ReturnsBy rule setup s h n v l (entry ∷ stop ∷ []) new) (sym is) (
    fits_return s h n taken v x fits there told under,
    ap (λ e. e ∷ stop ∷ []) now.0 ∙ (ap (λ e. (turn setup s.world (Answer h n v)).entry ∷ e ∷ []) then.0 ∙ sym (two_entries setup s.world (Answer h n v) (Answer h n verdict.Stop))),
    subst (ShowsStage rule setup new) (behind_two setup s behind h n v verdict.Stop refl done) (subst (λ b. ShowsBut rule setup (still_called b h n) new (stage_behind setup behind (Answer h n verdict.Stop) (s.book h n) s.rules)) ends then.1),
  )
    where
      behind : Stage
      behind = stage_behind setup s (Answer h n v) (s.book h n) s.rules

      now : (entry ≡ (turn setup s.world (Answer h n v)).entry) × ShowsBut rule setup (still_called (ends_callback entry.reply) h n) mid behind
      now = makes setup s (s.book h n) s.rules shown (back_under taken again (s.book h n) same under)

      twice_there : needs_stop v (turn setup s.world (Answer h n v)).entry.reply ≡ true
      twice_there = subst (λ (e : Entry). needs_stop v e.reply ≡ true) now.0 twice

      is : return_steps setup s.world h n v ≡ Answer h n v ∷ Answer h n verdict.Stop ∷ []
      is = rw twice_there refl

      goes_on : ends_callback entry.reply ≡ false
      goes_on = refusal_goes_on entry.reply (needs_refused v entry.reply twice)

      between : ShowsBut rule setup (is_there h n) mid behind
      between = subst (λ b. ShowsBut rule setup (still_called b h n) mid behind) goes_on now.1

      answers : AnswerEnds (ends_callback (turn setup s.world (Answer h n v)).entry.reply) h n s.world behind.world
      answers = (keeps_callbacks setup s.world (reached setup old.core s.world shown.world)).answers h n v

      still : callback_at behind.world h n ≡ Some x
      still = subst (λ b. AnswerEnds b h n s.world behind.world) (sym (ap (λ (e : Entry). ends_callback e.reply) now.0) ∙ goes_on) answers h n ∙ there

      done : (turn setup behind.world (Answer h n verdict.Stop)).entry.reply ≡ reply.Done
      done = stop_done setup behind.world h n x still

      then : (stop ≡ (turn setup behind.world (Answer h n verdict.Stop)).entry) × ShowsBut rule setup (still_called (ends_callback stop.reply) h n) new (stage_behind setup behind (Answer h n verdict.Stop) (s.book h n) s.rules)
      then = makes_stop setup behind (s.book h n) s.rules between tt

      ends : ends_callback stop.reply ≡ true
      ends = ap (λ (e : Entry). ends_callback e.reply) then.0 ∙ ap ends_callback done

  -- a return of a number that isn't out
  pub returns_none : (old mid new : PlanState P) (h n : ℕ) (callback : Option P) (entry : Entry) → mid.core ≡ old.core → ((g m : ℕ) → running_at mid.running g m ≡ (if is_there h n g m then None else running_at old.running g m)) → running_at old.running h n ≡ None
      → MakesAnswer rule mid h n (Answer h n verdict.Stop) None entry new → Performs rule old (Return h n) callback (entry ∷ []) new
  returns_none old mid new h n callback entry same out none makes setup s shown under = (
    Answer h n verdict.Stop ∷ [],
    (verdict.Stop, subst (λ o. FitsReturn o (s.book h n) verdict.Stop) (sym gone) refl, refl),
    ap (λ e. e ∷ []) now.0 ∙ sym (one_entry setup s.world (Answer h n verdict.Stop)),
    subst (ShowsStage rule setup new) (behind_one setup s h n verdict.Stop)
        (none_called rule setup new behind h n (subst (λ b. ShowsBut rule setup (still_called b h n) new behind) goes_on now.1) (still h n ∙ gone)),
  )
    where
      gone : returning s h n ≡ None
      gone = none_due rule setup old s h n shown none

      behind : Stage
      behind = stage_behind setup s (Answer h n verdict.Stop) (s.book h n) s.rules

      now : (entry ≡ (turn setup s.world (Answer h n verdict.Stop)).entry) × ShowsBut rule setup (still_called (ends_callback entry.reply) h n) new behind
      now = makes setup s (s.book h n) s.rules (taken_out rule setup old mid s h n shown same out) tt

      goes_on : ends_callback entry.reply ≡ false
      goes_on = ap (λ (e : Entry). ends_callback e.reply) now.0 ∙ ap ends_callback (stop_refused setup s.world h n gone)

      still : AnswerEnds false h n s.world behind.world
      still = subst (λ b. AnswerEnds b h n s.world behind.world) (sym (ap (λ (e : Entry). ends_callback e.reply) now.0) ∙ goes_on) ((keeps_callbacks setup s.world (reached setup old.core s.world shown.world)).answers h n verdict.Stop)

  -- may: the verdicts that a callback's code may give
  module _ (may : P → Returned → Verdict → Type 0) where
    -- a callback that was called returned with one verdict
    pub returns_once : (old : PlanState P) (h n : ℕ) (taken : Taken P) (v : Verdict) (again : Option P) (entry : Entry) (new : PlanState P) → may taken.payload taken.returned v → Fits (rule taken.payload) taken.returned v → IfSome again (λ c. c ≡ taken.payload)
        → MakesAnswer rule old h n (Answer h n v) again entry new → new.running ≡ old.running → needs_stop v entry.reply ≡ false → Returns rule may old h n taken (entry ∷ []) new
    returns_once old h n taken v again entry new answers fits same makes stay once = (v, answers, stay, once_at old h n taken v again entry new fits same makes once)

    -- or with two
    pub returns_twice : (old : PlanState P) (h n : ℕ) (taken : Taken P) (v : Verdict) (again : Option P) (entry : Entry) (mid : PlanState P) (stop : Entry) (new : PlanState P) → may taken.payload taken.returned v → Fits (rule taken.payload) taken.returned v
        → IfSome again (λ c. c ≡ taken.payload) → MakesAnswer rule old h n (Answer h n v) again entry mid → mid.running ≡ old.running → needs_stop v entry.reply ≡ true → MakesAnswer rule mid h n (Answer h n verdict.Stop) None stop new → new.running ≡ mid.running
        → Returns rule may old h n taken (entry ∷ stop ∷ []) new
    returns_twice old h n taken v again entry mid stop new answers fits same makes stay twice makes_stop stay_too = (v, answers, stay_too ∙ stay, twice_at old h n taken v again entry mid stop new fits same makes twice makes_stop)

    -- the callback was taken out of those that run
    module _ (old mid new : PlanState P) (h n : ℕ) (taken : Taken P) (entries : List Entry) (same : mid.core ≡ old.core) (out : (g m : ℕ) → running_at mid.running g m ≡ (if is_there h n g m then None else running_at old.running g m)) where
      -- then its return performs a piece of a plan
      returns_some : (callback : Option P) → running_at old.running h n ≡ Some taken → Returns rule may mid h n taken entries new → Performs rule old (Return h n) callback entries new
      returns_some callback runs (v, answers, stay, returns) setup s shown under =
          let d = due rule setup old s h n taken shown runs in
          let r = returns setup s d.its (taken_out rule setup old mid s h n shown same out) d.there d.told d.under in
          (return_steps setup s.world h n v, (v, r.0, refl), r.1, r.2)

      -- and it is the one that was called
      calls_some : running_at old.running h n ≡ Some taken → Returns rule may mid h n taken entries new → CallsThere rule may old h n entries
      calls_some runs (v, answers, stay, returns) t is = subst (λ k. GivesVerdict rule may old h n k entries) (same_Some taken t (sym runs ∙ is)) (
        v,
        answers,
        λ setup s shown. let d = due rule setup old s h n taken shown runs in (returns setup s d.its (taken_out rule setup old mid s h n shown same out) d.there d.told d.under).1,
      )

      -- the others run on
      runs_some : Returns rule may mid h n taken entries new → RunBehindReturn h n old new
      runs_some (v, answers, stay, returns) g m = ap (λ k. running_at k g m) stay ∙ out g m

  -- a step, as a piece of a plan
  pub performs_step : (old new : PlanState P) (step : Step) (callback : Option P) (entry : Entry) → is_answer step ≡ false → MakesStep rule old step callback entry new → Performs rule old (Do step) callback (entry ∷ []) new
  unfolding stage_after world_from
  performs_step old new step callback entry plain makes setup s shown under =
      let now = makes setup s (rule_for s.book s.rules (Do step)) (rules_after (Do step) s.rules) shown (λ takes. let submits : is_submit step ≡ true = takes_submits step takes plain in rw submits (under submits)) in
      (step ∷ [], refl, ap (λ e. e ∷ []) now.0 ∙ sym (one_entry setup s.world step), now.1)

  module _ {E : Type 0} where
    -- where it found memory
    pub return_result : (may : P → Returned → Verdict → Type 0) (old mid new : PlanState P) (h n : ℕ) (callback : Option P) (taken : Taken P) (r : Result (Performed P) E) → mid.core ≡ old.core → ((g m : ℕ) → running_at mid.running g m ≡ (if is_there h n g m then None else running_at old.running g m))
        → running_at old.running h n ≡ Some taken → IfOk r (λ x. Returns rule may mid h n taken (entries_of x) new) → IfOk r (λ x. Performs rule old (Return h n) callback (entries_of x) new)
    return_result may old mid new h n callback taken (Ok x) same out runs returns = returns_some may old mid new h n taken (entries_of x) same out callback runs returns
    return_result may old mid new h n callback taken (Err e) same out runs returns = tt

    pub call_result : (may : P → Returned → Verdict → Type 0) (old mid new : PlanState P) (h n : ℕ) (taken : Taken P) (r : Result (Performed P) E) → mid.core ≡ old.core → ((g m : ℕ) → running_at mid.running g m ≡ (if is_there h n g m then None else running_at old.running g m))
        → running_at old.running h n ≡ Some taken → IfOk r (λ x. Returns rule may mid h n taken (entries_of x) new) → IfOk r (λ x. CallsThere rule may old h n (entries_of x))
    call_result may old mid new h n taken (Ok x) same out runs returns = calls_some may old mid new h n taken (entries_of x) same out runs returns
    call_result may old mid new h n taken (Err e) same out runs returns = tt

    pub run_result : (may : P → Returned → Verdict → Type 0) (old mid new : PlanState P) (h n : ℕ) (taken : Taken P) (r : Result (Performed P) E) → mid.core ≡ old.core → ((g m : ℕ) → running_at mid.running g m ≡ (if is_there h n g m then None else running_at old.running g m))
        → IfOk r (λ x. Returns rule may mid h n taken (entries_of x) new) → IfOk r (λ x. RunBehindReturn h n old new)
    run_result may old mid new h n taken (Ok x) same out returns = runs_some may old mid new h n taken (entries_of x) same out returns
    run_result may old mid new h n taken (Err e) same out returns = tt

    pub step_result : (old new : PlanState P) (step : Step) (callback : Option P) (r : Result (Performed P) E) → is_answer step ≡ false → IfOk r (λ x. MakesStep rule old step callback x.entry new) → IfOk r (λ x. x.stop ≡ None)
        → IfOk r (λ x. Performs rule old (Do step) callback (entries_of x) new)
    step_result old new step callback (Ok x) plain makes once = subst (λ l. Performs rule old (Do step) callback l new) (ap (λ o. x.entry ∷ of_option o) (sym once)) (performs_step old new step callback x.entry plain makes)
    step_result old new step callback (Err e) plain makes once = tt

-- a step calls no callback
pub calls_none : {P E : Type 0} (r : Result (Performed P) E) → IfOk r (λ x. Unit {0})
calls_none (Ok x) = tt
calls_none (Err e) = tt
