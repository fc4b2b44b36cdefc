-- A callback ends, and its transfer isn't submitted once more: the step of the core.
use Rattle.std.proofs.Common.{◌≡◌, ℕ, ◌+◌, Bool, true, false, refl, ap, sym, subst, ◌∙◌, ◌≤◌, arith, List, map, Option, Some, None}
use Rattle.std.specs.Prelude.{◌==◌, ◌&&◌, count_by, if◌then◌else◌}
use Rattle.std.proofs.lemmas.Bool.{eqb-true}
use Rattle.usb_model.specs.declared.handle.Handle.{Handle}
use Rattle.usb_model.specs.declared.refused.Refused.TheVariants.{NotFound}
use Rattle.usb_model.specs.declared.reply.Reply.{Reply}
use Rattle.usb_model.specs.declared.reply.Reply.TheVariants.{Done, Refused}
use Rattle.usb_model.specs.declared.result.InCallback.{InCallback}
use Rattle.usb_model.specs.declared.result.TransferResult.{TransferResult}
use Rattle.usb_model.specs.declared.step.Step.TheVariants.{Answer}
use Rattle.usb_model.specs.declared.verdict.Verdict.TheVariants.{Stop}
use Rattle.usb_model.specs.Laws.Cut.{times}
use Rattle.usb_model.specs.Machine.{is_callback_at}
use Rattle.usb_model.specs.Machine.Calls.{callback_of, without}
use Rattle.usb_model.specs.Setup.{Setup, endpoint_id}
use Rattle.usb_model.specs.World.{World}
use Rattle.usb_model.specs.World.Shared.{pieces_of}
use Rattle.usb_tables.specs.Holders.{device_of}
use Rattle.usb_tables.specs.Tables.{is_plain}
use Rattle.usb_tables.specs.HandleState.{Kept as HandleState, is_one_of}
use Rattle.usb_tables.specs.HandleStates.{SameNumbers, SameResults, callback_at, callbacks_at, is_there}
use Rattle.refine_world.specs.Calls.{answer_core, called_back, step_core}
use Rattle.refine_world.specs.Shows.{Core, Shows}
use Rattle.refine_core.specs.Handles.{says}
use Rattle.refine_core.specs.State.{Keeps, KeepsName, State, result_of}
use Rattle.refine_core.specs.Steps.{DoesCoreStep}
use Rattle.refine_core.proofs.Called.{counted_without, found_number, found_passes, found_without, none_ends, numbers_in, once_called, passes_one, passes_without}
use Rattle.refine_core.proofs.Counts.{same_by_id}
use Rattle.refine_core.proofs.Names.{keeps_named}
use Rattle.refine_core.proofs.Amid.{core_as}

-- what is kept of the callers where the callback of name h and number n ended
pub record Ended (old new : List HandleState) (h n : ℕ) : Type 0 where
  pub callbacks : (g k : ℕ) → callback_at new g k ≡ (if is_there h n g k then None else callback_at old g k)
  pub counts : (g id : ℕ) → callbacks_at old g id ≡ callbacks_at new g id + (if (h == g) && is_one_of id (callback_at old h n) then 1 else 0)
  pub numbers : SameNumbers old new
  pub results : SameResults old new

-- what is replied where this callback ended
abbrev pub stop_reply : Option InCallback → Reply
stop_reply None = Refused NotFound
stop_reply (Some x) = Done

-- a count without what was taken away
less : (t : Bool) (a b before after : ℕ) → before ≡ a + (if t then 1 else 0) → after ≡ b + (if t then 1 else 0) → before ≡ after → a ≡ b
less true a b before after x y same = omega (arith, x, y, same)
less false a b before after x y same = omega (arith, x, y, same)

module _ {P : Type 0} where
  -- a name, where one of its callbacks ended
  pub name_ended : (old new : State P) (g h n : ℕ) (x y : Handle) (results : List TransferResult) → new.claims ≡ old.claims → Ended old.callers new.callers h n → times n (numbers_in y.in_callbacks) ≤ 1 → ((h == g) ≡ true → y ≡ x)
      → KeepsName old g x results → KeepsName new g (if h == g then record y { in_callbacks = without n y.in_callbacks } else x) results
  name_ended old new g h n x y results claims ended once own is = by_test (h == g) refl
    where
      by_test : (b : Bool) → (h == g) ≡ b → KeepsName new g (if b then record y { in_callbacks = without n y.in_callbacks } else x) results
      by_test true test =
          let same : y ≡ x = own test in
          let mine : h ≡ g = eqb-true h g test in
          let it : KeepsName old g y results = subst (λ (v : Handle). KeepsName old g v results) (sym same) is in
          record {
            device = it.device ∙ ap (λ v. device_of v g) (sym claims);
            number = it.number ∙ sym (ended.numbers g);
            callback = λ k.
                found_without n k y.in_callbacks ∙ ap (λ (o : Option InCallback). if n == k then None else o) (it.callback k)
                ∙ sym (ended.callbacks g k ∙ ap (λ (b : Bool). if b && (n == k) then None else callback_at old.callers g k) test);
            called = λ e plain.
                let found : callback_of n y.in_callbacks ≡ callback_at old.callers h n = it.callback n ∙ ap (λ (v : ℕ). callback_at old.callers v n) (sym mine) in
                less (passes_one (is_callback_at e) (callback_of n y.in_callbacks)) (count_by (is_callback_at e) (without n y.in_callbacks)) (callbacks_at new.callers g (endpoint_id e))
                (count_by (is_callback_at e) y.in_callbacks) (callbacks_at old.callers g (endpoint_id e)) (counted_without (is_callback_at e) n y.in_callbacks once)
                (ended.counts g (endpoint_id e) ∙ ap (λ (b : Bool). callbacks_at new.callers g (endpoint_id e) + (if b && is_one_of (endpoint_id e) (callback_at old.callers h n) then 1 else 0)) test
                ∙ ap (λ (b : Bool). callbacks_at new.callers g (endpoint_id e) + (if b then 1 else 0)) (ap (is_one_of (endpoint_id e)) (sym found) ∙ by_found e plain it (callback_of n y.in_callbacks) refl))
                (it.called e plain);
            waiting = λ e plain. it.waiting e plain ∙ sym (ended.results g (endpoint_id e));
            plain = passes_without (λ z. is_plain z.request.ep ≡ true) n y.in_callbacks it.plain;
          }
        where
          by_found : (e : ℕ) → is_plain e ≡ true → KeepsName old g y results → (o : Option InCallback) → callback_of n y.in_callbacks ≡ o → is_one_of (endpoint_id e) o ≡ passes_one (is_callback_at e) o
          by_found e plain it None found = refl
          by_found e plain it (Some z) found = (same_by_id z.request.ep e (found_passes (λ v. is_plain v.request.ep ≡ true) n y.in_callbacks z it.plain found) plain)
      by_test false test = record {
        device = is.device ∙ ap (λ v. device_of v g) (sym claims);
        number = is.number ∙ sym (ended.numbers g);
        callback = λ k. is.callback k ∙ sym (ended.callbacks g k ∙ ap (λ (b : Bool). if b && (n == k) then None else callback_at old.callers g k) test);
        called = λ e plain.
            is.called e plain ∙ ended.counts g (endpoint_id e) ∙ ap (λ (b : Bool). callbacks_at new.callers g (endpoint_id e) + (if b && is_one_of (endpoint_id e) (callback_at old.callers h n) then 1 else 0)) test
            ∙ plus_none (callbacks_at new.callers g (endpoint_id e));
        waiting = λ e plain. is.waiting e plain ∙ sym (ended.results g (endpoint_id e));
        plain = is.plain;
      }
        where
          plus_none : (a : ℕ) → a + 0 ≡ a
          plus_none a = omega (arith)

  -- the parts without a callback of a name
  pub keeps_ended : (setup : Setup) (w : World) (old new : State P) (c : Core) (h n : ℕ) → new.claims ≡ old.claims → new.controller ≡ old.controller → new.flights ≡ old.flights → new.outstanding ≡ old.outstanding → Ended old.callers new.callers h n
      → Keeps setup old c → Shows setup w c → Keeps setup new (record c { names = λ g. if h == g then called_back c h n else c.names g })
  keeps_ended setup w old new c h n claims controller flights outstanding ended keeps shows =
      keeps_named setup old new c (λ g. if h == g then called_back c h n else c.names g) c.results keeps claims controller (ap (λ f. f.lines) flights) (ap (λ f. f.keys) flights) outstanding
      (λ g. name_ended old new g h n (c.names g) (c.names h) (pieces_of g c.results) claims ended (once_called setup w c shows h n) (λ same. ap c.names (eqb-true h g same)) (keeps.named g))
      (keeps.ended ∙ ap (λ f. map result_of f.ended) (sym flights)) keeps.ended_plain

  -- the callback ends, where there is one
  pub stops : (old new : State P) (h n : ℕ) (o : Option InCallback) → new.claims ≡ old.claims → new.controller ≡ old.controller → new.flights ≡ old.flights → new.outstanding ≡ old.outstanding → o ≡ callback_at old.callers h n
      → Ended old.callers new.callers h n → DoesCoreStep old (Answer h n Stop) (says h (stop_reply o)) new
  unfolding step_core answer_core
  stops old new h n o claims controller flights outstanding is ended setup w c keeps shows = by_found o (is ∙ sym ((keeps.named h).callback n))
    where
      kept : Keeps setup new (record c { names = λ g. if h == g then called_back c h n else c.names g })
      kept = keeps_ended setup w old new c h n claims controller flights outstanding ended keeps shows

      by_found : (x : Option InCallback) → x ≡ callback_of n (c.names h).in_callbacks → (says h (stop_reply x) ≡ (step_core setup c (Answer h n Stop)).entry) × Keeps setup new (step_core setup c (Answer h n Stop)).core
      by_found None found =
          subst (λ (v : Option InCallback). (says h (stop_reply None) ≡ (answer_core setup c h (Answer h n Stop) Stop v).entry) × Keeps setup new (answer_core setup c h (Answer h n Stop) Stop v).core) found
          (refl, nothing_ends)
        where
          nothing_ends : Keeps setup new c
          nothing_ends = subst (λ (v : Core). Keeps setup new v) (core_as _ _ (record { names = λ g. same g; claims = λ d i. refl; gone = λ d. refl; endpoints = λ d e. refl; orders = refl; events = refl; posted = refl; results = refl })) kept
            where
              same : (g : ℕ) → (if h == g then called_back c h n else c.names g) ≡ c.names g
              same g = by_test (h == g) refl
                where
                  by_test : (b : Bool) → (h == g) ≡ b → (if b then called_back c h n else c.names g) ≡ c.names g
                  by_test true mine = ap (λ (l : List InCallback). record (c.names h) { in_callbacks = l }) (none_ends n (c.names h).in_callbacks (sym found)) ∙ ap c.names (eqb-true h g mine)
                  by_test false mine = refl
      by_found (Some x) found =
          subst (λ (v : Option InCallback). (says h Done ≡ (answer_core setup c h (Answer h n Stop) Stop v).entry) × Keeps setup new (answer_core setup c h (Answer h n Stop) Stop v).core) found
          (refl, subst (λ (k : ℕ). Keeps setup new (record c { names = λ g. if h == g then called_back c h k else c.names g })) (sym (found_number n (c.names h).in_callbacks x (sym found))) kept)
