-- A result goes out to its callback, which ends at once.
use Rattle.std.proofs.Common.{◌≡◌, ℕ, ◌+◌, ◌-◌, Bool, true, false, refl, ap, sym, subst, ◌∙◌, arith, List, [], ◌∷◌, ◌++◌, drop, map, Some, None}
use Rattle.std.specs.Prelude.{count_by, if◌then◌else◌, ◌==◌, ◌&&◌, slice_get}
use Rattle.std.specs.List.{AllByRecursion}
use Rattle.std.proofs.lemmas.Bool.{eqb-true}
use Rattle.std.proofs.lemmas.Option.{same_Some}
use Rattle.usb_model.specs.declared.entry.Entry.{Entry}
use Rattle.usb_model.specs.declared.handle.Handle.{Handle}
use Rattle.usb_model.specs.declared.reply.Reply.TheVariants.{Done}
use Rattle.usb_model.specs.declared.result.InCallback.{InCallback}
use Rattle.usb_model.specs.declared.result.TransferResult.{TransferResult}
use Rattle.usb_model.specs.declared.shared.Tagged.{Tagged}
use Rattle.usb_model.specs.declared.step.Step.{Step}
use Rattle.usb_model.specs.declared.step.Step.TheVariants.{Answer, Take}
use Rattle.usb_model.specs.declared.verdict.Verdict.TheVariants.{Stop}
use Rattle.usb_model.specs.Machine.{is_result_at}
use Rattle.usb_model.specs.Machine.Calls.{callback_of, without}
use Rattle.usb_model.specs.Setup.{endpoint_id}
use Rattle.usb_model.specs.World.Shared.{past_first, pieces_of}
use Rattle.proof_model.proofs.Lists.Pieces.{same_name}
use Rattle.proof_model.proofs.Lists.Times.{count-cons}
use Rattle.usb_tables.specs.Holders.{Holding, device_of}
use Rattle.usb_tables.specs.Tables.{is_plain}
use Rattle.usb_tables.specs.HandleState.{Kept as HandleState}
use Rattle.usb_tables.specs.HandleStates.{SameCallbacks, SameCounts, SameNumbers, is_there, results_at}
use Rattle.usb_tables.specs.declared.transfer.Transfer.{Transfer as InFlight}
use Rattle.usb_tables.specs.TransfersInFlight.{EndedOf}
use Rattle.refine_world.specs.Calls.{answer_core, called_back, step_core}
use Rattle.refine_world.specs.Shows.{Core}
use Rattle.refine_world.specs.Steps.{Stepped, take_core, take_first, with_out}
use Rattle.refine_world.proofs.Numbers.{not_yet_called}
use Rattle.refine_core.specs.Calls.{called_entry, returned_of}
use Rattle.refine_core.specs.Handles.{says}
use Rattle.refine_core.specs.State.{Keeps, KeepsName, State, result_of}
use Rattle.refine_core.specs.Steps.{DoesCoreSteps, core_behind, core_entries}
use Rattle.refine_core.proofs.Amid.{core_as}
use Rattle.refine_core.proofs.Counts.{same_by_id}
use Rattle.refine_core.proofs.Names.{keeps_named}
use Rattle.refine_core.proofs.Takes.{called_of}

-- the last one is found, where none of its number is before
last_found : (xs : List InCallback) (x : InCallback) → callback_of x.n xs ≡ None → callback_of x.n (xs ++ x ∷ []) ≡ Some x
unfolding callback_of
last_found [] x none = ap (λ (b : Bool). if b then Some x else None) (same_name x.n)
last_found (y ∷ ys) x none = by_test (y.n == x.n) none (last_found ys x)
  where
    by_test : (b : Bool) → (if b then Some y else callback_of x.n ys) ≡ None → (callback_of x.n ys ≡ None → callback_of x.n (ys ++ x ∷ []) ≡ Some x) → (if b then Some y else callback_of x.n (ys ++ x ∷ [])) ≡ Some x
    by_test true it rest = absurd cc
    by_test false it rest = rest it

-- and where it ends those before are left
last_ends : (xs : List InCallback) (x : InCallback) → callback_of x.n xs ≡ None → without x.n (xs ++ x ∷ []) ≡ xs
unfolding callback_of without
last_ends [] x none = ap (λ (b : Bool). if b then [] else x ∷ []) (same_name x.n)
last_ends (y ∷ ys) x none = by_test (y.n == x.n) none (last_ends ys x)
  where
    by_test : (b : Bool) → (if b then Some y else callback_of x.n ys) ≡ None → (callback_of x.n ys ≡ None → without x.n (ys ++ x ∷ []) ≡ ys) → (if b then without x.n (ys ++ x ∷ []) else y ∷ without x.n (ys ++ x ∷ [])) ≡ y ∷ ys
    by_test true it rest = absurd cc
    by_test false it rest = ap (λ (l : List InCallback). y ∷ l) (rest it)

-- one less
one_less : (t : Bool) (a before : ℕ) → (if t then 1 else 0) + a ≡ before → a ≡ (if t then before - 1 else before)
one_less true a before is = omega (arith, is)
one_less false a before is = omega (arith, is)

-- a first, and those behind it
first_of : {A : Type 0} (xs : List A) (x : A) → slice_get xs 0 ≡ Some x → xs ≡ x ∷ drop 1 xs
first_of [] x first = absurd cc
first_of (y ∷ ys) x first = ap (λ v. v ∷ ys) (same_Some y x first)

-- what is kept of the callers where one of the results of name h at the endpoint of this id was taken
pub record Drops (old new : List HandleState) (h id : ℕ) : Type 0 where
  pub numbers : SameNumbers old new
  pub callbacks : SameCallbacks old new
  pub counts : SameCounts old new
  pub results : (g k : ℕ) → results_at new g k ≡ (if is_there h id g k then results_at old g k - 1 else results_at old g k)

module _ {P : Type 0} where
  -- a name, where the first result was taken and nothing else changed
  name_dropped : (old new : State P) (g : ℕ) (x : Handle) (t : Tagged TransferResult) (ts : List (Tagged TransferResult)) → new.claims ≡ old.claims → Drops old.callers new.callers t.name (endpoint_id t.piece.request.ep)
      → is_plain t.piece.request.ep ≡ true → KeepsName old g x (pieces_of g (t ∷ ts)) → KeepsName new g x (pieces_of g ts)
  name_dropped old new g x t ts claims drops plain is = record {
    device = is.device ∙ ap (λ (v : Holding). device_of v g) (sym claims);
    number = is.number ∙ sym (drops.numbers g);
    callback = λ n. is.callback n ∙ sym (drops.callbacks g n);
    called = λ e also. is.called e also ∙ sym (drops.counts g (endpoint_id e));
    waiting = λ e also. by_test e also (t.name == g) refl (is.waiting e also);
    plain = is.plain;
  }
    where
      r : TransferResult
      r = t.piece

      rest : List TransferResult
      rest = pieces_of g ts

      by_test : (e : ℕ) → is_plain e ≡ true → (b : Bool) → (t.name == g) ≡ b → count_by (is_result_at e) (if b then r ∷ rest else rest) ≡ results_at old.callers g (endpoint_id e) → count_by (is_result_at e) rest ≡ results_at new.callers g (endpoint_id e)
      by_test e also true test it =
          one_less (endpoint_id r.request.ep == endpoint_id e) (count_by (is_result_at e) rest) (results_at old.callers g (endpoint_id e))
          (ap (λ (b : Bool). (if b then 1 else 0) + count_by (is_result_at e) rest) (same_by_id r.request.ep e plain also) ∙ sym (count-cons (is_result_at e) r rest) ∙ it)
          ∙ sym (drops.results g (endpoint_id e) ∙ ap (λ (b : Bool). if b && (endpoint_id r.request.ep == endpoint_id e) then results_at old.callers g (endpoint_id e) - 1 else results_at old.callers g (endpoint_id e)) test)
      by_test e also false test it =
          it ∙ sym (drops.results g (endpoint_id e) ∙ ap (λ (b : Bool). if b && (endpoint_id r.request.ep == endpoint_id e) then results_at old.callers g (endpoint_id e) - 1 else results_at old.callers g (endpoint_id e)) test)

  -- the oldest one goes out with the bytes that were read, and its callback ends
  pub takes_done : (old new : State P) (x : EndedOf (InFlight P)) → slice_get old.flights.ended 0 ≡ Some x → new.claims ≡ old.claims → new.controller ≡ old.controller → new.flights.lines ≡ old.flights.lines → new.flights.keys ≡ old.flights.keys → new.outstanding ≡ old.outstanding
      → new.flights.ended ≡ drop 1 old.flights.ended → Drops old.callers new.callers x.transfer.name (endpoint_id x.transfer.request.ep)
      → DoesCoreSteps old (Take ∷ Answer x.transfer.name x.transfer.n Stop ∷ []) (called_entry (Some (returned_of (result_of x))) ∷ says x.transfer.name Done ∷ []) new
  unfolding core_entries core_behind step_core take_core take_first answer_core
  takes_done old new x first claims controller lines keys outstanding ended drops setup w c keeps shows =
      subst Both (sym taken) (subst Second (sym answered) (refl, subst (λ (v : Core). Keeps setup new v) same kept))
    where
      t : Tagged TransferResult
      t = result_of x

      ts : List (Tagged TransferResult)
      ts = map result_of (drop 1 old.flights.ended)

      h : ℕ
      h = x.transfer.name

      n : ℕ
      n = x.transfer.n

      answer : Step
      answer = Answer h n Stop

      y : InCallback
      y = called_of t.piece

      told : List Entry
      told = called_entry (Some (returned_of t)) ∷ says h Done ∷ []

      results : c.results ≡ t ∷ ts
      results = keeps.ended ∙ ap (map result_of) (first_of old.flights.ended x first)

      taken : step_core setup c Take ≡ take_first setup c (t ∷ ts)
      taken = ap (take_first setup c) results

      out : Core
      out = (take_first setup c (t ∷ ts)).core

      absent : callback_of n (c.names h).in_callbacks ≡ None
      absent = not_yet_called setup w c shows t ts results

      own : out.names h ≡ with_out (c.names h) t.piece
      own = ap (λ (b : Bool). if b then with_out (c.names h) t.piece else c.names h) (same_name h)

      found : callback_of n (out.names h).in_callbacks ≡ Some y
      found = ap (λ (v : Handle). callback_of n v.in_callbacks) own ∙ last_found (c.names h).in_callbacks y absent

      answered : step_core setup out answer ≡ answer_core setup out h answer Stop (Some y)
      answered = ap (answer_core setup out h answer Stop) found

      back : called_back out h n ≡ c.names h
      back = ap (λ (v : Handle). record v { in_callbacks = without n v.in_callbacks }) own ∙ ap (λ (l : List InCallback). record (c.names h) { in_callbacks = l }) (last_ends (c.names h).in_callbacks y absent)

      Both : Stepped → Type 0
      Both v = (told ≡ v.entry ∷ (step_core setup v.core answer).entry ∷ []) × Keeps setup new (step_core setup v.core answer).core

      Second : Stepped → Type 0
      Second v = (told ≡ (take_first setup c (t ∷ ts)).entry ∷ v.entry ∷ []) × Keeps setup new v.core

      plain : AllByRecursion (λ (z : Tagged TransferResult). is_plain z.piece.request.ep ≡ true) (t ∷ ts)
      plain = subst (AllByRecursion (λ (z : Tagged TransferResult). is_plain z.piece.request.ep ≡ true)) results keeps.ended_plain

      kept : Keeps setup new (record c { names = c.names; results = ts })
      kept = keeps_named setup old new c c.names ts keeps claims controller lines keys outstanding
          (λ g. name_dropped old new g (c.names g) t ts claims drops plain.0 (subst (λ (l : List (Tagged TransferResult)). KeepsName old g (c.names g) (pieces_of g l)) results (keeps.named g)))
          (ap (map result_of) (sym ended)) plain.1

      named : (g : ℕ) → c.names g ≡ (answer_core setup out h answer Stop (Some y)).core.names g
      named g = by_test (h == g) refl
        where
          by_test : (b : Bool) → (h == g) ≡ b → c.names g ≡ (if b then called_back out h n else if b then with_out (c.names h) t.piece else c.names g)
          by_test true mine = sym (back ∙ ap c.names (eqb-true h g mine))
          by_test false mine = refl

      same : record c { names = c.names; results = ts } ≡ (answer_core setup out h answer Stop (Some y)).core
      same = core_as _ _ (record { names = λ g. named g; claims = λ d i. refl; gone = λ d. refl; endpoints = λ d e. refl; orders = refl; events = refl; posted = refl; results = sym (ap (past_first true) results) })
