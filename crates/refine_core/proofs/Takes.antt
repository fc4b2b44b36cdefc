-- The oldest result goes out to its callback.
use Rattle.std.proofs.Common.{◌≡◌, ℕ, ◌+◌, ◌-◌, ◌<◌, Bool, true, false, refl, ap, ap₂, sym, subst, ◌∙◌, arith, List, [], ◌∷◌, ◌++◌, drop, map, Option, Some, None}
use Rattle.std.specs.Prelude.{count_by, if◌then◌else◌, ◌==◌, ◌&&◌, slice_get}
use Rattle.std.specs.List.{AllByRecursion}
use Rattle.std.proofs.lemmas.Bool.{eqb-true}
use Rattle.std.proofs.lemmas.Option.{same_Some}
use Rattle.usb_model.specs.declared.handle.Handle.{Handle}
use Rattle.usb_model.specs.declared.result.InCallback.{InCallback}
use Rattle.usb_model.specs.declared.result.TransferResult.{TransferResult}
use Rattle.usb_model.specs.declared.shared.Tagged.{Tagged}
use Rattle.usb_model.specs.declared.step.Step.TheVariants.{Take}
use Rattle.usb_model.specs.Machine.{is_callback_at, is_result_at}
use Rattle.usb_model.specs.Machine.Calls.{callback_of}
use Rattle.usb_model.specs.Setup.{Setup, endpoint_id}
use Rattle.usb_model.specs.World.Shared.{past_first, pieces_of}
use Rattle.proof_model.proofs.Lists.Pieces.{same_name}
use Rattle.proof_model.proofs.Lists.Times.{count-cons}
use Rattle.usb_tables.specs.Holders.{Holding, device_of}
use Rattle.usb_tables.specs.Tables.{is_plain}
use Rattle.usb_tables.specs.HandleState.{Kept as HandleState}
use Rattle.usb_tables.specs.HandleStates.{SameCallbacks, SameCounts, SameNumbers, SameResults, callback_at, callbacks_at, is_there, results_at}
use Rattle.usb_tables.specs.declared.transfer.Transfer.{Transfer as InFlight}
use Rattle.usb_tables.specs.TransfersInFlight.{EndedOf}
use Rattle.refine_world.specs.Shows.{Core}
use Rattle.refine_world.specs.Steps.{Stepped, idle, take_core, take_first, with_out}
use Rattle.refine_world.specs.Calls.{step_core}
use Rattle.refine_world.proofs.Numbers.{not_yet_called}
use Rattle.refine_core.specs.Calls.{called_entry, returned_of}
use Rattle.refine_core.specs.State.{IsState, Keeps, KeepsName, State, result_of}
use Rattle.refine_core.specs.Steps.{DoesCoreStep}
use Rattle.refine_core.proofs.Counts.{count_append, count_one, same_by_id}
use Rattle.refine_core.proofs.Leaves.{all_more}
use Rattle.refine_core.proofs.Names.{keeps_named}

-- a result in its callback
abbrev pub called_of : TransferResult → InCallback
called_of x = record { n = x.n; request = x.request; round = x.round; status = x.status }

-- what is kept of the callers where a result of name h goes out to its callback
pub record Calls (old new : List HandleState) (h : ℕ) (x : InCallback) : Type 0 where
  pub numbers : SameNumbers old new
  pub callbacks : (g k : ℕ) → callback_at new g k ≡ (if is_there h x.n g k then Some x else callback_at old g k)
  pub counts : (g id : ℕ) → callbacks_at new g id ≡ (if is_there h (endpoint_id x.request.ep) g id then callbacks_at old g id + 1 else callbacks_at old g id)
  pub results : (g id : ℕ) → results_at new g id ≡ (if is_there h (endpoint_id x.request.ep) g id then results_at old g id - 1 else results_at old g id)

-- by these: room is asked for, the result is taken, the callback is put
pub calls_by : (old room taken new : List HandleState) (h : ℕ) (x : InCallback) → SameNumbers old room → SameCallbacks old room → SameResults old room → SameCounts old room
    → ((g id : ℕ) → results_at taken g id ≡ (if is_there h (endpoint_id x.request.ep) g id then results_at room g id - 1 else results_at room g id)) → SameNumbers room taken → SameCallbacks room taken → SameCounts room taken
    → ((g k : ℕ) → callback_at new g k ≡ (if is_there h x.n g k then Some x else callback_at taken g k))
    → ((g id : ℕ) → callbacks_at new g id ≡ (if is_there h (endpoint_id x.request.ep) g id then callbacks_at taken g id + 1 else callbacks_at taken g id)) → SameNumbers taken new → SameResults taken new → Calls old new h x
calls_by old room taken new h x numbers callbacks results counts made_now numbers_now callbacks_now counts_now callbacks_put counts_put numbers_put results_put = record {
  numbers = λ g. numbers_put g ∙ numbers_now g ∙ numbers g;
  callbacks = λ g k. callbacks_put g k ∙ ap (λ (o : Option InCallback). if is_there h x.n g k then Some x else o) (callbacks_now g k ∙ callbacks g k);
  counts = λ g id. counts_put g id ∙ ap (λ (n : ℕ). if is_there h (endpoint_id x.request.ep) g id then n + 1 else n) (counts_now g id ∙ counts g id);
  results = λ g id. results_put g id ∙ made_now g id ∙ ap (λ (n : ℕ). if is_there h (endpoint_id x.request.ep) g id then n - 1 else n) (results g id);
}

-- one more is in its callback, the last
callback_more : (xs : List InCallback) (x : InCallback) (k : ℕ) → callback_of x.n xs ≡ None → callback_of k (xs ++ x ∷ []) ≡ (if x.n == k then Some x else callback_of k xs)
unfolding callback_of
callback_more [] x k none = refl
callback_more (y ∷ ys) x k none = by_first (callback_more ys x k) (y.n == x.n) refl (y.n == k) refl (x.n == k) refl
  where
    by_first : (callback_of x.n ys ≡ None → callback_of k (ys ++ x ∷ []) ≡ (if x.n == k then Some x else callback_of k ys)) → (a : Bool) → (y.n == x.n) ≡ a → (b : Bool) → (y.n == k) ≡ b → (t : Bool) → (x.n == k) ≡ t
        → (if b then Some y else callback_of k (ys ++ x ∷ [])) ≡ (if t then Some x else if b then Some y else callback_of k ys)
    by_first rest true first b at t here =
        let both : Some y ≡ None = sym (ap (λ (v : Bool). if v then Some y else callback_of x.n ys) first) ∙ none in
        absurd cc
    by_first rest false first true at true here =
        let same : y.n ≡ x.n = eqb-true y.n k at ∙ sym (eqb-true x.n k here) in
        let both : false ≡ true = sym first ∙ ap (λ (n : ℕ). n == x.n) same ∙ same_name x.n in
        absurd cc
    by_first rest false first true at false here = refl
    by_first rest false first false at t here =
        rest (sym (ap (λ (v : Bool). if v then Some y else callback_of x.n ys) first) ∙ none) ∙ ap (λ (v : Bool). if v then Some x else callback_of k ys) here

-- one more of those counted, where the test holds
added : (t : Bool) (a before : ℕ) → a ≡ before → a + (if t then 1 else 0) ≡ (if t then before + 1 else before)
added true a before is = omega (arith, is)
added false a before is = omega (arith, is)

-- one less
removed : (t : Bool) (a before : ℕ) → (if t then 1 else 0) + a ≡ before → a ≡ (if t then before - 1 else before)
removed true a before is = omega (arith, is)
removed false a before is = omega (arith, is)

-- a list without a first has none
no_first : {A : Type 0} (xs : List A) → slice_get xs 0 ≡ None → xs ≡ []
no_first [] none = refl
no_first (x ∷ xs) none = absurd cc

-- a first, and those behind it
first_and_rest : {A : Type 0} (xs : List A) (x : A) → slice_get xs 0 ≡ Some x → xs ≡ x ∷ drop 1 xs
first_and_rest [] x first = absurd cc
first_and_rest (y ∷ ys) x first = ap (λ v. v ∷ ys) (same_Some y x first)

module _ {P : Type 0} where
  -- a name, where the first result is taken
  name_taken : (old new : State P) (g : ℕ) (x y : Handle) (t : Tagged TransferResult) (ts : List (Tagged TransferResult)) → new.claims ≡ old.claims → Calls old.callers new.callers t.name (called_of t.piece)
      → is_plain t.piece.request.ep ≡ true → callback_of t.piece.n y.in_callbacks ≡ None → ((t.name == g) ≡ true → y ≡ x)
      → KeepsName old g x (pieces_of g (t ∷ ts)) → KeepsName new g (if t.name == g then with_out y t.piece else x) (pieces_of g ts)
  name_taken old new g x y t ts claims calls plain absent own is = by_test (t.name == g) refl is
    where
      r : TransferResult
      r = t.piece

      ep : ℕ
      ep = r.request.ep

      rest : List TransferResult
      rest = pieces_of g ts

      by_test : (b : Bool) → (t.name == g) ≡ b → KeepsName old g x (if b then r ∷ rest else rest) → KeepsName new g (if b then with_out y r else x) rest
      by_test true test it =
          let same : y ≡ x = own test in
          record {
            device = ap (λ (v : Handle). v.device) same ∙ it.device ∙ ap (λ (v : Holding). device_of v g) (sym claims);
            number = ap (λ (v : Handle). v.next_number) same ∙ it.number ∙ sym (calls.numbers g);
            callback = λ n.
                callback_more y.in_callbacks (called_of r) n absent
                ∙ ap (λ (o : Option InCallback). if r.n == n then Some (called_of r) else o) (ap (λ (v : Handle). callback_of n v.in_callbacks) same ∙ it.callback n)
                ∙ sym (calls.callbacks g n ∙ ap (λ (b : Bool). if b && (r.n == n) then Some (called_of r) else callback_at old.callers g n) test);
            called = λ e also.
                count_append (is_callback_at e) y.in_callbacks (called_of r ∷ [])
                ∙ ap (λ (n : ℕ). count_by (is_callback_at e) y.in_callbacks + n) (count_one (is_callback_at e) (called_of r) ∙ ap (λ (b : Bool). if b then 1 else 0) (sym (same_by_id ep e plain also)))
                ∙ added (endpoint_id ep == endpoint_id e) (count_by (is_callback_at e) y.in_callbacks) (callbacks_at old.callers g (endpoint_id e)) (ap (λ (v : Handle). count_by (is_callback_at e) v.in_callbacks) same ∙ it.called e also)
                ∙ sym (calls.counts g (endpoint_id e) ∙ ap (λ (b : Bool). if b && (endpoint_id ep == endpoint_id e) then callbacks_at old.callers g (endpoint_id e) + 1 else callbacks_at old.callers g (endpoint_id e)) test);
            waiting = λ e also.
                removed (endpoint_id ep == endpoint_id e) (count_by (is_result_at e) rest) (results_at old.callers g (endpoint_id e))
                (ap (λ (b : Bool). (if b then 1 else 0) + count_by (is_result_at e) rest) (same_by_id ep e plain also) ∙ sym (count-cons (is_result_at e) r rest) ∙ it.waiting e also)
                ∙ sym (calls.results g (endpoint_id e) ∙ ap (λ (b : Bool). if b && (endpoint_id ep == endpoint_id e) then results_at old.callers g (endpoint_id e) - 1 else results_at old.callers g (endpoint_id e)) test);
            plain = all_more (λ z. is_plain z.request.ep ≡ true) y.in_callbacks (called_of r) (subst (λ (v : Handle). AllByRecursion (λ z. is_plain z.request.ep ≡ true) v.in_callbacks) (sym same) it.plain) plain;
          }
      by_test false test it = record {
        device = it.device ∙ ap (λ (v : Holding). device_of v g) (sym claims);
        number = it.number ∙ sym (calls.numbers g);
        callback = λ n. it.callback n ∙ sym (calls.callbacks g n ∙ ap (λ (b : Bool). if b && (r.n == n) then Some (called_of r) else callback_at old.callers g n) test);
        called = λ e also. it.called e also
            ∙ sym (calls.counts g (endpoint_id e) ∙ ap (λ (b : Bool). if b && (endpoint_id ep == endpoint_id e) then callbacks_at old.callers g (endpoint_id e) + 1 else callbacks_at old.callers g (endpoint_id e)) test);
        waiting = λ e also. it.waiting e also
            ∙ sym (calls.results g (endpoint_id e) ∙ ap (λ (b : Bool). if b && (endpoint_id ep == endpoint_id e) then results_at old.callers g (endpoint_id e) - 1 else results_at old.callers g (endpoint_id e)) test);
        plain = it.plain;
      }

  -- no result waits
  pub takes_none : (s : State P) → slice_get s.flights.ended 0 ≡ None → DoesCoreStep s Take (called_entry None) s
  unfolding step_core take_core take_first
  takes_none s none setup w c keeps shows =
      let no_results : c.results ≡ [] = keeps.ended ∙ ap (map result_of) (no_first s.flights.ended none) in
      let stepped : step_core setup c Take ≡ idle c = ap (take_first setup c) no_results in
      (ap (λ (t : Stepped). t.entry) (sym stepped), subst (λ (t : Stepped). Keeps setup s t.core) (sym stepped) keeps)

  -- the results of a core, where this transfer ended first
  results_are : (setup : Setup) (s : State P) (c : Core) (x : EndedOf (InFlight P)) → Keeps setup s c → slice_get s.flights.ended 0 ≡ Some x → c.results ≡ result_of x ∷ map result_of (drop 1 s.flights.ended)
  results_are setup s c x keeps first = keeps.ended ∙ ap (map result_of) (first_and_rest s.flights.ended x first)

  -- its result waits, and its callback isn't called yet
  pub can_take : (s : State P) (x : EndedOf (InFlight P)) → IsState s → slice_get s.flights.ended 0 ≡ Some x
      → (0 < results_at s.callers x.transfer.name (endpoint_id x.transfer.request.ep)) × (callback_at s.callers x.transfer.name x.transfer.n ≡ None)
  can_take s x is first =
      let setup = is.0 in
      let c : Core = is.2.0 in
      let keeps = is.2.1 in
      let h : ℕ = x.transfer.name in
      let e : ℕ = x.transfer.request.ep in
      let results : c.results ≡ result_of x ∷ map result_of (drop 1 s.flights.ended) = results_are setup s c x keeps first in
      let plain = subst (AllByRecursion (λ (y : Tagged TransferResult). is_plain y.piece.request.ep ≡ true)) results keeps.ended_plain in
      let rest : List TransferResult = pieces_of h (map result_of (drop 1 s.flights.ended)) in
      let pieces : pieces_of h c.results ≡ (result_of x).piece ∷ rest = ap (pieces_of h) results ∙ ap (λ (b : Bool). if b then (result_of x).piece ∷ rest else rest) (same_name h) in
      let count : count_by (is_result_at e) (pieces_of h c.results) ≡ 1 + count_by (is_result_at e) rest =
      ap (count_by (is_result_at e)) pieces ∙ count-cons (is_result_at e) (result_of x).piece rest ∙ ap (λ (b : Bool). (if b then 1 else 0) + count_by (is_result_at e) rest) (same_name e) in
      (omega (arith, count, (keeps.named h).waiting e plain.0), sym ((keeps.named h).callback x.transfer.n) ∙ not_yet_called setup is.1 c is.2.2 (result_of x) (map result_of (drop 1 s.flights.ended)) results)

  -- the oldest one goes out, with the bytes that were read
  pub takes_first : (old new : State P) (x : EndedOf (InFlight P)) (h : ℕ) (bytes : List ℕ) → slice_get old.flights.ended 0 ≡ Some x → h ≡ x.transfer.name → bytes ≡ x.transfer.bytes.items → new.claims ≡ old.claims → new.controller ≡ old.controller → new.flights.lines ≡ old.flights.lines → new.flights.keys ≡ old.flights.keys → new.outstanding ≡ old.outstanding
      → new.flights.ended ≡ drop 1 old.flights.ended → Calls old.callers new.callers h (called_of (result_of x).piece)
      → DoesCoreStep old Take (called_entry (Some (record (returned_of (result_of x)) { h = h; bytes = bytes }))) new
  unfolding step_core take_core take_first
  takes_first old new x h bytes first whose read claims controller lines keys outstanding ended calls setup w c keeps shows = (
    ap₂ (λ (n : ℕ) (b : List ℕ). called_entry (Some (record (returned_of t) { h = n; bytes = b }))) whose read ∙ ap (λ (v : Stepped). v.entry) (sym stepped),
    subst (λ (t : Stepped). Keeps setup new t.core) (sym stepped) (subst (λ (l : List (Tagged TransferResult)). Keeps setup new (record c { names = names; results = l })) (sym (ap (past_first true) results)) kept),
  )
    where
      t : Tagged TransferResult
      t = result_of x

      ts : List (Tagged TransferResult)
      ts = map result_of (drop 1 old.flights.ended)

      results : c.results ≡ t ∷ ts
      results = results_are setup old c x keeps first

      stepped : step_core setup c Take ≡ take_first setup c (t ∷ ts)
      stepped = ap (take_first setup c) results

      names : ℕ → Handle
      names = λ g. if t.name == g then with_out (c.names t.name) t.piece else c.names g

      plain : AllByRecursion (λ (y : Tagged TransferResult). is_plain y.piece.request.ep ≡ true) (t ∷ ts)
      plain = subst (AllByRecursion (λ (y : Tagged TransferResult). is_plain y.piece.request.ep ≡ true)) results keeps.ended_plain

      named : (g : ℕ) → KeepsName new g (names g) (pieces_of g ts)
      named g = name_taken old new g (c.names g) (c.names t.name) t ts claims (subst (λ (n : ℕ). Calls old.callers new.callers n (called_of t.piece)) whose calls) plain.0 (not_yet_called setup w c shows t ts results) (λ same. ap c.names (eqb-true t.name g same))
          (subst (λ (l : List (Tagged TransferResult)). KeepsName old g (c.names g) (pieces_of g l)) results (keeps.named g))

      kept : Keeps setup new (record c { names = names; results = ts })
      kept = keeps_named setup old new c names ts keeps claims controller lines keys outstanding named (ap (map result_of) (sym ended)) plain.1
