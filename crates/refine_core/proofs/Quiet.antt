-- Endpoints where nothing is under way.
use Rattle.std.proofs.Common.{◌≡◌, ℕ, Bool, true, false, refl, ap, ap₂, sym, ◌∙◌, arith, List, [], ◌∷◌, length, Option, Some, None, eq-eqb}
use Rattle.std.specs.Prelude.{◌≤◌, ◌+◌, slice_get, slice_index_or, ◌<◌, ◌==◌, ◌&&◌, ◌||◌, not, is_none, count_by, cond, if◌then◌else◌}
use Rattle.std.specs.List.{find, list_all, list_any}
use Rattle.std.specs.Option.{option_and_then, option_map, option_map_or, unwrap_or}
use Rattle.std.proofs.lemmas.List.Folds.{list_all_at, list_all_more, sum_by-zero}
use Rattle.std.proofs.lemmas.Bool.{and_parts, eqb-true}
use Rattle.usb_model.specs.declared.setup.EndpointInfo.{EndpointInfo}
use Rattle.usb_model.specs.Machine.{is_callback_at, is_result_at}
use Rattle.usb_model.specs.Setup.{Setup, endpoint_id, endpoints_of, info_of, interface_of}
use Rattle.usb_model.specs.World.{holder, is_its}
use Rattle.usb_model.specs.World.Shared.{pieces_of}
use Rattle.usb_model.specs.Kept.{KeptEndpoint, KeptTransfer, SentErrand}
use Rattle.usb_tables.specs.Tables.{is_plain}
use Rattle.usb_tables.specs.declared.outstanding.Sent.{Sent}
use Rattle.usb_tables.specs.Outstanding.{sent_at}
use Rattle.usb_tables.specs.TransfersInFlight.{line_at}
use Rattle.usb_tables.specs.HandleStates.{callbacks_at, results_at}
use Rattle.refine_world.specs.Shows.{Core}
use Rattle.refine_world.specs.Calls.{are_quiet, is_quiet, kept_at, own_kept, results_of}
use Rattle.refine_core.specs.Handles.{AreQuiet, FirstQuiet, IsLeft, IsQuiet, is_among, quiet_in, rests_at}
use Rattle.refine_core.specs.State.{Keeps, KeepsEnd, KeepsName, State, in_ring}
use Rattle.refine_core.specs.Works.{IsAt, IsHolder}
use Rattle.usb_model.specs.declared.setup.Configuration.{Configuration}
use Rattle.refine_core.proofs.Gone.{endpoints_are}
use Rattle.refine_core.proofs.Held.{holder_is, is_at}
use Rattle.std.proofs.lemmas.List.{take_all}
use Rattle.refine_core.proofs.Lines.{as_many}
use Rattle.refine_core.proofs.Transfers.{end_at}

-- none of a list passes just where as many as none do
none_of : {X : Type 0} (p : X → Bool) (xs : List X) → list_all (λ x. cond (p x) 1 0 == 0) xs ≡ not (list_any p xs)
none_of p [] = refl
none_of p (x ∷ xs) = by_test (p x) (none_of p xs)
  where
    by_test : (b : Bool) → list_all (λ y. cond (p y) 1 0 == 0) xs ≡ not (list_any p xs) → ((cond b 1 0 == 0) && list_all (λ y. cond (p y) 1 0 == 0) xs) ≡ not (b || list_any p xs)
    by_test true rest = refl
    by_test false rest = rest

none_counted : {X : Type 0} (p : X → Bool) (xs : List X) → (count_by p xs == 0) ≡ not (list_any p xs)
none_counted p xs = sum_by-zero (λ x. cond (p x) 1 0) xs ∙ none_of p xs

-- an endpoint that the name holds is its own
own_is : (setup : Setup) (c : Core) (h d e : ℕ) → holder setup c.claims d e ≡ Some h → own_kept setup c h d e ≡ Some (c.endpoints d e)
own_is setup c h d e holds = ap (λ (b : Bool). if b then Some (c.endpoints d e) else None) (ap (is_its h) holds ∙ eq-eqb h h refl)

module _ {P : Type 0} where
  -- an endpoint of the name is quiet where its tables say so
  quiet_at : (setup : Setup) (s : State P) (c : Core) (h d e : ℕ) → IsAt setup s c h d e → rests_at s h d e ≡ is_quiet c h e (Some (c.endpoints d e))
  quiet_at setup s c h d e at =
      ap₂ (λ (a b : Bool). (length (line_at s.flights d e) == 0) && (a && b)) errands (ap₂ (λ (a b : Bool). a && b) waiting called)
      ∙ ap (λ (n : ℕ). (n == 0) && (is_none (c.endpoints d e).errand && (not (list_any (is_result_at e) (results_of c h)) && not (list_any (is_callback_at e) (c.names h).in_callbacks)))) lines
    where
      end : KeepsEnd s (Some h) d e (c.endpoints d e)
      end = end_at setup s c h d e at

      name : KeepsName s h (c.names h) (pieces_of h c.results)
      name = at.keeps.named h

      plain : is_plain e ≡ true
      plain = at.keeps.plain d e at.interface at.there

      lines : length (line_at s.flights d e) ≡ length (c.endpoints d e).line
      lines = as_many (Some h) e (line_at s.flights d e) (c.endpoints d e).line end.line

      none_mapped : (o : Option SentErrand) → is_none (option_map in_ring o) ≡ is_none o
      none_mapped None = refl
      none_mapped (Some x) = refl

      errands : is_none (sent_at s.outstanding d e) ≡ is_none (c.endpoints d e).errand
      errands = ap (λ (o : Option Sent). is_none o) end.errand ∙ none_mapped (c.endpoints d e).errand

      waiting : (results_at s.callers h (endpoint_id e) == 0) ≡ not (list_any (is_result_at e) (results_of c h))
      waiting = ap (λ (n : ℕ). n == 0) (sym (name.waiting e plain)) ∙ none_counted (is_result_at e) (results_of c h)

      called : (callbacks_at s.callers h (endpoint_id e) == 0) ≡ not (list_any (is_callback_at e) (c.names h).in_callbacks)
      called = ap (λ (n : ℕ). n == 0) (sym (name.called e plain)) ∙ none_counted (is_callback_at e) (c.names h).in_callbacks

  -- one that isn't the name's is nobody's matter
  pub quiet_others : (s : State P) (h d e : ℕ) (o : Option ℕ) → IsHolder s d e o → is_its h o ≡ false → IsQuiet s h d e true
  quiet_others s h d e o held other setup c keeps =
      ap (λ (b : Bool). is_quiet c h e (if b then Some (c.endpoints d e) else None)) (sym (ap (is_its h) (holder_is setup s c d e o keeps held) ∙ other))

  -- one that is, by the tables
  pub quiet_own : (s : State P) (h d e : ℕ) (o : Option ℕ) (b : Bool) → IsHolder s d e o → is_its h o ≡ true → b ≡ rests_at s h d e → IsQuiet s h d e b
  quiet_own s h d e o b held its is setup c keeps =
      let mine : o ≡ Some h = its_some o its in
      let at : IsAt setup s c h d e = is_at setup s c h d e keeps (λ u set. sym mine ∙ held u set) in
      is ∙ quiet_at setup s c h d e at ∙ ap (is_quiet c h e) (sym (own_is setup c h d e at.holds))
    where
      its_some : (x : Option ℕ) → is_its h x ≡ true → x ≡ Some h
      its_some None test = absurd cc
      its_some (Some g) test = ap (λ (n : ℕ). Some n) (eqb-true g h test)

-- the first that passes is one of all
first_of : {X : Type 0} (p q : X → Bool) (xs : List X) (x : X) → list_all p xs ≡ true → find q xs ≡ Some x → (p x ≡ true) × (q x ≡ true)
first_of p q [] x all found = absurd cc
first_of p q (y ∷ ys) x all found = by_test (q y) refl (and_parts (p y) (list_all p ys) all) found (λ rest later. first_of p q ys x rest later)
  where
    by_test : (b : Bool) → q y ≡ b → (p y ≡ true) × (list_all p ys ≡ true) → (if b then Some y else find q ys) ≡ Some x → (list_all p ys ≡ true → find q ys ≡ Some x → (p x ≡ true) × (q x ≡ true)) → (p x ≡ true) × (q x ≡ true)
    by_test true is both here later =
        let same : y ≡ x = cc in
        (ap p (sym same) ∙ both.0, ap q (sym same) ∙ is)
    by_test false is both here later = later both.1 here

-- nothing is left at an endpoint that is quiet
quiet_left : (c : Core) (h e : ℕ) (b : KeptEndpoint) → is_quiet c h e (Some b) ≡ true → IsLeft b
quiet_left c h e b quiet =
    let both = and_parts _ _ quiet in
    record { line = no_line b.line both.0; errand = no_errand b.errand (and_parts _ _ both.1).0 }
  where
    no_line : (ys : List KeptTransfer) → (length ys == 0) ≡ true → ys ≡ []
    no_line [] is = refl
    no_line (y ∷ ys) is =
        let none : length (y ∷ ys) ≡ 0 = eqb-true (length (y ∷ ys)) 0 is in
        absurd (omega (arith, none))

    no_errand : (o : Option SentErrand) → is_none o ≡ true → o ≡ None
    no_errand None is = refl
    no_errand (Some x) is = absurd cc

-- where those of an interface, or all, are quiet nothing is left at any of them
pub all_left : (setup : Setup) (c : Core) (h d e i : ℕ) (among : Option ℕ) → are_quiet setup c h (λ x. is_among among x) ≡ true → (c.names h).device ≡ Some d → holder setup c.claims d e ≡ Some h → interface_of setup d e ≡ Some i
    → ((k : ℕ) → among ≡ Some k → i ≡ k) → IsLeft (c.endpoints d e)
unfolding info_of
all_left setup c h d e i among quiet device holds there one = by_info (find (λ x. x.address == e) (endpoints_of setup d)) refl there
  where
    all : list_all (λ x. not (is_among among x) || is_quiet c h x.address (kept_at setup c h x.address)) (endpoints_of setup d) ≡ true
    all = ap (λ (o : Option ℕ). list_all (λ x. not (is_among among x) || is_quiet c h x.address (kept_at setup c h x.address)) (endpoints_of setup (unwrap_or o 0))) (sym device) ∙ quiet

    asked : (o : Option ℕ) → among ≡ o → (x : EndpointInfo) → x.interface ≡ i → is_among o x ≡ true
    asked None is x same = refl
    asked (Some k) is x same = eq-eqb x.interface k (same ∙ one k is)

    by_info : (o : Option EndpointInfo) → find (λ x. x.address == e) (endpoints_of setup d) ≡ o → option_map (λ x. x.interface) o ≡ Some i → IsLeft (c.endpoints d e)
    by_info None is of = absurd cc
    by_info (Some x) is of =
        let first = first_of (λ y. not (is_among among y) || is_quiet c h y.address (kept_at setup c h y.address)) (λ y. y.address == e) (endpoints_of setup d) x all is in
        let interface : x.interface ≡ i = cc in
        let address : x.address ≡ e = eqb-true x.address e first.1 in
        let mine : kept_at setup c h e ≡ Some (c.endpoints d e) = ap (λ (o : Option ℕ). option_and_then (λ dev. own_kept setup c h dev e) o) device ∙ own_is setup c h d e holds in
        quiet_left c h e (c.endpoints d e)
        (ap (is_quiet c h e) (sym mine) ∙ ap (λ (n : ℕ). is_quiet c h n (kept_at setup c h n)) (sym address)
        ∙ ap (λ (b : Bool). not b || is_quiet c h x.address (kept_at setup c h x.address)) (sym (asked among refl x interface)) ∙ first.0)

module _ {P : Type 0} where
  -- one more of the list is quiet, or isn't asked
  pub quiet_more : (s : State P) (h d : ℕ) (among : Option ℕ) (xs : List EndpointInfo) (k : ℕ) (x : EndpointInfo) → k < length xs → x ≡ slice_index_or xs k x → (is_among among x ≡ true → IsQuiet s h d x.address true)
      → FirstQuiet s h d among xs k → FirstQuiet s h d among xs (k + 1)
  quiet_more s h d among xs k x within here quiet first setup c keeps =
      list_all_more (quiet_in setup c h d among) xs k x within ∙ ap₂ (λ (a b : Bool). a && b) (first setup c keeps) (ap (quiet_in setup c h d among) (sym here) ∙ by_among (is_among among x) refl)
    where
      by_among : (b : Bool) → is_among among x ≡ b → quiet_in setup c h d among x ≡ true
      by_among false is = ap (λ (t : Bool). not t || is_quiet c h x.address (own_kept setup c h d x.address)) is
      by_among true is = ap (λ (t : Bool). not t || is_quiet c h x.address (own_kept setup c h d x.address)) is ∙ sym (quiet is setup c keeps)

  -- the test of the core is that of the list
  tests_are : (setup : Setup) (s : State P) (c : Core) (h d : ℕ) (among : Option ℕ) (config : Configuration) → Keeps setup s c → (c.names h).device ≡ Some d → slice_get s.claims.configs d ≡ Some config
      → are_quiet setup c h (λ x. is_among among x) ≡ list_all (quiet_in setup c h d among) config.endpoints
  tests_are setup s c h d among config keeps device there =
      ap (λ (o : Option ℕ). list_all (λ x. not (is_among among x) || is_quiet c h x.address (option_and_then (λ dev. own_kept setup c h dev x.address) o)) (endpoints_of setup (unwrap_or o 0))) device
      ∙ ap (list_all (quiet_in setup c h d among)) (sym (endpoints_are s.claims setup d keeps.set) ∙ ap (λ (o : Option Configuration). option_map_or (λ (x : Configuration). x.endpoints) o []) there)

  -- all of them are quiet
  pub quiet_all : (s : State P) (h d : ℕ) (among : Option ℕ) (config : Configuration) (xs : List EndpointInfo) (k : ℕ) → slice_get s.claims.configs d ≡ Some config → xs ≡ config.endpoints → length xs ≤ k
      → FirstQuiet s h d among xs k → AreQuiet s h d among true
  quiet_all s h d among config xs k there same past first setup c keeps device =
      sym (tests_are setup s c h d among config keeps device there ∙ ap (list_all (quiet_in setup c h d among)) (sym same)
      ∙ ap (list_all (quiet_in setup c h d among)) (sym (take_all k xs past)) ∙ first setup c keeps)

  -- one isn't
  pub quiet_not : (s : State P) (h d : ℕ) (among : Option ℕ) (config : Configuration) (xs : List EndpointInfo) (k : ℕ) (x : EndpointInfo) → slice_get s.claims.configs d ≡ Some config → xs ≡ config.endpoints → k < length xs → x ≡ slice_index_or xs k x
      → is_among among x ≡ true → IsQuiet s h d x.address false → AreQuiet s h d among false
  quiet_not s h d among config xs k x there same within here asked busy setup c keeps device =
      sym (tests_are setup s c h d among config keeps device there ∙ ap (list_all (quiet_in setup c h d among)) (sym same)
      ∙ list_all_at (quiet_in setup c h d among) xs k x within (ap (quiet_in setup c h d among) (sym here) ∙ ap (λ (t : Bool). not t || is_quiet c h x.address (own_kept setup c h d x.address)) asked ∙ sym (busy setup c keeps)))
