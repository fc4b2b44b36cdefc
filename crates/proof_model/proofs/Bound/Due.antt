-- An asked transfer ends within a bounded number of commands and deliveries of its endpoint.
use Rattle.std.proofs.Common.{Bool, List, None, Option, Some, [], ap, append-nil, ap₂, arith, false, inl, inr, length, length-append, map, not, refl, suc, sym, true, ℕ, ◌&&◌, ◌++◌, ◌+◌, ◌-◌, ◌==◌, ◌∙◌, ◌∷◌, ◌≡◌, ◌≤◌, ◌⊎◌}
use Rattle.std.specs.Prelude.{if◌then◌else◌, is_some}
use Rattle.std.proofs.lemmas.Bool.{false≢true, or_parts}
use Rattle.usb_model.specs.declared.errand.Errand.TheVariants as errand
use Rattle.usb_model.specs.declared.errand.Errand.{Errand}
use Rattle.usb_model.specs.declared.endpoint.Endpoint.{Endpoint}
use Rattle.usb_model.specs.declared.endpoint.EndpointState.{EndpointState}
use Rattle.usb_model.specs.declared.item.Item.{Item}
use Rattle.usb_model.specs.declared.item.ItemState.TheVariants.{Blank, Served, Waiting}
use Rattle.usb_model.specs.declared.item.ItemState.{ItemState}
use Rattle.usb_model.specs.declared.news.Event.TheVariants.{Finished, Paused, Settled}
use Rattle.usb_model.specs.declared.news.Event.{Event}
use Rattle.usb_model.specs.Endpoint.Command.{command, pause_of}
use Rattle.usb_model.specs.Endpoint.Deliver.{blanked, is_withdrawn}
use Rattle.usb_model.specs.declared.endpoint_effect.EndpointEffect.{EndpointEffect}
use Rattle.usb_model.specs.Endpoint.{first_waiting, in_progress, is_blank, is_blank_state, is_transfer, is_waiting, is_waiting_state, outcome_of, past_blanks, past_number}
use Rattle.proof_model.proofs.Coherence.Commands.{coherent_command, in_phase}
use Rattle.proof_model.proofs.Coherence.Doings.{line-command}
use Rattle.usb_model.specs.Coherence.{IsCoherent, IsPhase, ServedFirst, ended, event_by, first_by, has_asked, move_ran, move_waits, reset_ran, reset_waits, runs, served_events, stop_failed, stop_ran, stop_ran_paused, stop_waits, stop_waits_halted}
use Rattle.proof_model.proofs.Lists.Pieces.{same_name}

-- how many that are no blanks stand before the number
unfoldable pub ahead_of : ℕ → List Item → ℕ
ahead_of n [] = 0
ahead_of n (x ∷ xs) = if is_transfer n x then 0 else (if is_blank x then ahead_of n xs else suc (ahead_of n xs))

-- whether a failed Stop is told
abbrev pub is_failure : Event → Bool
is_failure (Settled errand.Stop false) = true
is_failure _ = false

-- how many failed Stops are told
abbrev pub failures : List Event → ℕ
failures [] = 0
failures (x ∷ xs) = (if is_failure x then 1 else 0) + failures xs

-- the commands that are left, at most, to an asked item that waits
abbrev pub commands_left : Option Errand → List Errand → List Event → ℕ
commands_left None os ns = 0
commands_left (Some errand.Stop) [] ns = failures ns
commands_left (Some errand.Stop) (o ∷ os) ns = 2
commands_left (Some errand.Reset) os ns = length os
commands_left (Some errand.Move) os ns = length os

-- and the deliveries, where b stand before it
abbrev pub delivers_left : Option Errand → List Errand → List Event → ℕ → ℕ
delivers_left None os ns b = 0
delivers_left (Some errand.Stop) [] ns b = length ns + failures ns
delivers_left (Some errand.Stop) (o ∷ os) ns b = b + 2
delivers_left (Some errand.Reset) os ns b = 1
delivers_left (Some errand.Move) os ns b = 1

-- what is left to an item: one that is served, or one that waits
abbrev pub IsLeft : Item → Option Errand → List Errand → List Event → ℕ → ℕ → ℕ → Type 0
IsLeft item er os ns b commands delivers =
    ((is_waiting item ≡ false) × (er ≡ Some errand.Stop) × (length os ≤ commands) × (b + 1 ≤ delivers))
    ⊎ ((is_waiting item ≡ true) × (commands_left er os ns ≤ commands) × (delivers_left er os ns b ≤ delivers))

-- an asked transfer in progress, with what is left to it
pub record IsDue (n commands delivers : ℕ) (e : Endpoint) (os : List Errand) (ns : List Event) : Type 0 where
  pub coherent : IsCoherent e os ns
  pub item : Item
  pub here : in_progress n e.line ≡ Some item
  pub asked : is_some item.ask ≡ true
  pub bound : IsLeft item e.errand os ns (ahead_of n e.line) commands delivers

-- what is left to it after a piece of work
abbrev pub LeavesDue : ℕ → ℕ → ℕ → EndpointEffect → List Errand → List Event → Type 0
LeavesDue n c d doing os ns = IsDue n c d doing.endpoint (os ++ doing.orders) (ns ++ doing.news)

-- what is served stands before what waits
pub served_before : (n : ℕ) (line : List Item) (i : Item) → ServedFirst line → in_progress n line ≡ Some i → is_waiting i ≡ true → length (served_events line) ≤ ahead_of n line
unfolding in_progress ahead_of served_events
served_before n [] i f e w = absurd cc
served_before n (x ∷ xs) i f e w = by_state x.state refl f e (served_before n xs i)
  where
    by_state : (s : ItemState) → x.state ≡ s → first_by s xs (ServedFirst xs) → (if (x.n == n) && not (is_blank_state s) then Some x else in_progress n xs) ≡ Some i
        → (ServedFirst xs → in_progress n xs ≡ Some i → is_waiting i ≡ true → length (served_events xs) ≤ ahead_of n xs)
        → length (event_by x.n s (served_events xs)) ≤ (if (x.n == n) && not (is_blank_state s) then 0 else (if is_blank_state s then ahead_of n xs else suc (ahead_of n xs)))
    by_state Waiting is f e rest = rw f (omega arith)
    by_state (Served code) is f e rest = by_test (x.n == n) e
      where
        by_test : (b : Bool) → (if b && true then Some x else in_progress n xs) ≡ Some i → suc (length (served_events xs)) ≤ (if b && true then 0 else suc (ahead_of n xs))
        by_test true q = let same : x ≡ i = cc in let no_wait : is_waiting x ≡ false = ap is_waiting_state is in absurd (cc (ap is_waiting same))
        by_test false q = omega (arith, rest f q w)
    by_state Blank is f e rest = by_test (x.n == n) e
      where
        by_test : (b : Bool) → (if b && false then Some x else in_progress n xs) ≡ Some i → length (served_events xs) ≤ (if b && false then 0 else ahead_of n xs)
        by_test true q = rest f q w
        by_test false q = rest f q w

-- after a withdrawal no asked item waits in progress
pub withdrawn_gone : (n : ℕ) (line : List Item) (i : Item) → in_progress n (map blanked line) ≡ Some i → is_waiting i ≡ true → is_some i.ask ≡ true → ⊥
unfolding in_progress
withdrawn_gone n [] i e w a = cc
withdrawn_gone n (x ∷ xs) i e w a = by_test (is_transfer n (blanked x)) e (withdrawn_gone n xs i)
  where
    never : (b : Bool) → is_withdrawn x ≡ b → is_waiting (if b then record x { state = Blank } else x) ≡ true → is_some (if b then record x { state = Blank } else x).ask ≡ true → ⊥
    never true q w a = cc
    never false q w a = cc

    by_test : (b : Bool) → (if b then Some (blanked x) else in_progress n (map blanked xs)) ≡ Some i → (in_progress n (map blanked xs) ≡ Some i → is_waiting i ≡ true → is_some i.ask ≡ true → ⊥) → ⊥
    by_test true e rest = let same : blanked x ≡ i = cc in never (is_withdrawn x) refl (ap is_waiting same ∙ w) (ap (λ k. is_some k.ask) same ∙ a)
    by_test false e rest = rest e w a

-- the first end that is told is of an item before one that waits, or that has another number: one fewer stands before that
pub ahead_of-past_number : (n k code : ℕ) (line : List Item) (i : Item) (es : List Event) → ServedFirst line → served_events line ≡ Finished k code ∷ es → in_progress n line ≡ Some i → ((k == n) ≡ true → is_waiting i ≡ true)
    → (in_progress n (past_number k line) ≡ Some i) × (ahead_of n (past_number k line) + 1 ≡ ahead_of n line)
unfolding in_progress ahead_of past_number served_events
ahead_of-past_number n k code [] i es f t e w = absurd cc
ahead_of-past_number n k code (x ∷ xs) i es f t e w = by_state x.state refl f t e (ahead_of-past_number n k code xs i es)
  where
    by_state : (s : ItemState) → x.state ≡ s → first_by s xs (ServedFirst xs) → event_by x.n s (served_events xs) ≡ Finished k code ∷ es → (if (x.n == n) && not (is_blank_state s) then Some x else in_progress n xs) ≡ Some i
        → (ServedFirst xs → served_events xs ≡ Finished k code ∷ es → in_progress n xs ≡ Some i → ((k == n) ≡ true → is_waiting i ≡ true) → (in_progress n (past_number k xs) ≡ Some i) × (ahead_of n (past_number k xs) + 1 ≡ ahead_of n xs))
        → (in_progress n (if (x.n == k) && not (is_blank_state s) then xs else past_number k xs) ≡ Some i)
        × (ahead_of n (if (x.n == k) && not (is_blank_state s) then xs else past_number k xs) + 1 ≡ (if (x.n == n) && not (is_blank_state s) then 0 else (if is_blank_state s then ahead_of n xs else suc (ahead_of n xs))))
    by_state Waiting is f t e rest = absurd (cc (f, t))
    by_state (Served c) is f t e rest = by_test (x.n == n) refl e
      where
        first_is : x.n ≡ k
        first_is = cc

        by_test : (b : Bool) → (x.n == n) ≡ b → (if b && true then Some x else in_progress n xs) ≡ Some i
            → (in_progress n (if (x.n == k) && true then xs else past_number k xs) ≡ Some i) × (ahead_of n (if (x.n == k) && true then xs else past_number k xs) + 1 ≡ (if b && true then 0 else suc (ahead_of n xs)))
        by_test true r q =
            let same : x ≡ i = cc in
            let ended : is_waiting x ≡ false = ap is_waiting_state is in
            absurd (false≢true (sym ended ∙ (ap is_waiting same ∙ w (ap (λ y. y == n) (sym first_is) ∙ r))))
        by_test false r q = rw (first_is, same_name k) (q, omega arith)
    by_state Blank is f t e rest = by_tests (x.n == n) (x.n == k) e
      where
        by_tests : (b c : Bool) → (if b && false then Some x else in_progress n xs) ≡ Some i
            → (in_progress n (if c && false then xs else past_number k xs) ≡ Some i) × (ahead_of n (if c && false then xs else past_number k xs) + 1 ≡ (if b && false then 0 else ahead_of n xs))
        by_tests true true q = rest f t q w
        by_tests true false q = rest f t q w
        by_tests false true q = rest f t q w
        by_tests false false q = rest f t q w

-- blanks that leave change nothing
pub ahead_of-past_blanks : (n : ℕ) (line : List Item) → (in_progress n (past_blanks line) ≡ in_progress n line) × (ahead_of n (past_blanks line) ≡ ahead_of n line)
unfolding in_progress ahead_of past_blanks
ahead_of-past_blanks n [] = (refl, refl)
ahead_of-past_blanks n (x ∷ xs) = by_test (is_blank x) refl (ahead_of-past_blanks n xs)
  where
    by_test : (b : Bool) → is_blank x ≡ b → (in_progress n (past_blanks xs) ≡ in_progress n xs) × (ahead_of n (past_blanks xs) ≡ ahead_of n xs)
        → (in_progress n (if b then past_blanks xs else x ∷ xs) ≡ (if (x.n == n) && not b then Some x else in_progress n xs))
        × (ahead_of n (if b then past_blanks xs else x ∷ xs) ≡ (if (x.n == n) && not b then 0 else (if b then ahead_of n xs else suc (ahead_of n xs))))
    by_test true is rest = by_number (x.n == n)
      where
        by_number : (c : Bool) → (in_progress n (past_blanks xs) ≡ (if c && false then Some x else in_progress n xs)) × (ahead_of n (past_blanks xs) ≡ (if c && false then 0 else ahead_of n xs))
        by_number true = rest
        by_number false = rest
    by_test false is rest = rw is (refl, refl)

-- nothing appended to nothing
append_none : (xs ys : List Event) → xs ++ ys ≡ [] → (xs ≡ []) × (ys ≡ [])
append_none [] ys e = (refl, e)
append_none (x ∷ xs) ys e = absurd cc

-- an asked item that waits is among those that do
pub asked_waits : (n : ℕ) (line : List Item) (i : Item) → in_progress n line ≡ Some i → is_waiting i ≡ true → is_some i.ask ≡ true → has_asked line ≡ false → ⊥
unfolding in_progress
asked_waits n [] i e w a none = cc
asked_waits n (x ∷ xs) i e w a none = by_test (is_transfer n x) e (asked_waits n xs i)
  where
    p : (is_withdrawn x ≡ false) × (has_asked xs ≡ false)
    p = or_parts (is_withdrawn x) (has_asked xs) none

    by_test : (b : Bool) → (if b then Some x else in_progress n xs) ≡ Some i → (in_progress n xs ≡ Some i → is_waiting i ≡ true → is_some i.ask ≡ true → has_asked xs ≡ false → ⊥) → ⊥
    by_test true e rest = let same : x ≡ i = cc in cc (p.0, ap₂ (λ s t. s && t) (ap is_waiting same ∙ w) (ap (λ k. is_some k.ask) same ∙ a))
    by_test false e rest = rest e w a p.1

-- what waits for an asked transfer: something, always
pub something_waits : (n c d : ℕ) (e : Endpoint) (os : List Errand) (ns : List Event) → IsDue n c d e os ns → (os ≡ []) → (ns ≡ []) → ⊥
something_waits n c d e os ns due no_orders no_news = by_bound due.bound
  where
    no_served : (served_events e.line ≡ []) × (due.coherent.tail ≡ [])
    no_served = append_none (served_events e.line) due.coherent.tail (sym due.coherent.news ∙ no_news)

    by_phase : (s : EndpointState) (er : Option Errand) (os : List Errand) (es tail : List Event) → IsPhase s er os es tail → os ≡ [] → tail ≡ [] → er ≡ None
    by_phase s er os es tail (runs g) o t = refl
    by_phase s er os es tail (ended g) o t = refl
    by_phase s er os es tail (stop_waits g) o t = absurd cc
    by_phase s er os es tail (stop_waits_halted g) o t = absurd cc
    by_phase s er os es tail (stop_ran g) o t = absurd cc
    by_phase s er os es tail (stop_ran_paused g) o t = absurd cc
    by_phase s er os es tail (stop_failed g) o t = absurd cc
    by_phase s er os es tail reset_waits o t = absurd cc
    by_phase s er os es tail reset_ran o t = absurd cc
    by_phase s er os es tail move_waits o t = absurd cc
    by_phase s er os es tail move_ran o t = absurd cc

    idle : e.errand ≡ None
    idle = by_phase e.state e.errand os (served_events e.line) due.coherent.tail due.coherent.phase no_orders no_served.1

    by_bound : IsLeft due.item e.errand os ns (ahead_of n e.line) c d → ⊥
    by_bound (inl q) = absurd (cc (idle, q.1))
    by_bound (inr q) = asked_waits n e.line due.item due.here q.0 due.asked (due.coherent.answered idle)

-- a command of the endpoint uses one up
pub failures-behind : (es fs : List Event) → failures (es ++ fs) ≡ failures es + failures fs
failures-behind [] fs = omega arith
failures-behind (x ∷ xs) fs = let e = failures-behind xs fs in omega (arith, e)

-- served transfers tell no failure to halt
pub no_failures : (line : List Item) → failures (served_events line) ≡ 0
unfolding served_events
no_failures [] = refl
no_failures (x ∷ xs) = by_state x.state (no_failures xs)
  where
    by_state : (s : ItemState) → failures (served_events xs) ≡ 0 → failures (event_by x.n s (served_events xs)) ≡ 0
    by_state Waiting e = e
    by_state (Served code) e = omega (arith, e)
    by_state Blank e = e

-- what is left to an item after the endpoint's next order is carried out
abbrev CommandLeft : ℕ → ℕ → Endpoint → Errand → Item → ℕ → List Errand → List Event → ℕ → ℕ → Type 0
CommandLeft size ep e o item b os ns c d =
    (1 ≤ c) × IsLeft item (command size ep e o e.state).endpoint.errand (os ++ (command size ep e o e.state).orders) (ns ++ (command size ep e o e.state).news) b (c - 1) d

-- an order that is carried out uses one command up, in each phase
command_left_at : (size ep : ℕ) (e : Endpoint) (s : EndpointState) (er : Option Errand) (o : Errand) (os : List Errand) (ns es tail : List Event) (item : Item) (b c d : ℕ)
    → IsPhase s er (o ∷ os) es tail → ns ≡ es ++ tail → failures es ≡ 0 → (is_waiting item ≡ true → length es ≤ b) → IsLeft item er (o ∷ os) ns b c d
    → CommandLeft size ep (in_phase e s er) o item b os ns c d
unfolding command
command_left_at size ep e s er o os ns es tail item b c d (stop_waits g) told none behind (inl q) = (omega (arith, q.2), inl (q.0, refl, omega arith, q.3))
command_left_at size ep e s er o os ns es tail item b c d (stop_waits_halted g) told none behind (inl q) = (omega (arith, q.2), inl (q.0, refl, omega arith, q.3))
command_left_at size ep e s er o os ns es tail item b c d reset_waits told none behind (inl q) = absurd (cc (q.1))
command_left_at size ep e s er o os ns es tail item b c d move_waits told none behind (inl q) = absurd (cc (q.1))
command_left_at size ep e s er o os ns es tail item b c d (stop_waits g) told none behind (inr q) = (omega (arith, q.1), by_moved (first_waiting e.line))
  where
    told' : ns ≡ es
    told' = told ∙ append-nil es

    at_most : (more : List Event) → length more ≤ 2 → failures more ≡ 0 → IsLeft item (Some errand.Stop) [] (ns ++ more) b (c - 1) d
    at_most more short fine = inr (q.0, omega (arith, failures-behind ns more, ap failures told', none, fine), omega (arith, failures-behind ns more, ap failures told', none, fine, length-append ns more, ap length told', behind q.0, q.2, short))

    by_packets : (x : Item) (t : Bool) → IsLeft item (Some errand.Stop) [] (ns ++ ((if t then [] else Paused x.n ∷ []) ++ Settled errand.Stop true ∷ [])) b (c - 1) d
    by_packets x true = at_most (Settled errand.Stop true ∷ []) (omega arith) refl
    by_packets x false = at_most (Paused x.n ∷ Settled errand.Stop true ∷ []) (omega arith) refl

    by_moved : (f : Option Item) → IsLeft item (Some errand.Stop) [] (ns ++ (pause_of size f ++ Settled errand.Stop true ∷ [])) b (c - 1) d
    by_moved None = at_most (Settled errand.Stop true ∷ []) (omega arith) refl
    by_moved (Some x) = by_packets x (length (outcome_of size x).packets == 0)
command_left_at size ep e s er o os ns es tail item b c d (stop_waits_halted g) told none behind (inr q) =
    let told' : ns ≡ es = told ∙ append-nil es in
    let more : List Event = Settled errand.Stop false ∷ [] in
    (omega (arith, q.1), inr (q.0, omega (arith, q.1, failures-behind ns more, ap failures told', none), omega (arith, failures-behind ns more, ap failures told', none, length-append ns more, ap length told', behind q.0, q.2)))
command_left_at size ep e s er o os ns es tail item b c d reset_waits told none behind (inr q) = (omega (arith, q.1), inr (q.0, omega arith, q.2))
command_left_at size ep e s er o os ns es tail item b c d move_waits told none behind (inr q) = (omega (arith, q.1), inr (q.0, omega arith, q.2))

-- the first order is carried out
pub due_command : (size ep n c d : ℕ) (e : Endpoint) (o : Errand) (os : List Errand) (ns : List Event) → IsDue n c d e (o ∷ os) ns
    → (1 ≤ c) × LeavesDue n (c - 1) d (command size ep e o e.state) os ns
due_command size ep n c d e o os ns due =
    let k = due.coherent in
    let r = command_left_at size ep e e.state e.errand o os ns (served_events e.line) k.tail due.item (ahead_of n e.line) c d k.phase k.news (no_failures e.line)
    (λ w. served_before n e.line due.item k.in_order due.here w) due.bound in (
      r.0,
      record {
        coherent = coherent_command size ep e o os ns k;
        item = due.item;
        here = rw (line-command size ep e o e.state) due.here;
        asked = due.asked;
        bound = rw (line-command size ep e o e.state) r.1;
      },
    )
