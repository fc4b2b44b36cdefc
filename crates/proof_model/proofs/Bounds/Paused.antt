-- Where a pause is told, a transfer waits in the line.
use Rattle.std.proofs.Common.{Bool, List, None, Option, Some, [], ap, false, inl, inr, map, refl, subst, sym, true, ℕ, ◌++◌, ◌==◌, ◌||◌, ◌∙◌, ◌∷◌, ◌≡◌}
use Rattle.std.specs.Prelude.{if◌then◌else◌}
use Rattle.std.specs.List.{AllByRecursion, list_any}
use Rattle.std.specs.Option.{unwrap_or}
use Rattle.std.proofs.lemmas.Bool.{or_right}
use Rattle.std.proofs.lemmas.List.Folds.{list_any-append}
use Rattle.usb_model.specs.declared.errand.Errand.TheVariants as errand
use Rattle.usb_model.specs.declared.errand.Errand.{Errand}
use Rattle.usb_model.specs.declared.endpoint.Endpoint.{Endpoint}
use Rattle.usb_model.specs.declared.endpoint.EndpointState.TheVariants.{Halted, Running, Stopped}
use Rattle.usb_model.specs.declared.endpoint.EndpointState.{EndpointState}
use Rattle.usb_model.specs.declared.endpoint_effect.EndpointEffect.{EndpointEffect}
use Rattle.usb_model.specs.declared.handle.Handle.{Handle}
use Rattle.usb_model.specs.declared.item.Ask.{Ask}
use Rattle.usb_model.specs.declared.item.Item.{Item}
use Rattle.usb_model.specs.declared.item.ItemState.TheVariants.{Blank, Served, Waiting}
use Rattle.usb_model.specs.declared.item.ItemState.{ItemState}
use Rattle.usb_model.specs.declared.news.Event.TheVariants.{Finished, Paused, Settled}
use Rattle.usb_model.specs.declared.news.Event.{Event}
use Rattle.usb_model.specs.declared.outcome.Outcome.{Outcome}
use Rattle.usb_model.specs.declared.step.Step.{Step}
use Rattle.usb_model.specs.Coherence.{IsCoherent, IsPhase, ended, event_by, move_ran, move_waits, reset_ran, reset_waits, runs, served_events, stop_failed, stop_ran, stop_ran_paused, stop_waits, stop_waits_halted}
use Rattle.usb_model.specs.Endpoint.Command.{command, pause_of}
use Rattle.usb_model.specs.Endpoint.Deliver.{blanked, deliver, leads_blank, line_after, needs_reset, resume}
use Rattle.usb_model.specs.Endpoint.Packets.{open_with, outcome}
use Rattle.usb_model.specs.Endpoint.Serve.{next_answer, serve, serve_by, serve_first, serve_gone}
use Rattle.usb_model.specs.Endpoint.Status.{halts}
use Rattle.usb_model.specs.Endpoint.{first_waiting, is_blank_state, is_waiting, is_waiting_state, new_item, only_says, outcome_of, past_blanks, past_number}
use Rattle.usb_model.specs.declared.reply.Reply.TheVariants.{Idle}
use Rattle.usb_model.specs.Fitness.{IsWell, errands_of, events_of}
use Rattle.usb_model.specs.Laws.Bounds.{line_at}
use Rattle.usb_model.specs.Machine.Calls.{asks, with_ask}
use Rattle.usb_model.specs.Machine.{Machine, device_of, endpoint_at, is_gone}
use Rattle.usb_model.specs.Setup.{Setup, packet_size_of}
use Rattle.proof_model.proofs.Coherence.Doings.{if_same, line-command, line-finished}
use Rattle.proof_model.proofs.Coherence.FirstEnd.{EndsFirst, end_told}
use Rattle.proof_model.proofs.Machines.Acts.{Acts}
use Rattle.proof_model.proofs.Machines.Deeds.{IsWork, asks_it, clears, commands, delivers, serves, submits}
use Rattle.proof_model.proofs.Machines.Well.{ask_takes, events_behind, first_news, fit_at}

-- a pause among these
abbrev pub is_pause : Event → Bool
is_pause (Paused n) = true
is_pause _ = false

-- one of them
abbrev pub has_pause : List Event → Bool
has_pause es = list_any is_pause es

-- a transfer that waits among these
abbrev pub has_waiting : List Item → Bool
has_waiting xs = list_any is_waiting xs

-- where the second list has none, the first has it
pause_before : (xs ys : List Event) → has_pause ys ≡ false → has_pause (xs ++ ys) ≡ true → has_pause xs ≡ true
pause_before xs ys none p = by_test (has_pause xs) (sym (list_any-append is_pause xs ys ∙ ap (λ b. has_pause xs || b) none) ∙ p)
  where
    by_test : (b : Bool) → (b || false) ≡ true → b ≡ true
    by_test true q = refl
    by_test false q = q

-- and where the first has none, the second
pause_behind : (xs ys : List Event) → has_pause xs ≡ false → has_pause (xs ++ ys) ≡ true → has_pause ys ≡ true
pause_behind xs ys none p = sym (list_any-append is_pause xs ys ∙ ap (λ b. b || has_pause ys) none) ∙ p

-- the ends of the served are no pauses
pub ends_no_pause : (line : List Item) → has_pause (served_events line) ≡ false
unfolding served_events
ends_no_pause [] = refl
ends_no_pause (x ∷ xs) = by_state x.state (ends_no_pause xs)
  where
    by_state : (s : ItemState) → has_pause (served_events xs) ≡ false → has_pause (event_by x.n s (served_events xs)) ≡ false
    by_state Waiting rest = rest
    by_state (Served code) rest = rest
    by_state Blank rest = rest

-- so a pause stands behind them
pub tail_pause : (e : Endpoint) (os : List Errand) (ns : List Event) (c : IsCoherent e os ns) → has_pause ns ≡ true → has_pause c.tail ≡ true
tail_pause e os ns c p = pause_behind (served_events e.line) c.tail (ends_no_pause e.line) (sym (ap has_pause c.news) ∙ p)

-- where a pause is told, the endpoint is stopped
paused_stands : (s : EndpointState) (er : Option Errand) (os : List Errand) (es tail : List Event) → IsPhase s er os es tail → has_pause tail ≡ true → s ≡ Stopped
paused_stands s er os es tail (stop_ran_paused g) p = refl
paused_stands s er os es tail (stop_ran g) p = refl
paused_stands s er os es tail (runs g) p = absurd cc
paused_stands s er os es tail (ended g) p = absurd cc
paused_stands s er os es tail (stop_waits g) p = absurd cc
paused_stands s er os es tail (stop_waits_halted g) p = absurd cc
paused_stands s er os es tail (stop_failed g) p = absurd cc
paused_stands s er os es tail reset_waits p = absurd cc
paused_stands s er os es tail reset_ran p = refl
paused_stands s er os es tail move_waits p = refl
paused_stands s er os es tail move_ran p = refl

-- and it is the first that is told behind the ends
paused_first : (s : EndpointState) (er : Option Errand) (os : List Errand) (es tail : List Event) → IsPhase s er os es tail → has_pause tail ≡ true → (n : ℕ) × (rest : List Event) × (tail ≡ Paused n ∷ rest)
paused_first s er os es tail (stop_ran_paused {n = n} g) p = (n, Settled errand.Stop true ∷ [], refl)
paused_first s er os es tail (stop_ran g) p = absurd cc
paused_first s er os es tail (runs g) p = absurd cc
paused_first s er os es tail (ended g) p = absurd cc
paused_first s er os es tail (stop_waits g) p = absurd cc
paused_first s er os es tail (stop_waits_halted g) p = absurd cc
paused_first s er os es tail (stop_failed g) p = absurd cc
paused_first s er os es tail reset_waits p = absurd cc
paused_first s er os es tail reset_ran p = absurd cc
paused_first s er os es tail move_waits p = absurd cc
paused_first s er os es tail move_ran p = absurd cc

-- so what is told of an order stands behind it
not_settled : (line : List Item) (n : ℕ) (rest : List Event) (o : Errand) (ok : Bool) (ns : List Event) → served_events line ++ Paused n ∷ rest ≡ Settled o ok ∷ ns → ⊥
unfolding served_events
not_settled [] n rest o ok ns e = cc
not_settled (x ∷ xs) n rest o ok ns e = by_state x.state e (not_settled xs n rest o ok ns)
  where
    by_state : (s : ItemState) → event_by x.n s (served_events xs) ++ Paused n ∷ rest ≡ Settled o ok ∷ ns → (served_events xs ++ Paused n ∷ rest ≡ Settled o ok ∷ ns → ⊥) → ⊥
    by_state Waiting e next = next e
    by_state (Served code) e next = cc
    by_state Blank e next = next e

-- a stopped endpoint serves nothing
serve_stopped : (size : ℕ) (gone : Bool) (e : Endpoint) → e.state ≡ Stopped → serve size gone e ≡ only_says e Idle
unfolding serve serve_first
serve_stopped size gone e is = ap (λ s. serve_first size gone e s (first_waiting e.line)) is ∙ by_gone gone
  where
    by_gone : (g : Bool) → serve_first size g e Stopped (first_waiting e.line) ≡ only_says e Idle
    by_gone true = refl
    by_gone false = refl

-- and no packet tells a pause
serve_first_told : (size : ℕ) (gone : Bool) (e : Endpoint) (s : EndpointState) (o : Option Item) → has_pause (serve_first size gone e s o).news ≡ false
unfolding serve_first serve_gone serve_by
serve_first_told size true e Running (Some x) = refl
serve_first_told size false e Running (Some x) = by_code (unwrap_or (outcome x.request size (x.share ++ next_answer e) e.device_halted) (open_with [])).code
  where
    after : Outcome
    after = unwrap_or (outcome x.request size (x.share ++ next_answer e) e.device_halted) (open_with [])

    by_code : (code : Option ℕ) → has_pause (serve_by e x (outcome_of size x) after code).news ≡ false
    by_code None = refl
    by_code (Some code) = refl
serve_first_told size gone e _ _ = refl

-- the same of an endpoint
serve_no_pause : (size : ℕ) (gone : Bool) (e : Endpoint) → has_pause (serve size gone e).news ≡ false
unfolding serve
serve_no_pause size gone e = serve_first_told size gone e e.state (first_waiting e.line)

-- the first that waits is one that does
waits_any : (line : List Item) (x : Item) → first_waiting line ≡ Some x → has_waiting line ≡ true
unfolding first_waiting
waits_any [] x f = absurd cc
waits_any (y ∷ ys) x f = by_test (is_waiting y) f (waits_any ys x)
  where
    by_test : (b : Bool) → (if b then Some y else first_waiting ys) ≡ Some x → (first_waiting ys ≡ Some x → has_waiting ys ≡ true) → (b || has_waiting ys) ≡ true
    by_test true f rest = refl
    by_test false f rest = rest f

-- a pause is told of a transfer that waits
command_pauses : (size ep : ℕ) (e : Endpoint) (o : Errand) (s : EndpointState) → has_pause (command size ep e o s).news ≡ true → has_waiting e.line ≡ true
unfolding command
command_pauses size ep e errand.Stop Running p = by_first (first_waiting e.line) refl p
  where
    by_first : (o : Option Item) → first_waiting e.line ≡ o → has_pause (pause_of size o ++ Settled errand.Stop true ∷ []) ≡ true → has_waiting e.line ≡ true
    by_first None is q = absurd cc
    by_first (Some x) is q = waits_any e.line x is
command_pauses size ep e errand.Reset Halted p = absurd cc
command_pauses size ep e errand.Move Stopped p = absurd cc
command_pauses size ep e _ _ p = absurd cc

-- blanks don't wait
blanks_none : (xs : List Item) → AllByRecursion (λ x. x.state ≡ Blank) xs → has_waiting xs ≡ false
blanks_none [] b = refl
blanks_none (x ∷ xs) b = ap (λ s. is_waiting_state s || has_waiting xs) b.0 ∙ blanks_none xs b.1

-- blanks that leave leave those that wait
any-past_blanks : (xs : List Item) → has_waiting (past_blanks xs) ≡ has_waiting xs
unfolding past_blanks
any-past_blanks [] = refl
any-past_blanks (x ∷ xs) = by_state x.state refl (any-past_blanks xs)
  where
    by_state : (s : ItemState) → x.state ≡ s → has_waiting (past_blanks xs) ≡ has_waiting xs → has_waiting (if is_blank_state s then past_blanks xs else x ∷ xs) ≡ (is_waiting_state s || has_waiting xs)
    by_state Waiting is rest = ap (λ t. is_waiting_state t || has_waiting xs) is
    by_state (Served code) is rest = ap (λ t. is_waiting_state t || has_waiting xs) is
    by_state Blank is rest = rest

-- an end that is told leaves them too
any-line_after : (k code : ℕ) (line : List Item) → EndsFirst line k code → has_waiting line ≡ true → has_waiting (line_after k code line) ≡ true
any-line_after k code line f p = by_test (halts code)
  where
    rest : has_waiting (past_number k line) ≡ true
    rest =
        sym (ap has_waiting f.split
        ∙ (list_any-append is_waiting f.front (f.item ∷ past_number k line)
        ∙ (ap (λ b. b || (is_waiting f.item || has_waiting (past_number k line))) (blanks_none f.front f.blanks) ∙ ap (λ s. is_waiting_state s || has_waiting (past_number k line)) f.served)))
        ∙ p

    by_test : (b : Bool) → has_waiting (if b then past_number k line else past_blanks (past_number k line)) ≡ true
    by_test true = rest
    by_test false = any-past_blanks (past_number k line) ∙ rest

-- an ask leaves them
any-with_ask : (n : ℕ) (ask : Ask) (line : List Item) → has_waiting (map (with_ask n ask) line) ≡ has_waiting line
any-with_ask n ask [] = refl
any-with_ask n ask (x ∷ xs) = by_test (x.n == n) (any-with_ask n ask xs)
  where
    by_test : (b : Bool) → has_waiting (map (with_ask n ask) xs) ≡ has_waiting xs → (is_waiting (if b then record x { ask = Some ask } else x) || has_waiting (map (with_ask n ask) xs)) ≡ (is_waiting x || has_waiting xs)
    by_test true rest = ap (λ b. is_waiting x || b) rest
    by_test false rest = ap (λ b. is_waiting x || b) rest

-- no news is made where news is handled
deliver_no_news : (size ep : ℕ) (gone : Bool) (e : Endpoint) (event : Event) → (deliver size ep gone e event).news ≡ []
unfolding deliver resume
deliver_no_news size ep gone e (Finished n code) = if_same (λ (d : EndpointEffect). d.news) (needs_reset code e.errand) _ _ [] refl refl
deliver_no_news size ep gone e (Paused n) = refl
deliver_no_news size ep gone e (Settled errand.Stop false) = refl
deliver_no_news size ep gone e (Settled errand.Stop true) = if_same (λ (d : EndpointEffect). d.news) (leads_blank (map blanked e.line)) _ _ [] refl refl
deliver_no_news size ep gone e (Settled errand.Reset ok) = refl
deliver_no_news size ep gone e (Settled errand.Move ok) = if_same (λ (d : EndpointEffect). d.news) (leads_blank (map blanked (past_blanks e.line))) _ _ [] refl refl

-- the line of a pause that is handled
deliver_paused : (size ep : ℕ) (gone : Bool) (e : Endpoint) (n : ℕ) → (deliver size ep gone e (Paused n)).endpoint.line ≡ e.line
unfolding deliver
deliver_paused size ep gone e n = refl

-- where a pause is told behind the first piece of news, that is handled and a transfer waits still
deliver_waits : (size ep : ℕ) (gone : Bool) (e : Endpoint) (os : List Errand) (event : Event) (ns : List Event) → IsCoherent e os (event ∷ ns) → has_pause (event ∷ ns) ≡ true → has_waiting e.line ≡ true → has_waiting (deliver size ep gone e event).endpoint.line ≡ true
deliver_waits size ep gone e os (Finished k code) ns c p w = ap has_waiting (line-finished size ep gone e k code) ∙ any-line_after k code e.line (end_told e os ns k code c) w
deliver_waits size ep gone e os (Paused n) ns c p w = ap has_waiting (deliver_paused size ep gone e n) ∙ w
deliver_waits size ep gone e os (Settled o ok) ns c p w =
    let t = paused_first e.state e.errand os (served_events e.line) c.tail c.phase (tail_pause e os (Settled o ok ∷ ns) c p) in
    absurd (not_settled e.line t.0 t.1 o ok ns (sym (c.news ∙ ap (λ l. served_events e.line ++ l) t.2)))

-- behind the first, a pause is one of all
pause_more : (event : Event) (ns : List Event) → has_pause ns ≡ true → has_pause (event ∷ ns) ≡ true
pause_more event ns p = or_right (is_pause event) (has_pause ns) p

-- what waits where a pause is told
abbrev pub PausesWait : List Event → List Item → Type 0
PausesWait ns line = has_pause ns ≡ true → has_waiting line ≡ true

-- an endpoint that serves
serve_waits : (size : ℕ) (gone : Bool) (e : Endpoint) (os : List Errand) (ns : List Event) → IsCoherent e os ns → PausesWait ns e.line → PausesWait (ns ++ (serve size gone e).news) (serve size gone e).endpoint.line
serve_waits size gone e os ns c w p =
    let was : has_pause ns ≡ true = pause_before ns (serve size gone e).news (serve_no_pause size gone e) p in
    ap (λ (d : EndpointEffect). has_waiting d.endpoint.line) (serve_stopped size gone e (paused_stands e.state e.errand os (served_events e.line) c.tail c.phase (tail_pause e os ns c was))) ∙ w was

-- an order that is carried out
command_waits : (size ep : ℕ) (e : Endpoint) (o : Errand) (s : EndpointState) (ns : List Event) → PausesWait ns e.line → PausesWait (ns ++ (command size ep e o s).news) (command size ep e o s).endpoint.line
command_waits size ep e o s ns w p = ap has_waiting (line-command size ep e o s) ∙ by_test (has_pause ns) refl
  where
    by_test : (b : Bool) → has_pause ns ≡ b → has_waiting e.line ≡ true
    by_test true q = w q
    by_test false q = command_pauses size ep e o s (pause_behind ns (command size ep e o s).news q p)

-- an ask
asks_wait : (e : Endpoint) (n : ℕ) (ask : Ask) (ns : List Event) → PausesWait ns e.line → PausesWait (ns ++ (asks e n ask).news) (asks e n ask).endpoint.line
unfolding asks
asks_wait e n ask ns w p = any-with_ask n ask e.line ∙ w (pause_before ns [] refl p)

-- each piece of work
work_waits : (setup : Setup) (m : Machine) (ep : ℕ) (e : Endpoint) (step : Step) (handle : Handle) (d : EndpointEffect) → IsWell setup m → endpoint_at m ep ≡ Some e → IsWork setup m ep e step handle d → PausesWait (events_of ep m.news) e.line
    → PausesWait (events_behind ep m step ++ d.news) d.endpoint.line
work_waits setup m ep e step handle d well here (serves dev) w = serve_waits (packet_size_of setup (device_of m) ep) (is_gone m) e (errands_of ep m.orders) (events_of ep m.news) (fit_at setup m ep e well here).coherent w
work_waits setup m ep e step handle d well here (commands o os is) w = command_waits (packet_size_of setup (device_of m) ep) ep e o e.state (events_of ep m.news) w
work_waits setup m ep e step handle d well here (delivers event ns is) w = λ p.
    let first : events_of ep m.news ≡ event ∷ events_behind ep m step = (first_news ep event m.news ns is).0 in
    let all : has_pause (event ∷ events_behind ep m step) ≡ true = pause_more event (events_behind ep m step) (pause_before (events_behind ep m step) d.news (ap has_pause (deliver_no_news (packet_size_of setup (device_of m) ep) ep (is_gone m) e event)) p) in
    deliver_waits (packet_size_of setup (device_of m) ep) ep (is_gone m) e (errands_of ep m.orders) event (events_behind ep m step) (subst (λ l. IsCoherent e (errands_of ep m.orders) l) first (fit_at setup m ep e well here).coherent) all (w (ap has_pause first ∙ all))
work_waits setup m ep e step handle d well here (asks_it {ask = ask} n i is at free) w =
    subst (λ l. PausesWait (events_of ep l ++ (asks e n ask).news) (asks e n ask).endpoint.line) (sym (ask_takes m step n ask is).news) (asks_wait e n ask (events_of ep m.news) w)
work_waits setup m ep e step handle d well here (submits {request = request} {round = round} is at fine room) w =
    λ p. list_any-append is_waiting e.line (new_item m.handle.next_number request round ∷ []) ∙ or_right (has_waiting e.line) true refl
work_waits setup m ep e step handle d well here (clears g empty) w = λ p. w (pause_before (events_of ep m.news) [] refl p)

-- what a step does at one endpoint
pub acts_wait : (setup : Setup) (ep : ℕ) (m m' : Machine) (step : Step) → IsWell setup m → Acts setup ep m m' step → PausesWait (events_of ep m.news) (line_at (endpoint_at m ep)) → PausesWait (events_of ep m'.news) (line_at (endpoint_at m' ep))
acts_wait setup ep m m' step well (inl (inl s)) w = rw (s.end, s.lists.news) w
acts_wait setup ep m m' step well (inl (inr r)) w = λ p. absurd (cc (sym (ap has_pause (r.lists.news ∙ r.idle.no_news)) ∙ p))
acts_wait setup ep m m' step well (inr t) w =
    rw (t.end, t.news) (work_waits setup m ep t.e step t.handle t.doing well t.here t.work (subst (λ o. PausesWait (events_of ep m.news) (line_at o)) t.here w))
