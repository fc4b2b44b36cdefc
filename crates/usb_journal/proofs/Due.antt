-- The transfers that are due, by the timers.
use Rattle.std.proofs.Common.{◌≡◌, ◌∙◌, ◌==◌, ◌++◌, ◌<◌, ◌≤◌, ℕ, Bool, true, false, List, [], ◌∷◌, Option, Some, None, ap, arith, cond, inl, inr, map, refl, subst, sym, ◌⊎◌}
use Rattle.std.specs.Prelude.{◌&&◌, ◌||◌, if◌then◌else◌, is_none, is_some, nat_le, not}
use Rattle.std.specs.List.{AllByRecursion, filter, flat_map}
use Rattle.std.proofs.lemmas.Bool.{cases_lt, eqb-true, and_parts}
use Rattle.std.proofs.lemmas.List.{append-nil, map-append}
use Rattle.usb_model.specs.declared.effect.Effect.{Effect}
use Rattle.usb_model.specs.declared.item.Ask.{Ask}
use Rattle.usb_model.specs.declared.item.Ask.TheVariants as ask
use Rattle.usb_model.specs.declared.refused.Refused.TheVariants.{HeldElsewhere, NotFound}
use Rattle.usb_model.specs.declared.reply.Reply.TheVariants as reply
use Rattle.usb_model.specs.declared.step.Step.{Step}
use Rattle.usb_model.specs.declared.step.Step.TheVariants.{Expire}
use Rattle.usb_model.specs.Endpoint.{is_blank}
use Rattle.usb_model.specs.Laws.Cut.{times}
use Rattle.usb_model.specs.Laws.Bounds.{line_at}
use Rattle.usb_model.specs.Laws.Places.{numbers_at}
use Rattle.usb_model.specs.Machine.Calls.{Home, ask_effect, ask_in_progress, asks, home_of}
use Rattle.usb_model.specs.Machine.Turns.{effect}
use Rattle.usb_model.specs.Machine.{Machine, at_endpoint, device_of, endpoint_at, refused_if}
use Rattle.usb_model.specs.Setup.{Setup, endpoints_of}
use Rattle.usb_model.specs.World.{Turn, World, is_blocked, machine_of, new_world, turn, turn_of, world_after, world_from}
use Rattle.usb_model.specs.World.Due.{Dated, below, deadline, due, due_of, given_at, is_due}
use Rattle.usb_model.specs.World.Journal.{steps_in}
use Rattle.proof_model.proofs.Bounds.Items.{OfItem}
use Rattle.usb_core.specs.Reads.{is_done, would_expire}
use Rattle.proof_model.proofs.Lists.Parts.{each_weaker}
use Rattle.proof_model.proofs.Work.Each.{each-in_progress}
use Rattle.proof_model.proofs.Work.Lines.{found_it, progress_times}
use Rattle.proof_model.proofs.Work.StepMoves.{IsHome, home_is}
use Rattle.usb_recorder.specs.declared.place.Place.{Place}
use Rattle.usb_journal.specs.declared.timer.Timer.{Timer}
use Rattle.usb_journal.specs.Booked.{IsRun, dated, steps_of, world_where}
use Rattle.usb_journal.specs.Timers.{by_name, expires, is_over, timers_of}
use Rattle.usb_journal.proofs.Journals.{tracks_at}
use Rattle.usb_journal.proofs.Owns.{left_filter, look, own}
use Rattle.usb_journal.proofs.Tracks.{HasTime, IsFound, IsOver, Tracks}

-- whether a transfer that is in progress here may be asked to end, its time being over
abbrev may_expire : Option Home → Bool
may_expire None = false
may_expire (Some home) = not (is_some home.item.ask || (true && (home.item.request.timeout == 0)))

module _ (setup : Setup) (w : World) (h n : ℕ) where
  -- the reply to an ask that may be refused
  asked_if : (b : Bool) (home : Home) → is_done (if is_blocked setup h w (refused_if (machine_of setup h w) b NotFound (at_endpoint (machine_of setup h w).handle (device_of (machine_of setup h w)) home.ep (asks home.endpoint n ask.Time))).change
      then reply.Refused HeldElsewhere else (refused_if (machine_of setup h w) b NotFound (at_endpoint (machine_of setup h w).handle (device_of (machine_of setup h w)) home.ep (asks home.endpoint n ask.Time))).reply) ≡ not b
  unfolding is_blocked refused_if at_endpoint asks
  asked_if true home = refl
  asked_if false home = refl

  -- the reply of a turn that may be blocked
  abbrev turn_if : Bool → Effect → Turn
  turn_if b done = if b then record { entry = record { owner = Some h; reply = reply.Refused HeldElsewhere }; world = w } else record { entry = record { owner = Some h; reply = done.reply }; world = world_after setup h w (Expire h n) done }

  turn_reply : (b : Bool) (done : Effect) → (turn_if b done).entry.reply ≡ (if b then reply.Refused HeldElsewhere else done.reply)
  turn_reply true done = refl
  turn_reply false done = refl

  done_by : (o : Option Home) → is_done (if is_blocked setup h w (ask_in_progress (machine_of setup h w) n ask.Time true o).change then reply.Refused HeldElsewhere else (ask_in_progress (machine_of setup h w) n ask.Time true o).reply) ≡ may_expire o
  unfolding ask_in_progress is_blocked
  done_by None = refl
  done_by (Some home) = asked_if (is_some home.item.ask || (true && (home.item.request.timeout == 0))) home

  -- an Expire is done just there
  would_be : would_expire setup w h n ≡ may_expire (home_of (machine_of setup h w) n (endpoints_of setup (device_of (machine_of setup h w))))
  unfolding turn turn_of effect ask_effect
  would_be = ap (λ r. is_done r) (turn_reply (is_blocked setup h w (ask_in_progress (machine_of setup h w) n ask.Time true (home_of (machine_of setup h w) n (endpoints_of setup (device_of (machine_of setup h w))))).change) (ask_in_progress (machine_of setup h w) n ask.Time true (home_of (machine_of setup h w) n (endpoints_of setup (device_of (machine_of setup h w))))))
      ∙ done_by (home_of (machine_of setup h w) n (endpoints_of setup (device_of (machine_of setup h w))))

-- whether the time of a handle's timer is over
abbrev is_over_of : Setup → World → ℕ → ℕ → Timer → Bool
is_over_of setup w moment h t = nat_le (deadline t.given t.timeout) moment && would_expire setup w h t.n

and_none : (d : Bool) → (d && false) ≡ false
and_none true = refl
and_none false = refl

-- over, unasked, and with a timeout: in either order
either_order : (a : Option Ask) (z d : Bool) → (d && not (is_some a || (true && z))) ≡ (is_none a && (not z && d))
either_order None true true = refl
either_order None true false = refl
either_order None false true = refl
either_order None false false = refl
either_order (Some a) z true = refl
either_order (Some a) z false = refl

module _ (setup : Setup) (w : World) (h : ℕ) (moment : ℕ) (ts : List Timer) (book : List Dated) (tracks : Tracks setup h (machine_of setup h w) ts book) where
  abbrev m : Machine
  m = machine_of setup h w

  abbrev home : ℕ → Option Home
  home n = home_of m n (endpoints_of setup (device_of m))

  -- a timer's test is that of its transfer
  same_test : (t : Timer) → IsFound h tracks.all book t → is_over_of setup w moment h t ≡ is_due moment (given_at h t.n book) (home t.n)
  same_test t f = ap (λ b. nat_le (deadline t.given t.timeout) moment && b) (would_be setup w h t.n) ∙ by_home (home t.n) (home_is m t.n (endpoints_of setup (device_of m)))
    where
      given : given_at h t.n book ≡ t.given
      given = ap (given_at h t.n) (sym (append-nil book)) ∙ f.moment []

      by_home : (o : Option Home) → IsHome m t.n o → (nat_le (deadline t.given t.timeout) moment && may_expire o) ≡ is_due moment (given_at h t.n book) o
      by_home None at = and_none (nat_le (deadline t.given t.timeout) moment)
      by_home (Some x) at =
          let items = subst (λ o. AllByRecursion (OfItem (HasTime tracks.all)) (line_at o)) at.0 (tracks.known.items x.ep) in
          let its = each-in_progress (OfItem (HasTime tracks.all)) t.n x.endpoint.line x.item items at.1 in
          let number : x.item.n ≡ t.n = eqb-true x.item.n t.n (and_parts (x.item.n == t.n) (not (is_blank x.item)) (found_it t.n x.endpoint.line x.item at.1)).0 in
          let time : t.timeout ≡ x.item.request.timeout = sym (f.time []) ∙ (ap (λ n. look n (tracks.all ++ [])) (sym number) ∙ its []) in
          ap (λ k. nat_le (deadline t.given k) moment && may_expire (Some x)) time
          ∙ (ap (λ k. nat_le (deadline k x.item.request.timeout) moment && may_expire (Some x)) (sym given)
          ∙ either_order x.item.ask (x.item.request.timeout == 0) (nat_le (deadline (given_at h t.n book) x.item.request.timeout) moment))

  -- a timer that is over for good has no transfer in progress
  over_fails : (t : Timer) → IsOver m tracks.called t → is_over_of setup w moment h t ≡ false
  over_fails t o = ap (λ b. nat_le (deadline t.given t.timeout) moment && b) (would_be setup w h t.n) ∙ by_home (home t.n) (home_is m t.n (endpoints_of setup (device_of m)))
    where
      nowhere : (ep : ℕ) → (t.n < m.handle.next_number) ⊎ (m.handle.next_number ≤ t.n) → times t.n (numbers_at (endpoint_at m ep)) ≡ 0
      nowhere ep (inl lt) = by_place (tracks.kept.placed.given t.n lt).home refl
        where
          by_place : (k : ℕ) → (tracks.kept.placed.given t.n lt).home ≡ k → times t.n (numbers_at (endpoint_at m ep)) ≡ 0
          by_place k is = by_test ((tracks.kept.placed.given t.n lt).home == ep) refl
            where
              by_test : (b : Bool) → ((tracks.kept.placed.given t.n lt).home == ep) ≡ b → times t.n (numbers_at (endpoint_at m ep)) ≡ 0
              by_test true here = subst (λ e. times t.n (numbers_at (endpoint_at m e)) ≡ 0) (eqb-true (tracks.kept.placed.given t.n lt).home ep here) (omega (arith, (tracks.kept.placed.given t.n lt).once, o.was_called))
              by_test false other = (tracks.kept.placed.given t.n lt).nowhere_else ep other
      nowhere ep (inr le) = (tracks.kept.placed.not_given t.n le).not_in_progress ep

      by_home : (x : Option Home) → IsHome m t.n x → (nat_le (deadline t.given t.timeout) moment && may_expire x) ≡ false
      by_home None at = and_none (nat_le (deadline t.given t.timeout) moment)
      by_home (Some x) at =
          let none : times t.n (numbers_at (endpoint_at m x.ep)) ≡ 0 = nowhere x.ep (cases_lt t.n m.handle.next_number) in
          let here : ◌≡◌ {A = ℕ} (times t.n (numbers_at (Some x.endpoint))) 0 = subst (λ o. ◌≡◌ {A = ℕ} (times t.n (numbers_at o)) 0) at.0 none in
          absurd (omega (arith, here, progress_times t.n x.endpoint.line x.item at.1))

  -- filters by equal tests
  filter_numbers : (test : Timer → Bool) (by : ℕ → Bool) (xs : List Timer) → AllByRecursion (λ t. test t ≡ by t.n) xs → map (λ t. t.n) (filter test xs) ≡ filter by (map (λ t. t.n) xs)
  filter_numbers test by [] same = refl
  filter_numbers test by (t ∷ xs) same = by_test (test t) (by t.n) same.0 (filter_numbers test by xs same.1)
    where
      by_test : (a b : Bool) → a ≡ b → map (λ (x : Timer). x.n) (filter test xs) ≡ filter by (map (λ (x : Timer). x.n) xs) → map (λ (x : Timer). x.n) (cond a (t ∷ filter test xs) (filter test xs)) ≡ cond b (t.n ∷ filter by (map (λ (x : Timer). x.n) xs)) (filter by (map (λ (x : Timer). x.n) xs))
      by_test true true e rest = ap (λ l. t.n ∷ l) rest
      by_test false false e rest = rest
      by_test true false e rest = absurd cc
      by_test false true e rest = absurd cc

  -- the handle's numbers that are due
  pub numbers_due : map (λ t. t.n) (filter (is_over_of setup w moment h) ts) ≡ due_of setup book moment h m
  numbers_due =
      ap (map (λ (t : Timer). t.n)) (left_filter (is_over_of setup w moment h) over_fails tracks.left)
      ∙ (filter_numbers (is_over_of setup w moment h) (λ n. is_due moment (given_at h n book) (home n)) tracks.all (each_weaker (IsFound h tracks.all book) (λ t. is_over_of setup w moment h t ≡ is_due moment (given_at h t.n book) (home t.n)) tracks.all same_test tracks.found)
      ∙ ap (filter (λ n. is_due moment (given_at h n book) (home n))) tracks.numbers)

-- a handle's timers among those that are over
own_over : (setup : Setup) (w : World) (moment h : ℕ) (ts : List Timer) → own h (filter (is_over setup w moment) ts) ≡ filter (is_over_of setup w moment h) (own h ts)
own_over setup w moment h [] = refl
own_over setup w moment h (t ∷ ts) = by_test (t.h == h) refl (is_over setup w moment t) refl (own_over setup w moment h ts)
  where
    R : List Timer
    R = filter (is_over setup w moment) ts

    by_test : (a : Bool) → (t.h == h) ≡ a → (b : Bool) → is_over setup w moment t ≡ b → own h R ≡ filter (is_over_of setup w moment h) (own h ts) → own h (cond b (t ∷ R) R) ≡ filter (is_over_of setup w moment h) (cond a (t ∷ own h ts) (own h ts))
    by_test true its b over rest = by_over b (sym over ∙ ap (λ k. nat_le (deadline t.given t.timeout) moment && would_expire setup w k t.n) (eqb-true t.h h its)) rest
      where
        by_over : (b : Bool) → b ≡ is_over_of setup w moment h t → own h R ≡ filter (is_over_of setup w moment h) (own h ts) → own h (cond b (t ∷ R) R) ≡ filter (is_over_of setup w moment h) (t ∷ own h ts)
        by_over true is rest = ap (λ x. cond x (t ∷ own h R) (own h R)) its ∙ (ap (λ l. t ∷ l) rest ∙ ap (λ x. cond x (t ∷ filter (is_over_of setup w moment h) (own h ts)) (filter (is_over_of setup w moment h) (own h ts))) is)
        by_over false is rest = rest ∙ ap (λ x. cond x (t ∷ filter (is_over_of setup w moment h) (own h ts)) (filter (is_over_of setup w moment h) (own h ts))) is
    by_test false other true over rest = ap (λ x. cond x (t ∷ own h R) (own h R)) other ∙ rest
    by_test false other false over rest = rest

-- an Expire for each of a handle's timers
expires_own : (h : ℕ) (ts : List Timer) → map (λ t. Expire t.h t.n) (own h ts) ≡ map (λ n. Expire h n) (map (λ t. t.n) (own h ts))
expires_own h [] = refl
expires_own h (t ∷ ts) = by_test (t.h == h) refl (expires_own h ts)
  where
    by_test : (b : Bool) → (t.h == h) ≡ b → map (λ (x : Timer). Expire x.h x.n) (own h ts) ≡ map (λ n. Expire h n) (map (λ (x : Timer). x.n) (own h ts)) → map (λ (x : Timer). Expire x.h x.n) (cond b (t ∷ own h ts) (own h ts)) ≡ map (λ n. Expire h n) (map (λ (x : Timer). x.n) (cond b (t ∷ own h ts) (own h ts)))
    by_test true its rest = ap (λ k. Expire k t.n ∷ map (λ (x : Timer). Expire x.h x.n) (own h ts)) (eqb-true t.h h its) ∙ ap (λ l. Expire h t.n ∷ l) rest
    by_test false other rest = rest

-- each of the same lists, one behind the other
flat_same : (F : ℕ → List Timer) (G : ℕ → List Step) → ((h : ℕ) → map (λ t. Expire t.h t.n) (F h) ≡ G h) → (xs : List ℕ) → map (λ t. Expire t.h t.n) (flat_map F xs) ≡ flat_map G xs
flat_same F G same [] = refl
flat_same F G same (h ∷ hs) = map-append (λ (t : Timer). Expire t.h t.n) (F h) (flat_map F hs) ∙ (ap (λ l. l ++ map (λ (t : Timer). Expire t.h t.n) (flat_map F hs)) (same h) ∙ ap (λ l. G h ++ l) (flat_same F G same hs))

-- the steps of dated places
steps_dated : (places : List Place) → steps_in (map (λ (x : Dated). x.place) (dated places)) ≡ steps_of places
steps_dated [] = refl
steps_dated (p ∷ ps) = ap (λ l. p.step ∷ l) (steps_dated ps)

-- what is due is what the timers say
pub due_by_timers : (setup : Setup) (places : List Place) (moment : ℕ) → IsRun setup places → expires (by_name (filter (is_over setup (world_where setup places) moment) (timers_of places))) ≡ due setup (dated places) moment
unfolding due
due_by_timers setup places moment run =
    flat_same (λ h. own h (filter (is_over setup w moment) (timers_of places))) (λ h. map (λ n. Expire h n) (due_of setup (dated places) moment h (machine_of setup h w))) each (below 64)
    ∙ ap (λ l. flat_map (λ h. map (λ n. Expire h n) (due_of setup (dated places) moment h (machine_of setup h (world_from setup (new_world setup) l)))) (below 64)) (sym (steps_dated places))
  where
    w : World
    w = world_where setup places

    each : (h : ℕ) → map (λ (t : Timer). Expire t.h t.n) (own h (filter (is_over setup w moment) (timers_of places))) ≡ map (λ n. Expire h n) (due_of setup (dated places) moment h (machine_of setup h w))
    each h = expires_own h (filter (is_over setup w moment) (timers_of places))
        ∙ ap (map (λ n. Expire h n)) (ap (map (λ (t : Timer). t.n)) (own_over setup w moment h (timers_of places)) ∙ numbers_due setup w h moment (own h (timers_of places)) (dated places) (tracks_at setup h places run))
