-- The timers of a handle go with its transfers: over the steps of a journal.
use Rattle.std.proofs.Common.{◌≡◌, ◌∙◌, ◌==◌, ◌++◌, ◌+◌, ℕ, Bool, true, false, List, [], ◌∷◌, Option, Some, ap, refl, subst, sym}
use Rattle.std.specs.Prelude.{◌&&◌}
use Rattle.std.proofs.lemmas.Option.{same_Some}
use Rattle.usb_model.specs.declared.effect.Change.TheVariants.{Keeps}
use Rattle.usb_model.specs.declared.effect.Effect.{Effect}
use Rattle.usb_model.specs.declared.endpoint.Endpoint.{Endpoint}
use Rattle.usb_model.specs.declared.endpoint_effect.EndpointEffect.{EndpointEffect}
use Rattle.usb_model.specs.declared.handle.Handle.{Handle}
use Rattle.usb_model.specs.declared.reply.Reply.{Reply}
use Rattle.usb_model.specs.declared.reply.Reply.TheVariants as reply
use Rattle.usb_model.specs.declared.request.Body.TheVariants.{Out}
use Rattle.usb_model.specs.declared.request.Request.{Request}
use Rattle.usb_model.specs.declared.result.InCallback.{InCallback}
use Rattle.usb_model.specs.declared.step.Step.{Step}
use Rattle.usb_model.specs.declared.step.Step.TheVariants.{Answer, Cancel, ClearHalt, Command, Deliver, Expire, Serve, Submit}
use Rattle.usb_model.specs.declared.verdict.Verdict.TheVariants.{Again, AgainWith, Stop}
use Rattle.usb_model.specs.Laws.Places.{number_of}
use Rattle.usb_model.specs.Machine.Calls.{callback_of, called_back, submitted, without}
use Rattle.usb_model.specs.Machine.Turns.{machine_after, maker, take_effect}
use Rattle.usb_model.specs.Machine.{Machine, at_endpoint, device_of, does, endpoint_at, is_gone}
use Rattle.usb_model.specs.Setup.{Setup, packet_size_of}
use Rattle.usb_model.specs.World.{World, is_its, owner_of}
use Rattle.usb_model.specs.World.Due.{Dated, is_number}
use Rattle.usb_model.specs.World.Journal.{is_unplug}
use Rattle.proof_model.proofs.Machines.Deeds.{IsDone, IsRest, IsSubmission, IsWork, again, again_with, anew, asks_it, cancels, claims, claims_again, clears, closes, commands, delivers, expires, idles, only_rests, opens, refuses, releases, resets, serves, stays, stops, submits, takes, unplugs, works}
use Rattle.proof_model.proofs.Places.Placed.{called_by}
use Rattle.proof_model.proofs.Places.Runs.{IsKept}
use Rattle.proof_model.proofs.Lists.Pieces.{same_name}
use Rattle.proof_model.proofs.Work.Replies.{asks_told, command_told, deliver_told, serve_told, told_plain}
use Rattle.usb_journal.specs.declared.timer.Timer.{Timer}
use Rattle.usb_journal.specs.Timers.{ended, numbered, stopped, timeout_in, timers_by}
use Rattle.usb_journal.proofs.Known.{Known, known_rest, known_work}
use Rattle.usb_journal.proofs.Owns.{Left, cut, left_cut, left_push, left_weaker, own, own_push, own_stopped, timeout_own}
use Rattle.usb_journal.proofs.Tracks.{HasTime, IsOver, Tracks, callback_time, given, new_has_time, over_after, quiet, stop_over, times_later}

-- a step that gives no number and ends no callback leaves the timers
same_timers : (ts : List Timer) (step : Step) (moment : ℕ) → ((n : ℕ) → numbered ts step n moment ≡ ts) → ended ts step ≡ ts → (r : Reply) → timers_by ts step r moment ≡ ts
same_timers ts step moment a b (reply.Number n) = a n
same_timers ts step moment a b reply.Done = b
same_timers ts step moment a b _ = refl

-- a reply that is no number gives none
no_number : (r : Reply) → number_of r ≡ [] → (n : ℕ) → is_number n r ≡ false
no_number (reply.Number k) none n = absurd cc
no_number _ none n = refl

-- and is no place's that gives the handle one
gives_none : (h n : ℕ) (owner : Option ℕ) (r : Reply) → is_number n r ≡ false → (is_its h owner && is_number n r) ≡ false
gives_none h n owner r none = ap (λ b. is_its h owner && b) none ∙ by_test (is_its h owner)
  where
    by_test : (b : Bool) → (b && false) ≡ false
    by_test true = refl
    by_test false = refl

-- the steps that submit
abbrev may_submit : Step → Bool
may_submit (Submit g request) = true
may_submit (Answer g k Again) = true
may_submit (Answer g k (AgainWith bytes)) = true
may_submit step = false

submission_may : (handle : Handle) (step : Step) (left : Handle) (request : Request) (round : ℕ) → IsSubmission handle step left request round → may_submit step ≡ true
submission_may handle step left request round (anew g r) = refl
submission_may handle step left request round (again g k x in_call) = refl
submission_may handle step left request round (again_with g k bytes x in_call) = refl

-- the request of a step's submission has one timeout
one_time : (handle : Handle) (step : Step) (left left' : Handle) (request request' : Request) (round round' : ℕ) → IsSubmission handle step left request round → IsSubmission handle step left' request' round' → request.timeout ≡ request'.timeout
one_time handle _ left left' request request' round round' (anew g r) (anew _ _) = refl
one_time handle _ left left' request request' round round' (again g k x is) (again _ _ y is') = ap (λ (z : InCallback). z.request.timeout) (same_Some x y (sym is ∙ is'))
one_time handle _ left left' request request' round round' (again_with g k bytes x is) (again_with _ _ _ y is') = ap (λ (z : InCallback). z.request.timeout) (same_Some x y (sym is ∙ is'))

module _ (setup : Setup) (h : ℕ) (m : Machine) (all_ts : List Timer) (book : List Dated) (moment : ℕ) where
  -- the place of a step with this effect
  abbrev place_by : Step → Effect → Dated
  place_by step done = record { place = record { step = step; entry = record { owner = maker h step; reply = done.reply } }; moment = moment }

  -- what is to be shown of a step
  abbrev After : Step → Effect → Type 0
  After step done = Tracks setup h (machine_after setup m step done) (own h (timers_by all_ts step done.reply moment)) (book ++ place_by step done ∷ [])

  -- a step that leaves timers and numbers
  quiet_step : (t : Tracks setup h m (own h all_ts) book) (step : Step) (done : Effect) → IsDone setup h m step done → IsKept setup (machine_after setup m step done) (t.called ++ called_by done.reply)
      → (machine_after setup m step done).handle.next_number ≡ m.handle.next_number → Known (HasTime t.all) (machine_after setup m step done) → timers_by all_ts step done.reply moment ≡ all_ts → ((n : ℕ) → is_number n done.reply ≡ false) → After step done
  quiet_step t step done is kept next known same none =
      quiet setup h m (machine_after setup m step done) (own h all_ts) (own h (timers_by all_ts step done.reply moment)) book (place_by step done) t (t.called ++ called_by done.reply) kept next known
      (subst (λ l. Left (IsOver (machine_after setup m step done) (t.called ++ called_by done.reply)) (own h l) t.all) (sym same) (left_weaker (over_after setup h m step done t.called (called_by done.reply) is t.kept.placed) t.left))
      (λ n. gives_none h n (maker h step) done.reply (none n))

  -- one without work
  quiet_rest : (t : Tracks setup h m (own h all_ts) book) (step : Step) (done : Effect) → IsRest setup h m step done → IsKept setup (machine_after setup m step done) (t.called ++ called_by done.reply)
      → (machine_after setup m step done).handle.next_number ≡ m.handle.next_number → timers_by all_ts step done.reply moment ≡ all_ts → ((n : ℕ) → is_number n done.reply ≡ false) → After step done
  quiet_rest t step done rest kept next same none = quiet_step t step done (only_rests rest) kept next (known_rest (HasTime t.all) setup h m step done t.kept.well rest t.known) same none

  -- work that isn't a submission
  quiet_work : (t : Tracks setup h m (own h all_ts) book) (step : Step) (ep : ℕ) (e : Endpoint) (d : EndpointEffect) → endpoint_at m ep ≡ Some e → IsWork setup m ep e step m.handle d
      → IsKept setup (machine_after setup m step (at_endpoint m.handle (device_of m) ep d)) (t.called ++ called_by d.reply) → may_submit step ≡ false → timers_by all_ts step d.reply moment ≡ all_ts → number_of d.reply ≡ [] → After step (at_endpoint m.handle (device_of m) ep d)
  unfolding machine_after at_endpoint
  quiet_work t step ep e d here work kept other same none =
      quiet_step t step (at_endpoint m.handle (device_of m) ep d) (works ep e here work) kept refl
      (known_work (HasTime t.all) setup h m step ep e m.handle d here work (λ left request round s. let yes : may_submit step ≡ true = submission_may m.handle step left request round s in absurd (cc (yes, other))) t.known) same (no_number d.reply none)

  -- each step without work
  rest_step : (w : World) (t : Tracks setup h m (own h all_ts) book) (step : Step) (done : Effect) → (is_unplug step ≡ false → owner_of setup w step ≡ Some h) → IsRest setup h m step done → IsKept setup (machine_after setup m step done) (t.called ++ called_by done.reply) → After step done
  unfolding machine_after take_effect
  rest_step w t step done owned (stays (refuses why) none) kept = quiet_rest t step _ (stays (refuses why) none) kept refl refl (λ n. refl)
  rest_step w t step done owned (stays idles none) kept = quiet_rest t step _ (stays idles none) kept refl refl (λ n. refl)
  rest_step w t step done owned (stays (unplugs dev) none) kept = quiet_rest t step _ (stays (unplugs dev) none) kept refl refl (λ n. refl)
  rest_step w t step done owned (claims_again g i) kept = quiet_rest t step _ (claims_again g i) kept refl refl (λ n. refl)
  rest_step w t step done owned (opens g dev none) kept = quiet_rest t step _ (opens g dev none) kept refl refl (λ n. refl)
  rest_step w t step done owned (closes g idle) kept = quiet_rest t step _ (closes g idle) kept refl refl (λ n. refl)
  rest_step w t step done owned (claims g i opened free) kept = quiet_rest t step _ (claims g i opened free) kept refl refl (λ n. refl)
  rest_step w t step done owned (releases g i idle) kept = quiet_rest t step _ (releases g i idle) kept refl refl (λ n. refl)
  rest_step w t step done owned (resets g idle) kept = quiet_rest t step _ (resets g idle) kept refl refl (λ n. refl)
  rest_step w t step done owned (takes x xs is) kept = quiet_rest t step _ (takes x xs is) kept refl refl (λ n. refl)
  rest_step w t step done owned (stops g k x in_call) kept =
      let rest : IsRest setup h m (Answer g k Stop) (does (called_back m x.n) Keeps) = stops g k x in_call in
      let m' : Machine = machine_after setup m (Answer g k Stop) (does (called_back m x.n) Keeps) in
      let name : g ≡ h = same_Some g h (owned refl) in
      let cut_is : own h (stopped g k all_ts) ≡ cut k (own h all_ts) = subst (λ a. own h (stopped a k all_ts) ≡ cut k (own h all_ts)) (sym name) (own_stopped h k all_ts) in
      quiet setup h m m' (own h all_ts) (own h (stopped g k all_ts)) book (place_by (Answer g k Stop) (does (called_back m x.n) Keeps)) t (t.called ++ []) kept refl (known_rest (HasTime t.all) setup h m (Answer g k Stop) (does (called_back m x.n) Keeps) t.kept.well rest t.known)
      (subst (λ l. Left (IsOver m' (t.called ++ [])) l t.all) (sym cut_is)
      (left_cut k (stop_over m m' t.called [] k x t.kept.placed in_call refl) (left_weaker (over_after setup h m (Answer g k Stop) (does (called_back m x.n) Keeps) t.called [] (only_rests rest) t.kept.placed) t.left)))
      (λ n. gives_none h n (Some h) reply.Done refl)

  -- a submission
  given_work : (t : Tracks setup h m (own h all_ts) book) (step : Step) (ep : ℕ) (e : Endpoint) (left : Handle) (request : Request) (round : ℕ) (y : Timer) (ts' : List Timer) → endpoint_at m ep ≡ Some e → IsSubmission m.handle step left request round
      → IsWork setup m ep e step (record left { next_number = m.handle.next_number + 1 }) (submitted m.handle.next_number request round e) → maker h step ≡ Some h
      → IsKept setup (machine_after setup m step (at_endpoint (record left { next_number = m.handle.next_number + 1 }) (device_of m) ep (submitted m.handle.next_number request round e))) (t.called ++ [])
      → y.h ≡ h → y.n ≡ m.handle.next_number → y.given ≡ moment → y.timeout ≡ request.timeout
      → Left (IsOver (machine_after setup m step (at_endpoint (record left { next_number = m.handle.next_number + 1 }) (device_of m) ep (submitted m.handle.next_number request round e))) (t.called ++ [])) ts' t.all
      → own h (timers_by all_ts step (reply.Number m.handle.next_number) moment) ≡ ts' ++ y ∷ [] → After step (at_endpoint (record left { next_number = m.handle.next_number + 1 }) (device_of m) ep (submitted m.handle.next_number request round e))
  unfolding machine_after at_endpoint
  given_work t step ep e left request round y ts' here is work mine kept name number at time rest timers =
      let done : Effect = at_endpoint (record left { next_number = m.handle.next_number + 1 }) (device_of m) ep (submitted m.handle.next_number request round e) in
      given setup h m (machine_after setup m step done) (own h all_ts) (own h (timers_by all_ts step (reply.Number m.handle.next_number) moment)) book (place_by step done) t (t.called ++ []) y kept refl name number at
      (known_work (HasTime (t.all ++ y ∷ [])) setup h m step ep e (record left { next_number = m.handle.next_number + 1 }) (submitted m.handle.next_number request round e) here work
      (λ left' request' round' is'. new_has_time setup h m (own h all_ts) book t y request' round' number (time ∙ one_time m.handle step left left' request request' round round' is is')) (times_later t.all y m t.known))
      (subst (λ l. Left (IsOver (machine_after setup m step done) (t.called ++ [])) l (t.all ++ y ∷ [])) (sym timers) (left_push y rest))
      (λ n. ap (λ o. is_its h o && (m.handle.next_number == n)) mine ∙ ap (λ b. b && (m.handle.next_number == n)) (same_name h))

  -- the timers behind a callback's end and one more
  again_timers : (g k : ℕ) (y : Timer) → g ≡ h → y.h ≡ g → own h (stopped g k all_ts ++ y ∷ []) ≡ cut k (own h all_ts) ++ y ∷ []
  again_timers g k y name its =
      own_push h (stopped g k all_ts) y (ap (λ a. a == h) (its ∙ name) ∙ same_name h)
      ∙ ap (λ l. l ++ y ∷ []) (subst (λ a. own h (stopped a k all_ts) ≡ cut k (own h all_ts)) (sym name) (own_stopped h k all_ts))

  -- what is left of them behind its end is kept of all
  again_left : (t : Tracks setup h m (own h all_ts) book) (step : Step) (ep : ℕ) (e : Endpoint) (k : ℕ) (x : InCallback) (left : Handle) (request : Request) (round : ℕ) → callback_of k m.handle.in_callbacks ≡ Some x → left.in_callbacks ≡ without x.n m.handle.in_callbacks → endpoint_at m ep ≡ Some e
      → IsWork setup m ep e step (record left { next_number = m.handle.next_number + 1 }) (submitted m.handle.next_number request round e)
      → Left (IsOver (machine_after setup m step (at_endpoint (record left { next_number = m.handle.next_number + 1 }) (device_of m) ep (submitted m.handle.next_number request round e))) (t.called ++ [])) (cut k (own h all_ts)) t.all
  unfolding machine_after at_endpoint
  again_left t step ep e k x left request round in_call out here work =
      let done : Effect = at_endpoint (record left { next_number = m.handle.next_number + 1 }) (device_of m) ep (submitted m.handle.next_number request round e) in
      left_cut k (stop_over m (machine_after setup m step done) t.called [] k x t.kept.placed in_call out) (left_weaker (over_after setup h m step done t.called [] (works ep e here work) t.kept.placed) t.left)

  -- each piece of work
  work_step : (w : World) (t : Tracks setup h m (own h all_ts) book) (step : Step) (ep : ℕ) (e : Endpoint) (handle : Handle) (d : EndpointEffect) → (is_unplug step ≡ false → owner_of setup w step ≡ Some h) → endpoint_at m ep ≡ Some e → IsWork setup m ep e step handle d
      → IsKept setup (machine_after setup m step (at_endpoint handle (device_of m) ep d)) (t.called ++ called_by d.reply) → After step (at_endpoint handle (device_of m) ep d)
  work_step w t step ep e handle d owned here (serves dev) kept =
      quiet_work t (Serve dev ep) ep e _ here (serves dev) kept refl (same_timers all_ts (Serve dev ep) moment (λ n. refl) refl _) (told_plain _ (serve_told (packet_size_of setup (device_of m) ep) (is_gone m) e)).1
  work_step w t step ep e handle d owned here (commands o os is) kept =
      quiet_work t Command ep e _ here (commands o os is) kept refl (same_timers all_ts Command moment (λ n. refl) refl _) (told_plain _ (command_told (packet_size_of setup (device_of m) ep) ep e o e.state)).1
  work_step w t step ep e handle d owned here (delivers event ns is) kept =
      quiet_work t Deliver ep e _ here (delivers event ns is) kept refl (same_timers all_ts Deliver moment (λ n. refl) refl _) (told_plain _ (deliver_told (packet_size_of setup (device_of m) ep) ep (is_gone m) e event)).1
  work_step w t step ep e handle d owned here (asks_it {ask = ask} n i (cancels g k) at free) kept =
      quiet_work t (Cancel g n) ep e _ here (asks_it n i (cancels g n) at free) kept refl (same_timers all_ts (Cancel g n) moment (λ n. refl) refl _) (told_plain _ (asks_told e n ask)).1
  work_step w t step ep e handle d owned here (asks_it {ask = ask} n i (expires g k) at free) kept =
      quiet_work t (Expire g n) ep e _ here (asks_it n i (expires g n) at free) kept refl (same_timers all_ts (Expire g n) moment (λ n. refl) refl _) (told_plain _ (asks_told e n ask)).1
  work_step w t step ep e handle d owned here (clears g empty) kept = quiet_work t (ClearHalt g ep) ep e _ here (clears g empty) kept refl refl refl
  work_step w t step ep e handle d owned here (submits {handle = left} {request = request} {round = round} (anew g r) at fine short) kept =
      let name : g ≡ h = same_Some g h (owned refl) in
      let y : Timer = record { h = g; n = m.handle.next_number; timeout = r.timeout; given = moment } in
      let work : IsWork setup m ep e (Submit g r) (record m.handle { next_number = m.handle.next_number + 1 }) (submitted m.handle.next_number r 0 e) = submits (anew g r) at fine short in
      given_work t (Submit g r) ep e m.handle r 0 y (own h all_ts) here (anew g r) work refl kept name refl refl refl
      (left_weaker (over_after setup h m (Submit g r) _ t.called [] (works ep e here work) t.kept.placed) t.left)
      (own_push h all_ts y (ap (λ k. k == h) name ∙ same_name h))
  work_step w t step ep e handle d owned here (submits {handle = left} {request = request} {round = round} (again g k x in_call) at fine short) kept =
      let name : g ≡ h = same_Some g h (owned refl) in
      let y : Timer = record { h = g; n = m.handle.next_number; timeout = timeout_in g k all_ts; given = moment } in
      let left : Handle = record m.handle { in_callbacks = without x.n m.handle.in_callbacks } in
      let work : IsWork setup m ep e (Answer g k Again) (record left { next_number = m.handle.next_number + 1 }) (submitted m.handle.next_number x.request (x.round + 1) e) = submits (again g k x in_call) at fine short in
      given_work t (Answer g k Again) ep e left x.request (x.round + 1) y (cut k (own h all_ts)) here (again g k x in_call) work refl kept name refl refl
      (ap (λ a. timeout_in a k all_ts) name ∙ (timeout_own h k all_ts ∙ callback_time setup h m (own h all_ts) book t k x in_call))
      (again_left t (Answer g k Again) ep e k x left x.request (x.round + 1) in_call refl here work)
      (again_timers g k y name refl)
  work_step w t step ep e handle d owned here (submits {handle = left} {request = request} {round = round} (again_with g k bytes x in_call) at fine short) kept =
      let name : g ≡ h = same_Some g h (owned refl) in
      let y : Timer = record { h = g; n = m.handle.next_number; timeout = timeout_in g k all_ts; given = moment } in
      let left : Handle = record m.handle { in_callbacks = without x.n m.handle.in_callbacks } in
      let request : Request = record x.request { body = Out bytes } in
      let work : IsWork setup m ep e (Answer g k (AgainWith bytes)) (record left { next_number = m.handle.next_number + 1 }) (submitted m.handle.next_number request (x.round + 1) e) = submits (again_with g k bytes x in_call) at fine short in
      given_work t (Answer g k (AgainWith bytes)) ep e left request (x.round + 1) y (cut k (own h all_ts)) here (again_with g k bytes x in_call) work refl kept name refl refl
      (ap (λ a. timeout_in a k all_ts) name ∙ (timeout_own h k all_ts ∙ callback_time setup h m (own h all_ts) book t k x in_call))
      (again_left t (Answer g k (AgainWith bytes)) ep e k x left request (x.round + 1) in_call refl here work)
      (again_timers g k y name refl)

  -- each step
  pub own_step : (w : World) (t : Tracks setup h m (own h all_ts) book) (step : Step) (done : Effect) → (is_unplug step ≡ false → owner_of setup w step ≡ Some h) → IsDone setup h m step done → IsKept setup (machine_after setup m step done) (t.called ++ called_by done.reply) → After step done
  unfolding at_endpoint
  own_step w t step done owned (only_rests rest) kept = rest_step w t step done owned rest kept
  own_step w t step done owned (works {handle = handle} {d = d} ep e here work) kept = work_step w t step ep e handle d owned here work kept
