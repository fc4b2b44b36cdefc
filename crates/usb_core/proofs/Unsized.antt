-- At an endpoint without a packet size nothing is done but that its halt is ended: no submission is accepted there. What its transfers moved is
-- the cut into no shares.
use Rattle.std.proofs.Common.{◌≡◌, ◌∙◌, ◌==◌, ◌++◌, ◌<◌, ◌≤◌, ◌⊎◌, ℕ, Bool, true, false, List, [], ◌∷◌, Option, Some, None, ap, ap₂, arith, inl, inr, map, nat_eq, refl, subst, subst₂, sym}
use Rattle.std.specs.Prelude.{◌&&◌, if◌then◌else◌}
use Rattle.std.specs.List.{AllByRecursion, IsDistinct, flat_map}
use Rattle.std.proofs.lemmas.Bool.{and_parts, cases_lt, cond-false, cond-true}
use Rattle.std.proofs.lemmas.Option.{same_Some}
use Rattle.usb_model.specs.declared.effect.Change.{Change}
use Rattle.usb_model.specs.declared.effect.Change.TheVariants.{Drops, Frees, Gains, Keeps, Renews, Sets}
use Rattle.usb_model.specs.declared.effect.Effect.{Effect}
use Rattle.usb_model.specs.declared.endpoint.Endpoint.{Endpoint}
use Rattle.usb_model.specs.declared.endpoint.EndpointState.{EndpointState}
use Rattle.usb_model.specs.declared.endpoint.EndpointState.TheVariants.{Halted, Running, Stopped}
use Rattle.usb_model.specs.declared.endpoint_effect.EndpointEffect.{EndpointEffect}
use Rattle.usb_model.specs.declared.handle.Handle.{Handle}
use Rattle.usb_model.specs.declared.step.Step.{Step}
use Rattle.usb_model.specs.declared.step.Step.TheVariants.{Serve, Unplug}
use Rattle.usb_model.specs.declared.reply.Reply.TheVariants.{Idle}
use Rattle.usb_model.specs.Coherence.{IsCoherent}
use Rattle.usb_model.specs.Endpoint.{first_waiting, fresh, live_numbers, only_says}
use Rattle.usb_model.specs.Endpoint.Serve.{serve, serve_first}
use Rattle.usb_model.specs.Fitness.{IsWell, errands_of, events_of}
use Rattle.usb_model.specs.Laws.Account.{Accepted, Account, Asked, Clearing, Made, accepted_by, account, account_by, account_from, account_of, added, asked_by, ended_by, new_account}
use Rattle.usb_model.specs.Laws.Cut.{AllFit, AllTold, Cell, Cleared, IsCut, Part, accepted_as, endpoint_of, numbers_of, packets_taken, parts_of, times}
use Rattle.usb_model.specs.Machine.{Machine, at_endpoint, device_of, endpoint_at, is_gone}
use Rattle.usb_model.specs.Machine.Turns.{effect}
use Rattle.usb_model.specs.Requests.{is_unsupported}
use Rattle.usb_model.specs.Setup.{Setup, is_within, kind_of, packet_size_of, script_of}
use Rattle.usb_model.specs.World.{World, all_ends_after, holder, is_blocked, is_its, machine_of, new_world, owner_of, turn, turn_by, turn_of, turn_of_nobody, world_after, world_from}
use Rattle.proof_model.proofs.Handles.Changes.{places_equal}
use Rattle.proof_model.proofs.Handles.Isolation.{effect_to, turn_blocked, turn_free}
use Rattle.proof_model.proofs.Lists.Parts.{each_append}
use Rattle.proof_model.proofs.Work.Moves.{SetsNone}
use Rattle.proof_model.proofs.Cut.Runs.{cuts_at}
use Rattle.proof_model.proofs.Cut.Steps.{rest_sets}
use Rattle.proof_model.proofs.Machines.Deeds.{IsDone, IsWork, asks_it, clears, commands, delivers, only_rests, serves, submits, works}
use Rattle.proof_model.proofs.Machines.Done.{is_done}
use Rattle.proof_model.proofs.Machines.Idle.{at_device_of}
use Rattle.proof_model.proofs.Machines.Well.{first_news, first_order, fit_at}
use Rattle.refine_world.specs.Lively.{IsFine, IsSized}
use Rattle.refine_world.proofs.EndpointInvariant.{IsSound, sound_at, sound_turn}
use Rattle.refine_world.proofs.Sizes.{asked_sized, ordered_sized, submits_supported, told_sized}
use Rattle.usb_core.specs.Runs.{IsCutAt}

-- nothing was accepted but that a halt ends, nothing came of it, and all answers of the script are left
pub record IsUntouched (setup : Setup) (d e : ℕ) (a : Account) (end : Endpoint) : Type 0 where
  pub accepted : AllByRecursion (λ x. x ≡ Clearing) a.accepted
  pub asked : a.asked ≡ []
  pub ended : a.ended ≡ []
  pub made : a.made ≡ []
  pub line : end.line ≡ []
  pub left : end.script_left ≡ script_of setup d e
  pub received : end.packets_received ≡ []

-- a cell for each, without a share
abbrev cells_of : List Accepted → List Cell
cells_of [] = []
cells_of (x ∷ xs) = Cleared ∷ cells_of xs

all_cleared : (xs : List Accepted) → AllByRecursion (λ x. x ≡ Clearing) xs → map accepted_as (cells_of xs) ≡ xs
all_cleared [] each = refl
all_cleared (x ∷ xs) each = ap₂ (λ (y : Accepted) ys. y ∷ ys) (sym each.0) (all_cleared xs each.1)

no_parts : (xs : List Accepted) → flat_map parts_of (cells_of xs) ≡ []
no_parts [] = refl
no_parts (x ∷ xs) = no_parts xs

none_misfits : (size : ℕ) (xs : List Accepted) → AllFit size false (cells_of xs)
none_misfits size [] = tt
none_misfits size (x ∷ xs) = none_misfits size xs

-- that is a cut
untouched_cut : (setup : Setup) (size d e : ℕ) (a : Account) (end : Endpoint) → IsUntouched setup d e a end → IsCut size (script_of setup d e) a end
unfolding IsDistinct
untouched_cut setup size d e a end u = record {
  cells = cells_of a.accepted;
  all = all_cleared a.accepted u.accepted;
  numbers = subst (λ (l : List Part). IsDistinct nat_eq (map (λ x. x.n) l)) (sym none) tt;
  shares = ap (λ (l : List Part). flat_map (λ x. x.share) l ++ end.script_left) none ∙ u.left;
  fits = none_misfits size a.accepted;
  ended = subst (λ (l : List Part). flat_map (λ x. endpoint_of x.n x.fate) l ≡ a.ended) (sym none) (sym u.ended);
  told = subst (λ (l : List Part). AllTold size a (live_numbers end.line) l) (sym none) tt;
  results = subst (λ (l : List Made). AllByRecursion (λ x. 0 < times x.result.n (numbers_of (cells_of a.accepted))) l) (sym u.made) tt;
  asks = subst (λ (l : List Asked). AllByRecursion (λ x. 0 < times x.n (numbers_of (cells_of a.accepted))) l) (sym u.asked) tt;
  packets = subst (λ (l : List Part). flat_map (packets_taken size) l ≡ end.packets_received) (sym none) (sym u.received);
}
  where
    none : flat_map parts_of (cells_of a.accepted) ≡ []
    none = no_parts a.accepted

-- an endpoint made new
fresh_untouched : (setup : Setup) (d e : ℕ) → IsUntouched setup d e new_account (fresh setup d e)
unfolding fresh
fresh_untouched setup d e = record { accepted = tt; asked = refl; ended = refl; made = refl; line = refl; left = refl; received = refl }

-- work that does nothing but end a halt
record IsHarmless (e : Endpoint) (step : Step) (doing : EndpointEffect) : Type 0 where
  line : doing.endpoint.line ≡ e.line
  left : doing.endpoint.script_left ≡ e.script_left
  received : doing.endpoint.packets_received ≡ e.packets_received
  results : doing.results ≡ []
  accepted : (handle : Handle) → AllByRecursion (λ x. x ≡ Clearing) (accepted_by handle step doing.reply)
  asked : asked_by step doing.reply ≡ []
  ended : (gone : Bool) → ended_by gone doing.reply ≡ []

-- nothing is served where no transfer is
serves_none : (size : ℕ) (gone : Bool) (e : Endpoint) (dev ep : ℕ) → e.line ≡ [] → IsHarmless e (Serve dev ep) (serve size gone e)
unfolding serve serve_first first_waiting
serves_none size gone e dev ep line =
    let none : first_waiting e.line ≡ None = ap first_waiting line in
    rw none (by_state gone e.state)
  where
    idle : IsHarmless e (Serve dev ep) (only_says e Idle)
    idle = record { line = refl; left = refl; received = refl; results = refl; accepted = λ handle. tt; asked = refl; ended = λ gone. refl }

    by_state : (g : Bool) (s : EndpointState) → IsHarmless e (Serve dev ep) (serve_first size g e s None)
    by_state true Running = idle
    by_state false Running = idle
    by_state true Stopped = idle
    by_state false Stopped = idle
    by_state true Halted = idle
    by_state false Halted = idle

-- an endpoint without a packet size has no transfer
unsized_idle : (size : ℕ) (e : Endpoint) → size ≡ 0 → IsSized size e → e.line ≡ []
unsized_idle size e none (inl some) = absurd (omega (arith, some, none))
unsized_idle size e none (inr idle) = idle.0

-- and no other work is done there
work_harmless : (setup : Setup) (h : ℕ) (m : Machine) (ep : ℕ) (e : Endpoint) (step : Step) (handle : Handle) (doing : EndpointEffect) → IsFine setup → IsWell setup m → endpoint_at m ep ≡ Some e → IsWork setup m ep e step handle doing → (effect setup h m step).reply ≡ doing.reply
    → IsSized (packet_size_of setup (device_of m) ep) e → packet_size_of setup (device_of m) ep ≡ 0 → IsHarmless e step doing
work_harmless setup h m ep e step handle doing fine well here (serves dev) says sized none =
    serves_none (packet_size_of setup (device_of m) ep) (is_gone m) e dev ep (unsized_idle (packet_size_of setup (device_of m) ep) e none sized)
work_harmless setup h m ep e step handle doing fine well here (commands o os is) says sized none =
    absurd (omega (arith, none, ordered_sized (packet_size_of setup (device_of m) ep) e o _ _ sized (subst (λ l. IsCoherent e l (events_of ep m.news)) (first_order ep o m.orders os is).0 (fit_at setup m ep e well here).coherent)))
work_harmless setup h m ep e step handle doing fine well here (delivers event ns is) says sized none =
    absurd (omega (arith, none, told_sized (packet_size_of setup (device_of m) ep) e _ event _ sized (subst (λ l. IsCoherent e (errands_of ep m.orders) l) (first_news ep event m.news ns is).0 (fit_at setup m ep e well here).coherent)))
work_harmless setup h m ep e step handle doing fine well here (asks_it n i is at free) says sized none =
    absurd (omega (arith, none, asked_sized (packet_size_of setup (device_of m) ep) e n i sized at))
work_harmless setup h m ep e step handle doing fine well here (submits {handle = left} {request = request} {round = round} is at good short) says sized none =
    let held = well.of_held (device_of m) ep e (at_device_of m ep e here).0 in
    let some = fine.sizes (device_of m) ep held.0 held.1 (subst (λ k. is_unsupported (kind_of setup (device_of m) k) ≡ false) at (submits_supported setup h m step left request round m.handle.next_number is says)) in
    absurd (omega (arith, none, some))
work_harmless setup h m ep e step handle doing fine well here (clears g empty) says sized none =
    record { line = refl; left = refl; received = refl; results = refl; accepted = λ handle. (refl, tt); asked = refl; ended = λ gone. refl }

-- such work leaves it untouched
added_untouched : (setup : Setup) (d e : ℕ) (gone : Bool) (name : Handle) (step : Step) (handle : Handle) (dev ep : ℕ) (old : Endpoint) (doing : EndpointEffect) (a : Account) → IsHarmless old step doing → IsUntouched setup d e a old
    → IsUntouched setup d e (added gone name step (at_endpoint handle dev ep doing) a) doing.endpoint
unfolding at_endpoint
added_untouched setup d e gone name step handle dev ep old doing a q u = record {
  accepted = each_append (λ x. x ≡ Clearing) a.accepted (accepted_by name step doing.reply) u.accepted (q.accepted name);
  asked = ap₂ (λ x y. x ++ y) u.asked q.asked;
  ended = ap₂ (λ x y. x ++ y) u.ended (q.ended gone);
  made = ap₂ (λ (x : List Made) y. x ++ map (λ r. record { result = r; gone = gone }) y) u.made q.results;
  line = q.line ∙ u.line;
  left = q.left ∙ u.left;
  received = q.received ∙ u.received;
}

-- an endpoint that a holder's machine has is the world's
its_end : (setup : Setup) (h : ℕ) (w : World) (d e : ℕ) (x : Endpoint) → is_its h (holder setup w.claims d e) ≡ true → (machine_of setup h w).endpoints d e ≡ Some x → x ≡ w.endpoints d e
unfolding machine_of
its_end setup h w d e x its is = same_Some x (w.endpoints d e) (sym is ∙ rw its refl)

module _ (setup : Setup) (fine : IsFine setup) (d e : ℕ) (none : packet_size_of setup d e ≡ 0) where
  -- so it is in this world, and with this account
  abbrev Untouched : World → Account → Type 0
  Untouched w a = IsUntouched setup d e a (w.endpoints d e)

  -- an endpoint that is new, or as it was
  either_untouched : (w : World) (a : Account) (b : Bool) → Untouched w a → IsUntouched setup d e (if b then new_account else a) (if b then fresh setup d e else w.endpoints d e)
  either_untouched w a true u = fresh_untouched setup d e
  either_untouched w a false u = u

  change_untouched : (g : ℕ) (w : World) (step : Step) (done : Effect) (change : Change) (a : Account) → SetsNone change → Untouched w a
      → IsUntouched setup d e (account_by setup d e g w step done change a) (all_ends_after setup g w.claims w.endpoints change d e)
  change_untouched g w step done Keeps a s u = u
  change_untouched g w step done Frees a s u = u
  change_untouched g w step done (Gains dev i) a s u = either_untouched w a (is_within setup dev i d e) u
  change_untouched g w step done (Drops dev i) a s u = u
  change_untouched g w step done (Renews dev) a s u = either_untouched w a (is_its g (holder setup w.claims d e)) u
  change_untouched g w step done (Sets dev ep x) a s u = absurd s

  done_untouched : (g : ℕ) (w : World) (step : Step) (done : Effect) (a : Account) → IsSound setup (machine_of setup g w) → IsDone setup g (machine_of setup g w) step done → done ≡ effect setup g (machine_of setup g w) step → Untouched w a
      → IsUntouched setup d e (account_by setup d e g w step done done.change a) (all_ends_after setup g w.claims w.endpoints done.change d e)
  unfolding at_endpoint
  done_untouched g w step done a sound (only_rests rest) same u = change_untouched g w step done done.change a (rest_sets setup g (machine_of setup g w) step done rest).0 u
  done_untouched g w step done a sound (works {handle = handle} {d = doing} ep e0 here work) same u = by_test (((dev == d) && (ep == e)) && is_its g (holder setup w.claims d e)) refl
    where
      dev : ℕ
      dev = device_of (machine_of setup g w)

      at_it : dev ≡ d → ep ≡ e → is_its g (holder setup w.claims d e) ≡ true → IsUntouched setup d e (added (w.gone d) (w.names g) step (at_endpoint handle dev ep doing) a) doing.endpoint
      at_it p q its =
          let at = (at_device_of (machine_of setup g w) ep e0 here).0 in
          let is : e0 ≡ w.endpoints d e = its_end setup g w d e e0 its (subst₂ (λ x y. (machine_of setup g w).endpoints x y ≡ Some e0) p q at) in
          let size : packet_size_of setup dev ep ≡ 0 = subst₂ (λ x y. packet_size_of setup x y ≡ 0) (sym p) (sym q) none in
          added_untouched setup d e (w.gone d) (w.names g) step handle dev ep e0 doing a
          (work_harmless setup g (machine_of setup g w) ep e0 step handle doing fine sound.well here work (ap (λ (x : Effect). x.reply) (sym same)) (sound.lively dev ep e0 at).sized size)
          (subst (IsUntouched setup d e a) (sym is) u)

      by_test : (b : Bool) → (((dev == d) && (ep == e)) && is_its g (holder setup w.claims d e)) ≡ b
          → IsUntouched setup d e (if b then added (w.gone d) (w.names g) step (at_endpoint handle dev ep doing) a else a) (if b then doing.endpoint else w.endpoints d e)
      by_test true t =
          let p = and_parts ((dev == d) && (ep == e)) (is_its g (holder setup w.claims d e)) t in
          let at = places_equal dev ep d e p.0 in
          at_it at.0 at.1 p.1
      by_test false t = u

  world_untouched : (g : ℕ) (w : World) (step : Step) (a : Account) → IsSound setup (machine_of setup g w) → Untouched w a
      → Untouched (world_after setup g w step (effect_to setup g w step)) (account_by setup d e g w step (effect_to setup g w step) (effect_to setup g w step).change a)
  unfolding world_after
  world_untouched g w step a sound u = done_untouched g w step (effect_to setup g w step) a sound (is_done setup g (machine_of setup g w) step sound.well) refl u

  account_blocked : (g : ℕ) (w : World) (step : Step) (a : Account) → is_blocked setup g w (effect_to setup g w step).change ≡ true → account_of setup d e w step (Some g) a ≡ a
  unfolding account_of
  account_blocked g w step a q = cond-true (is_blocked setup g w (effect_to setup g w step).change) _ _ q

  account_free : (g : ℕ) (w : World) (step : Step) (a : Account) → is_blocked setup g w (effect_to setup g w step).change ≡ false
      → account_of setup d e w step (Some g) a ≡ account_by setup d e g w step (effect_to setup g w step) (effect_to setup g w step).change a
  unfolding account_of
  account_free g w step a q = cond-false (is_blocked setup g w (effect_to setup g w step).change) _ _ q

  -- the turn of a name
  owned_untouched : (g : ℕ) (w : World) (step : Step) (a : Account) → IsSound setup (machine_of setup g w) → Untouched w a → (b : Bool) → is_blocked setup g w (effect_to setup g w step).change ≡ b
      → Untouched (turn_of setup g w step).world (account_of setup d e w step (Some g) a)
  owned_untouched g w step a sound u true q =
      subst (λ t. Untouched t.world (account_of setup d e w step (Some g) a)) (sym (turn_blocked setup g w step q))
      (subst (Untouched w) (sym (account_blocked g w step a q)) u)
  owned_untouched g w step a sound u false q =
      subst (λ t. Untouched t.world (account_of setup d e w step (Some g) a)) (sym (turn_free setup g w step q))
      (subst (Untouched (world_after setup g w step (effect_to setup g w step))) (sym (account_free g w step a q)) (world_untouched g w step a sound u))

  -- that of nobody
  nobody_untouched : (w : World) (step : Step) (a : Account) → Untouched w a → Untouched (turn_of_nobody setup w step).world a
  unfolding turn_of_nobody
  nobody_untouched w (Unplug dev) a u = u
  nobody_untouched w _ a u = u

  owner_untouched : (w : World) (step : Step) (a : Account) (o : Option ℕ) → ((h : ℕ) → IsSound setup (machine_of setup h w)) → Untouched w a → Untouched (turn_by setup o w step).world (account_of setup d e w step o a)
  unfolding account_of
  owner_untouched w step a None sound u = nobody_untouched w step a u
  owner_untouched w step a (Some g) sound u = owned_untouched g w step a (sound g) u (is_blocked setup g w (effect_to setup g w step).change) refl

  turn_untouched : (w : World) (step : Step) (a : Account) → ((h : ℕ) → IsSound setup (machine_of setup h w)) → Untouched w a → Untouched (turn setup w step).world (account_of setup d e w step (owner_of setup w step) a)
  unfolding turn
  turn_untouched w step a sound u = owner_untouched w step a (owner_of setup w step) sound u

  run_untouched : (w : World) (a : Account) (steps : List Step) → ((h : ℕ) → IsSound setup (machine_of setup h w)) → Untouched w a → Untouched (world_from setup w steps) (account_from setup d e w a steps)
  unfolding account_from world_from
  run_untouched w a [] sound u = u
  run_untouched w a (step ∷ steps) sound u =
      run_untouched (turn setup w step).world (account_of setup d e w step (owner_of setup w step) a) steps (sound_turn setup w step fine sound) (turn_untouched w step a sound u)

  new_untouched : Untouched (new_world setup) new_account
  unfolding new_world
  new_untouched = fresh_untouched setup d e

  sound_start : (h : ℕ) → IsSound setup (machine_of setup h (new_world setup))
  unfolding world_from
  sound_start h = sound_at setup [] fine h

  unsized_cut : (steps : List Step) → IsCutAt setup steps d e
  unfolding account
  unsized_cut steps =
      untouched_cut setup (packet_size_of setup d e) d e (account_from setup d e (new_world setup) new_account steps) ((world_from setup (new_world setup) steps).endpoints d e)
      (run_untouched (new_world setup) new_account steps sound_start new_untouched)

-- over devices whose answers go their endpoint's way, each endpoint is cut
pub cut_anywhere : (setup : Setup) (steps : List Step) → IsFine setup → (d e : ℕ) → IsCutAt setup steps d e
cut_anywhere setup steps fine d e = by_size (cases_lt 0 (packet_size_of setup d e))
  where
    by_size : (0 < packet_size_of setup d e) ⊎ (packet_size_of setup d e ≤ 0) → IsCutAt setup steps d e
    by_size (inl some) = cuts_at setup steps d e (inl some) (fine.kinds d e)
    by_size (inr le) = let none : packet_size_of setup d e ≡ 0 = omega (arith, le) in unsized_cut setup fine d e none steps
