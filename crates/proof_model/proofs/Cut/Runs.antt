-- The cut law, at each endpoint, over every list of steps.
use Rattle.std.proofs.Common.{Bool, List, None, Option, Some, [], ap, arith, false, inl, inr, refl, subst, subst₂, sym, true, ℕ, ◌&&◌, ◌==◌, ◌∙◌, ◌∷◌, ◌≡◌, ◌≤◌}
use Rattle.std.specs.Prelude.{if◌then◌else◌, option_and_then}
use Rattle.std.proofs.lemmas.Bool.{and_parts, cond-false, cond-true, eqb-true}
use Rattle.std.specs.List.{list_all}
use Rattle.std.specs.Option.{option_map_or}
use Rattle.usb_model.specs.declared.endpoint.Endpoint.{Endpoint}
use Rattle.usb_model.specs.declared.handle.Handle.{Handle}
use Rattle.usb_model.specs.declared.step.Step.TheVariants.{Unplug}
use Rattle.usb_model.specs.declared.step.Step.{Step}
use Rattle.usb_model.specs.Laws.Account.{Account, account, account_by, account_from, account_of, added, new_account}
use Rattle.usb_model.specs.Machine.Calls.{without}
use Rattle.usb_model.specs.Laws.Cut.{CutsAt, HasSize}
use Rattle.usb_model.specs.Direction.{is_of_direction}
use Rattle.usb_model.specs.declared.endpoint_effect.EndpointEffect.{EndpointEffect}
use Rattle.usb_model.specs.Endpoint.{fresh}
use Rattle.usb_model.specs.World.Journal.{own}
use Rattle.usb_model.specs.declared.effect.Effect.{Effect}
use Rattle.usb_model.specs.declared.effect.Change.{Change}
use Rattle.usb_model.specs.declared.effect.Change.TheVariants.{Drops, Frees, Gains, Keeps, Renews, Sets}
use Rattle.usb_model.specs.Machine.{Machine, device_of, at_endpoint, endpoint_at, unused}
use Rattle.usb_model.specs.Machine.Turns.{gone_after}
use Rattle.usb_model.specs.Setup.{Setup, interface_of, is_in, is_within, script_of, packet_size_of}
use Rattle.usb_model.specs.World.{Claims, World, all_ends_after, claims_after, holder, is_blocked, is_its, machine_of, new_world, owner_of, turn, turn_by, turn_of, turn_of_nobody, world_after, world_from}
use Rattle.proof_model.proofs.Cut.Known.{IsKnown, gone_rises, known_later, known_new, known_work}
use Rattle.proof_model.proofs.Cut.Steps.{rest_sets, work_holds, work_next}
use Rattle.proof_model.proofs.Machines.Deeds.{IsDone, IsWork, only_rests, works}
use Rattle.usb_model.specs.Fitness.{IsWell}
use Rattle.proof_model.proofs.Machines.Done.{is_done}
use Rattle.proof_model.proofs.Machines.Idle.{at_device_of}
use Rattle.proof_model.proofs.Cut.Ledger.{HoldsAt, holds_new}
use Rattle.proof_model.proofs.Cut.Accounts.{cut_if_holds}
use Rattle.proof_model.proofs.Cut.Leaves.{holds_later}
use Rattle.proof_model.proofs.Machines.Well.{well_kept, well_new}
use Rattle.proof_model.proofs.Handles.Changes.{places_equal}
use Rattle.proof_model.proofs.Handles.Isolation.{IsEither, effect_to, new_machine_of, turn_blocked, turn_free, turn_to}
use Rattle.proof_model.proofs.Work.Moves.{SetsNone}
use Rattle.proof_model.proofs.Lists.Pieces.{either_way, same_name}
use Rattle.std.proofs.lemmas.Option.{same_Some}

-- the ledger of an endpoint holds, and its numbers are below the next one of who holds it
pub record HoldsIn (setup : Setup) (w : World) (d e : ℕ) (a : Account) : Type 0 where
  pub next_number : ℕ
  pub holds : HoldsAt (packet_size_of setup d e) (is_in e) next_number (script_of setup d e) a (w.endpoints d e)
  pub below : (h : ℕ) → is_its h (holder setup w.claims d e) ≡ true → next_number ≤ (w.names h).next_number
  pub known : IsKnown (w.gone d) a

-- after a change of a name: the endpoint, the account, and who holds it; gone: whether the device is
record HoldsBy (setup : Setup) (gone : Bool) (names : ℕ → Handle) (claims : Claims) (d e : ℕ) (a : Account) (end : Endpoint) : Type 0 where
  next_number : ℕ
  holds : HoldsAt (packet_size_of setup d e) (is_in e) next_number (script_of setup d e) a end
  below : (h : ℕ) → is_its h (holder setup claims d e) ≡ true → next_number ≤ (names h).next_number
  known : IsKnown gone a

-- a fresh endpoint holds, by a new account
holds_fresh : (setup : Setup) (gone : Bool) (names : ℕ → Handle) (claims : Claims) (d e : ℕ) → list_all (is_of_direction (is_in e)) (script_of setup d e) ≡ true → HoldsBy setup gone names claims d e new_account (fresh setup d e)
unfolding fresh
holds_fresh setup gone names claims d e k = record { next_number = 0; holds = holds_new (packet_size_of setup d e) (is_in e) 0 (script_of setup d e) k; below = λ h its. omega arith; known = known_new gone }

-- numbers go on
names_rise : (h : ℕ) (names : ℕ → Handle) (handle : Handle) → (names h).next_number ≤ handle.next_number → (g : ℕ) → (names g).next_number ≤ (if h == g then handle else names g).next_number
names_rise h names handle le g = by_test (h == g) refl
  where
    by_test : (b : Bool) → (h == g) ≡ b → (names g).next_number ≤ (if b then handle else names g).next_number
    by_test true is = subst (λ k. (names k).next_number ≤ handle.next_number) (eqb-true h g is) le
    by_test false is = omega arith

-- who holds an endpoint after interfaces were freed held it before
freed_before : (b : Bool) (g : ℕ) (o : Option ℕ) → is_its g (if b then None else o) ≡ true → is_its g o ≡ true
freed_before true g o e = absurd cc
freed_before false g o e = e

-- whoever holds an endpoint held it before, where claims only go
fewer_hold : (setup : Setup) (claims claims' : Claims) (d e g : ℕ) → ((i : ℕ) → is_its g (claims' d i) ≡ true → is_its g (claims d i) ≡ true) → is_its g (holder setup claims' d e) ≡ true → is_its g (holder setup claims d e) ≡ true
fewer_hold setup claims claims' d e g fewer = by_interface (interface_of setup d e)
  where
    by_interface : (o : Option ℕ) → is_its g (option_and_then (λ i. claims' d i) o) ≡ true → is_its g (option_and_then (λ i. claims d i) o) ≡ true
    by_interface None q = q
    by_interface (Some i) q = fewer i q

-- an interface that is gained changes the holder of its endpoints alone
gained_elsewhere : (setup : Setup) (h : ℕ) (claims : Claims) (dev k d e g : ℕ) → is_within setup dev k d e ≡ false → is_its g (holder setup (λ d i. claims_after h claims (Gains dev k) d i) d e) ≡ true → is_its g (holder setup claims d e) ≡ true
gained_elsewhere setup h claims dev k d e g = by_interface (interface_of setup d e)
  where
    by_interface : (o : Option ℕ) → ((dev == d) && option_map_or (λ i. i == k) o false) ≡ false → is_its g (option_and_then (λ i. if (dev == d) && (k == i) then Some h else claims d i) o) ≡ true → is_its g (option_and_then (λ i. claims d i) o) ≡ true
    by_interface None without q = q
    by_interface (Some i) without q =
        let other : ((dev == d) && (k == i)) ≡ false = ap (λ t. (dev == d) && t) (either_way k i) ∙ without in
        rw other at q

-- an endpoint that is new or as it was holds
either_holds : (setup : Setup) (gone : Bool) (names : ℕ → Handle) (claims : Claims) (d e : ℕ) (a : Account) (x : Endpoint) (b : Bool) → list_all (is_of_direction (is_in e)) (script_of setup d e) ≡ true → (b ≡ false → HoldsBy setup gone names claims d e a x)
    → HoldsBy setup gone names claims d e (if b then new_account else a) (if b then fresh setup d e else x)
either_holds setup gone names claims d e a x true k later = holds_fresh setup gone names claims d e k
either_holds setup gone names claims d e a x false k later = later refl

-- a change that sets no endpoint keeps what each endpoint holds
change_holds : (setup : Setup) (d e h : ℕ) (w : World) (names : ℕ → Handle) (step : Step) (done : Effect) (change : Change) (a : Account) → list_all (is_of_direction (is_in e)) (script_of setup d e) ≡ true → ((g : ℕ) → (w.names g).next_number ≤ (names g).next_number)
    → SetsNone change → HoldsIn setup w d e a
    → HoldsBy setup (w.gone d) names (λ x i. claims_after h w.claims change x i) d e (account_by setup d e h w step done change a) (all_ends_after setup h w.claims w.endpoints change d e)
change_holds setup d e h w names step done Keeps a k rise s t = record { next_number = t.next_number; holds = t.holds; below = λ g its. omega (arith, t.below g its, rise g); known = t.known }
change_holds setup d e h w names step done Frees a k rise s t = record {
  next_number = t.next_number;
  holds = t.holds;
  below = λ g its. omega (arith, t.below g (fewer_hold setup w.claims (claims_after h w.claims Frees) d e g (λ i q. freed_before (is_its h (w.claims d i)) g (w.claims d i) q) its), rise g);
  known = t.known;
}
change_holds setup d e h w names step done (Gains dev i) a k rise s t =
    either_holds setup (w.gone d) names _ d e a (w.endpoints d e) (is_within setup dev i d e) k
    (λ without. record { next_number = t.next_number; holds = t.holds; below = λ g its. omega (arith, t.below g (gained_elsewhere setup h w.claims dev i d e g without its), rise g); known = t.known })
change_holds setup d e h w names step done (Drops dev i) a k rise s t = record {
  next_number = t.next_number;
  holds = t.holds;
  below = λ g its. omega (arith, t.below g (fewer_hold setup w.claims (claims_after h w.claims (Drops dev i)) d e g (λ j q. freed_before (((dev == d) && (i == j)) && is_its h (w.claims d j)) g (w.claims d j) q) its), rise g);
  known = t.known;
}
change_holds setup d e h w names step done (Renews dev) a k rise s t =
    either_holds setup (w.gone d) names _ d e a (w.endpoints d e) (is_its h (holder setup w.claims d e)) k (λ other. record { next_number = t.next_number; holds = t.holds; below = λ g its. omega (arith, t.below g its, rise g); known = t.known })
change_holds setup d e h w names step done (Sets dev ep x) a k rise s t = absurd s

-- the name and the endpoints of a handle's machine are the world's
handle_is : (setup : Setup) (h : ℕ) (w : World) → (machine_of setup h w).handle ≡ w.names h
unfolding machine_of
handle_is setup h w = refl

-- the endpoint that a holder's machine has is the world's
its_end : (setup : Setup) (h : ℕ) (w : World) (d e : ℕ) (x : Endpoint) → is_its h (holder setup w.claims d e) ≡ true → (machine_of setup h w).endpoints d e ≡ Some x → x ≡ w.endpoints d e
unfolding machine_of
its_end setup h w d e x its is = same_Some x (w.endpoints d e) (sym is ∙ rw its refl)

-- the endpoint at which the work is done
set_holds : (setup : Setup) (h : ℕ) (w : World) (ep : ℕ) (e0 : Endpoint) (step : Step) (handle : Handle) (work : EndpointEffect) (a : Account) → HasSize (packet_size_of setup (device_of (machine_of setup h w)) ep) (script_of setup (device_of (machine_of setup h w)) ep) → IsWell setup (machine_of setup h w)
    → endpoint_at (machine_of setup h w) ep ≡ Some e0 → IsWork setup (machine_of setup h w) ep e0 step handle work → is_its h (holder setup w.claims (device_of (machine_of setup h w)) ep) ≡ true → HoldsIn setup w (device_of (machine_of setup h w)) ep a
    → HoldsAt (packet_size_of setup (device_of (machine_of setup h w)) ep) (is_in ep) handle.next_number (script_of setup (device_of (machine_of setup h w)) ep)
    (added (w.gone (device_of (machine_of setup h w))) (w.names h) step (at_endpoint handle (device_of (machine_of setup h w)) ep work) a) work.endpoint
unfolding at_endpoint machine_of
set_holds setup h w ep e0 step handle work a some well here is its t =
    let m : Machine = machine_of setup h w in
    let at = at_device_of m ep e0 here in
    let same : e0 ≡ w.endpoints (device_of m) ep = its_end setup h w (device_of m) ep e0 its at.0 in
    let held : HoldsAt (packet_size_of setup (device_of m) ep) (is_in ep) (w.names h).next_number (script_of setup (device_of m) ep) a e0 =
    subst (HoldsAt (packet_size_of setup (device_of m) ep) (is_in ep) (w.names h).next_number (script_of setup (device_of m) ep) a) (sym same) (holds_later _ _ t.next_number (w.names h).next_number _ a _ _ _ _ (t.below h its) t.holds) in
    work_holds setup m ep (script_of setup (device_of m) ep) a e0 step handle work some well here is t.known.ends held

-- and its account
set_known : (setup : Setup) (h : ℕ) (w : World) (ep : ℕ) (e0 : Endpoint) (step : Step) (handle : Handle) (work : EndpointEffect) (a : Account) → IsWell setup (machine_of setup h w)
    → endpoint_at (machine_of setup h w) ep ≡ Some e0 → IsWork setup (machine_of setup h w) ep e0 step handle work → is_its h (holder setup w.claims (device_of (machine_of setup h w)) ep) ≡ true → HoldsIn setup w (device_of (machine_of setup h w)) ep a
    → IsKnown (w.gone (device_of (machine_of setup h w))) (added (w.gone (device_of (machine_of setup h w))) (w.names h) step (at_endpoint handle (device_of (machine_of setup h w)) ep work) a)
unfolding at_endpoint machine_of
set_known setup h w ep e0 step handle work a well here is its t =
    let m : Machine = machine_of setup h w in
    let at = at_device_of m ep e0 here in
    let same : e0 ≡ w.endpoints (device_of m) ep = its_end setup h w (device_of m) ep e0 its at.0 in
    let held : HoldsAt (packet_size_of setup (device_of m) ep) (is_in ep) (w.names h).next_number (script_of setup (device_of m) ep) a e0 =
    subst (HoldsAt (packet_size_of setup (device_of m) ep) (is_in ep) (w.names h).next_number (script_of setup (device_of m) ep) a) (sym same) (holds_later _ _ t.next_number (w.names h).next_number _ a _ _ _ _ (t.below h its) t.holds) in
    known_work setup m (packet_size_of setup (device_of m) ep) (is_in ep) (script_of setup (device_of m) ep) ep a e0 step handle work well here is held t.known

-- two names that hold one endpoint are one
one_holder : (g h : ℕ) (o : Option ℕ) → is_its g o ≡ true → is_its h o ≡ true → h ≡ g
one_holder g h None p q = absurd cc
one_holder g h (Some k) p q = sym (eqb-true k h q) ∙ eqb-true k g p

-- the names after a step
abbrev names_after : ℕ → (ℕ → Handle) → Handle → ℕ → Handle
names_after h names handle g = if h == g then handle else names g

-- the name's record after its step
new_handle : (h : ℕ) (names : ℕ → Handle) (handle : Handle) → (names_after h names handle h).next_number ≡ handle.next_number
new_handle h names handle = rw (same_name h) refl

-- work at an endpoint keeps what each endpoint holds
works_hold : (setup : Setup) (d e h : ℕ) (w : World) (ep : ℕ) (e0 : Endpoint) (step : Step) (handle : Handle) (work : EndpointEffect) (a : Account) → HasSize (packet_size_of setup d e) (script_of setup d e) → IsWell setup (machine_of setup h w) → endpoint_at (machine_of setup h w) ep ≡ Some e0
    → IsWork setup (machine_of setup h w) ep e0 step handle work → HoldsIn setup w d e a
    → HoldsBy setup (w.gone d) (names_after h w.names handle) w.claims d e (account_by setup d e h w step (at_endpoint handle (device_of (machine_of setup h w)) ep work) (Sets (device_of (machine_of setup h w)) ep work.endpoint) a)
    (all_ends_after setup h w.claims w.endpoints (Sets (device_of (machine_of setup h w)) ep work.endpoint) d e)
works_hold setup d e h w ep e0 step handle work a some well here is t = by_test (((dev == d) && (ep == e)) && is_its h (holder setup w.claims d e)) refl
  where
    dev : ℕ
    dev = device_of (machine_of setup h w)

    done : Effect
    done = at_endpoint handle dev ep work

    rise : (g : ℕ) → (w.names g).next_number ≤ (names_after h w.names handle g).next_number
    rise = names_rise h w.names handle (subst (λ x. x.next_number ≤ handle.next_number) (handle_is setup h w) (work_next setup (machine_of setup h w) ep e0 step handle work is))

    here_it_is : dev ≡ d → ep ≡ e → is_its h (holder setup w.claims d e) ≡ true → HoldsBy setup (w.gone d) (names_after h w.names handle) w.claims d e (added (w.gone d) (w.names h) step done a) work.endpoint
    here_it_is p q its = record {
      next_number = handle.next_number;
      holds = subst₂ (λ x y. HoldsAt (packet_size_of setup x y) (is_in y) handle.next_number (script_of setup x y) (added (w.gone x) (w.names h) step done a) work.endpoint) p q
          (set_holds setup h w ep e0 step handle work a (subst₂ (λ x y. HasSize (packet_size_of setup x y) (script_of setup x y)) (sym p) (sym q) some) well here is (subst₂ (λ x y. is_its h (holder setup w.claims x y) ≡ true) (sym p) (sym q) its)
          (subst₂ (λ x y. HoldsIn setup w x y a) (sym p) (sym q) t));
      below = λ g held. subst (λ k. handle.next_number ≤ (names_after h w.names handle k).next_number) (one_holder g h (holder setup w.claims d e) held its) (omega (arith, new_handle h w.names handle));
      known = subst₂ (λ x y. IsKnown (w.gone x) (added (w.gone x) (w.names h) step done a)) p q
          (set_known setup h w ep e0 step handle work a well here is (subst₂ (λ x y. is_its h (holder setup w.claims x y) ≡ true) (sym p) (sym q) its) (subst₂ (λ x y. HoldsIn setup w x y a) (sym p) (sym q) t));
    }

    by_test : (b : Bool) → (((dev == d) && (ep == e)) && is_its h (holder setup w.claims d e)) ≡ b
        → HoldsBy setup (w.gone d) (names_after h w.names handle) w.claims d e (if b then added (w.gone d) (w.names h) step done a else a) (if b then work.endpoint else w.endpoints d e)
    by_test true q =
        let p = and_parts ((dev == d) && (ep == e)) (is_its h (holder setup w.claims d e)) q in
        let at = places_equal dev ep d e p.0 in
        here_it_is at.0 at.1 p.1
    by_test false q = record { next_number = t.next_number; holds = t.holds; below = λ g its. omega (arith, t.below g its, rise g); known = t.known }

-- after a step of the owner that nobody is in the way of
done_holds : (setup : Setup) (d e h : ℕ) (w : World) (step : Step) (done : Effect) (a : Account) → HasSize (packet_size_of setup d e) (script_of setup d e) → list_all (is_of_direction (is_in e)) (script_of setup d e) ≡ true → IsWell setup (machine_of setup h w)
    → IsDone setup h (machine_of setup h w) step done → HoldsIn setup w d e a
    → HoldsBy setup (w.gone d) (names_after h w.names done.handle) (λ x i. claims_after h w.claims done.change x i) d e (account_by setup d e h w step done done.change a) (all_ends_after setup h w.claims w.endpoints done.change d e)
unfolding at_endpoint
done_holds setup d e h w step done a some k well (works {handle = handle} {d = work} ep e0 here is) t = works_hold setup d e h w ep e0 step handle work a some well here is t
done_holds setup d e h w step done a some k well (only_rests rest) t =
    let r = rest_sets setup h (machine_of setup h w) step done rest in
    change_holds setup d e h w (names_after h w.names done.handle) step done done.change a k
    (names_rise h w.names done.handle (omega (arith, r.1, ap (λ x. x.next_number) (handle_is setup h w)))) r.0 t

-- a step keeps what each endpoint holds
world_holds : (setup : Setup) (d e h : ℕ) (w : World) (step : Step) (done : Effect) (a : Account) → HasSize (packet_size_of setup d e) (script_of setup d e) → list_all (is_of_direction (is_in e)) (script_of setup d e) ≡ true → IsWell setup (machine_of setup h w)
    → IsDone setup h (machine_of setup h w) step done → HoldsIn setup w d e a → HoldsIn setup (world_after setup h w step done) d e (account_by setup d e h w step done done.change a)
unfolding world_after
world_holds setup d e h w step done a some k well is t =
    let r = done_holds setup d e h w step done a some k well is t in
    record { next_number = r.next_number; holds = r.holds; below = r.below; known = known_later (w.gone d) (gone_after setup w.gone step d) (account_by setup d e h w step done done.change a) (gone_rises setup w.gone step d) r.known }

-- each machine stays well over a turn
abbrev IsWellAll : Setup → World → Type 0
IsWellAll setup w = (h : ℕ) → IsWell setup (machine_of setup h w)

-- a turn keeps every machine well
well_turn : (setup : Setup) (w : World) (step : Step) → IsWellAll setup w → IsWellAll setup (turn setup w step).world
well_turn setup w step well h = by_turn (turn_to setup h w step)
  where
    by_turn : IsEither setup h w step (turn setup w step) → IsWell setup (machine_of setup h (turn setup w step).world)
    by_turn (inl own) = subst (IsWell setup) (sym own.3) (well_kept setup h (machine_of setup h w) step (well h))
    by_turn (inr nothing) = subst (IsWell setup) (sym nothing.1) (well h)

-- a step that is blocked leaves the account
account_blocked : (setup : Setup) (d e g : ℕ) (w : World) (step : Step) (a : Account) → is_blocked setup g w (effect_to setup g w step).change ≡ true → account_of setup d e w step (Some g) a ≡ a
unfolding account_of
account_blocked setup d e g w step a q = cond-true (is_blocked setup g w (effect_to setup g w step).change) _ _ q

-- a step that is not blocked adds its part to the account
account_free : (setup : Setup) (d e g : ℕ) (w : World) (step : Step) (a : Account) → is_blocked setup g w (effect_to setup g w step).change ≡ false
    → account_of setup d e w step (Some g) a ≡ account_by setup d e g w step (effect_to setup g w step) (effect_to setup g w step).change a
unfolding account_of
account_free setup d e g w step a q = cond-false (is_blocked setup g w (effect_to setup g w step).change) _ _ q

-- a turn of a name keeps what each endpoint holds
holds_owned : (setup : Setup) (d e : ℕ) (w : World) (step : Step) (a : Account) (g : ℕ) → HasSize (packet_size_of setup d e) (script_of setup d e) → list_all (is_of_direction (is_in e)) (script_of setup d e) ≡ true → IsWell setup (machine_of setup g w) → HoldsIn setup w d e a
    → (b : Bool) → is_blocked setup g w (effect_to setup g w step).change ≡ b → HoldsIn setup (turn_of setup g w step).world d e (account_of setup d e w step (Some g) a)
holds_owned setup d e w step a g some k well t true q =
    subst (λ u. HoldsIn setup u.world d e (account_of setup d e w step (Some g) a)) (sym (turn_blocked setup g w step q))
    (subst (HoldsIn setup w d e) (sym (account_blocked setup d e g w step a q)) t)
holds_owned setup d e w step a g some k well t false q =
    subst (λ u. HoldsIn setup u.world d e (account_of setup d e w step (Some g) a)) (sym (turn_free setup g w step q))
    (subst (HoldsIn setup (world_after setup g w step (effect_to setup g w step)) d e) (sym (account_free setup d e g w step a q))
    (world_holds setup d e g w step (effect_to setup g w step) a some k well (is_done setup g (machine_of setup g w) step well) t))

-- nobody's step is nothing to an endpoint
holds_nobody : (setup : Setup) (d e : ℕ) (w : World) (step : Step) (a : Account) → HoldsIn setup w d e a → HoldsIn setup (turn_of_nobody setup w step).world d e a
unfolding turn_of_nobody
holds_nobody setup d e w (Unplug dev) a t = record { next_number = t.next_number; holds = t.holds; below = t.below; known = known_later (w.gone d) (gone_after setup w.gone (Unplug dev) d) a (gone_rises setup w.gone (Unplug dev) d) t.known }
holds_nobody setup d e w _ a t = t

-- a turn of any owner, or of none, keeps what each endpoint holds
holds_owner : (setup : Setup) (d e : ℕ) (w : World) (step : Step) (a : Account) (o : Option ℕ) → HasSize (packet_size_of setup d e) (script_of setup d e) → list_all (is_of_direction (is_in e)) (script_of setup d e) ≡ true → IsWellAll setup w → HoldsIn setup w d e a
    → HoldsIn setup (turn_by setup o w step).world d e (account_of setup d e w step o a)
unfolding account_of
holds_owner setup d e w step a None some k well t = holds_nobody setup d e w step a t
holds_owner setup d e w step a (Some g) some k well t = holds_owned setup d e w step a g some k (well g) t (is_blocked setup g w (effect_to setup g w step).change) refl

-- a turn keeps what each endpoint holds
holds_turn : (setup : Setup) (d e : ℕ) (w : World) (step : Step) (a : Account) → HasSize (packet_size_of setup d e) (script_of setup d e) → list_all (is_of_direction (is_in e)) (script_of setup d e) ≡ true → IsWellAll setup w → HoldsIn setup w d e a
    → HoldsIn setup (turn setup w step).world d e (account_of setup d e w step (owner_of setup w step) a)
unfolding turn
holds_turn setup d e w step a some k well t = holds_owner setup d e w step a (owner_of setup w step) some k well t

-- a run keeps what each endpoint holds
holds_run : (setup : Setup) (d e : ℕ) (w : World) (a : Account) (steps : List Step) → HasSize (packet_size_of setup d e) (script_of setup d e) → list_all (is_of_direction (is_in e)) (script_of setup d e) ≡ true → IsWellAll setup w → HoldsIn setup w d e a
    → HoldsIn setup (world_from setup w steps) d e (account_from setup d e w a steps)
unfolding account_from world_from
holds_run setup d e w a [] some k well t = t
holds_run setup d e w a (step ∷ steps) some k well t =
    holds_run setup d e (turn setup w step).world (account_of setup d e w step (owner_of setup w step) a) steps some k (well_turn setup w step well) (holds_turn setup d e w step a some k well t)

-- every machine is well at the start
well_start : (setup : Setup) → IsWellAll setup (new_world setup)
well_start setup h = subst (IsWell setup) (sym (new_machine_of setup h)) (well_new setup)

-- each endpoint holds at the start
holds_start : (setup : Setup) (d e : ℕ) → list_all (is_of_direction (is_in e)) (script_of setup d e) ≡ true → HoldsIn setup (new_world setup) d e new_account
unfolding new_world
holds_start setup d e k = let r = holds_fresh setup false (λ h. unused) (λ x i. None) d e k in record { next_number = r.next_number; holds = r.holds; below = r.below; known = r.known }

-- the transfers of an endpoint moved a cut of its device's answers
pub cuts_at : (setup : Setup) (steps : List Step) (d e : ℕ) → CutsAt setup steps d e
unfolding account
cuts_at setup steps d e some k =
    let t = holds_run setup d e (new_world setup) new_account steps some k (well_start setup) (holds_start setup d e k) in
    cut_if_holds (packet_size_of setup d e) (is_in e) t.next_number (script_of setup d e) (account_from setup d e (new_world setup) new_account steps) ((world_from setup (new_world setup) steps).endpoints d e) t.holds t.known.results t.known.asks
