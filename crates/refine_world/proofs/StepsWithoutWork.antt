-- Steps that do no work at an endpoint: Open, Close, Claim, Release, Reset, Take, Unplug, an Answer that submits nothing, and refusals.
use Rattle.usb_model.specs.Kept.{new_kept_endpoint}
use Rattle.std.proofs.Common.{Bool, List, None, Option, Some, [], ap, ap₂, append-nil, false, inl, inr, map, refl, subst, subst₂, sym, true, ℕ, ◌&&◌, ◌++◌, ◌==◌, ◌∙◌, ◌∷◌, ◌≡◌, ◌⊎◌}
use Rattle.std.specs.Prelude.{if◌then◌else◌, not, option_and_then}
use Rattle.std.specs.List.{filter}
use Rattle.std.specs.Option.{option_map_or}
use Rattle.std.proofs.lemmas.Bool.{and_parts, and_right, eqb-true}
use Rattle.usb_model.specs.declared.effect.Change.TheVariants.{Drops, Frees, Gains, Keeps, Renews, Sets}
use Rattle.usb_model.specs.declared.effect.Change.{Change}
use Rattle.usb_model.specs.declared.effect.Effect.{Effect}
use Rattle.usb_model.specs.declared.refused.Refused.TheVariants.{HeldElsewhere}
use Rattle.usb_model.specs.declared.reply.Reply.TheVariants as reply
use Rattle.usb_model.specs.declared.step.Step.TheVariants.{Unplug}
use Rattle.usb_model.specs.declared.step.Step.{Step}
use Rattle.usb_model.specs.Endpoint.{fresh}
use Rattle.usb_model.specs.World.Journal.{is_unplug}
use Rattle.usb_model.specs.Machine.{Machine, device_of}
use Rattle.usb_model.specs.Setup.{Setup, interface_of, is_within, script_of, packet_size_of}
use Rattle.usb_model.specs.World.Shared.{past_first, tagged}
use Rattle.usb_model.specs.Machine.Turns.{effect, gone_after, take_effect, takes_news, takes_order, takes_result, unplug_reply}
use Rattle.usb_model.specs.World.{Claims, World, all_ends_after, claims_after, holder, is_blocked, is_its, is_others, machine_of, new_world, owner_of, turn, turn_by, turn_of_nobody, world_after}
use Rattle.proof_model.proofs.Handles.Isolation.{gone_stays, turn_blocked, turn_free}
use Rattle.proof_model.proofs.Lists.Pieces.{either_way, same_name}
use Rattle.proof_model.proofs.Machines.Deeds.{IsIdle, IsRest, claims, claims_again, closes, opens, releases, resets, stays, stops, takes}
use Rattle.refine_world.specs.ShownEndpoint.{AllFew, ShowsEnd, StandsNear}
use Rattle.refine_world.specs.Lively.{IsFine}
use Rattle.refine_world.specs.Shows.{AllHeld, At, Core, Shows, at, errands, events, here, tellings}
use Rattle.refine_world.specs.Steps.{kept_endpoint_after, rested, StepsTo}
use Rattle.refine_world.proofs.Devices.{devices_rested}
use Rattle.refine_world.proofs.Links.{all_sound, has_device, its_lists, machine_parts}
use Rattle.refine_world.proofs.Waiters.{is_here}
use Rattle.refine_world.proofs.Renewed.{fresh_shows, new_near}
use Rattle.refine_world.proofs.Worked.{world_and}
use Rattle.proof_model.proofs.Handles.Alone.{is_its-some}

-- nothing waits at an endpoint
abbrev Empty : {setup : Setup} {w : World} {c : Core} → Shows setup w c → ℕ → ℕ → Type 0
Empty s d e = (at d e s.orders ≡ []) × (at d e s.news ≡ [])

map_none : {A B : Type 0} (f : A → B) (xs : List A) → map f xs ≡ [] → xs ≡ []
map_none f [] q = refl
map_none f (x ∷ xs) q = absurd cc

-- nothing waits at an idle one
empty_if_idle : (setup : Setup) (w : World) (c : Core) (s : Shows setup w c) → IsFine setup → (h d e : ℕ) → holder setup w.claims d e ≡ Some h → IsIdle e (machine_of setup h w) → Empty s d e
empty_if_idle setup w c s fine h d e holds idle =
    let l = its_lists setup w c s fine h d e holds in
    (map_none (λ x. x.errand) (at d e s.orders) (sym l.0 ∙ idle.no_orders), map_none (λ x. x.event) (at d e s.news) (sym l.1 ∙ idle.no_news))

-- nor at one that nobody holds
pub none_there : {A : Type 0} (setup : Setup) (cs : Claims) (d e : ℕ) (xs : List (At A)) → AllHeld setup cs xs → holder setup cs d e ≡ None → at d e xs ≡ []
none_there setup cs d e [] held none = refl
none_there setup cs d e (x ∷ xs) held none = by_test (here d e x) refl (none_there setup cs d e xs held.1 none)
  where
    by_test : (t : Bool) → here d e x ≡ t → at d e xs ≡ [] → map (λ y. y.what) (if t then x ∷ filter (here d e) xs else filter (here d e) xs) ≡ []
    by_test true is rest = let p = is_here d e x is in absurd (cc (held.0, ap₂ (λ a b. holder setup cs a b) p.0 p.1 ∙ none))
    by_test false is rest = rest

empty_if_none : (setup : Setup) (w : World) (c : Core) (s : Shows setup w c) (d e : ℕ) → holder setup w.claims d e ≡ None → Empty s d e
empty_if_none setup w c s d e none = (none_there setup w.claims d e s.orders s.orders_held none, none_there setup w.claims d e s.news s.news_held none)

-- what a change leaves of an endpoint: all as it was; or, where nothing waits, no holder, or an endpoint made new
abbrev Touch : (setup : Setup) (w : World) (c : Core) → Shows setup w c → ℕ → Change → ℕ → ℕ → Type 0
Touch setup w c s h change d e =
    ((holder setup (λ a i. claims_after h w.claims change a i) d e ≡ holder setup w.claims d e) × (all_ends_after setup h w.claims w.endpoints change d e ≡ w.endpoints d e) × (kept_endpoint_after setup h c change d e ≡ c.endpoints d e))
    ⊎ (Empty s d e × ((holder setup (λ a i. claims_after h w.claims change a i) d e ≡ None) ⊎ ((all_ends_after setup h w.claims w.endpoints change d e ≡ fresh setup d e) × (kept_endpoint_after setup h c change d e ≡ new_kept_endpoint (script_of setup d e)))))

-- interfaces are freed
touch_frees : (setup : Setup) (w : World) (c : Core) (s : Shows setup w c) (h d e : ℕ) → (holder setup w.claims d e ≡ Some h → Empty s d e) → Touch setup w c s h Frees d e
touch_frees setup w c s h d e idle = by_interface (interface_of setup d e) idle
  where
    by_interface : (o : Option ℕ) → (option_and_then (λ i. w.claims d i) o ≡ Some h → Empty s d e)
        → ((option_and_then (λ i. claims_after h w.claims Frees d i) o ≡ option_and_then (λ i. w.claims d i) o) × (w.endpoints d e ≡ w.endpoints d e) × (c.endpoints d e ≡ c.endpoints d e))
        ⊎ (Empty s d e × ((option_and_then (λ i. claims_after h w.claims Frees d i) o ≡ None) ⊎ ((w.endpoints d e ≡ fresh setup d e) × (c.endpoints d e ≡ new_kept_endpoint (script_of setup d e)))))
    by_interface None q = inl (refl, refl, refl)
    by_interface (Some i) q = by_test (is_its h (w.claims d i)) refl
      where
        by_test : (b : Bool) → is_its h (w.claims d i) ≡ b
            → (((if b then None else w.claims d i) ≡ w.claims d i) × (w.endpoints d e ≡ w.endpoints d e) × (c.endpoints d e ≡ c.endpoints d e))
            ⊎ (Empty s d e × (((if b then None else w.claims d i) ≡ None) ⊎ ((w.endpoints d e ≡ fresh setup d e) × (c.endpoints d e ≡ new_kept_endpoint (script_of setup d e)))))
        by_test true its = inr (q (is_its-some h (w.claims d i) its), inl refl)
        by_test false its = inl (refl, refl, refl)

-- one is dropped
touch_drops : (setup : Setup) (w : World) (c : Core) (s : Shows setup w c) (h dev k d e : ℕ) → (holder setup w.claims d e ≡ Some h → is_within setup dev k d e ≡ true → Empty s d e) → Touch setup w c s h (Drops dev k) d e
touch_drops setup w c s h dev k d e idle = by_interface (interface_of setup d e) idle
  where
    by_interface : (o : Option ℕ) → (option_and_then (λ i. w.claims d i) o ≡ Some h → ((dev == d) && option_map_or (λ i. i == k) o false) ≡ true → Empty s d e)
        → ((option_and_then (λ i. claims_after h w.claims (Drops dev k) d i) o ≡ option_and_then (λ i. w.claims d i) o) × (w.endpoints d e ≡ w.endpoints d e) × (c.endpoints d e ≡ c.endpoints d e))
        ⊎ (Empty s d e × ((option_and_then (λ i. claims_after h w.claims (Drops dev k) d i) o ≡ None) ⊎ ((w.endpoints d e ≡ fresh setup d e) × (c.endpoints d e ≡ new_kept_endpoint (script_of setup d e)))))
    by_interface None q = inl (refl, refl, refl)
    by_interface (Some i) q = by_test (((dev == d) && (k == i)) && is_its h (w.claims d i)) refl
      where
        by_test : (b : Bool) → (((dev == d) && (k == i)) && is_its h (w.claims d i)) ≡ b
            → (((if b then None else w.claims d i) ≡ w.claims d i) × (w.endpoints d e ≡ w.endpoints d e) × (c.endpoints d e ≡ c.endpoints d e))
            ⊎ (Empty s d e × (((if b then None else w.claims d i) ≡ None) ⊎ ((w.endpoints d e ≡ fresh setup d e) × (c.endpoints d e ≡ new_kept_endpoint (script_of setup d e)))))
        by_test true both =
            let p = and_parts ((dev == d) && (k == i)) (is_its h (w.claims d i)) both in
            inr (q (is_its-some h (w.claims d i) p.1) (ap (λ t. (dev == d) && t) (either_way i k) ∙ p.0), inl refl)
        by_test false its = inl (refl, refl, refl)

-- one is gained, which nobody held
touch_gains : (setup : Setup) (w : World) (c : Core) (s : Shows setup w c) (h dev k d e : ℕ) → w.claims dev k ≡ None → Touch setup w c s h (Gains dev k) d e
touch_gains setup w c s h dev k d e free = by_interface (interface_of setup d e) (λ none. empty_if_none setup w c s d e none)
  where
    by_interface : (o : Option ℕ) → (option_and_then (λ i. w.claims d i) o ≡ None → Empty s d e)
        → ((option_and_then (λ i. claims_after h w.claims (Gains dev k) d i) o ≡ option_and_then (λ i. w.claims d i) o)
        × ((if (dev == d) && option_map_or (λ i. i == k) o false then fresh setup d e else w.endpoints d e) ≡ w.endpoints d e)
        × ((if (dev == d) && option_map_or (λ i. i == k) o false then new_kept_endpoint (script_of setup d e) else c.endpoints d e) ≡ c.endpoints d e))
        ⊎ (Empty s d e × ((option_and_then (λ i. claims_after h w.claims (Gains dev k) d i) o ≡ None)
        ⊎ (((if (dev == d) && option_map_or (λ i. i == k) o false then fresh setup d e else w.endpoints d e) ≡ fresh setup d e)
        × ((if (dev == d) && option_map_or (λ i. i == k) o false then new_kept_endpoint (script_of setup d e) else c.endpoints d e) ≡ new_kept_endpoint (script_of setup d e)))))
    by_interface None q = let none : ((dev == d) && false) ≡ false = and_right (dev == d) false refl in inl (refl, rw none refl, rw none refl)
    by_interface (Some i) q = by_test ((dev == d) && (i == k)) refl
      where
        turned : ((dev == d) && (k == i)) ≡ ((dev == d) && (i == k))
        turned = ap (λ t. (dev == d) && t) (either_way k i)

        by_test : (b : Bool) → ((dev == d) && (i == k)) ≡ b
            → (((if (dev == d) && (k == i) then Some h else w.claims d i) ≡ w.claims d i) × ((if (dev == d) && (i == k) then fresh setup d e else w.endpoints d e) ≡ w.endpoints d e) × ((if (dev == d) && (i == k) then new_kept_endpoint (script_of setup d e) else c.endpoints d e) ≡ c.endpoints d e))
            ⊎ (Empty s d e × (((if (dev == d) && (k == i) then Some h else w.claims d i) ≡ None) ⊎ (((if (dev == d) && (i == k) then fresh setup d e else w.endpoints d e) ≡ fresh setup d e) × ((if (dev == d) && (i == k) then new_kept_endpoint (script_of setup d e) else c.endpoints d e) ≡ new_kept_endpoint (script_of setup d e)))))
        by_test true is =
            let p = and_parts (dev == d) (i == k) is in
            inr (q (ap₂ (λ a b. w.claims a b) (sym (eqb-true dev d p.0)) (eqb-true i k p.1) ∙ free), inr (rw is refl, rw is refl))
        by_test false is = let other : ((dev == d) && (k == i)) ≡ false = turned ∙ is in inl (rw other refl, rw is refl, rw is refl)

-- all of a name's are made new
touch_renews : (setup : Setup) (w : World) (c : Core) (s : Shows setup w c) (h dev d e : ℕ) → (holder setup w.claims d e ≡ Some h → Empty s d e) → Touch setup w c s h (Renews dev) d e
touch_renews setup w c s h dev d e idle = subst (λ claims. P (is_its h (holder setup claims d e))) (sym s.claims) (by_test (is_its h (holder setup w.claims d e)) refl)
  where
    P : Bool → Type 0
    P t = ((holder setup w.claims d e ≡ holder setup w.claims d e) × ((if is_its h (holder setup w.claims d e) then fresh setup d e else w.endpoints d e) ≡ w.endpoints d e) × ((if t then new_kept_endpoint (script_of setup d e) else c.endpoints d e) ≡ c.endpoints d e))
        ⊎ (Empty s d e × ((holder setup w.claims d e ≡ None) ⊎ (((if is_its h (holder setup w.claims d e) then fresh setup d e else w.endpoints d e) ≡ fresh setup d e) × ((if t then new_kept_endpoint (script_of setup d e) else c.endpoints d e) ≡ new_kept_endpoint (script_of setup d e)))))

    by_test : (b : Bool) → is_its h (holder setup w.claims d e) ≡ b → P (is_its h (holder setup w.claims d e))
    by_test true is = inr (idle (is_its-some h (holder setup w.claims d e) is), inr (rw is refl, rw is refl))
    by_test false is = inl (refl, rw is refl, rw is refl)

-- nobody has it whom neither the name nor another holds
nobody : (h : ℕ) (o : Option ℕ) → is_its h o ≡ false → is_others h o ≡ false → o ≡ None
nobody h None p q = refl
nobody h (Some g) p q = absurd (by_test (g == h) p q)
  where
    by_test : (b : Bool) → b ≡ false → not b ≡ false → ⊥
    by_test true p q = cc
    by_test false p q = cc

-- the machine's interfaces
held_is : (setup : Setup) (h : ℕ) (w : World) (d i : ℕ) → (machine_of setup h w).held d i ≡ is_its h (w.claims d i)
unfolding machine_of
held_is setup h w d i = refl

free_of_others : (setup : Setup) (h : ℕ) (w : World) (dev k : ℕ) → is_blocked setup h w (Gains dev k) ≡ false → is_others h (w.claims dev k) ≡ false
unfolding is_blocked
free_of_others setup h w dev k q = q

-- what a step without work leaves of each endpoint
touches : (setup : Setup) (w : World) (c : Core) (s : Shows setup w c) → IsFine setup → (h : ℕ) (step : Step) (done : Effect) → IsRest setup h (machine_of setup h w) step done → is_blocked setup h w done.change ≡ false → (d e : ℕ) → Touch setup w c s h done.change d e
unfolding take_effect
touches setup w c s fine h step done (stays bare t) clear d e = inl (refl, refl, refl)
touches setup w c s fine h step done (claims_again g i) clear d e = inl (refl, refl, refl)
touches setup w c s fine h step done (stops g k x in_call) clear d e = inl (refl, refl, refl)
touches setup w c s fine h step done (takes x xs is) clear d e = inl (refl, refl, refl)
touches setup w c s fine h step done (opens g dev none) clear d e =
    touch_frees setup w c s h d e (λ holds. absurd (cc (has_device setup w h d e (all_sound setup w c fine s h).well holds, sym (ap (λ x. x.device) (machine_parts setup h w).0) ∙ none)))
touches setup w c s fine h step done (closes g idle) clear d e = touch_frees setup w c s h d e (λ holds. empty_if_idle setup w c s fine h d e holds (idle e))
touches setup w c s fine h step done (claims g i opened free) clear d e =
    let dev : ℕ = device_of (machine_of setup h w) in
    touch_gains setup w c s h dev i d e (nobody h (w.claims dev i) (sym (held_is setup h w dev i) ∙ free) (free_of_others setup h w dev i clear))
touches setup w c s fine h step done (releases g i idle) clear d e =
    let dev : ℕ = device_of (machine_of setup h w) in
    touch_drops setup w c s h dev i d e (λ holds within. empty_if_idle setup w c s fine h d e holds (idle e (subst (λ a. is_within setup dev i a e ≡ true) (sym (eqb-true dev d (and_parts (dev == d) _ within).0)) within)))
touches setup w c s fine h step done (resets g idle) clear d e = touch_renews setup w c s h (device_of (machine_of setup h w)) d e (λ holds. empty_if_idle setup w c s fine h d e holds (idle e))

-- those that wait are held on
held_on : {A : Type 0} (setup : Setup) (cs cs' : Claims) (xs : List (At A)) → ((d e : ℕ) → (at d e xs ≡ [] → ⊥) → holder setup cs' d e ≡ holder setup cs d e) → AllHeld setup cs xs → AllHeld setup cs' xs
held_on setup cs claims' [] stay held = tt
held_on setup cs claims' (x ∷ xs) stay held = (
  stay x.dev x.ep (λ q. absurd (some_here q)) ∙ held.0,
  held_on setup cs claims' xs (λ d e more. stay d e (λ q. more (fewer d e (here d e x) q))) held.1,
)
  where
    some_here : at x.dev x.ep (x ∷ xs) ≡ [] → ⊥
    some_here q =
        let is : here x.dev x.ep x ≡ true = ap₂ (λ p r. p && r) (same_name x.dev) (same_name x.ep) in
        let e : x.what ∷ at x.dev x.ep xs ≡ [] = sym (ap (λ t. map (λ y. y.what) (if t then x ∷ filter (here x.dev x.ep) xs else filter (here x.dev x.ep) xs)) is) ∙ q in
        cc

    fewer : (d e : ℕ) (t : Bool) → map (λ y. y.what) (if t then x ∷ filter (here d e) xs else filter (here d e) xs) ≡ [] → at d e xs ≡ []
    fewer d e true q = absurd cc
    fewer d e false q = q

-- such a step leaves nothing in the shared lists
rest_none : (setup : Setup) (h : ℕ) (m : Machine) (step : Step) (done : Effect) → IsRest setup h m step done → (done.orders ≡ []) × (done.news ≡ []) × (done.results ≡ [])
unfolding take_effect
rest_none setup h m step done (stays bare t) = (refl, refl, refl)
rest_none setup h m step done (claims_again g i) = (refl, refl, refl)
rest_none setup h m step done (stops g k x in_call) = (refl, refl, refl)
rest_none setup h m step done (opens g dev none) = (refl, refl, refl)
rest_none setup h m step done (closes g idle) = (refl, refl, refl)
rest_none setup h m step done (claims g i opened free) = (refl, refl, refl)
rest_none setup h m step done (releases g i idle) = (refl, refl, refl)
rest_none setup h m step done (resets g idle) = (refl, refl, refl)
rest_none setup h m step done (takes x xs is) = (refl, refl, refl)

-- a endpoint that is new has no transfer
few_after : (setup : Setup) (h : ℕ) (c : Core) (change : Change) → ((d e : ℕ) → AllFew (c.endpoints d e).line) → (d e : ℕ) → AllFew (kept_endpoint_after setup h c change d e).line
few_after setup h c Keeps few d e = few d e
few_after setup h c Frees few d e = few d e
few_after setup h c (Gains dev k) few d e = by_test (is_within setup dev k d e)
  where
    by_test : (t : Bool) → AllFew (if t then new_kept_endpoint (script_of setup d e) else c.endpoints d e).line
    by_test true = tt
    by_test false = few d e
few_after setup h c (Drops dev k) few d e = few d e
few_after setup h c (Renews dev) few d e = by_test (is_its h (holder setup c.claims d e))
  where
    by_test : (t : Bool) → AllFew (if t then new_kept_endpoint (script_of setup d e) else c.endpoints d e).line
    by_test true = tt
    by_test false = few d e
few_after setup h c (Sets dev ep x) few d e = few d e

-- the core after it shows the world after it
pub rest_steps : (setup : Setup) (w : World) (c : Core) → IsFine setup → Shows setup w c → (h : ℕ) (step : Step) (done : Effect) → is_unplug step ≡ false → takes_order step ≡ false → takes_news step ≡ false → owner_of setup w step ≡ Some h
    → effect setup h (machine_of setup h w) step ≡ done → IsRest setup h (machine_of setup h w) step done → is_blocked setup h w done.change ≡ false
    → StepsTo setup w step (record { entry = record { owner = Some h; reply = done.reply }; core = rested setup h done.handle step done.change c })
unfolding turn world_after
rest_steps setup w c fine s h step done owned no_order no_news own is rest clear =
    (sym (ap (λ t. t.entry) turns), subst (λ u. Shows setup u new) (sym (ap (λ t. t.world) turns)) world_of)
  where
    new : Core
    new = rested setup h done.handle step done.change c

    later : World
    later = world_after setup h w step done

    turns : turn setup w step ≡ record { entry = record { owner = Some h; reply = done.reply }; world = later }
    turns =
        ap (λ o. turn_by setup o w step) own
        ∙ (turn_free setup h w step (ap (λ x. is_blocked setup h w x.change) is ∙ clear) ∙ ap (λ (x : Effect). record { entry = record { owner = Some h; reply = x.reply }; world = world_after setup h w step x }) is)

    claims' : Claims
    claims' = λ a i. claims_after h w.claims done.change a i

    touch : (d e : ℕ) → Touch setup w c s h done.change d e
    touch = touches setup w c s fine h step done rest clear

    orders_stay : (d e : ℕ) → (at d e s.orders ≡ [] → ⊥) → holder setup claims' d e ≡ holder setup w.claims d e
    orders_stay d e some = by_touch (touch d e)
      where
        by_touch : Touch setup w c s h done.change d e → holder setup claims' d e ≡ holder setup w.claims d e
        by_touch (inl t) = t.0
        by_touch (inr t) = absurd (some t.0.0)

    news_stay : (d e : ℕ) → (at d e s.news ≡ [] → ⊥) → holder setup claims' d e ≡ holder setup w.claims d e
    news_stay d e some = by_touch (touch d e)
      where
        by_touch : Touch setup w c s h done.change d e → holder setup claims' d e ≡ holder setup w.claims d e
        by_touch (inl t) = t.0
        by_touch (inr t) = absurd (some t.0.1)

    ends : (g d e : ℕ) → holder setup claims' d e ≡ Some g
        → ShowsEnd (packet_size_of setup d e) (all_ends_after setup h w.claims w.endpoints done.change d e) (errands (at d e s.orders)) (events (at d e s.news)) (kept_endpoint_after setup h c done.change d e) (at d e s.orders) (tellings (at d e s.news))
    ends g d e holds = by_touch (touch d e)
      where
        by_touch : Touch setup w c s h done.change d e
            → ShowsEnd (packet_size_of setup d e) (all_ends_after setup h w.claims w.endpoints done.change d e) (errands (at d e s.orders)) (events (at d e s.news)) (kept_endpoint_after setup h c done.change d e) (at d e s.orders) (tellings (at d e s.news))
        by_touch (inl t) = subst₂ (λ x b. ShowsEnd (packet_size_of setup d e) x (errands (at d e s.orders)) (events (at d e s.news)) b (at d e s.orders) (tellings (at d e s.news))) (sym t.1) (sym t.2) (s.endpoints g d e (sym t.0 ∙ holds))
        by_touch (inr (empty, inl none)) = absurd (cc (holds, none))
        by_touch (inr (empty, inr t)) =
            subst₂ (λ x b. ShowsEnd (packet_size_of setup d e) x (errands (at d e s.orders)) (events (at d e s.news)) b (at d e s.orders) (tellings (at d e s.news))) (sym t.0) (sym t.1)
            (subst₂ (λ os ns. ShowsEnd (packet_size_of setup d e) (fresh setup d e) (errands os) (events ns) (new_kept_endpoint (script_of setup d e)) os (tellings ns)) (sym empty.0) (sym empty.1) (fresh_shows (packet_size_of setup d e) setup d e))

    nears : (g d e : ℕ) → holder setup claims' d e ≡ Some g → StandsNear (kept_endpoint_after setup h c done.change d e) (tellings (at d e s.news))
    nears g d e holds = by_touch (touch d e)
      where
        by_touch : Touch setup w c s h done.change d e → StandsNear (kept_endpoint_after setup h c done.change d e) (tellings (at d e s.news))
        by_touch (inl t) = subst (λ b. StandsNear b (tellings (at d e s.news))) (sym t.2) (s.near g d e (sym t.0 ∙ holds))
        by_touch (inr (empty, inl none)) = absurd (cc (holds, none))
        by_touch (inr (empty, inr t)) = subst₂ (λ b ns. StandsNear b (tellings ns)) (sym t.1) (sym empty.1) (new_near (script_of setup d e))

    none : (done.orders ≡ []) × (done.news ≡ []) × (done.results ≡ [])
    none = rest_none setup h (machine_of setup h w) step done rest

    same_orders : past_first (takes_order step) w.orders ++ tagged h done.orders ≡ w.orders
    same_orders = ap₂ (λ b l. past_first b w.orders ++ tagged h l) no_order none.0 ∙ append-nil w.orders

    same_news : past_first (takes_news step) w.news ++ tagged h done.news ≡ w.news
    same_news = ap₂ (λ b l. past_first b w.news ++ tagged h l) no_news none.1 ∙ append-nil w.news

    world_of : Shows setup later new
    world_of = record {
      steps = s.steps ++ step ∷ [];
      reached = sym (ap (λ t. t.world) turns) ∙ (ap (λ u. (turn setup u step).world) s.reached ∙ sym (world_and setup (new_world setup) s.steps step));
      names = ap (λ names. λ g. if h == g then done.handle else names g) s.names;
      claims = ap (λ claims. λ a i. claims_after h claims done.change a i) s.claims;
      gone = s.gone ∙ (λ i. λ a. sym (gone_stays setup w.gone step a owned) i);
      results = ap (past_first (takes_result step)) s.results ∙ sym (ap (λ l. past_first (takes_result step) w.results ++ tagged h l) none.2 ∙ append-nil (past_first (takes_result step) w.results));
      orders = s.orders;
      news = s.news;
      orders_shown = same_orders ∙ s.orders_shown;
      orders_kept = s.orders_kept;
      news_shown = same_news ∙ s.news_shown;
      news_kept = s.news_kept;
      orders_held = held_on setup w.claims claims' s.orders orders_stay s.orders_held;
      news_held = held_on setup w.claims claims' s.news news_stay s.news_held;
      first = s.first;
      in_run = s.in_run;
      few = few_after setup h c done.change s.few;
      near = nears;
      endpoints = ends;
      devices = devices_rested setup w c s h (machine_of setup h w) step done rest;
    }

-- another name is in the way: nothing changes
pub blocked_steps : (setup : Setup) (w : World) (c : Core) → Shows setup w c → (h : ℕ) (step : Step) → owner_of setup w step ≡ Some h → is_blocked setup h w (effect setup h (machine_of setup h w) step).change ≡ true
    → StepsTo setup w step (record { entry = record { owner = Some h; reply = reply.Refused HeldElsewhere }; core = c })
unfolding turn
blocked_steps setup w c s h step own blocked =
    let turns : turn setup w step ≡ record { entry = record { owner = Some h; reply = reply.Refused HeldElsewhere }; world = w } = ap (λ o. turn_by setup o w step) own ∙ turn_blocked setup h w step blocked in
    (sym (ap (λ t. t.entry) turns), subst (λ u. Shows setup u c) (sym (ap (λ t. t.world) turns)) s)

-- Unplug
pub unplug_steps : (setup : Setup) (w : World) (c : Core) → Shows setup w c → (dev : ℕ)
    → StepsTo setup w (Unplug dev) (record { entry = record { owner = None; reply = unplug_reply setup c.gone dev }; core = record c { gone = λ d. gone_after setup c.gone (Unplug dev) d } })
unfolding turn turn_of_nobody
unplug_steps setup w c s dev = (
  ap (λ gone. record { owner = None; reply = unplug_reply setup gone dev }) s.gone,
  record {
    steps = s.steps ++ Unplug dev ∷ [];
    reached = ap (λ u. (turn setup u (Unplug dev)).world) s.reached ∙ sym (world_and setup (new_world setup) s.steps (Unplug dev));
    names = s.names;
    claims = s.claims;
    gone = ap (λ gone. λ d. gone_after setup gone (Unplug dev) d) s.gone;
    results = s.results;
    orders = s.orders;
    news = s.news;
    orders_shown = s.orders_shown;
    orders_kept = s.orders_kept;
    news_shown = s.news_shown;
    news_kept = s.news_kept;
    orders_held = s.orders_held;
    news_held = s.news_held;
    first = s.first;
    in_run = s.in_run;
    few = s.few;
    near = s.near;
    endpoints = s.endpoints;
    devices = s.devices;
  },
)
