-- What each step does at each endpoint of a machine.
use Rattle.std.proofs.Common.{Bool, List, None, Option, Some, [], ap, append-nil, ap₂, false, inl, inr, option_map, refl, subst, sym, true, ℕ, ◌++◌, ◌==◌, ◌∙◌, ◌∷◌, ◌≡◌, ◌⊎◌}
use Rattle.std.specs.Prelude.{if◌then◌else◌, option_and_then, unwrap_or}
use Rattle.std.proofs.lemmas.Bool.{and_parts, eqb-true}
use Rattle.std.specs.Option.{option_map_or}
use Rattle.usb_model.specs.declared.endpoint.Endpoint.{Endpoint}
use Rattle.usb_model.specs.declared.handle.Handle.{Handle}
use Rattle.usb_model.specs.declared.result.TransferResult.{TransferResult}
use Rattle.usb_model.specs.declared.step.Step.TheVariants.{Answer, Claim, Close, Open, Release, Reset, Take}
use Rattle.usb_model.specs.declared.step.Step.{Step}
use Rattle.usb_model.specs.declared.verdict.Verdict.TheVariants.{Stop}
use Rattle.usb_model.specs.Machine.Calls.{called_back}
use Rattle.usb_model.specs.declared.endpoint_effect.EndpointEffect.{EndpointEffect}
use Rattle.usb_model.specs.Endpoint.{fresh}
use Rattle.usb_model.specs.declared.effect.Effect.{Effect}
use Rattle.usb_model.specs.declared.effect.Change.{Change}
use Rattle.usb_model.specs.declared.effect.Change.TheVariants.{Drops, Frees, Gains, Keeps, Renews}
use Rattle.usb_model.specs.Machine.{Machine, device_of, does, at_endpoint, endpoint_at, says}
use Rattle.usb_model.specs.Setup.{Setup, is_within}
use Rattle.usb_model.specs.World.Shared.{past_first}
use Rattle.usb_model.specs.Machine.Turns.{ends_after, machine_after, take_effect, takes_news, takes_order}
use Rattle.proof_model.proofs.Machines.Deeds.{IsDone, IsIdle, IsRest, IsWork, TakesNone, again, again_with, anew, asks_it, cancels, claims, claims_again, clears, closes, commands, delivers, expires, only_rests, opens, releases, resets, serves, stays, stops, submits, takes, works}
use Rattle.usb_model.specs.Fitness.{IsWell, errands_of, events_of}
use Rattle.proof_model.proofs.Machines.Done.{takes_none}
use Rattle.proof_model.proofs.Machines.Idle.{idle_if_none}
use Rattle.proof_model.proofs.Coherence.Posts.{commands_now, delivers_now, errands_of-at, errands_of-other, events_of-at, events_of-other, posts-append}
use Rattle.proof_model.proofs.Work.Moves.{sets_here, sets_other}

-- the endpoint's orders and news stay, and none is taken
pub record ListsStay (ep : ℕ) (m m' : Machine) (step : Step) : Type 0 where
  pub orders : errands_of ep m'.orders ≡ errands_of ep m.orders
  pub news : events_of ep m'.news ≡ events_of ep m.news
  pub commands : commands_now ep m step ≡ 0
  pub delivers : delivers_now ep m step ≡ 0

-- nothing happens there
pub record Stays (ep : ℕ) (m m' : Machine) (step : Step) : Type 0 where
  pub end : endpoint_at m' ep ≡ endpoint_at m ep
  pub lists : ListsStay ep m m' step

-- work is done
pub record Worked (setup : Setup) (ep : ℕ) (m m' : Machine) (step : Step) : Type 0 where
  pub e : Endpoint
  pub handle : Handle
  pub doing : EndpointEffect
  pub work : IsWork setup m ep e step handle doing
  pub here : endpoint_at m ep ≡ Some e
  pub end : endpoint_at m' ep ≡ Some doing.endpoint
  pub orders : errands_of ep m'.orders ≡ errands_of ep (past_first (takes_order step) m.orders) ++ doing.orders
  pub news : events_of ep m'.news ≡ events_of ep (past_first (takes_news step) m.news) ++ doing.news

-- it was idle, and is new, or gone
abbrev pub IsNewOrGone : Setup → ℕ → Option Endpoint → Type 0
IsNewOrGone setup ep o = (o ≡ None) ⊎ ((d : ℕ) × (o ≡ Some (fresh setup d ep)))

-- the endpoint was idle, and is new or gone after the step; nothing of its lists is touched
pub record Renewed (setup : Setup) (ep : ℕ) (m m' : Machine) (step : Step) : Type 0 where
  pub idle : IsIdle ep m
  pub end : IsNewOrGone setup ep (endpoint_at m' ep)
  pub lists : ListsStay ep m m' step

-- no work is done
abbrev pub Rests : Setup → ℕ → Machine → Machine → Step → Type 0
Rests setup ep m m' step = Stays ep m m' step ⊎ Renewed setup ep m m' step

-- what any step does at one endpoint
abbrev pub Acts : Setup → ℕ → Machine → Machine → Step → Type 0
Acts setup ep m m' step = Rests setup ep m m' step ⊎ Worked setup ep m m' step

-- work is done at one endpoint, and the others stay
pub record WorkedAt (setup : Setup) (m m' : Machine) (step : Step) : Type 0 where
  pub ep : ℕ
  pub worked : Worked setup ep m m' step
  pub others : (at : ℕ) → (ep == at) ≡ false → Stays at m m' step

-- what a step that does no work leaves at one endpoint
abbrev RestsBy : Setup → Machine → Step → Effect → ℕ → Type 0
RestsBy setup m step done ep = Rests setup ep m (machine_after setup m step done) step

-- a step that takes nothing from the lists and adds nothing to them leaves each endpoint's part of them
lists_stay : (setup : Setup) (m : Machine) (step : Step) (done : Effect) (ep : ℕ) → TakesNone m step → done.orders ≡ [] → done.news ≡ [] → ListsStay ep m (machine_after setup m step done) step
unfolding machine_after
lists_stay setup m step done ep t o n = record {
  orders = ap (errands_of ep) (ap₂ (λ a b. a ++ b) t.orders o ∙ append-nil m.orders);
  news = ap (events_of ep) (ap₂ (λ a b. a ++ b) t.news n ∙ append-nil m.news);
  commands = t.commands ep;
  delivers = t.delivers ep;
}

-- a step that changes no endpoint
keeps_acts : (setup : Setup) (m : Machine) (step : Step) (done : Effect) (ep : ℕ) → TakesNone m step → done.orders ≡ [] → done.news ≡ [] → done.handle.device ≡ m.handle.device → done.change ≡ Keeps → RestsBy setup m step done ep
unfolding machine_after
keeps_acts setup m step done ep t o n same keeps = inl (record {
  end = ap₂ (λ c d. option_and_then (λ k. ends_after setup m.endpoints c k ep) d) keeps same;
  lists = lists_stay setup m step done ep t o n;
})

-- all interfaces are freed
freed : (device : Option ℕ) → option_and_then {U = Endpoint} (λ d. None) device ≡ None
freed None = refl
freed (Some d) = refl

-- a step that frees all interfaces renews each endpoint, all of which were idle
frees_acts : (setup : Setup) (m : Machine) (step : Step) (handle : Handle) (ep : ℕ) → TakesNone m step → IsIdle ep m → RestsBy setup m step (does handle Frees) ep
unfolding machine_after
frees_acts setup m step handle ep t idle = inr (record { idle = idle; end = inl (freed handle.device); lists = lists_stay setup m step (does handle Frees) ep t refl refl })

-- an interface is gained, or dropped: its endpoints are new, or gone, and the others stay
stays_or : (setup : Setup) (m : Machine) (step : Step) (change : Change) (ep : ℕ) (test : ℕ → ℕ → Bool) (new : ℕ → ℕ → Option Endpoint) → TakesNone m step → ((d e : ℕ) → ends_after setup m.endpoints change d e ≡ (if test d e then new d e else m.endpoints d e))
    → ((d : ℕ) → IsNewOrGone setup ep (new d ep)) → ((d : ℕ) → m.handle.device ≡ Some d → test d ep ≡ true → IsIdle ep m) → RestsBy setup m step (does m.handle change) ep
unfolding machine_after
stays_or setup m step change ep test new t after fresh_or_gone idle = by_device m.handle.device refl
  where
    lists : ListsStay ep m (machine_after setup m step (does m.handle change)) step
    lists = lists_stay setup m step (does m.handle change) ep t refl refl

    at : ℕ → Option Endpoint
    at d = ends_after setup m.endpoints change d ep

    by_test : (d : ℕ) → m.handle.device ≡ Some d → (b : Bool) → test d ep ≡ b → RestsBy setup m step (does m.handle change) ep
    by_test d is true e = inr (record {
      idle = idle d is e;
      end = subst (IsNewOrGone setup ep) (sym (ap (option_and_then at) is ∙ (after d ep ∙ rw e refl))) (fresh_or_gone d);
      lists = lists;
    })
    by_test d is false e = inl (record {
      end = ap (option_and_then at) is ∙ (after d ep ∙ (rw e refl ∙ sym (ap (option_and_then (λ k. m.endpoints k ep)) is)));
      lists = lists;
    })

    by_device : (o : Option ℕ) → m.handle.device ≡ o → RestsBy setup m step (does m.handle change) ep
    by_device None is = inl (record { end = ap (option_and_then at) is ∙ sym (ap (option_and_then (λ k. m.endpoints k ep)) is); lists = lists })
    by_device (Some d) is = by_test d is (test d ep) refl

-- work at one endpoint: what the step takes is of no other
elsewhere : (setup : Setup) (m : Machine) (ep at : ℕ) (e : Endpoint) (step : Step) (handle : Handle) (d : EndpointEffect) → (ep == at) ≡ false → IsWork setup m ep e step handle d
    → (errands_of at (past_first (takes_order step) m.orders) ≡ errands_of at m.orders) × (events_of at (past_first (takes_news step) m.news) ≡ events_of at m.news) × (commands_now at m step ≡ 0) × (delivers_now at m step ≡ 0)
elsewhere setup m ep at e step handle d other (serves dev) = (refl, refl, refl, refl)
elsewhere setup m ep at e step handle d other (commands o os is) = rw (is, other) (refl, refl, refl, refl)
elsewhere setup m ep at e step handle d other (delivers event ns is) = rw (is, other) (refl, refl, refl, refl)
elsewhere setup m ep at e step handle d other (asks_it n i (cancels g k) here free) = (refl, refl, refl, refl)
elsewhere setup m ep at e step handle d other (asks_it n i (expires g k) here free) = (refl, refl, refl, refl)
elsewhere setup m ep at e step handle d other (submits (anew g request) is fine short) = (refl, refl, refl, refl)
elsewhere setup m ep at e step handle d other (submits (again g k x in_call) is fine short) = (refl, refl, refl, refl)
elsewhere setup m ep at e step handle d other (submits (again_with g k bytes x in_call) is fine short) = (refl, refl, refl, refl)
elsewhere setup m ep at e step handle d other (clears g empty) = (refl, refl, refl, refl)

-- and it leaves the handle its device
pub same_device : (setup : Setup) (m : Machine) (ep : ℕ) (e : Endpoint) (step : Step) (handle : Handle) (d : EndpointEffect) → IsWork setup m ep e step handle d → handle.device ≡ m.handle.device
same_device setup m ep e step handle d (submits (anew g request) is fine short) = refl
same_device setup m ep e step handle d (submits (again g k x in_call) is fine short) = refl
same_device setup m ep e step handle d (submits (again_with g k bytes x in_call) is fine short) = refl
same_device setup m ep e step handle d _ = refl

-- the endpoint that is set, and its pieces of the lists
pub end_set : (setup : Setup) (m : Machine) (ep : ℕ) (e : Endpoint) (step : Step) (handle : Handle) (d : EndpointEffect) → endpoint_at m ep ≡ Some e → IsWork setup m ep e step handle d
    → endpoint_at (machine_after setup m step (at_endpoint handle (device_of m) ep d)) ep ≡ Some d.endpoint
unfolding machine_after at_endpoint
end_set setup m ep e step handle d here work = rw (same_device setup m ep e step handle d work) (sets_here setup m.endpoints m.handle.device ep e d.endpoint here)

-- the endpoint's orders after work at it: those left, then those that the work gives
pub orders_set : (setup : Setup) (m : Machine) (step : Step) (ep : ℕ) (handle : Handle) (d : EndpointEffect)
    → errands_of ep (machine_after setup m step (at_endpoint handle (device_of m) ep d)).orders ≡ errands_of ep (past_first (takes_order step) m.orders) ++ d.orders
unfolding machine_after at_endpoint
orders_set setup m step ep handle d = posts-append _ _ ep (past_first (takes_order step) m.orders) _ ∙ ap (λ l. errands_of ep (past_first (takes_order step) m.orders) ++ l) (errands_of-at ep d.orders)

-- the endpoint's news after work at it: those left, then those that the work tells
pub news_set : (setup : Setup) (m : Machine) (step : Step) (ep : ℕ) (handle : Handle) (d : EndpointEffect)
    → events_of ep (machine_after setup m step (at_endpoint handle (device_of m) ep d)).news ≡ events_of ep (past_first (takes_news step) m.news) ++ d.news
unfolding machine_after at_endpoint
news_set setup m step ep handle d = posts-append _ _ ep (past_first (takes_news step) m.news) _ ∙ ap (λ l. events_of ep (past_first (takes_news step) m.news) ++ l) (events_of-at ep d.news)

-- work at an endpoint is that work there
works_here : (setup : Setup) (m : Machine) (step : Step) (handle : Handle) (d : EndpointEffect) (ep : ℕ) (e : Endpoint) → endpoint_at m ep ≡ Some e → IsWork setup m ep e step handle d
    → Worked setup ep m (machine_after setup m step (at_endpoint handle (device_of m) ep d)) step
unfolding machine_after at_endpoint
works_here setup m step handle d ep e here work = record {
  e = e;
  handle = handle;
  doing = d;
  work = work;
  here = here;
  end = end_set setup m ep e step handle d here work;
  orders = orders_set setup m step ep handle d;
  news = news_set setup m step ep handle d;
}

-- work at an endpoint leaves each other endpoint as it was
pub works_elsewhere : (setup : Setup) (m : Machine) (step : Step) (handle : Handle) (d : EndpointEffect) (ep : ℕ) (e : Endpoint) → IsWork setup m ep e step handle d
    → (at : ℕ) → (ep == at) ≡ false → Stays at m (machine_after setup m step (at_endpoint handle (device_of m) ep d)) step
unfolding machine_after at_endpoint
works_elsewhere setup m step handle d ep e work at other =
    let w = elsewhere setup m ep at e step handle d other work in
    record {
      end = rw (same_device setup m ep e step handle d work) (sets_other setup m.endpoints m.handle.device ep at d.endpoint other);
      lists = record {
        orders = posts-append _ _ at (past_first (takes_order step) m.orders) _ ∙ (ap₂ (λ a b. a ++ b) w.0 (errands_of-other at ep d.orders other) ∙ append-nil (errands_of at m.orders));
        news = posts-append _ _ at (past_first (takes_news step) m.news) _ ∙ (ap₂ (λ a b. a ++ b) w.1 (events_of-other at ep d.news other) ∙ append-nil (events_of at m.news));
        commands = w.2;
        delivers = w.3;
      };
    }

-- a result that is taken leaves each endpoint as it was
takes_acts : (setup : Setup) (h : ℕ) (m : Machine) (x : TransferResult) (xs : List TransferResult) (ep : ℕ) → RestsBy setup m Take (take_effect h m (x ∷ xs)) ep
unfolding machine_after take_effect
takes_acts setup h m x xs ep = inl (record { end = refl; lists = record { orders = ap (errands_of ep) (append-nil m.orders); news = ap (events_of ep) (append-nil m.news); commands = refl; delivers = refl } })

-- a machine without a device has no endpoints
no_device : (m : Machine) (ep : ℕ) → m.handle.device ≡ None → endpoint_at m ep ≡ None
no_device m ep none = ap (option_and_then (λ d. m.endpoints d ep)) none

-- an endpoint of an interface that isn't held isn't there
not_held : (setup : Setup) (m : Machine) (d i ep : ℕ) → IsWell setup m → m.held d i ≡ false → is_within setup d i d ep ≡ true → m.endpoints d ep ≡ None
not_held setup m d i ep well free within = by_end (m.endpoints d ep) refl
  where
    by_end : (o : Option Endpoint) → m.endpoints d ep ≡ o → m.endpoints d ep ≡ None
    by_end None is = is
    by_end (Some e) is =
        let held = well.of_held d ep e is in
        let same : (held.0 == i) ≡ true = ap (λ o. option_map_or (λ k. k == i) o false) (sym held.1) ∙ (and_parts (d == d) _ within).1 in
        absurd (cc (ap (m.held d) (eqb-true held.0 i same), held.2, free))

-- an endpoint made new, where there is one
renewed : (setup : Setup) (d ep : ℕ) (o : Option Endpoint) → IsNewOrGone setup ep (option_map (λ old. fresh setup d ep) o)
renewed setup d ep None = inl refl
renewed setup d ep (Some e) = inr (d, refl)

-- a step without work rests at each endpoint
pub rests_at : (setup : Setup) (h : ℕ) (m : Machine) (step : Step) (done : Effect) (ep : ℕ) → IsWell setup m → IsRest setup h m step done → RestsBy setup m step done ep
rests_at setup h m step done ep well (stays {r = r} bare t) = keeps_acts setup m step (says m r) ep t refl refl refl refl
rests_at setup h m step done ep well (claims_again g i) = keeps_acts setup m (Claim g i) (does m.handle Keeps) ep (takes_none m (Claim g i) refl refl refl) refl refl refl refl
rests_at setup h m step done ep well (stops g k x in_call) = keeps_acts setup m (Answer g k Stop) (does (called_back m x.n) Keeps) ep (takes_none m (Answer g k Stop) refl refl refl) refl refl refl refl
rests_at setup h m step done ep well (opens g dev none) = frees_acts setup m (Open g dev) _ ep (takes_none m (Open g dev) refl refl refl) (idle_if_none ep m (no_device m ep none) (well.fits ep))
rests_at setup h m step done ep well (closes g idle) = frees_acts setup m (Close g) _ ep (takes_none m (Close g) refl refl refl) (idle ep)
rests_at setup h m step done ep well (claims g i opened free) =
    stays_or setup m (Claim g i) (Gains (device_of m) i) ep (is_within setup (device_of m) i) (λ d e. Some (fresh setup d e)) (takes_none m (Claim g i) refl refl refl) (λ d e. refl) (λ d. inr (d, refl))
    (λ d is within.
    let same : device_of m ≡ d = ap (λ o. unwrap_or o 0) is in
    idle_if_none ep m (ap (option_and_then (λ k. m.endpoints k ep)) is ∙ not_held setup m d i ep well (subst (λ k. m.held k i ≡ false) same free) (subst (λ k. is_within setup k i d ep ≡ true) same within)) (well.fits ep))
rests_at setup h m step done ep well (releases g i idle) =
    stays_or setup m (Release g i) (Drops (device_of m) i) ep (is_within setup (device_of m) i) (λ d e. None) (takes_none m (Release g i) refl refl refl) (λ d e. refl) (λ d. inl refl)
    (λ d is within. idle ep (subst (λ k. is_within setup (device_of m) i k ep ≡ true) (sym (ap (λ o. unwrap_or o 0) is)) within))
rests_at setup h m step done ep well (resets g idle) =
    stays_or setup m (Reset g) (Renews (device_of m)) ep (λ d e. true) (λ d e. option_map (λ old. fresh setup d e) (m.endpoints d e)) (takes_none m (Reset g) refl refl refl) (λ d e. refl) (λ d. renewed setup d ep (m.endpoints d ep)) (λ d is within. idle ep)
rests_at setup h m step done ep well (takes x xs is) = takes_acts setup h m x xs ep

-- and each step rests at each endpoint, or works at one
abbrev pub ActsAll : Setup → Machine → Machine → Step → Type 0
ActsAll setup m m' step = ((ep : ℕ) → Rests setup ep m m' step) ⊎ WorkedAt setup m m' step

-- what any step does at each endpoint
pub acts : (setup : Setup) (h : ℕ) (m : Machine) (step : Step) (done : Effect) → IsWell setup m → IsDone setup h m step done → ActsAll setup m (machine_after setup m step done) step
acts setup h m step done well (only_rests rest) = inl (λ ep. rests_at setup h m step done ep well rest)
acts setup h m step done well (works {handle = handle} {d = d} ep e here work) = inr (record {
  ep = ep;
  worked = works_here setup m step handle d ep e here work;
  others = works_elsewhere setup m step handle d ep e work;
})

-- so at each endpoint it rests, or works
pub acts_at : (setup : Setup) (m m' : Machine) (step : Step) → ActsAll setup m m' step → (at : ℕ) → Acts setup at m m' step
acts_at setup m m' step (inl rests) at = inl (rests at)
acts_at setup m m' step (inr w) at = by_test (w.ep == at) refl
  where
    by_test : (b : Bool) → (w.ep == at) ≡ b → Acts setup at m m' step
    by_test true is = subst (λ k. Acts setup k m m' step) (eqb-true w.ep at is) (inr w.worked)
    by_test false other = inl (inl (w.others at other))
