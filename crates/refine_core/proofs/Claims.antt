-- A name claims an interface: the step of the core.
use Rattle.std.proofs.Common.{Result, Ok, Err, ◌≡◌, ℕ, Bool, true, false, ap, refl, subst, sym, ◌∙◌, List, [], ◌∷◌, Option, Some, None, inl, inr, ◌⊎◌}
use Rattle.std.specs.Prelude.{is_some, not, ◌&&◌, ◌==◌, if◌then◌else◌}
use Rattle.std.specs.List.{list_any}
use Rattle.std.specs.Option.{option_and_then, option_map_or, unwrap_or}
use Rattle.std.proofs.lemmas.Bool.{and_parts, eqb-true}
use Rattle.usb_model.specs.declared.effect.Change.TheVariants.{Gains, Keeps as Stays}
use Rattle.usb_model.specs.declared.refused.Refused.{Refused as Why}
use Rattle.usb_model.specs.declared.refused.Refused.TheVariants.{HeldElsewhere, NoDevice, NotFound}
use Rattle.usb_model.specs.declared.reply.Reply.TheVariants.{Done, Refused}
use Rattle.usb_model.specs.declared.step.Step.TheVariants.{Claim}
use Rattle.usb_model.specs.Setup.{Setup, endpoints_of, has_interface, interface_of, is_within, script_of}
use Rattle.usb_model.specs.World.{World, claims_after, holder, is_its, is_others}
use Rattle.usb_tables.specs.Holders.{Holding, answer_of, claim_refusal, claim_refusal_at, device_of, interfaces_of, owner_of}
use Rattle.proof_model.proofs.Lists.Pieces.{either_way}
use Rattle.usb_model.specs.Kept.{KeptEndpoint, new_kept_endpoint}
use Rattle.usb_xhc.specs.Controller.{Controller}
use Rattle.refine_world.specs.Calls as calling
use Rattle.refine_world.specs.Calls.{claim_core, is_gone, is_open, rests, step_core}
use Rattle.refine_world.specs.Shows.{Core, Shows}
use Rattle.refine_world.specs.Steps.{rested}
use Rattle.refine_rings.specs.Holds.{HoldsCore}
use Rattle.refine_core.specs.Handles.{IsLeft, StaysHeld, StaysLeft, first_why, gone_in, says}
use Rattle.refine_core.specs.Renewals.{RenewedAll, is_of_interface, renewed_by}
use Rattle.refine_core.specs.State.{Keeps, State}
use Rattle.refine_core.specs.Steps.{DoesCoreStep}
use Rattle.refine_core.proofs.Freed.{named_still}
use Rattle.refine_core.proofs.Gone.{gone_is, interfaces_are}
use Rattle.refine_core.proofs.Moves.{still_nobody}
use Rattle.refine_core.proofs.Refusals.{accepted_is, refused_is}
use Rattle.refine_core.proofs.Renewals.{IsRenewable, renews_all, rings_renewed_by}
use Rattle.refine_core.proofs.Rested.{bare_left, keeps_rested}
use Rattle.refine_core.proofs.Ringed.{SameRings, rings_as}
use Rattle.refine_core.proofs.Same.{holds_as}

-- the tests of the core
abbrev claim_tests : Setup → Core → ℕ → ℕ → List (Bool × Why)
claim_tests setup c h i =
    (not (is_open c h), NotFound) ∷ (is_gone c h, NoDevice) ∷ (not (has_interface setup (calling.device_of c h) i), NotFound) ∷ (is_others h (c.claims (calling.device_of c h) i), HeldElsewhere) ∷ []

-- what neither a name nor another holds nobody holds
neither : (h : ℕ) (o : Option ℕ) → is_its h o ≡ false → is_others h o ≡ false → o ≡ None
neither h None its others = refl
neither h (Some g) its others = by_test (g == h) its others
  where
    by_test : (b : Bool) → b ≡ false → not b ≡ false → Some g ≡ None
    by_test true its others = absurd cc
    by_test false its others = absurd cc

-- an interface that isn't refused is no other's
not_others : (v : Holding) (h i d : ℕ) → claim_refusal_at v h i d ≡ None → is_others h (owner_of v d i) ≡ false
not_others v h i d none = by_tests (not (list_any (λ k. k == i) (interfaces_of v d))) (is_others h (owner_of v d i)) none
  where
    by_tests : (a b : Bool) → ◌≡◌ {A = Option Why} (if a then Some NotFound else if b then Some HeldElsewhere else None) None → b ≡ false
    by_tests true b is = absurd cc
    by_tests false true is = absurd cc
    by_tests false false is = refl

-- an endpoint of an interface
of_this : (o : Option ℕ) (i : ℕ) → option_map_or (λ k. k == i) o false ≡ true → o ≡ Some i
of_this None i is = absurd cc
of_this (Some k) i is = ap (λ (n : ℕ). Some n) (eqb-true k i is)

module _ {P : Type 0} where
  -- a claim's tests, by what the parts say
  claim_first : (setup : Setup) (w : World) (s : State P) (c : Core) (h i d : ℕ) → Keeps setup s c → Shows setup w c → device_of s.claims h ≡ Some d → gone_in s.controller d ≡ false
      → first_why (claim_tests setup c h i) ≡ claim_refusal_at s.claims h i d
  claim_first setup w s c h i d keeps shows device still =
      ap (λ (o : Option ℕ). if not (is_some o) then Some NotFound else if c.gone (unwrap_or o 0) then Some NoDevice else if not (has_interface setup (unwrap_or o 0) i) then Some NotFound else if is_others h (c.claims (unwrap_or o 0) i) then Some HeldElsewhere else None)
      ((keeps.named h).device ∙ device)
      ∙ ap (λ (b : Bool). if b then Some NoDevice else if not (has_interface setup d i) then Some NotFound else if is_others h (c.claims d i) then Some HeldElsewhere else None) (sym (gone_is setup w s c d keeps shows) ∙ still)
      ∙ ap (λ (l : List ℕ). if not (list_any (λ k. k == i) l) then Some NotFound else if is_others h (c.claims d i) then Some HeldElsewhere else None) (sym (interfaces_are s.claims setup d keeps.set))
      ∙ ap (λ (o : Option ℕ). if not (list_any (λ k. k == i) (interfaces_of s.claims d)) then Some NotFound else if is_others h o then Some HeldElsewhere else None) (keeps.claimed d i)

  -- no device is open
  pub claims_none : (s : State P) (h i : ℕ) → device_of s.claims h ≡ None → DoesCoreStep s (Claim h i) (says h (Refused NotFound)) s
  unfolding step_core claim_core
  claims_none s h i none setup w c keeps shows =
      refused_is setup s c h (claim_tests setup c h i) (rests setup c h (c.names h) (Claim h i) (if calling.holds c h i then Stays else Gains (calling.device_of c h) i)) NotFound keeps
      (ap (λ (o : Option ℕ). first_why ((not (is_some o), NotFound) ∷ (is_gone c h, NoDevice) ∷ (not (has_interface setup (calling.device_of c h) i), NotFound) ∷ (is_others h (c.claims (calling.device_of c h) i), HeldElsewhere) ∷ [])) ((keeps.named h).device ∙ none))

  -- the device is gone
  pub claims_gone : (s : State P) (h i d : ℕ) → device_of s.claims h ≡ Some d → gone_in s.controller d ≡ true → DoesCoreStep s (Claim h i) (says h (Refused NoDevice)) s
  unfolding step_core claim_core
  claims_gone s h i d device left setup w c keeps shows =
      refused_is setup s c h (claim_tests setup c h i) (rests setup c h (c.names h) (Claim h i) (if calling.holds c h i then Stays else Gains (calling.device_of c h) i)) NoDevice keeps
      (ap (λ (o : Option ℕ). if not (is_some o) then Some NotFound else if c.gone (unwrap_or o 0) then Some NoDevice else first_why ((not (has_interface setup (unwrap_or o 0) i), NotFound) ∷ (is_others h (c.claims (unwrap_or o 0) i), HeldElsewhere) ∷ []))
      ((keeps.named h).device ∙ device)
      ∙ ap (λ (b : Bool). if b then Some NoDevice else first_why ((not (has_interface setup d i), NotFound) ∷ (is_others h (c.claims d i), HeldElsewhere) ∷ [])) (sym (gone_is setup w s c d keeps shows) ∙ left))

  -- there is no such interface, or it is another's
  pub claims_refused : (s : State P) (h i d : ℕ) (why : Why) → device_of s.claims h ≡ Some d → gone_in s.controller d ≡ false → claim_refusal_at s.claims h i d ≡ Some why → DoesCoreStep s (Claim h i) (says h (Refused why)) s
  unfolding step_core claim_core
  claims_refused s h i d why device still refused setup w c keeps shows =
      refused_is setup s c h (claim_tests setup c h i) (rests setup c h (c.names h) (Claim h i) (if calling.holds c h i then Stays else Gains (calling.device_of c h) i)) why keeps
      (claim_first setup w s c h i d keeps shows device still ∙ refused)

  -- it is the name's already
  pub claims_again : (s : State P) (h i d : ℕ) (v : Holding) → device_of s.claims h ≡ Some d → gone_in s.controller d ≡ false → claim_refusal_at s.claims h i d ≡ None → is_its h (owner_of s.claims d i) ≡ true → v.opened ≡ s.claims.opened
      → ((x k : ℕ) → owner_of v x k ≡ claims_after h (λ y j. owner_of s.claims y j) (Gains d i) x k) → v.configs ≡ s.claims.configs → DoesCoreStep s (Claim h i) (says h Done) (record s { claims = v })
  unfolding step_core claim_core
  claims_again s h i d v device still accepted its devices owners configs setup w c keeps shows =
      accepted_is setup (record s { claims = v }) c h (claim_tests setup c h i) (rests setup c h (c.names h) (Claim h i) (if calling.holds c h i then Stays else Gains (calling.device_of c h) i)) (says h Done)
      (claim_first setup w s c h i d keeps shows device still ∙ accepted) (
        refl,
        subst (λ (b : Bool). Keeps setup (record s { claims = v }) (rested setup h (c.names h) (Claim h i) (if b then Stays else Gains (calling.device_of c h) i) c)) (sym holding)
            (keeps_rested setup s v s.controller c (rested setup h (c.names h) (Claim h i) Stays c) (λ x id. refl) keeps (record {
              configs = configs;
              held = keeps.held;
              claimed = λ x k. keeps.claimed x k ∙ by_test x k ((d == x) && (i == k)) refl ∙ sym (owners x k);
              named = named_still v c.names h (λ g. (keeps.named g).device ∙ ap (λ (l : List (Option ℕ)). device_of (record v { opened = l }) g) (sym devices));
              results = refl;
              ends = λ x e k there. inl (record { endpoint = refl; holder = refl });
            })),
      )
    where
      is : (c.names h).device ≡ Some d
      is = (keeps.named h).device ∙ device

      mine : owner_of s.claims d i ≡ Some h
      mine = by_owner (owner_of s.claims d i) its
        where
          by_owner : (o : Option ℕ) → is_its h o ≡ true → o ≡ Some h
          by_owner None its = absurd cc
          by_owner (Some g) its = ap (λ (n : ℕ). Some n) (eqb-true g h its)

      holding : calling.holds c h i ≡ true
      holding = ap (λ (o : Option ℕ). is_its h (c.claims (unwrap_or o 0) i)) is ∙ ap (is_its h) (keeps.claimed d i) ∙ its

      by_test : (x k : ℕ) (b : Bool) → ((d == x) && (i == k)) ≡ b → owner_of s.claims x k ≡ (if b then Some h else owner_of s.claims x k)
      by_test x k true both =
          let parts = and_parts (d == x) (i == k) both in
          sym (ap (λ (n : ℕ). owner_of s.claims n i) (eqb-true d x parts.0) ∙ ap (owner_of s.claims x) (eqb-true i k parts.1)) ∙ mine
      by_test x k false both = refl

  -- it was nobody's: its endpoints are made new
  pub claims_now : (s : State P) (h i d : ℕ) (v : Holding) (k : Controller) → device_of s.claims h ≡ Some d → gone_in s.controller d ≡ false → claim_refusal_at s.claims h i d ≡ None → is_its h (owner_of s.claims d i) ≡ false → v.opened ≡ s.claims.opened
      → ((x j : ℕ) → owner_of v x j ≡ claims_after h (λ y n. owner_of s.claims y n) (Gains d i) x j) → v.configs ≡ s.claims.configs → RenewedAll v s.controller k d (λ setup e. is_of_interface setup d i e)
      → DoesCoreStep s (Claim h i) (says h Done) (record s { claims = v; controller = k })
  unfolding step_core claim_core
  claims_now s h i d v k device still accepted its devices owners configs renewed setup w c keeps shows =
      accepted_is setup (record s { claims = v; controller = k }) c h (claim_tests setup c h i) (rests setup c h (c.names h) (Claim h i) (if calling.holds c h i then Stays else Gains (calling.device_of c h) i)) (says h Done)
      (claim_first setup w s c h i d keeps shows device still ∙ accepted) (
        refl,
        subst (λ (b : Bool). Keeps setup (record s { claims = v; controller = k }) (rested setup h (c.names h) (Claim h i) (if b then Stays else Gains (calling.device_of c h) i) c)) (sym holding)
            (keeps_rested setup s v k c after rings keeps (record {
              configs = configs;
              held = held;
              claimed = λ x j.
                  ap (λ (o : Option ℕ). if (unwrap_or o 0 == x) && (i == j) then Some h else c.claims x j) is
                  ∙ ap (λ (o : Option ℕ). if (d == x) && (i == j) then Some h else o) (keeps.claimed x j) ∙ sym (owners x j);
              named = named_still v c.names h (λ g. (keeps.named g).device ∙ ap (λ (l : List (Option ℕ)). device_of (record v { opened = l }) g) (sym devices));
              results = refl;
              ends = λ x e j there. by_end x e j there ((d == x) && (j == i)) refl;
            })),
      )
    where
      after : Core
      after = rested setup h (c.names h) (Claim h i) (Gains (calling.device_of c h) i) c

      is : (c.names h).device ≡ Some d
      is = (keeps.named h).device ∙ device

      here : calling.device_of c h ≡ d
      here = ap (λ (o : Option ℕ). unwrap_or o 0) is

      holding : calling.holds c h i ≡ false
      holding = ap (λ (n : ℕ). is_its h (c.claims n i)) here ∙ ap (is_its h) (keeps.claimed d i) ∙ its

      unowned : c.claims d i ≡ None
      unowned = keeps.claimed d i ∙ neither h (owner_of s.claims d i) its (not_others s.claims h i d accepted)

      nobody : (e : ℕ) → interface_of setup d e ≡ Some i → holder setup c.claims d e ≡ None
      nobody e there = ap (λ (o : Option ℕ). option_and_then (λ j. c.claims d j) o) there ∙ unowned

      fresh : (e : ℕ) → is_of_interface setup d i e ≡ true → IsRenewable setup c.orders d e
      fresh e its =
          let there = of_this (interface_of setup d e) i its in
          record { interface = i; there = there; still = still_nobody setup w c d e shows (nobody e there) }

      same : (x e : ℕ) → (if (d == x) && is_of_interface setup d i e then new_kept_endpoint (script_of setup x e) else c.endpoints x e) ≡ after.endpoints x e
      same x e = by_device (d == x) refl ∙ ap (λ (n : ℕ). if is_within setup n i x e then new_kept_endpoint (script_of setup x e) else c.endpoints x e) (sym here)
        where
          by_device : (b : Bool) → (d == x) ≡ b → (if (d == x) && is_of_interface setup d i e then new_kept_endpoint (script_of setup x e) else c.endpoints x e) ≡ (if is_within setup d i x e then new_kept_endpoint (script_of setup x e) else c.endpoints x e)
          by_device true is = ap (λ (n : ℕ). if (d == x) && is_of_interface setup n i e then new_kept_endpoint (script_of setup x e) else c.endpoints x e) (eqb-true d x is)
          by_device false is = ap (λ (b : Bool). if b && is_of_interface setup d i e then new_kept_endpoint (script_of setup x e) else c.endpoints x e) is
              ∙ sym (ap (λ (b : Bool). if b && is_of_interface setup x i e then new_kept_endpoint (script_of setup x e) else c.endpoints x e) is)

      rings : SameRings s.controller k
      rings = rings_as s.controller (renewed_by s.controller d (is_of_interface setup d i) (endpoints_of setup d)) k
          (rings_renewed_by s.controller d (is_of_interface setup d i) (λ e its. let there = of_this (interface_of setup d e) i its in bare_left setup s c d e i keeps there (keeps.free d e i there (nobody e there)).0)
          (endpoints_of setup d) s.controller (λ x id. refl)) (renewed setup (keeps.set ∙ sym configs))

      held : HoldsCore setup k after
      held = subst (λ (z : Controller). HoldsCore setup z after) (sym (renewed setup (keeps.set ∙ sym configs)))
          (holds_as setup (renewed_by s.controller d (is_of_interface setup d i) (endpoints_of setup d)) c.gone c.gone _ after.endpoints c.orders c.events c.posted (λ x. refl) same
          (renews_all setup s.controller c.gone c.endpoints c.orders c.events c.posted d (is_of_interface setup d i) keeps.plain fresh keeps.held))

      by_end : (x e j : ℕ) → interface_of setup x e ≡ Some j → (b : Bool) → ((d == x) && (j == i)) ≡ b → StaysHeld setup c after x e ⊎ StaysLeft c after x e
      by_end x e j there true both =
          let parts = and_parts (d == x) (j == i) both in
          let device : d ≡ x = eqb-true d x parts.0 in
          let interface : j ≡ i = eqb-true j i parts.1 in
          let at : interface_of setup d e ≡ Some i = ap (λ (n : ℕ). interface_of setup n e) device ∙ there ∙ ap (λ (n : ℕ). Some n) interface in
          let left : IsLeft (c.endpoints d e) = let free = keeps.free d e i at (nobody e at) in record { line = free.0; errand = free.1 } in
          let new : after.endpoints x e ≡ new_kept_endpoint (script_of setup x e) =
          ap (λ (n : ℕ). if is_within setup n i x e then new_kept_endpoint (script_of setup x e) else c.endpoints x e) here
          ∙ ap (λ (o : Option ℕ). if (d == x) && option_map_or (λ n. n == i) o false then new_kept_endpoint (script_of setup x e) else c.endpoints x e) there
          ∙ ap (λ (b : Bool). if b then new_kept_endpoint (script_of setup x e) else c.endpoints x e) both in
          inr (record {
            was = subst (λ (n : ℕ). IsLeft (c.endpoints n e)) device left;
            is = subst (λ (z : KeptEndpoint). IsLeft z) (sym new) (record { line = refl; errand = refl });
          })
      by_end x e j there false other = inl (record {
        endpoint =
            ap (λ (n : ℕ). if is_within setup n i x e then new_kept_endpoint (script_of setup x e) else c.endpoints x e) here
            ∙ ap (λ (o : Option ℕ). if (d == x) && option_map_or (λ n. n == i) o false then new_kept_endpoint (script_of setup x e) else c.endpoints x e) there
            ∙ ap (λ (b : Bool). if b then new_kept_endpoint (script_of setup x e) else c.endpoints x e) other;
        holder =
            ap (λ (o : Option ℕ). option_and_then (λ n. after.claims x n) o) there
            ∙ ap (λ (n : ℕ). if (n == x) && (i == j) then Some h else c.claims x j) here
            ∙ ap (λ (b : Bool). if (d == x) && b then Some h else c.claims x j) (either_way i j)
            ∙ ap (λ (b : Bool). if b then Some h else c.claims x j) other
            ∙ sym (ap (λ (o : Option ℕ). option_and_then (λ n. c.claims x n) o) there);
      })

-- why a call of the tables is refused, by its answer
pub refusal_of : (v : Holding) (h i d : ℕ) (why : Why) (r : Result (Unit {0}) Why) → device_of v h ≡ Some d → r ≡ answer_of (claim_refusal v h i) → r ≡ Err why → claim_refusal_at v h i d ≡ Some why
refusal_of v h i d why r device is err =
    by_answer (claim_refusal_at v h i d) (sym (ap (λ (o : Option ℕ). answer_of (option_map_or (λ dev. claim_refusal_at v h i dev) o (Some NotFound))) device) ∙ sym is ∙ err)
  where
    by_answer : (o : Option Why) → answer_of o ≡ Err why → o ≡ Some why
    by_answer None same = absurd cc
    by_answer (Some x) same = let one : x ≡ why = cc in ap (λ (y : Why). Some y) one

-- or that it isn't
pub refusal_none : (v : Holding) (h i d : ℕ) (r : Result (Unit {0}) Why) (t : Unit {0}) → device_of v h ≡ Some d → r ≡ answer_of (claim_refusal v h i) → r ≡ Ok t → claim_refusal_at v h i d ≡ None
refusal_none v h i d r t device is ok =
    by_answer (claim_refusal_at v h i d) (sym (ap (λ (o : Option ℕ). answer_of (option_map_or (λ dev. claim_refusal_at v h i dev) o (Some NotFound))) device) ∙ sym is ∙ ok)
  where
    by_answer : (o : Option Why) → answer_of o ≡ Ok t → o ≡ None
    by_answer None same = refl
    by_answer (Some x) same = absurd cc
