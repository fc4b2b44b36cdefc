-- Where no other handle makes a step, the system does what the handle sees amid the others.
use Rattle.std.proofs.Common.{◌≡◌, ℕ, ◌==◌, Bool, true, false, ◌&&◌, List, [], ◌∷◌, ◌++◌, inl, inr, Option, Some, None, refl, ap, ap₂, sym, ◌∙◌, subst}
use Rattle.std.specs.Prelude.{if◌then◌else◌}
use Rattle.std.specs.Option.{option_and_then}
use Rattle.std.specs.List.{list_any}
use Rattle.std.proofs.lemmas.Bool.{eqb-true}
use Rattle.std.proofs.lemmas.List.{map-append}
use Rattle.usb_model.specs.declared.entry.Entry.{Entry}
use Rattle.usb_model.specs.declared.step.Step.{Step}
use Rattle.usb_model.specs.declared.step.Step.TheVariants.{Serve, Command, Deliver, Take, Unplug}
use Rattle.usb_model.specs.declared.shared.Tagged.{Tagged}
use Rattle.usb_model.specs.World.Shared.{pieces_of, tagged, first_name, past_first}
use Rattle.usb_model.specs.Setup.{Setup, interface_of, interfaces_of}
use Rattle.usb_model.specs.declared.effect.Effect.{Effect}
use Rattle.usb_model.specs.declared.effect.Change.{Change}
use Rattle.usb_model.specs.declared.effect.Change.TheVariants.{Keeps, Frees, Gains, Drops, Renews, Sets}
use Rattle.usb_model.specs.Machine.{Machine}
use Rattle.usb_model.specs.Machine.Turns.{effect, unplug_reply, takes_order, takes_news, takes_result, gone_after, machine_after}
use Rattle.usb_model.specs.World.{Claims, World, new_world, is_its, is_others, machine_of, owner_of, claims_after, world_after, is_blocked, Turn, turn_of_nobody, turn_by, turn}
use Rattle.usb_model.specs.World.Journal.{journal_from, journal, entries_in, world_run, is_unplug, own, entries}
use Rattle.proof_model.proofs.Lists.Pieces.{same_name, pieces_kept}
use Rattle.proof_model.proofs.Handles.Isolation.{takes_its_order, takes_its_news, takes_its_result, made_by_owner, owner_steps, effect_to, IsOwnTurn, IsEither, free_turn, turn_free, turn_to, own_from, entries_from, own_more, own_less, entries_more, entries_less}

-- a world in which no other name has anything
pub record OnlyOf (h : ℕ) (v : World) : Type 0 where
  pub claims : (d i : ℕ) → is_others h (v.claims d i) ≡ false
  pub orders : v.orders ≡ tagged h (pieces_of h v.orders)
  pub news : v.news ≡ tagged h (pieces_of h v.news)
  pub results : v.results ≡ tagged h (pieces_of h v.results)

-- what is the name's is held by it
pub is_its-some : (h : ℕ) (o : Option ℕ) → is_its h o ≡ true → o ≡ Some h
is_its-some h None e = absurd cc
is_its-some h (Some g) e = ap (λ k. Some k) (eqb-true g h e)

-- and the other way round
some-is_its : (h : ℕ) (o : Option ℕ) → o ≡ Some h → is_its h o ≡ true
some-is_its h o e = rw e (same_name h)

-- a shared list that begins with a name's piece, seen as the name's own
first_of_tagged : {A : Type 0} (h : ℕ) (xs : List (Tagged A)) → first_name xs ≡ Some h → first_name (tagged h (pieces_of h xs)) ≡ Some h
first_of_tagged h [] e = absurd cc
first_of_tagged h (x ∷ xs) e = let n : x.name ≡ h = cc in rw (n, same_name h)

-- two worlds that are the same to a name, in one of which it is alone: there too the list begins with its piece
same_first : {A : Type 0} (h : ℕ) (xs ys : List (Tagged A)) → pieces_of h xs ≡ pieces_of h ys → ys ≡ tagged h (pieces_of h ys) → first_name xs ≡ Some h → first_name ys ≡ Some h
same_first h xs ys same all first = ap first_name all ∙ (ap (λ l. first_name (tagged h l)) (sym same) ∙ first_of_tagged h xs first)

-- a step that is the name's in one world is the name's in another that it can't tell from the first
owner_again : (setup : Setup) (h : ℕ) (w v : World) (step : Step) → machine_of setup h w ≡ machine_of setup h v → OnlyOf h v → owner_of setup w step ≡ Some h → owner_of setup v step ≡ Some h
unfolding machine_of
owner_again setup h w v (Serve dev ep) same only own = by_interface (interface_of setup dev ep) own
  where
    by_interface : (o : Option ℕ) → option_and_then (λ i. w.claims dev i) o ≡ Some h → option_and_then (λ i. v.claims dev i) o ≡ Some h
    by_interface None own = absurd cc
    by_interface (Some i) own = is_its-some h (v.claims dev i) (sym (ap (λ m. m.held dev i) same) ∙ some-is_its h (w.claims dev i) own)
owner_again setup h w v Command same only own = same_first h w.orders v.orders (ap (λ m. m.orders) same) only.orders own
owner_again setup h w v Deliver same only own = same_first h w.news v.news (ap (λ m. m.news) same) only.news own
owner_again setup h w v Take same only own = same_first h w.results v.results (ap (λ m. m.results) same) only.results own
owner_again setup h w v _ same only own = own

-- none passes a test that nothing passes
none_any : (test : ℕ → Bool) (xs : List ℕ) → ((x : ℕ) → test x ≡ false) → list_any test xs ≡ false
none_any test [] none = refl
none_any test (x ∷ xs) none = rw (none x, none_any test xs none)

-- nobody is in the way there
never_blocked : (setup : Setup) (h : ℕ) (v : World) (change : Change) → OnlyOf h v → is_blocked setup h v change ≡ false
unfolding is_blocked
never_blocked setup h v (Gains dev k) only = only.claims dev k
never_blocked setup h v (Renews dev) only = none_any (λ i. is_others h (v.claims dev i)) (interfaces_of setup dev) (λ i. only.claims dev i)
never_blocked setup h v _ only = refl

-- the first of a name's own list is taken
past_first-tagged : {A : Type 0} (h : ℕ) (b : Bool) (xs : List A) → past_first b (tagged h xs) ≡ tagged h (past_first b xs)
past_first-tagged h true [] = refl
past_first-tagged h true (x ∷ xs) = refl
past_first-tagged h false xs = refl

-- a shared list of one name's pieces stays so
only_list : {A : Type 0} (h : ℕ) (b : Bool) (xs : List (Tagged A)) (ys : List A) → (b ≡ true → first_name xs ≡ Some h) → xs ≡ tagged h (pieces_of h xs)
    → past_first b xs ++ tagged h ys ≡ tagged h (pieces_of h (past_first b xs ++ tagged h ys))
only_list h b xs ys first all =
    ap (λ l. past_first b l ++ tagged h ys) all
    ∙ (ap (λ l. l ++ tagged h ys) (past_first-tagged h b (pieces_of h xs))
    ∙ (sym (map-append (λ x. record { name = h; piece = x }) (past_first b (pieces_of h xs)) ys)
    ∙ ap (tagged h) (sym (pieces_kept h b xs ys first))))

-- a claim that is let go, or is the name's own, is no other's
others_if_none : (h : ℕ) (b : Bool) (o : Option ℕ) → is_others h o ≡ false → is_others h (if b then None else o) ≡ false
others_if_none h true o e = refl
others_if_none h false o e = e

-- the same where it becomes the name's
others_if_its : (h : ℕ) (b : Bool) (o : Option ℕ) → is_others h o ≡ false → is_others h (if b then Some h else o) ≡ false
others_if_its h true o e = rw (same_name h)
others_if_its h false o e = e

-- a change of the name gives no other an interface
only_claims : (h : ℕ) (claims : Claims) (change : Change) → ((d i : ℕ) → is_others h (claims d i) ≡ false) → (d i : ℕ) → is_others h (claims_after h claims change d i) ≡ false
only_claims h claims Keeps only d i = only d i
only_claims h claims Frees only d i = others_if_none h (is_its h (claims d i)) (claims d i) (only d i)
only_claims h claims (Gains dev k) only d i = others_if_its h ((dev == d) && (k == i)) (claims d i) (only d i)
only_claims h claims (Drops dev k) only d i = others_if_none h (((dev == d) && (k == i)) && is_its h (claims d i)) (claims d i) (only d i)
only_claims h claims (Renews dev) only d i = only d i
only_claims h claims (Sets dev ep x) only d i = only d i

-- no other name gets anything by a step of the name
only_after : (setup : Setup) (h : ℕ) (v : World) (step : Step) (done : Effect) → owner_of setup v step ≡ Some h → OnlyOf h v → OnlyOf h (world_after setup h v step done)
unfolding world_after
only_after setup h v step done own only = record {
  claims = only_claims h v.claims done.change only.claims;
  orders = only_list h (takes_order step) v.orders done.orders (takes_its_order setup h v step own) only.orders;
  news = only_list h (takes_news step) v.news done.news (takes_its_news setup h v step own) only.news;
  results = only_list h (takes_result step) v.results done.results (takes_its_result setup h v step own) only.results;
}

-- the same turn in a world where the name is alone
abbrev pub TurnsSame : Setup → ℕ → Turn → Turn → Type 0
TurnsSame setup h t u = (u.entry ≡ t.entry) × (machine_of setup h t.world ≡ machine_of setup h u.world) × OnlyOf h u.world

-- a step with an owner
owned_turn_again : (setup : Setup) (h : ℕ) (w v : World) (step : Step) → is_unplug step ≡ false → machine_of setup h w ≡ machine_of setup h v → OnlyOf h v
    → IsOwnTurn setup h w step (turn setup w step) → TurnsSame setup h (turn setup w step) (turn setup v step)
unfolding turn
owned_turn_again setup h w v step owned same only o = subst (TurnsSame setup h (turn setup w step)) (sym there) (entry_same, machine_same, only_after setup h v step (effect_to setup h v step) own only)
  where
    own : owner_of setup v step ≡ Some h
    own = owner_again setup h w v step same only (o.0 owned)

    there : turn setup v step ≡ free_turn setup h v step
    there = ap (λ k. turn_by setup k v step) own ∙ turn_free setup h v step (never_blocked setup h v (effect_to setup h v step).change only)

    entry_same : ◌≡◌ {A = Entry} (record { owner = Some h; reply = (effect_to setup h v step).reply }) (turn setup w step).entry
    entry_same = ap (λ m. record { owner = Some h; reply = (effect setup h m step).reply }) (sym same)
        ∙ (ap (λ p. record { owner = p; reply = (effect_to setup h w step).reply }) (sym (made_by_owner setup h w step (o.0 owned))) ∙ sym o.1)

    machine_same : machine_of setup h (turn setup w step).world ≡ machine_of setup h (world_after setup h v step (effect_to setup h v step))
    machine_same = o.3 ∙ (ap (λ m. machine_after setup m step (effect setup h m step)) same ∙ sym (owner_steps setup h v step (effect_to setup h v step) own))

-- an Unplug is the same in both
unplug_again : (setup : Setup) (h : ℕ) (w v : World) (dev : ℕ) → machine_of setup h w ≡ machine_of setup h v → OnlyOf h v
    → TurnsSame setup h (turn_of_nobody setup w (Unplug dev)) (turn_of_nobody setup v (Unplug dev))
unfolding turn_of_nobody machine_of
unplug_again setup h w v dev same only = (
  ap {B = Entry} (λ (m : Machine). record { owner = None; reply = unplug_reply setup m.gone dev }) (sym same),
  ap (λ (m : Machine). record m { gone = λ d. gone_after setup m.gone (Unplug dev) d }) same,
  record { claims = only.claims; orders = only.orders; news = only.news; results = only.results },
)

-- a turn that is the name's own is the same where the name is alone
pub turn_again : (setup : Setup) (h : ℕ) (w v : World) (step : Step) → machine_of setup h w ≡ machine_of setup h v → OnlyOf h v
    → IsOwnTurn setup h w step (turn setup w step) → TurnsSame setup h (turn setup w step) (turn setup v step)
unfolding turn
turn_again setup h w v (Unplug dev) same only o = unplug_again setup h w v dev same only
turn_again setup h w v step same only o = owned_turn_again setup h w v step refl same only o

-- so is a run of the name's own steps
runs_alone_from : (setup : Setup) (h : ℕ) (w v : World) (steps : List Step) → machine_of setup h w ≡ machine_of setup h v → OnlyOf h v
    → entries_in (journal_from setup v (own_from setup h w steps)) ≡ entries_from setup h w steps
unfolding journal_from
runs_alone_from setup h w v [] same only = refl
runs_alone_from setup h w v (step ∷ steps) same only = by_turn (turn_to setup h w step) (λ u. runs_alone_from setup h (turn setup w step).world u steps)
  where
    later : World
    later = (turn setup w step).world

    by_turn : IsEither setup h w step (turn setup w step)
        → ((u : World) → machine_of setup h later ≡ machine_of setup h u → OnlyOf h u → entries_in (journal_from setup u (own_from setup h later steps)) ≡ entries_from setup h later steps)
        → entries_in (journal_from setup v (own_from setup h w (step ∷ steps))) ≡ entries_from setup h w (step ∷ steps)
    by_turn (inl o) rest =
        let t = turn_again setup h w v step same only o in
        ap (λ l. entries_in (journal_from setup v l)) (own_more setup h w step steps o.2)
        ∙ (ap₂ (λ x xs. x ∷ xs) t.0 (rest (turn setup v step).world t.1 t.2)
        ∙ sym (entries_more setup h w step steps o.2))
    by_turn (inr n) rest =
        ap (λ l. entries_in (journal_from setup v l)) (own_less setup h w step steps n.0)
        ∙ (rest v (n.1 ∙ same) only
        ∙ sym (entries_less setup h w step steps n.0))

-- in a new world nobody has anything
pub only_new : (setup : Setup) (h : ℕ) → OnlyOf h (new_world setup)
unfolding new_world
only_new setup h = record { claims = λ d i. refl; orders = refl; news = refl; results = refl }

-- over any run, from the world with no name open
pub runs_alone : (setup : Setup) (steps : List Step) (h : ℕ) → world_run setup (own setup steps h) ≡ entries setup steps h
unfolding journal
runs_alone setup steps h = runs_alone_from setup h (new_world setup) (new_world setup) steps refl (only_new setup h)
