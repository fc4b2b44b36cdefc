-- A fed run is the run over the scripts as they stand at the end.
use Rattle.std.proofs.Common.{◌≡◌, ℕ, List, [], ◌∷◌, ◌++◌, refl, sym, ap, ap₂, ◌∙◌, append-nil, append_assoc}
use Rattle.usb_model.specs.declared.response.Response.{Response}
use Rattle.usb_model.specs.declared.step.Step.{Step}
use Rattle.usb_model.specs.declared.endpoint.Endpoint.{Endpoint}
use Rattle.usb_model.specs.Setup.{Setup}
use Rattle.usb_model.specs.World.{World, new_world, turn, world_from}
use Rattle.usb_model.specs.World.Journal.{Place, journal, journal_from, entries_in, own_places}
use Rattle.proof_model.proofs.Handles.Isolation.{sees_alone}
use Rattle.proof_model.proofs.Handles.Runs.{world_append}
use Rattle.refine_world.specs.Living.{More, GoesOn, StaysWithin, with_more, world_with}
use Rattle.refine_world.specs.Feeding.{Stretch, fed_in, setup_after, steps_in, world_fed, fed_journal, fed_world, IsFed, IsAsIfKnown, FedAsIfKnown}
use Rattle.refine_world.proofs.Worlds.{new_same}
use Rattle.refine_world.proofs.Runs.{journal_same, world_same}

-- nothing more
none_more : (e : Endpoint) → with_more [] e ≡ e
none_more e = λ i. record e { script_left = append-nil e.script_left i }

pub world_none : (w : World) → world_with (λ d ep. []) w ≡ w
world_none w = λ i. record w { endpoints = λ d ep. none_more (w.endpoints d ep) i }

-- more, and then more
twice_more : (xs ys : List Response) (e : Endpoint) → with_more (xs ++ ys) e ≡ with_more ys (with_more xs e)
twice_more xs ys e = λ i. record e { script_left = sym (append_assoc e.script_left xs ys) i }

pub world_twice : (a b : More) (w : World) → world_with (λ d ep. a d ep ++ b d ep) w ≡ world_with b (world_with a w)
world_twice a b w = λ i. record w { endpoints = λ d ep. twice_more (a d ep) (b d ep) (w.endpoints d ep) i }

pub goes_none : (setup : Setup) → GoesOn setup setup (λ d ep. [])
goes_none setup = record { devices = λ d. refl; interfaces = λ d. refl; endpoints = λ d. refl; scripts = λ d ep. sym (append-nil _) }

pub goes_twice : (setup next last : Setup) (a b : More) → GoesOn setup next a → GoesOn next last b → GoesOn setup last (λ d ep. a d ep ++ b d ep)
goes_twice setup next last a b g f = record {
  devices = λ d. f.devices d ∙ g.devices d;
  interfaces = λ d. f.interfaces d ∙ g.interfaces d;
  endpoints = λ d. f.endpoints d ∙ g.endpoints d;
  scripts = λ d ep. f.scripts d ep ∙ (ap (λ l. l ++ b d ep) (g.scripts d ep) ∙ append_assoc _ (a d ep) (b d ep));
}

-- what is fed in all
fed_goes : (setup : Setup) (w : World) (ss : List Stretch) → IsFed setup w ss → GoesOn setup (setup_after setup ss) (fed_in ss)
fed_goes setup w [] f = goes_none setup
fed_goes setup w (s ∷ ss) f = goes_twice setup s.longer (setup_after s.longer ss) s.more (fed_in ss) f.0 (fed_goes s.longer (world_fed setup w s) ss f.2)

journal_append : (setup : Setup) (w : World) (xs ys : List Step) → journal_from setup w (xs ++ ys) ≡ journal_from setup w xs ++ journal_from setup (world_from setup w xs) ys
unfolding journal_from world_from
journal_append setup w [] ys = refl
journal_append setup w (x ∷ xs) ys = ap (λ l. record { step = x; entry = (turn setup w x).entry } ∷ l) (journal_append setup (turn setup w x).world xs ys)

-- one stretch over the last scripts leads where the next one begins
reach : (setup : Setup) (w : World) (s : Stretch) (ss : List Stretch) → IsFed setup w (s ∷ ss)
    → world_from (setup_after s.longer ss) (world_with (fed_in (s ∷ ss)) w) s.steps ≡ world_with (fed_in ss) (world_fed setup w s)
reach setup w s ss f =
    world_same setup (setup_after s.longer ss) (fed_in (s ∷ ss)) w s.steps (fed_goes setup w (s ∷ ss) f) f.1
    ∙ world_twice s.more (fed_in ss) (world_from setup w s.steps)

fed_journal_same : (setup : Setup) (w : World) (ss : List Stretch) → IsFed setup w ss
    → journal_from (setup_after setup ss) (world_with (fed_in ss) w) (steps_in ss) ≡ fed_journal setup w ss
unfolding fed_journal journal_from
fed_journal_same setup w [] f = refl
fed_journal_same setup w (s ∷ ss) f =
    let last : Setup = setup_after s.longer ss in
    let from : World = world_with (fed_in (s ∷ ss)) w in
    journal_append last from s.steps (steps_in ss)
    ∙ ap₂ (λ xs v. xs ++ journal_from last v (steps_in ss)) (journal_same setup last (fed_in (s ∷ ss)) w s.steps (fed_goes setup w (s ∷ ss) f) f.1) (reach setup w s ss f)
    ∙ ap (λ ys. journal_from setup w s.steps ++ ys) (fed_journal_same s.longer (world_fed setup w s) ss f.2)

fed_world_same : (setup : Setup) (w : World) (ss : List Stretch) → IsFed setup w ss
    → world_from (setup_after setup ss) (world_with (fed_in ss) w) (steps_in ss) ≡ fed_world setup w ss
unfolding fed_world world_from
fed_world_same setup w [] f = world_none w
fed_world_same setup w (s ∷ ss) f =
    let last : Setup = setup_after s.longer ss in
    let from : World = world_with (fed_in (s ∷ ss)) w in
    world_append last from s.steps (steps_in ss)
    ∙ ap (λ v. world_from last v (steps_in ss)) (reach setup w s ss f)
    ∙ fed_world_same s.longer (world_fed setup w s) ss f.2

pub fed_as_if_known : FedAsIfKnown
unfolding journal
fed_as_if_known setup ss f = record {
  same_journal = same;
  same_world = sym (fed_world_same setup (new_world setup) ss f) ∙ ap (λ w. world_from last w (steps_in ss)) (sym begun);
  isolated = λ h. ap (λ places. entries_in (own_places h places)) same ∙ sees_alone last (steps_in ss) h;
}
  where
    last : Setup
    last = setup_after setup ss

    begun : new_world last ≡ world_with (fed_in ss) (new_world setup)
    begun = new_same setup last (fed_in ss) (fed_goes setup (new_world setup) ss f)

    same : fed_journal setup (new_world setup) ss ≡ journal_from last (new_world last) (steps_in ss)
    same = sym (fed_journal_same setup (new_world setup) ss f) ∙ ap (λ w. journal_from last w (steps_in ss)) (sym begun)
