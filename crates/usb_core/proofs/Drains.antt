-- Events and orders in a row.
use Rattle.std.proofs.Common.{◌≡◌, ℕ, zero, suc, ◌+◌, ◌-◌, ◌≤◌, refl, ap, subst, sym, ◌∙◌, arith, List, [], ◌∷◌, ◌++◌, length, append_assoc, length-append, append-nil, Bool, true, false, Option, Some, None}
use Rattle.std.specs.Prelude.{if◌then◌else◌}
use Rattle.std.specs.Option.{option_map_or}
use Rattle.usb_model.specs.declared.step.Step.{Step}
use Rattle.usb_model.specs.declared.step.Step.TheVariants.{Command, Deliver, Take}
use Rattle.usb_model.specs.Setup.{Setup}
use Rattle.usb_model.specs.World.{World, turn}
use Rattle.refine_world.specs.Calls.{step_core}
use Rattle.refine_world.specs.Shows.{Core, Shows}
use Rattle.refine_world.proofs.Calls.Whole.{whole_steps}
use Rattle.refine_core.specs.State.{IsState, Keeps, State}
use Rattle.refine_core.specs.Steps.{core_behind}
use Rattle.refine_core.proofs.Rows.{core_behind_on}
use Rattle.usb_core.specs.Drains.{DrainsOne, drained_steps, next_drained}
use Rattle.usb_core.specs.Pending.{does_something}

-- one step more, at the head
drained_more : (most : ℕ) (setup : Setup) (w : World) (step : Step) → next_drained setup w ≡ Some step → drained_steps (suc most) setup w ≡ step ∷ drained_steps most setup (turn setup w step).world
unfolding drained_steps
drained_more most setup w step is = ap (λ (o : Option Step). option_map_or (λ s. s ∷ drained_steps most setup (turn setup w s).world) o []) is

-- none where nothing is left
drained_none : (most : ℕ) (setup : Setup) (w : World) → next_drained setup w ≡ None → drained_steps most setup w ≡ []
unfolding drained_steps
drained_none zero setup w is = refl
drained_none (suc most) setup w is = ap (λ (o : Option Step). option_map_or (λ s. s ∷ drained_steps most setup (turn setup w s).world) o []) is

-- nothing is next where a result waits
pub waits : (setup : Setup) (w : World) → does_something setup w Take ≡ true → next_drained setup w ≡ None
waits setup w take = ap (λ (t : Bool). if t then None else (if does_something setup w Deliver then Some Deliver else (if does_something setup w Command then Some Command else None))) take

-- an event is
pub delivers : (setup : Setup) (w : World) → does_something setup w Take ≡ false → does_something setup w Deliver ≡ true → next_drained setup w ≡ Some Deliver
delivers setup w take deliver =
    ap (λ (t : Bool). if t then None else (if does_something setup w Deliver then Some Deliver else (if does_something setup w Command then Some Command else None))) take
    ∙ ap (λ (t : Bool). if t then Some Deliver else (if does_something setup w Command then Some Command else None)) deliver

-- or an order, or nothing
pub orders : (setup : Setup) (w : World) (t : Bool) → does_something setup w Take ≡ false → does_something setup w Deliver ≡ false → does_something setup w Command ≡ t → next_drained setup w ≡ (if t then Some Command else None)
orders setup w t take deliver command =
    ap (λ (t : Bool). if t then None else (if does_something setup w Deliver then Some Deliver else (if does_something setup w Command then Some Command else None))) take
    ∙ ap (λ (t : Bool). if t then Some Deliver else (if does_something setup w Command then Some Command else None)) deliver
    ∙ ap (λ (t : Bool). if t then Some Command else None) command

module _ {P : Type 0} where
  -- so many steps were drained from a world on: which they were, the world behind them, and that all behind is drained from there
  pub record HasDrained (setup : Setup) (w : World) (c : Core) (count : ℕ) (s : State P) : Type 0 where
    pub steps : List Step
    pub world : World
    pub keeps : Keeps setup s (core_behind setup c steps)
    pub shows : Shows setup world (core_behind setup c steps)
    pub so_far : length steps ≡ count
    pub all : (more : ℕ) → drained_steps (count + more) setup w ≡ steps ++ drained_steps more setup world

  -- of whatever the first parts keep
  abbrev pub Drained : State P → ℕ → State P → Type 0
  Drained old count s = (setup : Setup) (w : World) (c : Core) → Keeps setup old c → Shows setup w c → HasDrained setup w c count s

  -- none yet
  pub none_drained : (s : State P) → Drained s 0 s
  unfolding core_behind
  none_drained s setup w c keeps shows = record { steps = []; world = w; keeps = keeps; shows = shows; so_far = refl; all = λ more. ap (λ (n : ℕ). drained_steps n setup w) (omega arith) }

  -- and one more
  pub one_drained : (old mid new : State P) (count : ℕ) → Drained old count mid → ((setup : Setup) (w : World) (c : Core) → Keeps setup mid c → Shows setup w c → DrainsOne setup w c true new) → Drained old (count + 1) new
  unfolding core_behind
  one_drained old mid new count so_far one setup w c keeps shows =
      let has = so_far setup w c keeps shows in
      let core = core_behind setup c has.steps in
      let done = one setup has.world core has.keeps has.shows in
      let step = done.0 in
      let both = sym (core_behind_on setup c has.steps (step ∷ [])) in
      let world = (turn setup has.world step).world in
      record {
        steps = has.steps ++ (step ∷ []);
        world = world;
        keeps = subst (λ (v : Core). Keeps setup new v) both done.2;
        shows = subst (λ (v : Core). Shows setup world v) both (whole_steps setup keeps.fine has.world core has.shows step).1;
        so_far = length-append has.steps (step ∷ []) ∙ ap (λ (n : ℕ). n + 1) has.so_far;
        all = λ more.
            ap (λ (n : ℕ). drained_steps n setup w) (omega arith)
            ∙ has.all (suc more)
            ∙ ap (λ (steps : List Step). has.steps ++ steps) (drained_more more setup has.world step done.1)
            ∙ sym (append_assoc has.steps (step ∷ []) (drained_steps more setup world));
      }

  -- they leave parts that show some world
  pub drained_state : (old new : State P) (count : ℕ) → Drained old count new → IsState old → IsState new
  drained_state old new count so_far is =
      let has = so_far is.0 is.1 is.2.0 is.2.1 is.2.2 in
      (is.0, has.world, (core_behind is.0 is.2.0 has.steps, has.keeps, has.shows))

  -- these are all that there are, and these parts are behind them
  abbrev pub DrainsAll : State P → (most count : ℕ) → State P → Type 0
  DrainsAll old most count new = (setup : Setup) (w : World) (c : Core) → Keeps setup old c → Shows setup w c → (count ≡ length (drained_steps most setup w)) × Keeps setup new (core_behind setup c (drained_steps most setup w))

  -- a row of steps is all that are drained
  whole_row : (setup : Setup) (c : Core) (new : State P) (steps all : List Step) (count : ℕ) → length steps ≡ count → all ≡ steps → Keeps setup new (core_behind setup c steps) → (count ≡ length all) × Keeps setup new (core_behind setup c all)
  whole_row setup c new steps all count many is keeps = (sym many ∙ ap (λ (row : List Step). length row) (sym is), subst (λ (row : List Step). Keeps setup new (core_behind setup c row)) (sym is) keeps)

  -- where as many were drained as were asked for
  pub most_drained : (old new : State P) (most : ℕ) → Drained old most new → DrainsAll old most most new
  unfolding drained_steps
  most_drained old new most so_far setup w c keeps shows =
      let has = so_far setup w c keeps shows in
      whole_row setup c new has.steps (drained_steps most setup w) most has.so_far
      (ap (λ (n : ℕ). drained_steps n setup w) (omega arith) ∙ has.all 0 ∙ append-nil has.steps)
      has.keeps

  -- and where nothing was left behind them
  pub rest_drained : (old mid new : State P) (most count : ℕ) → count ≤ most → Drained old count mid → ((setup : Setup) (w : World) (c : Core) → Keeps setup mid c → Shows setup w c → DrainsOne setup w c false new) → DrainsAll old most count new
  rest_drained old mid new most count few so_far none setup w c keeps shows =
      let has = so_far setup w c keeps shows in
      let left = none setup has.world (core_behind setup c has.steps) has.keeps has.shows in
      whole_row setup c new has.steps (drained_steps most setup w) count has.so_far
      (ap (λ (n : ℕ). drained_steps n setup w) (omega (arith, few))
      ∙ has.all (most - count)
      ∙ ap (λ (steps : List Step). has.steps ++ steps) (drained_none (most - count) setup has.world left.0)
      ∙ append-nil has.steps)
      left.1
