-- A core that shows a world has the world's own tables: its names, its claims, its gone devices and its results.
use Rattle.std.proofs.Common.{subst, sym, ◌≡◌}
use Rattle.usb_model.specs.declared.step.Step.{Step}
use Rattle.usb_model.specs.Setup.{Setup}
use Rattle.usb_model.specs.World.{World}
use Rattle.refine_world.specs.Calls.{step_core}
use Rattle.refine_world.specs.Shows.{Core, Shows}
use Rattle.refine_world.specs.Steps.{StepsTo}

-- the core with these of the world in the place of its own
abbrev pub with_tables : World → Core → Core
with_tables w c = record c { names = w.names; claims = w.claims; gone = w.gone; results = w.results }

-- it is the core itself
tables_are : (setup : Setup) (w : World) (c : Core) → Shows setup w c → with_tables w c ≡ c
tables_are setup w c s = λ i. record {
  names = sym s.names i;
  claims = sym s.claims i;
  gone = sym s.gone i;
  endpoints = c.endpoints;
  orders = c.orders;
  events = c.events;
  posted = c.posted;
  results = sym s.results i;
}

-- so what steps with these tables steps
pub by_tables : (setup : Setup) (w : World) (c : Core) (step : Step) → Shows setup w c → (Shows setup w (with_tables w c) → StepsTo setup w step (step_core setup (with_tables w c) step)) → StepsTo setup w step (step_core setup c step)
by_tables setup w c step s steps =
    let same : with_tables w c ≡ c = tables_are setup w c s in
    subst (λ k. StepsTo setup w step (step_core setup k step)) same (steps (subst (λ k. Shows setup w k) (sym same) s))
