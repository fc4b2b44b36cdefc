-- The core as it is made shows the new world; and what a list of steps does.
use Rattle.std.proofs.Common.{List, [], ap₂, refl, sym, ◌∙◌, ◌∷◌, ◌≡◌}
use Rattle.usb_model.specs.declared.entry.Entry.{Entry}
use Rattle.usb_model.specs.declared.step.Step.{Step}
use Rattle.usb_model.specs.World.Journal.{journal_from, run_from}
use Rattle.usb_model.specs.Setup.{Setup, script_of, packet_size_of}
use Rattle.usb_model.specs.World.{World, new_world, turn, world_from}
use Rattle.proof_model.proofs.Handles.Runs.{one_step}
use Rattle.refine_world.specs.Shows.{Core, Shows, Steps}
use Rattle.refine_world.specs.Steps.{new_core}
use Rattle.refine_world.proofs.Devices.{device_renewed}
use Rattle.refine_world.proofs.Renewed.{fresh_shows, new_near}

pub new_shows : (setup : Setup) → Shows setup (new_world setup) (new_core setup)
unfolding new_world world_from
new_shows setup = record {
  steps = [];
  reached = refl;
  names = refl;
  claims = refl;
  gone = refl;
  results = refl;
  orders = [];
  news = [];
  orders_shown = refl;
  orders_kept = refl;
  news_shown = refl;
  news_kept = refl;
  orders_held = tt;
  news_held = tt;
  first = 0;
  in_run = refl;
  few = λ d e. tt;
  near = λ h d e holds. new_near (script_of setup d e);
  endpoints = λ h d e holds. fresh_shows (packet_size_of setup d e) setup d e;
  devices = λ d e. device_renewed setup d e;
}

-- a core's steps, one behind another: the entries, and the core at the end
pub data Runs (setup : Setup) : Core → List Step → List Entry → Core → Type 0 where
  stops : (c : Core) → Runs setup c [] [] c
  goes_on : {c d e : Core} (step : Step) (entry : Entry) (steps : List Step) (entries : List Entry) → Steps setup c step entry d → Runs setup d steps entries e → Runs setup c (step ∷ steps) (entry ∷ entries) e

-- their entries are the definitions' run, and the core then shows the world where that ends
pub runs_show : (setup : Setup) (w : World) (c d : Core) (steps : List Step) (entries : List Entry) → Runs setup c steps entries d → Shows setup w c → (entries ≡ run_from setup w steps) × Shows setup (world_from setup w steps) d
unfolding world_from journal_from
runs_show setup w c d steps entries (stops c') s = (refl, s)
runs_show setup w c d steps entries (goes_on step entry more rest one runs) s =
    let t = one w s in
    let r = runs_show setup (turn setup w step).world _ d more rest runs t.1 in
    (ap₂ (λ x xs. x ∷ xs) t.0 r.0 ∙ sym (one_step setup w step more), r.1)
