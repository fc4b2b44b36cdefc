-- New parts are unused.
use Rattle.std.proofs.Common.{subst}
use Rattle.usb_model.specs.World.{new_world}
use Rattle.refine_core.specs.Made.{Devices, setup_of}
use Rattle.refine_core.specs.State.{ShowsWorld, State}
use Rattle.refine_core.proofs.Made.{no_lines, shows_new}
use Rattle.usb_core.proofs.Views.{parts}
use Rattle.refine_core.proofs.Payloads.{none_carried}
use Rattle.usb_core.proofs.parts.Parts.new.Goals as goal

pub returns-clause-shows : goal.returns-clause-shows
returns-clause-shows g c =
    let new : State g.row.P.Denot = parts c.in_ok-claims.claims c.renew_all.new.self c.in_ok-flights.flights c.in_ok-callers.callers c.in_ok-outstanding.outstanding in
    let x : Devices = record { configs = c.setup.inside.configs.items; controller = c.setup.inside.controller } in
    let none = no_lines c.in_ok-flights.flights c.in_ok-flights.ensures in
    subst (λ (y : Devices). ShowsWorld (setup_of y) new (new_world (setup_of y))) c.setup.view_is
    (shows_new new x c.setup.invariant (record {
      configs = c.in_ok-claims.ensures.configs;
      closed = c.in_ok-claims.ensures.closed;
      free = c.in_ok-claims.ensures.free;
      controller = c.renew_all.ensures.controller;
      laws = c.renew_all.ensures.lawful;
      lanes = none.lanes;
      lines = none.lines;
      keyed = none.keyed;
      keys = none.keys;
      ended = none.ended;
      numbers = c.in_ok-callers.ensures.numbers;
      callbacks = c.in_ok-callers.ensures.callbacks;
      results = c.in_ok-callers.ensures.results;
      called = c.in_ok-callers.ensures.counts;
      cells = c.in_ok-outstanding.ensures.whole;
      errands = c.in_ok-outstanding.ensures.none;
    }))

pub returns-clause-carries : goal.returns-clause-carries
returns-clause-carries g c = λ kept.
    let new : State g.row.P.Denot = parts c.in_ok-claims.claims c.renew_all.new.self c.in_ok-flights.flights c.in_ok-callers.callers c.in_ok-outstanding.outstanding in
    let none = no_lines c.in_ok-flights.flights c.in_ok-flights.ensures in
    none_carried new none.lines none.ended kept
