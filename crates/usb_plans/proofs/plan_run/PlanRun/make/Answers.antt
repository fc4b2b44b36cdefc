-- Room was made first, which changes nothing that is shown.
use Rattle.std.proofs.Common.{◌<◌, ◌∙◌, option_map, refl, ap, sym, subst}
use Rattle.usb_core.specs.Public.{Carries, TurnsWorld}
use Rattle.usb_core.specs.Steps.{kept_after}
use Rattle.usb_plans.specs.PlanRuns.{HasRoom, PlanState, StillShows, room_of, running_at}
use Rattle.usb_plans.proofs.Stages.{comes_out, made}
use Rattle.usb_plans.proofs.StillShown.{has_place, made_from, never_fails, no_room, no_step, on_err, runs_from}
use Rattle.usb_plans.proofs.plan_run.PlanRun.make.Goals as goal

pub returns-in_err-memory-clause-stays : goal.returns-in_err-memory-clause-stays
returns-in_err-memory-clause-stays g c =
    on_err c.from_residual.result (StillShows g.C.Callback.rule c.args.self.now c.make_room.new.self)
    (no_room g.C.Callback.rule c.args.self.now c.make_room.new.self c.in_err-memory.ensures.core c.in_err-memory.ensures.same)

pub returns-in_err-entry-clause-stays : goal.returns-in_err-entry-clause-stays
returns-in_err-entry-clause-stays g c =
    on_err c.from_residual-in_err-entry.result (StillShows g.C.Callback.rule c.args.self.now (record { core = c.make_step.new.core; running = c.self.inside.running }))
    (no_step g.C.Callback.rule c.args.self.now (record { core = c.self.inside.core; running = c.self.inside.running }) (record { core = c.make_step.new.core; running = c.self.inside.running }) c.args.step c.in_ok-memory.memory.capacity
    (ap (λ (v : PlanState g.row.C.Denot). v.core) c.self.view_is ∙ c.in_ok-memory.ensures.core) (λ h n. ap (λ (v : PlanState g.row.C.Denot). running_at v.running h n) c.self.view_is ∙ c.in_ok-memory.ensures.same h n)
    (λ is. subst (λ (v : PlanState g.row.C.Denot). HasRoom v c.in_ok-memory.memory.capacity) (sym c.self.view_is) (c.in_ok-memory.ensures.room is)) c.in_err-entry.ensures.stays refl)

pub returns-in_err-keep-clause-stays : goal.returns-in_err-keep-clause-stays
returns-in_err-keep-clause-stays g c =
    on_err c.from_residual-in_err-keep.result (StillShows g.C.Callback.rule c.args.self.now c.keep.new.self)
    (λ setup called s shown.
    let mid : PlanState g.row.C.Denot = record { core = c.self.inside.core; running = c.self.inside.running } in
    let before = no_room g.C.Callback.rule c.args.self.now mid (ap (λ (v : PlanState g.row.C.Denot). v.core) c.self.view_is ∙ c.in_ok-memory.ensures.core)
    (λ h n. ap (λ (v : PlanState g.row.C.Denot). running_at v.running h n) c.self.view_is ∙ c.in_ok-memory.ensures.same h n) setup called s shown in
    let place = has_place mid c.make_step.new.core c.args.step c.in_ok-entry.field-0.entry c.in_ok-entry.field-0.taken c.in_ok-memory.memory.capacity c.in_ok-entry.ensures.turned c.in_ok-entry.ensures.out c.in_ok-entry.ensures.told
    (λ is. subst (λ (v : PlanState g.row.C.Denot). HasRoom v c.in_ok-memory.memory.capacity) (sym c.self.view_is) (c.in_ok-memory.ensures.room is)) c.in_err-keep.ensures.full setup s.world before.world in
    absurd (never_fails c.in_ok-entry.field-0.taken (λ t. 0 < room_of c.self.inside.running t.returned.h) c.keep.result _ c.in_err-keep.was c.in_err-keep.ensures.full place c.keep.ensures.succeeds))

pub returns-clause-made : goal.returns-clause-made
returns-clause-made g c =
    made_from g.C.Callback.rule c.args.self.now (record { core = c.self.inside.core; running = c.self.inside.running }) c.args.step c.args.callback c.in_ok-entry.field-0.entry c.keep.new.self
    (ap (λ (v : PlanState g.row.C.Denot). v.core) c.self.view_is ∙ c.in_ok-memory.ensures.core) (λ h n. ap (λ (v : PlanState g.row.C.Denot). running_at v.running h n) c.self.view_is ∙ c.in_ok-memory.ensures.same h n)
    (made g.C.Callback.rule (record { core = c.self.inside.core; running = c.self.inside.running }) c.args.step c.args.callback (option_map (λ t. t.payload) c.in_ok-entry.field-0.taken) c.in_ok-entry.field-0.entry c.keep.new.self c.requires.no_verdict
    (subst (λ k. TurnsWorld c.self.inside.core c.args.step c.in_ok-entry.field-0.entry k) (sym c.in_ok-keep.ensures.core) c.in_ok-entry.ensures.turned)
    (λ kept carried. subst (λ k. Carries (kept_after kept c.args.step c.in_ok-entry.field-0.entry c.args.callback) k) (sym c.in_ok-keep.ensures.core) (c.in_ok-entry.ensures.carries kept carried))
    c.requires.submits c.in_ok-entry.ensures.out c.in_ok-entry.ensures.goes_out c.in_ok-keep.ensures.runs)

pub returns-clause-out : goal.returns-clause-out
returns-clause-out g c =
    runs_from c.in_ok-entry.field-0.entry.reply c.args.self.now (record { core = c.self.inside.core; running = c.self.inside.running }) c.keep.new.self
    (ap (λ (v : PlanState g.row.C.Denot). v.core) c.self.view_is ∙ c.in_ok-memory.ensures.core) (λ h n. ap (λ (v : PlanState g.row.C.Denot). running_at v.running h n) c.self.view_is ∙ c.in_ok-memory.ensures.same h n)
    (comes_out (record { core = c.self.inside.core; running = c.self.inside.running }) c.keep.new.self c.args.step (option_map (λ t. t.payload) c.in_ok-entry.field-0.taken) c.in_ok-entry.field-0.entry c.make_step.new.core c.in_ok-entry.ensures.turned c.in_ok-entry.ensures.out c.in_ok-entry.ensures.goes_out c.in_ok-keep.ensures.runs)
