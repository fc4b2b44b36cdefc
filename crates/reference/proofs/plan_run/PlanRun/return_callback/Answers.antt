-- One answer, or two.
use Rattle.std.proofs.Common.{List, ◌++◌, ◌∷◌, [], refl, sym, ap, ◌∙◌}
use Rattle.usb_model.specs.declared.entry.Entry.{Entry}
use Rattle.usb_model.specs.declared.step.Step.{Step}
use Rattle.usb_model.specs.declared.step.Step.TheVariants.{Answer}
use Rattle.usb_model.specs.declared.verdict.Verdict.{Verdict}
use Rattle.usb_model.specs.declared.verdict.Verdict.TheVariants as verdict
use Rattle.usb_model.specs.World.{World, turn}
use Rattle.reference.specs.System.{world_of}
use Rattle.usb_model.specs.World.Plans.{Stage, verdict_by}
use Rattle.usb_model.specs.Machine.Calls.{callback_of}
use Rattle.reference.specs.RuleBooks.{book_at}
use Rattle.reference.specs.Tables.{handle_at}
use Rattle.reference.specs.PlanRuns.{stage_of}
use Rattle.reference.proofs.Drives.{made_once, made_twice, begun}
use Rattle.reference.proofs.plan_run.PlanRun.return_callback.Goals as goal

pub returns-then-not-branch-clause-made : goal.returns-then-not-branch-clause-made
returns-then-not-branch-clause-made c =
    let s : Stage = stage_of c.args.setup.now c.args.self.now c.args.rules.now in
    let t : Stage = stage_of c.args.setup.now c.answer.new.self c.args.rules.now in
    let v : Verdict = verdict_by (callback_of c.args.n (handle_at c.args.self.now.system.names c.args.h).in_callbacks) (book_at c.args.self.now.book c.args.h c.args.n) in
    let m = c.in_ok-answer.ensures.made in
    made_once c.args.setup.now s t c.args.h c.args.n v c.args.out.now c.answer.new.out (sym m.0 ∙ c.if-not-branch.true) m.1 m.2 m.3 refl

pub returns-clause-stopped : goal.returns-clause-stopped
returns-clause-stopped c =
    let s : Stage = stage_of c.args.setup.now c.args.self.now c.args.rules.now in
    let v : Verdict = verdict_by (callback_of c.args.n (handle_at c.args.self.now.system.names c.args.h).in_callbacks) (book_at c.args.self.now.book c.args.h c.args.n) in
    let m = c.in_ok-answer.ensures.made in
    begun c.args.setup.now s c.args.h c.args.n v c.args.out.now c.advance.new.entries (sym m.0 ∙ c.if-not-branch.false) (c.in-Err.ensures.kept ∙ m.1)

pub returns-in-Ok-advance-clause-made : goal.returns-in-Ok-advance-clause-made
returns-in-Ok-advance-clause-made c =
    let s : Stage = stage_of c.args.setup.now c.args.self.now c.args.rules.now in
    let t : Stage = stage_of c.args.setup.now (record { system = c.advance.new.system; book = c.answer.new.self.book; made = c.keep.new.made }) c.args.rules.now in
    let v : Verdict = verdict_by (callback_of c.args.n (handle_at c.args.self.now.system.names c.args.h).in_callbacks) (book_at c.args.self.now.book c.args.h c.args.n) in
    let m = c.in_ok-answer.ensures.made in
    let stop : Step = Answer c.args.h c.args.n verdict.Stop in
    let one : List Entry = c.args.out.now ++ (turn c.args.setup.now s.world (Answer c.args.h c.args.n v)).entry ∷ [] in
    made_twice c.args.setup.now s t c.args.h c.args.n v c.args.out.now c.advance.new.entries (sym m.0 ∙ c.if-not-branch.false)
    (c.in-Ok-advance.ensures.advanced.0 ∙ (ap (λ (l : List Entry). l ++ (turn c.args.setup.now (world_of c.args.setup.now c.answer.new.self.system) stop).entry ∷ []) m.1 ∙ ap (λ (w : World). one ++ (turn c.args.setup.now w stop).entry ∷ []) m.2))
    (c.in-Ok-advance.ensures.advanced.1 ∙ ap (λ (w : World). (turn c.args.setup.now w stop).world) m.2)
    m.3 refl

pub returns-in_default-clause-stopped : goal.returns-in_default-clause-stopped
returns-in_default-clause-stopped c =
    let s : Stage = stage_of c.args.setup.now c.args.self.now c.args.rules.now in
    let v : Verdict = verdict_by (callback_of c.args.n (handle_at c.args.self.now.system.names c.args.h).in_callbacks) (book_at c.args.self.now.book c.args.h c.args.n) in
    let m = c.in_ok-answer.ensures.made in
    begun c.args.setup.now s c.args.h c.args.n v c.args.out.now c.answer.new.out (sym m.0 ∙ c.if-not-branch.false) m.1
