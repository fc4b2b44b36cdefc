-- The world after the step, part by part.
use Rattle.std.proofs.Common.{◌≡◌, ℕ, ◌==◌, ◌++◌, sym, ap, ◌∙◌}
use Rattle.std.specs.Prelude.{if◌then◌else◌}
use Rattle.reference.specs.declared.system.System.{System}
use Rattle.usb_model.specs.Machine.Turns.{takes_order, takes_news, takes_result}
use Rattle.usb_model.specs.World.{World, world_after}
use Rattle.reference.specs.Tables.{handle_at}
use Rattle.usb_model.specs.World.Shared.{tagged, past_first}
use Rattle.reference.specs.System.{world_of, changed}
use Rattle.proof_model.proofs.Handles.Isolation.{gone_stays}
use Rattle.reference.proofs.system.System.apply.Goals as goal

pub returns-clause-world : goal.returns-clause-world
unfolding world_after
returns-clause-world c =
    let change : world_of c.args.setup.now c.change.new.self ≡ changed c.args.setup.now c.args.h (world_of c.args.setup.now c.args.self.now) c.args.effect.change = c.in_ok-change.ensures in
    let first_go = c.let_first_go.ensures in
    let names : (g : ℕ) → handle_at c.replace.new.self g ≡ (if c.args.h == g then c.args.effect.handle else handle_at c.args.self.now.names g) =
    λ g. c.replace.ensures.new g ∙ ap (λ (w : World). if c.args.h == g then c.args.effect.handle else w.names g) change in
    let orders : c.join.new.self ≡ past_first (takes_order c.args.step.now) c.args.self.now.orders ++ tagged c.args.h c.args.effect.orders =
    c.in_ok-join.ensures ∙ (ap (λ (s : System). s.orders ++ tagged c.args.h c.args.effect.orders) first_go ∙ ap (λ (w : World). past_first (takes_order c.args.step.now) w.orders ++ tagged c.args.h c.args.effect.orders) change) in
    let news : c.join-2.new.self ≡ past_first (takes_news c.args.step.now) c.args.self.now.news ++ tagged c.args.h c.args.effect.news =
    c.in_ok-join-2.ensures ∙ (ap (λ (s : System). s.news ++ tagged c.args.h c.args.effect.news) first_go ∙ ap (λ (w : World). past_first (takes_news c.args.step.now) w.news ++ tagged c.args.h c.args.effect.news) change) in
    let results : c.join-3.new.self ≡ past_first (takes_result c.args.step.now) c.args.self.now.results ++ tagged c.args.h c.args.effect.results =
    c.in_ok-join-3.ensures ∙ (ap (λ (s : System). s.results ++ tagged c.args.h c.args.effect.results) first_go ∙ ap (λ (w : World). past_first (takes_result c.args.step.now) w.results ++ tagged c.args.h c.args.effect.results) change) in
    rw first_go
    (λ i. record {
      names = λ g. names g i;
      claims = λ d k. (change i).claims d k;
      endpoints = λ d e. (change i).endpoints d e;
      gone = λ d. (ap (λ (w : World). w.gone d) change ∙ sym (gone_stays c.args.setup.now (world_of c.args.setup.now c.args.self.now).gone c.args.step.now d c.requires)) i;
      orders = orders i;
      news = news i;
      results = results i;
    })
