-- Each step for itself.
use Rattle.std.proofs.Common.{ap, subst, ◌≡◌, ◌∙◌, ℕ, None}
use Rattle.std.specs.Prelude.{find}
use Rattle.usb_tables.specs.HandleStates.{IsOut, callback_at}
use Rattle.refine_core.specs.State.{State}
use Rattle.usb_core.specs.Pending.{ends_from, serves}
use Rattle.usb_core.proofs.Called.{out_shown}
use Rattle.usb_core.proofs.parts.Parts.pending.Goals as goal

pub returns : goal.returns
returns g c = λ setup w core keeps shows. record {
  serve = c.first_to_serve.ensures setup w core keeps shows ∙ ap (λ n. find (λ x. serves setup w x.0 x.1) (ends_from 120 n)) c.behind.ensures.value;
  command = c.has_order.ensures setup w core keeps shows;
  deliver = c.has_event.ensures setup w core keeps shows;
  take = c.has_result.ensures setup w core keeps shows;
  out = out_shown setup w c.args.self.now core keeps shows c.is_any_out.result
      (λ is. subst (λ (s : State g.row.P.Denot). IsOut s.callers) c.self.view_is (c.is_any_out.ensures.some is))
      (λ is. subst (λ (s : State g.row.P.Denot). (h n : ℕ) → callback_at s.callers h n ≡ None) c.self.view_is (c.is_any_out.ensures.none is));
}
