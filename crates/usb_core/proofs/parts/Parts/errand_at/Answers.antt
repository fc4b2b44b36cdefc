use Rattle.std.proofs.Common.{subst, sym, ap, ◌∙◌, Some, true}
use Rattle.usb_tables.specs.Outstanding.{sent_at}
use Rattle.refine_core.specs.Works.{IsHolder}
use Rattle.refine_core.proofs.Senders.{done_at, stands_sends}
use Rattle.usb_core.proofs.parts.Parts.errand_at.Goals as goal

pub returns-then-stands_at : goal.returns-then-stands_at
returns-then-stands_at g c = λ setup core code slot taken slot_is index rest first.
    stands_sends setup c.args.self.now core c.args.pointer code slot c.args.dev index c.args.ep c.in_ok-name.name c.in_ok-sent.sent true (done_at setup c.args.self.now core c.args.pointer code slot c.args.dev index rest taken first)
    (subst (λ v. IsHolder v c.args.dev c.args.ep (Some c.in_ok-name.name)) c.self.view_is c.in_ok-name.ensures)
    (c.in_ok-sent.ensures ∙ ap (λ v. sent_at v.outstanding c.args.dev c.args.ep) c.self.view_is)
    (sym c.stands_at.ensures ∙ c.if-stands_at.true)
