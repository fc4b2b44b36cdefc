use Rattle.std.proofs.Common.{refl}
use Rattle.usb_model.specs.declared.verdict.Verdict.TheVariants.{Again}
use Rattle.usb_workers.proofs.Told.{resubmits_either}
use Rattle.usb_workers.proofs.answers.again.Goals as goal

pub returns : goal.returns
returns g c =
    resubmits_either g.L.Naming.setup c.args.h c.args.n Again c.args.caller.now c.again.new.caller c.again.result (λ a. a.receipt) (λ a. a.number) _ _ refl
    c.again.ensures.made c.again.ensures.entry c.again.ensures.refused (λ e b. b.1) c.left.ensures.refused c.left.ensures.lacked
