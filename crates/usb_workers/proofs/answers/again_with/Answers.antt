use Rattle.std.proofs.Common.{refl}
use Rattle.usb_model.specs.declared.verdict.Verdict.TheVariants.{AgainWith}
use Rattle.usb_workers.proofs.Told.{resubmits_either}
use Rattle.usb_workers.proofs.answers.again_with.Goals as goal

pub returns : goal.returns
returns g c =
    resubmits_either g.L.Naming.setup c.args.h c.args.n (AgainWith c.args.bytes) c.args.caller.now c.again_with.new.caller c.again_with.result (λ a. a.receipt) (λ a. a.number) _ _ refl
    c.again_with.ensures.made c.again_with.ensures.entry c.again_with.ensures.refused (λ e b. b.2) c.left.ensures.refused c.left.ensures.lacked
