use Rattle.std.proofs.Common.{◌++◌, ap, ◌∙◌}
use Rattle.usb_model.proofs.sequence.Sequence.append.Goals as goal

pub returns : goal.returns
returns g c =
    c.in_ok-append.ensures.items
    ∙ (ap (λ l. l ++ c.into_vec-more.result.items) c.into_vec-items.ensures ∙ ap (λ l. c.args.self ++ l) c.into_vec-more.ensures)
