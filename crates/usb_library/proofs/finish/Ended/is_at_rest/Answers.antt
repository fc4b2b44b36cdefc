use Rattle.std.proofs.Common.{sym, ◌∙◌}
use Rattle.usb_library.proofs.Rests.{rests, shows_rest}
use Rattle.usb_library.proofs.finish.Ended.is_at_rest.Goals as goal

pub returns : goal.returns
returns g c = λ setup w shows.
    let is = c.pending.ensures setup w shows in
    (λ e. rests setup w c.pending.result is (sym c.is_nothing.ensures ∙ e), λ r. c.is_nothing.ensures ∙ shows_rest setup w c.pending.result is r)
