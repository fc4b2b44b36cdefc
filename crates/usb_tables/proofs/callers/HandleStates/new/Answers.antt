-- One more name of which nothing is kept.
use Rattle.std.proofs.Common.{◌+◌, ap, ◌∙◌}
use Rattle.std.proofs.lemmas.List.{length_push}
use Rattle.usb_tables.proofs.Names.{IsBlank, blank_pushed}
use Rattle.usb_tables.proofs.callers.HandleStates.new.Goals as goal

pub loop-preserved : goal.loop-preserved
loop-preserved c =
    let blank : IsBlank c.new.result = record { number = c.new.ensures.number; callbacks = c.new.ensures.callbacks; results = c.new.ensures.results; counts = c.new.ensures.counts } in
    record {
      count = rw c.in_ok-push.ensures.items (length_push c.loop.callers.items c.new.result ∙ ap (λ n. n + 1) c.loop.invariant.count);
      blank = rw c.in_ok-push.ensures.items (blank_pushed c.loop.callers.items c.new.result blank c.loop.invariant.blank);
    }
