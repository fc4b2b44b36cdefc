-- The entry is that of the world's turn.
use Rattle.std.proofs.Common.{rules, ◌≡◌, ◌∙◌, ap, refl}
use Rattle.usb_model.specs.declared.entry.Entry.{Entry}
use Rattle.usb_model.specs.World.{turn}
use Rattle.tirnouch_c.specs.Replies.{code_of, entry_numbers}
use Rattle.tirnouch_c.proofs.calls.make.Goals as goal

pub returns : goal.returns
returns c = (
  (λ setup w shows.
      let t = c.call-entry.ensures.turned setup w shows in
      let same : c.code_of.result ≡ code_of (turn setup w c.args.step).entry.reply = c.code_of.ensures ∙ ap (λ (e : Entry). code_of e.reply) t.0 in
      (search rules, (c.of.ensures ∙ ap entry_numbers t.0), t.1)),
  c.call-entry.ensures.carries,
  (refl, refl),
)
