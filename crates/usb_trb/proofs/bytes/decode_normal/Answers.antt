use Rattle.std.proofs.Common.{sym, ◌∙◌}
use Rattle.std.specs.Prelude.{refl}
use Rattle.std.proofs.lemmas.Option.{IfSome_then}
use Rattle.usb_trb.specs.Words.{trb_bytes}
use Rattle.usb_trb.specs.Read.{normal_trb}
use Rattle.usb_trb.proofs.Digits.{words-back}
use Rattle.usb_trb.proofs.Numbers.{numbers-back}
use Rattle.usb_trb.proofs.bytes.decode_normal.Goals as goal

pub returns-clause-known : goal.returns-clause-known
unfolding trb_bytes
returns-clause-known c =
    IfSome_then c.fields.result c.fields.ensures.known
    (λ n h. (normal_trb n c.words_in.result.control, h.0, words-back c.args.bytes.now _ _ _ c.told-bytes c.fits-bytes (h.1 ∙ c.words_in.ensures.parameter) (h.2 ∙ c.words_in.ensures.status) (h.3 ∙ c.words_in.ensures.control), refl))

pub returns-clause-found : goal.returns-clause-found
returns-clause-found c = λ t h e.
    let n = numbers-back t _ h e in
    c.fields.ensures.found t (h, n.0 ∙ sym c.words_in.ensures.parameter, n.1 ∙ sym c.words_in.ensures.status, n.2 ∙ sym c.words_in.ensures.control)
