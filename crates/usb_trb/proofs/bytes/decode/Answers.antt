use Rattle.std.proofs.Common.{◌≡◌, sym, ◌∙◌}
use Rattle.std.proofs.lemmas.Result.{IfOk-weaker}
use Rattle.usb_trb.specs.Words.{trb_bytes, IsTrb, IsInWords}
use Rattle.usb_trb.proofs.Digits.{words-back}
use Rattle.usb_trb.proofs.Numbers.{numbers-back, none-where-unknown}
use Rattle.usb_trb.proofs.bytes.decode.Goals as goal

pub returns-clause-known : goal.returns-clause-known
unfolding trb_bytes
returns-clause-known c =
    IfOk-weaker c.trb.result
    (λ t. IsInWords t c.words_in.result.parameter c.words_in.result.status c.words_in.result.control)
    (λ t. IsTrb t × (trb_bytes t ≡ c.args.bytes.now))
    (λ t h. (h.0, words-back c.args.bytes.now _ _ _ c.told-bytes c.fits-bytes (h.1 ∙ c.words_in.ensures.parameter) (h.2 ∙ c.words_in.ensures.status) (h.3 ∙ c.words_in.ensures.control)))
    c.trb.ensures.known

pub returns-clause-found : goal.returns-clause-found
returns-clause-found c = λ t h e.
    let n = numbers-back t _ h e in
    c.trb.ensures.found t (h, n.0 ∙ sym c.words_in.ensures.parameter, n.1 ∙ sym c.words_in.ensures.status, n.2 ∙ sym c.words_in.ensures.control)

pub returns-clause-unknown : goal.returns-clause-unknown
returns-clause-unknown c = none-where-unknown c.args.bytes.now c.trb.result (returns-clause-found c)
