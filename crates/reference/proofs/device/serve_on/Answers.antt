-- What comes of it is what comes of a transfer that goes on.
use Rattle.std.proofs.Common.{◌≡◌, ◌++◌, false, Some, sym, subst, ◌∙◌}
use Rattle.usb_model.specs.declared.endpoint.EndpointState.TheVariants.{Running}
use Rattle.usb_model.specs.Endpoint.Serve.{next_answer, serve_first}
use Rattle.reference.specs.Progress.{GoesOn}
use Rattle.reference.proofs.GoingOn.{served_on}
use Rattle.reference.proofs.device.serve_on.Goals as goal

pub returns : goal.returns
returns c =
    let e = c.args.endpoint in
    let x = c.args.item in
    let p = c.args.progress in
    let size : c.from-size.result ≡ c.args.size = c.from-size.ensures in
    let goes = subst (λ n. GoesOn n e x p) (sym size) c.requires in
    let sent = c.in_ok-sent_now.ensures (x.share ++ next_answer e) goes.is.0 goes.is.2 in
    let served : c.only_says.result ≡ serve_first c.from-size.result false e Running (Some x) =
    c.only_says.ensures
    ∙ rw (c.in_ok-endpoint.ensures, c.said-reply.ensures, c.as_slice.ensures, c.in_ok-answers.ensures, c.in_ok-bytes.ensures, c.open_with-sent.ensures, sent)
    (sym (served_on c.from-size.result e x p goes)) in
    subst (λ n. c.only_says.result ≡ serve_first n false e Running (Some x)) size served
