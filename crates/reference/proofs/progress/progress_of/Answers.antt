-- The answer that comes leaves the transfer open, as those before it did.
use Rattle.std.proofs.Common.{◌≡◌, List, [], ◌∷◌, ◌++◌, sym, subst, ◌∙◌}
use Rattle.usb_model.specs.declared.response.Response.{Response}
use Rattle.usb_model.specs.Alike.{AreAlike}
use Rattle.usb_model.specs.Endpoint.Packets.{without_naks}
use Rattle.proof_model.proofs.Shares.OpenShares.{naks-append}
use Rattle.reference.specs.Progress.{HasMoved}
use Rattle.reference.proofs.Opens.{first_of, goes_on}
use Rattle.reference.proofs.progress.progress_of.Goals as goal

pub returns : goal.returns
returns c =
    let x = c.args.item.now in
    let answer : Response = c.answer-item.result in
    let comes = first_of c.as_slice.result.now answer c.in-len1-up.len_at_least c.answer-item.is in
    let alike = c.alike-alike.ensures in
    let more = subst (AreAlike c.with.result) (sym (naks-append x.share (answer ∷ []))) (c.with.ensures (without_naks x.share) alike) in
    let size : c.from-size.result ≡ c.args.size = c.from-size.ensures in
    let was = subst (λ n. HasMoved x.request n x.share c.in_ok-before.before) size (c.in_ok-before.ensures x.share alike) in
    let is = subst (λ n. HasMoved x.request n (x.share ++ answer ∷ []) c.in_ok-after.after) size (c.in_ok-after.ensures (x.share ++ answer ∷ []) more) in
    goes_on c.args.size c.args.endpoint.now x answer comes.0 c.in_ok-before.before c.in_ok-after.after _ c.if-endpoint.false (sym c.as_slice.ensures ∙ comes.1)
    was is c.then_some.ensures
