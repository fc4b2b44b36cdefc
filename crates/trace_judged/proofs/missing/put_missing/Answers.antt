use Rattle.std.proofs.Common.{◌≡◌, ◌<◌, ℕ, ◌+◌, List, [], ◌∷◌, ◌++◌, get_or, length, take, ap, sym, ◌∙◌, subst}
use Rattle.std.specs.List.{flat_map}
use Rattle.std.specs.Option.{option_to_list}
use Rattle.std.proofs.lemmas.List.{flat_map_more, take_more}
use Rattle.reference.specs.System.{world_of}
use Rattle.usb_model.specs.declared.setup.EndpointInfo.{EndpointInfo}
use Rattle.usb_model.specs.Setup.{endpoints_of}
use Rattle.trace_judged.specs.declared.missing.MissingPackets.{MissingPackets}
use Rattle.trace_judged.specs.Missing.{missing_at}
use Rattle.trace_judged.proofs.missing.put_missing.Goals as goal

pub loop-info-preserved : goal.loop-info-preserved
loop-info-preserved c =
    let f : EndpointInfo → List MissingPackets = λ info. option_to_list (missing_at c.args.lines.now (world_of c.args.setup.now c.args.system.now) c.args.dev info.address) in
    let infos : List EndpointInfo = endpoints_of c.args.setup.now c.args.dev in
    let i = c.loop-info.info-index in
    let info : EndpointInfo = c.info-item.result in
    let item : info ≡ get_or infos i info = c.info-item.is ∙ ap (λ (l : List EndpointInfo). get_or l i info) c.endpoints_of-info-items.ensures in
    let low : i < length infos = subst (λ (l : List EndpointInfo). i < length l) c.endpoints_of-info-items.ensures c.loop-info-test.true in
    c.in_ok-put.ensures
    ∙ ap (λ d. c.loop-info.missing.items ++ option_to_list d) (c.in_ok-found.ensures c.args.setup.now)
    ∙ ap (λ (xs : List MissingPackets). xs ++ f info) c.loop-info.invariant
    ∙ flat_map_more f c.args.missing.now.items (take i infos) info
    ∙ ap (λ (some : List EndpointInfo). c.args.missing.now.items ++ flat_map f some)
    (ap (λ (p : EndpointInfo). take i infos ++ p ∷ []) item ∙ sym (take_more infos i info low))
