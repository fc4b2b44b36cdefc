-- An endpoint further each turn.
use Rattle.std.proofs.Common.{◌++◌, ◌∙◌, ap}
use Rattle.std.proofs.lemmas.List.{take_all}
use Rattle.std.specs.List.{flat_map}
use Rattle.usb_model.specs.World.{own_endpoint}
use Rattle.trace_left.specs.Gathered.{end_read}
use Rattle.trace_left.proofs.Lists.{one_further}
use Rattle.trace_left.proofs.inventory.add_endpoints.Goals as goal

pub loop-info-preserved : goal.loop-info-preserved
loop-info-preserved g c = λ setup w shown.
    one_further (λ x. end_read c.args.h x.address (own_endpoint setup c.args.h w c.args.dev x.address)) c.args.left.now.items c.loop-info.left.items c.add_endpoint.new.left.items c.args.endpoints.now c.loop-info.info-index c.info-item.result c.info-item.result c.loop-info-test.true c.info-item.is
    (c.loop-info.invariant setup w shown) (c.in_ok-add_endpoint.ensures setup w shown)

pub returns : goal.returns
returns g c = λ setup w shown.
    c.loop-info.invariant setup w shown
    ∙ ap (λ l. c.args.left.now.items ++ flat_map (λ x. end_read c.args.h x.address (own_endpoint setup c.args.h w c.args.dev x.address)) l) (take_all c.loop-info.info-index c.args.endpoints.now c.loop-info-test.false)
