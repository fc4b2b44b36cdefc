-- One device after another has its endpoints made new.
use Rattle.std.proofs.Common.{◌≡◌, nat_lt, true, ◌∙◌, arith}
use Rattle.usb_model.specs.declared.endpoint.Endpoint.{Endpoint}
use Rattle.usb_model.specs.Endpoint.{fresh}
use Rattle.reference.specs.Tables.{cell_at}
use Rattle.reference.specs.Renewed.{is_renewed}
use Rattle.reference.proofs.Renewals.{one_more, none_yet, outside_device, all_made}
use Rattle.reference.proofs.renewal.Table+Endpoint.renew.Goals as goal

pub loop-number-init : goal.loop-number-init
loop-number-init c = λ d e. none_yet (fresh c.args.setup.now d e) (cell_at (fresh c.args.setup.now d e) c.args.self.now d e) true (is_renewed c.args.setup.now c.args.claims.now c.args.which.now d e) d

pub loop-number-preserved : goal.loop-number-preserved
loop-number-preserved c = λ d e.
    let f : Endpoint = fresh c.args.setup.now d e in
    c.in_ok-renew_numbered.ensures d e
    ∙ (rw (c.loop-number.invariant d e) (one_more f (cell_at f c.args.self.now d e) (is_renewed c.args.setup.now c.args.claims.now c.args.which.now d e) c.loop-number.number d))

pub returns : goal.returns
returns c = λ d e.
    let f : Endpoint = fresh c.args.setup.now d e in
    let all : c.loop-number.number ≡ 4 = omega arith in
    c.loop-number.invariant d e
    ∙ (rw all (all_made f (cell_at f c.args.self.now d e) true (nat_lt d 4) (is_renewed c.args.setup.now c.args.claims.now c.args.which.now d e) (outside_device f c.args.self.now d e)))
