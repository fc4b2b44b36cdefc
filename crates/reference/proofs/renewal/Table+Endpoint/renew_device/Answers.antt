-- One after another is made new.
use Rattle.std.proofs.Common.{◌≡◌, nat_lt, ◌==◌, ◌∙◌, arith}
use Rattle.usb_model.specs.declared.endpoint.Endpoint.{Endpoint}
use Rattle.usb_model.specs.Endpoint.{fresh}
use Rattle.reference.specs.Tables.{cell_at}
use Rattle.reference.specs.Renewed.{is_renewed}
use Rattle.reference.proofs.Renewals.{one_more_of, none_yet, outside_byte, all_made}
use Rattle.reference.proofs.renewal.Table+Endpoint.renew_device.Goals as goal

pub loop-byte-init : goal.loop-byte-init
loop-byte-init c = λ d e. none_yet (fresh c.args.setup.now d e) (cell_at (fresh c.args.setup.now d e) c.args.self.now d e) (c.args.dev == d) (is_renewed c.args.setup.now c.args.claims.now c.args.which.now d e) e

pub loop-byte-preserved : goal.loop-byte-preserved
loop-byte-preserved c = λ d e.
    let f : Endpoint = fresh c.args.setup.now d e in
    c.in_ok-renew_one.ensures f d e
    ∙ (rw (c.new.ensures, c.loop-byte.invariant d e) (one_more_of f (cell_at f c.args.self.now d e) (c.args.dev == d) (is_renewed c.args.setup.now c.args.claims.now c.args.which.now d e) c.loop-byte.byte e))

pub returns : goal.returns
returns c = λ d e.
    let f : Endpoint = fresh c.args.setup.now d e in
    let all : c.loop-byte.byte ≡ 256 = omega arith in
    c.loop-byte.invariant d e
    ∙ (rw all (all_made f (cell_at f c.args.self.now d e) (c.args.dev == d) (nat_lt e 256) (is_renewed c.args.setup.now c.args.claims.now c.args.which.now d e) (outside_byte f c.args.self.now d e)))
