-- What was taken out is back.
use Rattle.std.proofs.Common.{◌≡◌, ◌==◌, true, false, sym, ap, ◌∙◌}
use Rattle.std.specs.Prelude.{if◌then◌else◌}
use Rattle.usb_model.specs.declared.effect.Effect.{Effect}
use Rattle.usb_model.specs.World.{World, machine_of, is_blocked}
use Rattle.usb_model.specs.Machine.{unused}
use Rattle.usb_model.specs.Machine.Turns.{effect}
use Rattle.reference.specs.Tables.{handle_at}
use Rattle.reference.specs.System.{world_of, with_handle, with_endpoint_out}
use Rattle.reference.proofs.TurnOf.{turned, turned_away}
use Rattle.reference.proofs.system.System.turn_of.Goals as goal

pub returns-then-is_blocked : goal.returns-then-is_blocked
unfolding machine_of
returns-then-is_blocked c =
    let w : World = world_of c.args.setup.now c.args.self.now in
    let v : World = world_of c.args.setup.now c.effect.new.self in
    let done : Effect = c.in_ok-effect.effect in
    let taken : world_of c.args.setup.now (record c.args.self.now { names = c.replace-handle.new.self }) ≡ with_handle c.args.h unused w =
    λ i. record w { names = λ g. (c.replace-handle.ensures.new g ∙ ap (λ x. if c.args.h == g then x else handle_at c.args.self.now.names g) c.unused.ensures) i } in
    let back : world_of c.args.setup.now (record c.effect.new.self { names = c.replace.new.self }) ≡ with_handle c.args.h done.handle v =
    λ i. record v { names = λ g. c.replace.ensures.new g i } in
    let is_effect : done ≡ effect c.args.setup.now c.args.h (machine_of c.args.setup.now c.args.h w) c.args.step.now = rw (← c.replace-handle.ensures.old) c.in_ok-effect.ensures.effect in
    let is_lent : v ≡ with_endpoint_out c.args.setup.now c.args.h (with_handle c.args.h unused w) done.change = c.in_ok-effect.ensures.left ∙ ap (λ (x : World). with_endpoint_out c.args.setup.now c.args.h x done.change) taken in
    let blocked : is_blocked c.args.setup.now c.args.h v done.change ≡ true = sym c.is_blocked.ensures ∙ c.if-is_blocked.true in
    rw back (turned_away c.args.setup.now c.args.h w v c.args.step.now done unused is_effect is_lent blocked)

pub returns : goal.returns
unfolding machine_of
returns c =
    let w : World = world_of c.args.setup.now c.args.self.now in
    let v : World = world_of c.args.setup.now c.effect.new.self in
    let done : Effect = c.in_ok-effect.effect in
    let taken : world_of c.args.setup.now (record c.args.self.now { names = c.replace-handle.new.self }) ≡ with_handle c.args.h unused w =
    λ i. record w { names = λ g. (c.replace-handle.ensures.new g ∙ ap (λ x. if c.args.h == g then x else handle_at c.args.self.now.names g) c.unused.ensures) i } in
    let is_effect : done ≡ effect c.args.setup.now c.args.h (machine_of c.args.setup.now c.args.h w) c.args.step.now = rw (← c.replace-handle.ensures.old) c.in_ok-effect.ensures.effect in
    let is_lent : v ≡ with_endpoint_out c.args.setup.now c.args.h (with_handle c.args.h unused w) done.change = c.in_ok-effect.ensures.left ∙ ap (λ (x : World). with_endpoint_out c.args.setup.now c.args.h x done.change) taken in
    let free : is_blocked c.args.setup.now c.args.h v done.change ≡ false = sym c.is_blocked.ensures ∙ c.if-is_blocked.false in
    rw (c.in_ok-reply.ensures.reply, c.in_ok-reply.ensures.world) (turned c.args.setup.now c.args.h w v c.args.step.now done unused is_effect is_lent free)
