-- The holder by the tables.
use Rattle.std.proofs.Common.{◌≡◌, Some, None, sym, ap, ◌∙◌, arith}
use Rattle.std.specs.Option.{option_and_then}
use Rattle.usb_tables.specs.Tables.{owner_at, indexed}
use Rattle.usb_tables.proofs.Holders.{holder_is}
use Rattle.usb_tables.proofs.claims.Claims.holder.Goals as goal

pub returns-in_err-i : goal.returns-in_err-i
returns-in_err-i c = rw (← c.self.view_is) (λ setup same.
    let none : indexed c.self.inside.endpoints c.args.dev c.args.ep ≡ None = sym c.in_err-i.ensures in
    sym (holder_is (record { configs = c.self.inside.configs.items; opened = c.self.inside.opened; owners = c.self.inside.owners }) setup c.self.inside.endpoints same c.self.invariant c.args.dev c.args.ep (omega arith)
    ∙ ap (λ o. option_and_then (λ i. owner_at c.self.inside.owners c.args.dev i) o) none ∙ sym c.from_residual.ensures))

pub returns : goal.returns
returns c = rw (← c.self.view_is) (λ setup same.
    let some : indexed c.self.inside.endpoints c.args.dev c.args.ep ≡ Some c.in_ok-i.i = sym c.in_ok-i.ensures in
    sym (holder_is (record { configs = c.self.inside.configs.items; opened = c.self.inside.opened; owners = c.self.inside.owners }) setup c.self.inside.endpoints same c.self.invariant c.args.dev c.args.ep (omega arith)
    ∙ ap (λ o. option_and_then (λ i. owner_at c.self.inside.owners c.args.dev i) o) some ∙ sym c.get-2.ensures))
