-- The held endpoint by the tables.
use Rattle.std.proofs.Common.{◌≡◌, ◌<◌, ◌+◌, ◌*◌, Some, None, slice_index_or, sym, ap, ◌∙◌, arith}
use Rattle.std.specs.Option.{option_and_then}
use Rattle.std.proofs.lemmas.Bool.{false≢true}
use Rattle.usb_tables.specs.Tables.{owner_at, address_of_id}
use Rattle.usb_tables.proofs.Endpoints.{address-id, id-address}
use Rattle.usb_tables.proofs.Holders.{held_by, held_device, holder_at}
use Rattle.usb_tables.proofs.claims.Claims.held_at.Goals as goal

pub returns-in_err-dev-clause-found : goal.returns-in_err-dev-clause-found
returns-in_err-dev-clause-found c = λ setup same d e h slot id byte held.
    let device : d < 4 = held_device c.args.self.now setup d e h held in
    let below : c.in_ok-checked_sub.field-0 < 4 = omega arith in
    absurd (false≢true (c.in_err-dev.ensures.known.1 below))

pub returns-in_err-i-clause-found : goal.returns-in_err-i-clause-found
returns-in_err-i-clause-found c = rw (← c.self.view_is) (λ setup same d e h slot id byte held.
    let x = held_by (record { configs = c.self.inside.configs.items; opened = c.self.inside.opened; owners = c.self.inside.owners }) setup c.self.inside.endpoints same c.self.invariant d e h held in
    let dev : c.in_ok-dev.dev ≡ d = omega (arith, c.in_ok-dev.ensures.value) in
    absurd (cc (x.interface, c.in_err-i.ensures)))

pub returns-in_err-name-clause-found : goal.returns-in_err-name-clause-found
returns-in_err-name-clause-found c = rw (← c.self.view_is) (λ setup same d e h slot id byte held.
    let x = held_by (record { configs = c.self.inside.configs.items; opened = c.self.inside.opened; owners = c.self.inside.owners }) setup c.self.inside.endpoints same c.self.invariant d e h held in
    let dev : c.in_ok-dev.dev ≡ d = omega (arith, c.in_ok-dev.ensures.value) in
    absurd (cc (x.interface, x.owner, c.in_ok-i.ensures, c.in_err-name.ensures)))

pub returns-clause-found : goal.returns-clause-found
returns-clause-found c = rw (← c.self.view_is) (λ setup same d e h slot id byte held.
    let x = held_by (record { configs = c.self.inside.configs.items; opened = c.self.inside.opened; owners = c.self.inside.owners }) setup c.self.inside.endpoints same c.self.invariant d e h held in
    let dev : c.in_ok-dev.dev ≡ d = omega (arith, c.in_ok-dev.ensures.value) in
    let ep : c.endpoint_of_id.result ≡ e = c.endpoint_of_id.ensures ∙ ap address_of_id id ∙ address-id e byte x.low in
    let name : c.in_ok-name.name ≡ h = cc (x.interface, x.owner, c.in_ok-i.ensures, c.in_ok-name.ensures) in
    rw (dev, ep, name))

pub returns-clause-known : goal.returns-clause-known
returns-clause-known c =
    let below : c.args.id < 32 = omega arith in (
      omega (arith, c.in_ok-dev.ensures.value),
      rw c.endpoint_of_id.ensures (sym (id-address c.args.id below)),
      rw (← c.self.view_is, c.endpoint_of_id.ensures) (λ setup same.
          let some : slice_index_or c.self.inside.endpoints (32 * c.in_ok-dev.dev + c.args.id) None ≡ Some c.in_ok-i.i = sym c.in_ok-i.ensures in
          let owner : owner_at c.self.inside.owners c.in_ok-dev.dev c.in_ok-i.i ≡ Some c.in_ok-name.name = sym c.in_ok-name.ensures in
          holder_at (record { configs = c.self.inside.configs.items; opened = c.self.inside.opened; owners = c.self.inside.owners }) setup c.self.inside.endpoints same c.self.invariant c.in_ok-dev.dev c.args.id (omega arith) below
          ∙ ap (λ o. option_and_then (λ i. owner_at c.self.inside.owners c.in_ok-dev.dev i) o) some ∙ owner),
    )
