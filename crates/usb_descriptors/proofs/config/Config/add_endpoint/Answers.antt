-- The endpoints with the new one are a table, so there is room for it.
use Rattle.std.proofs.Common.{◌≡◌, ◌==◌, false, [], ◌∷◌, ◌++◌, ◌∙◌, sym, ap, lit<}
use Rattle.std.specs.List.{list_any}
use Rattle.usb_descriptors.specs.Table.{IsTable}
use Rattle.usb_descriptors.proofs.Tables.{IsTable-push, IsTable-room}
use Rattle.usb_descriptors.proofs.config.Config.add_endpoint.Goals as goal
use Rattle.usb_descriptors.proofs.config.Config.add_endpoint.Goals.{After-has_bad_size}

-- where neither test refuses the endpoint, it belongs in the table
belongs : (c : After-has_bad_size) → c.has_bad_size.result ≡ false → IsTable (c.self.inside.endpoints.items ++ c.args.info ∷ [])
belongs c sized =
    let known = ap (λ v. list_any (λ x. x.address == c.args.info.address) v.endpoints) c.self.view_is in
    let new = known ∙ sym c.has_endpoint.ensures ∙ c.if-has_endpoint.false in
    IsTable-push c.self.inside.endpoints.items c.args.info c.self.invariant c.requires new (sym c.has_bad_size.ensures ∙ sized)

pub push-requires : goal.push-requires
push-requires c =
    let table = belongs (goal.at.push-requires c).After-has_bad_size c.if-has_bad_size.false in
    (lit< tt, IsTable-room c.self.inside.endpoints.items c.args.info table)

pub invariant_of-self : goal.invariant_of-self
invariant_of-self c =
    rw c.push.ensures.items (belongs (goal.at.invariant_of-self c).After-has_bad_size c.if-has_bad_size.false)
