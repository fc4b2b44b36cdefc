-- The endpoint of an index is that of the configuration.
use Rattle.std.proofs.Common.{◌≡◌, ℕ, negsuc, pos, List, Option, Some, ap, refl, subst, sym, ◌∙◌}
use Rattle.std.specs.Prelude.{slice_get}
use Rattle.std.specs.Option.{option_map}
use Rattle.usb_model.specs.declared.setup.EndpointInfo.{EndpointInfo}
use Rattle.tirnouch_c.specs.Endpoints.{endpoint_numbers}
use Rattle.tirnouch_c.specs.Facts.{Gives}
use Rattle.tirnouch_c.proofs.endpoints.endpoint.Goals as goal

pub returns-in-None : goal.returns-in-None
returns-in-None c = λ setup w shows. subst (λ (o : Option EndpointInfo). Gives (option_map endpoint_numbers o) (negsuc 4) c.args.facts.now c.args.facts.now)
    (sym c.in-None.is ∙ c.info_at.ensures ∙ ap (λ (xs : List EndpointInfo). slice_get xs c.args.i) (c.endpoints_of.ensures setup w shows)) (refl, refl)

pub returns-in-Some : goal.returns-in-Some
returns-in-Some c = λ setup w shows. subst (λ (o : Option EndpointInfo). Gives (option_map endpoint_numbers o) (pos 0) c.args.facts.now c.of.result)
    (sym c.in-Some.is ∙ c.info_at.ensures ∙ ap (λ (xs : List EndpointInfo). slice_get xs c.args.i) (c.endpoints_of.ensures setup w shows)) (refl, c.of.ensures)
