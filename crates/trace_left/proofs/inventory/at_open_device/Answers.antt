-- The device first.
use Rattle.std.proofs.Common.{[], ◌∷◌, ◌++◌, ◌∙◌, ap}
use Rattle.std.specs.Prelude.{option_map, slice_get}
use Rattle.trace_left.specs.declared.left.Left.TheVariants.{Open}
use Rattle.trace_left.specs.Gathered.{configured_read}
use Rattle.trace_left.proofs.inventory.at_open_device.Goals as goal

pub returns : goal.returns
returns g c = λ setup w shown.
    c.from_vec.ensures
    ∙ (c.in_ok-add_device.ensures setup w shown
    ∙ ap (λ l. l ++ configured_read setup w c.args.h c.args.dev (option_map (λ x. x.config) (slice_get setup c.args.dev))) (c.in_ok-push.ensures.items ∙ ap (λ l. l ++ Open c.args.h c.args.dev ∷ []) c.new-left.ensures.items))
