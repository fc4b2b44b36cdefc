-- Its scripts are those that were given.
use Rattle.std.proofs.Common.{◌∷◌, [], ◌++◌, ◌∙◌, List, ap, map}
use Rattle.usb_device.specs.Pipe.{Pipe}
use Rattle.usb_model.specs.declared.response.Response.{Response}
use Rattle.refine_core.specs.Made.{setup_of}
use Rattle.usb_core.proofs.MadeDevices.{scripts_of}
use Rattle.usb_core.proofs.scripted.add.Goals as goal

pub returns : goal.returns
returns c = rw (← c.device.view_is)
    (c.in-Ok-add.ensures.added ∙ ap (λ (s : List (List Response)). setup_of c.args.setup.now ++ record { config = c.device.inside.config; scripts = s } ∷ [])
    (ap (map (λ (p : Pipe). p.script)) c.in-Ok.ensures.made ∙ scripts_of c.device.inside.config c.device.inside.scripts (rw (← c.device.view_is) at c.requires.all)))
