-- From one script to the next.
use Rattle.std.proofs.Common.{◌≡◌, Bool, ◌&&◌, ap, sym, ◌∙◌, ◌+◌, drop, get_or}
use Rattle.usb_device.specs.Scripts.{are_scripts_from, info_by, is_script}
use Rattle.usb_device.proofs.Fits.{scripts-next, scripts-end}
use Rattle.usb_device.proofs.scripts.are_scripts.Goals as goal
use Rattle.usb_device.proofs.scripts.are_scripts.Goals.{After-is_script}

-- what is asked of the next script
asked : (c : After-is_script) → is_script (info_by c.args.config.now c.loop-id.id) (get_or c.args.scripts.now c.loop-id.id c.index-scripts-id.result) ≡ c.is_script.result
asked c =
    ap (λ s. is_script (info_by c.args.config.now c.loop-id.id) s) (sym c.index-scripts-id.is ∙ sym c.as_slice.ensures)
    ∙ ap (λ i. is_script i c.as_slice.result.now) (sym c.info_by.ensures) ∙ sym c.is_script.ensures

pub returns-then-not-is_script : goal.returns-then-not-is_script
returns-then-not-is_script c =
    let id = c.loop-id.id in
    let next = scripts-next c.args.config.now c.args.scripts.now id c.index-scripts-id.result c.loop-id-test.true in
    let fails = asked (goal.at.returns-then-not-is_script c).After-is_script ∙ c.if-not-is_script.true in
    sym (c.loop-id.invariant ∙ next ∙ ap (λ (b : Bool). b && are_scripts_from c.args.config.now (id + 1) (drop (id + 1) c.args.scripts.now)) fails)

pub loop-id-preserved : goal.loop-id-preserved
loop-id-preserved c =
    let id = c.loop-id.id in
    let next = scripts-next c.args.config.now c.args.scripts.now id c.index-scripts-id.result c.loop-id-test.true in
    let holds = asked (goal.at.loop-id-preserved c).After-is_script ∙ c.if-not-is_script.false in
    c.loop-id.invariant ∙ next ∙ ap (λ (b : Bool). b && are_scripts_from c.args.config.now (id + 1) (drop (id + 1) c.args.scripts.now)) holds

pub returns : goal.returns
returns c = sym (c.loop-id.invariant ∙ scripts-end c.args.config.now c.args.scripts.now c.loop-id.id c.loop-id-test.false)
