-- Where the transfer is found it may be asked, or not.
use Rattle.std.proofs.Common.{◌≡◌, Bool, true, false, not, refl, sym, ap, ◌∙◌}
use Rattle.std.specs.Option.{option_copied}
use Rattle.usb_model.specs.Setup.{endpoints_of}
use Rattle.usb_model.specs.Machine.{Machine}
use Rattle.usb_model.specs.World.{machine_with}
use Rattle.reference.specs.Call.{machine_in}
use Rattle.reference.proofs.Asks.{vain_search, no_end_found, no_item_found, asks_in_vain, asks_it, is_in_vain}
use Rattle.reference.proofs.call.Call.askable.Goals as goal

-- what isn't not is
undo : (b c : Bool) → c ≡ not b → c ≡ true → b ≡ false
undo true c e q = absurd cc
undo false c e q = refl

undo_false : (b c : Bool) → c ≡ not b → c ≡ false → b ≡ true
undo_false true c e q = refl
undo_false false c e q = absurd cc

pub returns-in_default-clause-refused : goal.returns-in_default-clause-refused
returns-in_default-clause-refused c =
    let m : Machine = machine_in c.args.self.now c.args.handle.now in
    λ e ask. vain_search c.args.self.now.setup.now m c.args.n c.args.dev ask c.args.timed c.requires (sym c.home.ensures ∙ c.in_default.is)

pub returns-in_default-endpoint_of-clause-refused : goal.returns-in_default-endpoint_of-clause-refused
returns-in_default-endpoint_of-clause-refused c =
    let m : Machine = machine_in c.args.self.now c.args.handle.now in
    absurd (no_end_found m c.args.n c.args.dev (endpoints_of c.args.self.now.setup.now c.args.dev) c.in-Some.ep (sym c.home.ensures ∙ c.in-Some.is) (sym c.endpoint_of.ensures ∙ ap option_copied c.in_default-endpoint_of.is))

pub returns-in_default-in_progress-clause-refused : goal.returns-in_default-in_progress-clause-refused
returns-in_default-in_progress-clause-refused c =
    let m : Machine = machine_in c.args.self.now c.args.handle.now in
    absurd (no_item_found m c.args.n c.args.dev (endpoints_of c.args.self.now.setup.now c.args.dev) c.in-Some.ep c.in-Some-endpoint_of.endpoint.now (sym c.home.ensures ∙ c.in-Some.is) (sym c.endpoint_of.ensures ∙ ap option_copied c.in-Some-endpoint_of.is)
    (sym c.in_progress.ensures ∙ ap option_copied c.in_default-in_progress.is))

pub returns-then-may_be_asked-clause-asked : goal.returns-then-may_be_asked-clause-asked
returns-then-may_be_asked-clause-asked c =
    let m : Machine = machine_in c.args.self.now c.args.handle.now in
    λ ask. asks_it c.args.self.now.setup.now m c.args.n c.args.dev c.in-Some.ep c.in-Some-endpoint_of.endpoint.now c.in-Some-in_progress.item.now ask c.args.timed c.requires (sym c.home.ensures ∙ c.in-Some.is)
    (sym c.endpoint_of.ensures ∙ ap option_copied c.in-Some-endpoint_of.is) (sym c.in_progress.ensures ∙ ap option_copied c.in-Some-in_progress.is)
    (undo (is_in_vain c.in-Some-in_progress.item.now c.args.timed) c.may_be_asked.result c.may_be_asked.ensures c.if-may_be_asked.true)

pub returns-else-may_be_asked-clause-refused : goal.returns-else-may_be_asked-clause-refused
returns-else-may_be_asked-clause-refused c =
    let m : Machine = machine_in c.args.self.now c.args.handle.now in
    λ e ask. asks_in_vain c.args.self.now.setup.now m c.args.n c.args.dev c.in-Some.ep c.in-Some-endpoint_of.endpoint.now c.in-Some-in_progress.item.now ask c.args.timed c.requires (sym c.home.ensures ∙ c.in-Some.is)
    (sym c.endpoint_of.ensures ∙ ap option_copied c.in-Some-endpoint_of.is) (sym c.in_progress.ensures ∙ ap option_copied c.in-Some-in_progress.is)
    (undo_false (is_in_vain c.in-Some-in_progress.item.now c.args.timed) c.may_be_asked.result c.may_be_asked.ensures c.if-may_be_asked.false)
