-- What was performed is the scenario's run; nothing is written where memory is refused before.
use Rattle.std.proofs.Common.{◌≡◌, ◌≤◌, ◌<◌, ◌∙◌, List, ap, inr, length, refl, rules, subst, tests}
use Rattle.usb_model.specs.declared.entry.Entry.{Entry}
use Rattle.usb_model.specs.Text.{lines_text}
use Rattle.usb_core.specs.Public.{setup_of}
use Rattle.trace_io.specs.Output.{AppendsSome}
use Rattle.std.specs.Io.KnownBytes.{Appends}
use Rattle.trace_left.specs.LeftText.{lines_left}
use Rattle.trace_main.proofs.Begun.{none_begun}
use Rattle.trace_main.proofs.Living.{lived_so, unfinished_so}
use Rattle.trace_main.proofs.live.live_scenario.Goals as goal

pub returns-in_err-devices-clause-begun : goal.returns-in_err-devices-clause-begun
returns-in_err-devices-clause-begun g c = none_begun c.args.scenario c.args.rounds (g.W.Write.contents c.args.out.now)

pub returns-in_err-told-clause-begun : goal.returns-in_err-told-clause-begun
returns-in_err-told-clause-begun g c = none_begun c.args.scenario c.args.rounds (g.W.Write.contents c.args.out.now)

pub returns-then-len-rounds-clause-fault : goal.returns-then-len-rounds-clause-fault
returns-then-len-rounds-clause-fault g c =
    let setup = setup_of c.in_ok-devices.devices in
    let rounds = c.args.rounds in
    let given : c.as_slice.result.now ≡ c.args.scenario.rules = search rules in
    let told = c.in_ok-told.field-0.told.items in
    let unfinished = c.in_ok-told.field-0.unfinished.items in
    let performed = c.in_ok-told.ensures in
    let is : c.in_ok-told.told.items ≡ told = search rules in
    let lived = lived_so c.args.scenario setup c.as_slice.result.now rounds told unfinished c.in_ok-devices.ensures given performed in
    let left : c.as_slice-2.result.now ≡ unfinished = search rules in
    let notes = unfinished_so c.args.scenario setup c.as_slice.result.now rounds told unfinished c.in_ok-devices.ensures given performed c.in_ok-unfinished.unfinished.items (c.in_ok-unfinished.ensures ∙ ap lines_left left) in
    let counted : rounds < length c.in_ok-told.told.items = search (rules, tests) in
    let more : rounds < length told = subst (λ (entries : List Entry). rounds < length entries) is counted in
    (refl, (performed.0, told, lived, notes, more))

pub returns-in_err-print-clause-begun : goal.returns-in_err-print-clause-begun
returns-in_err-print-clause-begun g c =
    let setup = setup_of c.in_ok-devices.devices in
    let rounds = c.args.rounds in
    let given : c.as_slice.result.now ≡ c.args.scenario.rules = search rules in
    let told = c.in_ok-told.field-0.told.items in
    let unfinished = c.in_ok-told.field-0.unfinished.items in
    let performed = c.in_ok-told.ensures in
    let is : c.in_ok-told.told.items ≡ told = search rules in
    let lived = lived_so c.args.scenario setup c.as_slice.result.now rounds told unfinished c.in_ok-devices.ensures given performed in
    let counted : length c.in_ok-told.told.items ≤ rounds = search (rules, tests) in
    let few : length told ≤ rounds = subst (λ (entries : List Entry). length entries ≤ rounds) is counted in
    let written : c.as_slice-3.result.now ≡ told = search rules in
    inr (
      performed.0,
      told,
      (lived, few),
      subst (λ (entries : List Entry). AppendsSome (lines_text entries) (g.W.Write.contents c.args.out.now) (g.W.Write.contents c.print.new.out)) written c.print.ensures.begun,
    )

pub returns-clause-lines : goal.returns-clause-lines
returns-clause-lines g c =
    let setup = setup_of c.in_ok-devices.devices in
    let rounds = c.args.rounds in
    let given : c.as_slice.result.now ≡ c.args.scenario.rules = search rules in
    let told = c.in_ok-told.field-0.told.items in
    let unfinished = c.in_ok-told.field-0.unfinished.items in
    let performed = c.in_ok-told.ensures in
    let is : c.in_ok-told.told.items ≡ told = search rules in
    let lived = lived_so c.args.scenario setup c.as_slice.result.now rounds told unfinished c.in_ok-devices.ensures given performed in
    let left : c.as_slice-2.result.now ≡ unfinished = search rules in
    let notes = unfinished_so c.args.scenario setup c.as_slice.result.now rounds told unfinished c.in_ok-devices.ensures given performed c.in_ok-unfinished.unfinished.items (c.in_ok-unfinished.ensures ∙ ap lines_left left) in
    let counted : length c.in_ok-told.told.items ≤ rounds = search (rules, tests) in
    let few : length told ≤ rounds = subst (λ (entries : List Entry). length entries ≤ rounds) is counted in
    let written : c.as_slice-3.result.now ≡ told = search rules in
    (performed.0, told, (lived, few), notes, subst (λ (entries : List Entry). Appends (g.W.Write.contents c.args.out.now) (g.W.Write.contents c.print.new.out) (lines_text entries)) written c.in_ok-print.ensures.lines)

pub returns-clause-begun : goal.returns-clause-begun
returns-clause-begun g c =
    let setup = setup_of c.in_ok-devices.devices in
    let rounds = c.args.rounds in
    let given : c.as_slice.result.now ≡ c.args.scenario.rules = search rules in
    let told = c.in_ok-told.field-0.told.items in
    let unfinished = c.in_ok-told.field-0.unfinished.items in
    let performed = c.in_ok-told.ensures in
    let is : c.in_ok-told.told.items ≡ told = search rules in
    let lived = lived_so c.args.scenario setup c.as_slice.result.now rounds told unfinished c.in_ok-devices.ensures given performed in
    let counted : length c.in_ok-told.told.items ≤ rounds = search (rules, tests) in
    let few : length told ≤ rounds = subst (λ (entries : List Entry). length entries ≤ rounds) is counted in
    let written : c.as_slice-3.result.now ≡ told = search rules in
    inr (
      performed.0,
      told,
      (lived, few),
      subst (λ (entries : List Entry). AppendsSome (lines_text entries) (g.W.Write.contents c.args.out.now) (g.W.Write.contents c.print.new.out)) written c.print.ensures.begun,
    )
