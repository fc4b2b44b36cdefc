-- A setting more, and the end.
use Rattle.std.proofs.Common.{get_or, arith}
use Rattle.std.proofs.lemmas.List.{get_or_default}
use Rattle.trace_descriptor.specs.declared.interface.InterfaceSetting.{InterfaceSetting}
use Rattle.trace_descriptor.specs.Lines.{setting_comments}
use Rattle.trace_descriptor.proofs.Joined.{joined_next, joined_end}
use Rattle.trace_descriptor.proofs.text.DescriptorText.put_settings.Goals as goal

abbrev none : InterfaceSetting
none = record { number = 0; setting = 0; class = 0 }

pub loop-setting-preserved : goal.loop-setting-preserved
loop-setting-preserved c =
    joined_next (setting_comments c.args.number) c.loop-setting.self _ _ c.args.settings.now c.loop-setting.setting-index (get_or c.args.settings.now c.loop-setting.setting-index none) c.loop-setting-test.true
    (get_or_default c.args.settings.now c.loop-setting.setting-index none _ c.loop-setting-test.true) c.in_ok-put_setting_of.ensures c.loop-setting.invariant

pub returns : goal.returns
returns c = joined_end (setting_comments c.args.number) _ _ c.args.settings.now c.loop-setting.setting-index (omega arith) c.loop-setting.invariant
