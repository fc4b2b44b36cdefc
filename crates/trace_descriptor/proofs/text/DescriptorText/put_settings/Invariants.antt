-- With the comments on the settings that are left they are all.
use Rattle.std.proofs.Common.{◌≡◌, ◌++◌, drop}
use Rattle.std.specs.List.{flat_map}
use Rattle.trace_descriptor.specs.Lines.{setting_comments}
use Rattle.trace_descriptor.proofs.text.DescriptorText.put_settings.Given as goal

abbrev pub invariant-loop-setting : goal.invariant-loop-setting
invariant-loop-setting l = l.self ++ flat_map (setting_comments l.number) (drop l.setting-index l.settings) ≡ l.fn.self ++ flat_map (setting_comments l.number) l.settings
