-- The devices, scripts and steps of a scenario, counted, and their text.
use Rattle.std.specs.Prelude.{ℕ, ◌==◌, not, List, [], ◌++◌, codes, length, count_by, sum_by, if◌then◌else◌}
use Rattle.std.specs.Fmt.{decimal}
use Rattle.usb_model.specs.declared.response.Response.{Response}
use Rattle.usb_model.specs.declared.setup.DeviceSetup.{DeviceSetup}
use Rattle.trace_scenario.specs.declared.findings.Counts.{Counts}
use Rattle.trace_scenario.specs.declared.scenario.Scenario.{Scenario}

-- how many of some scripts aren't empty, as each that has a line is
abbrev pub written_scripts : List (List Response) → ℕ
written_scripts scripts = count_by (λ script. not (length script == 0)) scripts

-- how many scripts some devices have
abbrev pub scripts_of : List DeviceSetup → ℕ
scripts_of devices = sum_by (λ device. written_scripts device.scripts) devices

-- what a scenario has
abbrev pub counts_of : Scenario → Counts
counts_of s = record { devices = length s.setup; scripts = scripts_of s.setup; steps = length s.plan }

-- what makes a noun stand for so many
abbrev pub plural_end : ℕ → List ℕ
plural_end n = if n == 1 then [] else codes "s"

-- the counts in words
abbrev pub counts_text : Counts → List ℕ
counts_text c =
    decimal c.devices ++ (codes " device" ++ (plural_end c.devices ++ (codes ", " ++ (decimal c.scripts ++ (codes " script" ++ (plural_end c.scripts
    ++ (codes ", " ++ (decimal c.steps ++ (codes " step" ++ plural_end c.steps)))))))))
