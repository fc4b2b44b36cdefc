-- What a text stands for, and by which numbers its lines are told.
use Rattle.std.proofs.Common.{◌≡◌, ℕ, List, Option, Some, None, Result, Ok, Err, refl, ap, subst, sym}
use Rattle.trace_scenario.specs.declared.scenario.Scenario.{Scenario}
use Rattle.trace_scenario.specs.Scenario.{scenario_of}
use Rattle.trace_test.specs.Expanded.{Expansion}
use Rattle.trace_test.specs.Tests.{StandsAs}
use Rattle.trace_main.specs.Source.{StandsBy, told_by}

-- a scenario stands for itself
pub itself : (given : List ℕ) (s : Scenario) → scenario_of given ≡ Ok s → StandsBy given (scenario_of given) None
itself given s read = subst (λ (r : Result Scenario ℕ). StandsBy given r None) (sym read) refl

-- any other text for what it stands for as a test
pub as_test : (given : List ℕ) (line : ℕ) (e : Expansion) → scenario_of given ≡ Err line → StandsAs given e → StandsBy given (scenario_of given) (Some e)
as_test given line e read stands = subst (λ (r : Result Scenario ℕ). StandsBy given r (Some e)) (sym read) (e, stands, refl)

-- a scenario is told as it is
pub told_good : (number : ℕ → ℕ) (said : Result Scenario ℕ) (s : Scenario) → said ≡ Ok s → told_by number said ≡ Ok s
told_good number said s is = ap (told_by number) is

-- and a bad line by its number
pub told_bad : (number : ℕ → ℕ) (said : Result Scenario ℕ) (line : ℕ) → said ≡ Err line → told_by number said ≡ Err (number line)
told_bad number said line is = ap (told_by number) is
