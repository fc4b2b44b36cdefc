-- The lines of a scenario, one after another.
use Rattle.std.proofs.Common.{◌≡◌, ℕ, ◌+◌, ◌<◌, ◌≤◌, List, length, get_or, drop, Option, Some, None, Result, Ok, Err, sym, ◌∙◌, ap, subst, arith}
use Rattle.std.proofs.lemmas.List.{at_drop_more, at_drop_all}
use Rattle.usb_scripttext.specs.declared.fault.LineFault.{LineFault}
use Rattle.usb_scripttext.specs.declared.fault.LineFault.TheVariants.{Bad, Memory}
use Rattle.trace_scenario.specs.declared.scenario.Scenario.{Scenario}
use Rattle.usb_scripttext.specs.Results.{Becomes, AnswersAs, fault_at}
use Rattle.trace_scenario.specs.Scenario.{scenario_from, taken_at, with_text}

-- one line of those that are left
pub scenario-more : (at : ℕ) (s : Scenario) (texts : List (List ℕ)) (i : ℕ) (text : List ℕ)
    → (i < length texts) × (text ≡ get_or texts i text)
    → scenario_from at s (drop i texts) ≡ taken_at at (λ t. scenario_from (at + 1) t (drop (i + 1) texts)) (with_text s text)
unfolding scenario_from
scenario-more at s texts i text here =
    at_drop_more (scenario_from at s) texts i text here.0
    ∙ ap (λ line. taken_at at (λ t. scenario_from (at + 1) t (drop (i + 1) texts)) (with_text s line)) (sym here.1)

-- none is left
pub scenario-end : (at : ℕ) (s : Scenario) (texts : List (List ℕ)) (i : ℕ) → length texts ≤ i → scenario_from at s (drop i texts) ≡ Ok s
unfolding scenario_from
scenario-end at s texts i end = at_drop_all (scenario_from at s) texts i end

-- a bad line's fault is that of the scenario
pub faulty : {A : Type 0} (r : Result A LineFault) (fault : LineFault) (said : Option Scenario) (old new : Scenario) (at : ℕ)
    (further : Scenario → Result Scenario ℕ) (whole : Result Scenario ℕ)
    → Becomes r said old new → r ≡ Err fault → whole ≡ taken_at at further said → AnswersAs {T = Scenario} (Err (fault_at at fault)) whole
faulty {A} r (Bad problem) said old new at further whole becomes is all =
    let both : (said ≡ None) × (new ≡ old) = subst (λ (x : Result A LineFault). Becomes x said old new) is becomes in
    all ∙ ap (taken_at at further) both.0
faulty r Memory said old new at further whole becomes is all = tt

-- a line that was taken
pub became : {A : Type 0} (r : Result A LineFault) (x : A) (said : Option Scenario) (old new : Scenario)
    → Becomes r said old new → r ≡ Ok x → said ≡ Some new
became {A} r x said old new becomes is = subst (λ (y : Result A LineFault). Becomes y said old new) is becomes
