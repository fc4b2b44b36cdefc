-- Plans: steps, and returns whose verdicts follow from the rules of stored callbacks.
use Rattle.std.specs.Prelude.{◌≡◌, ℕ, ◌==◌, nat_lt, Bool, true, false, ◌&&◌, List, [], ◌∷◌, ◌++◌, Option, Some, None, if◌then◌else◌}
use Rattle.std.specs.Int.RustNames.{bit_and}
use Rattle.usb_model.specs.declared.refused.Refused.TheVariants as refused
use Rattle.usb_model.specs.declared.reply.Reply.{Reply}
use Rattle.usb_model.specs.declared.reply.Reply.TheVariants.{Number, Refused}
use Rattle.usb_model.specs.declared.entry.Entry.{Entry}
use Rattle.usb_model.specs.declared.step.Step.{Step}
use Rattle.usb_model.specs.declared.step.Step.TheVariants.{Submit, Answer}
use Rattle.usb_model.specs.declared.status.Status.{Status}
use Rattle.usb_model.specs.declared.status.Status.TheVariants.{Completed, Error, TimedOut, Cancelled, Stall, NoDevice, Overflow}
use Rattle.usb_model.specs.declared.status.StatusSet.{StatusSet}
use Rattle.usb_model.specs.declared.verdict.Verdict.{Verdict}
use Rattle.usb_model.specs.declared.verdict.Verdict.TheVariants as verdict
use Rattle.usb_model.specs.declared.verdict.Rule.{Rule}
use Rattle.usb_model.specs.declared.verdict.Rule.TheVariants as rule
use Rattle.usb_model.specs.declared.plan.Plan.{Plan}
use Rattle.usb_model.specs.declared.plan.Plan.TheVariants.{Do, Return}
use Rattle.usb_model.specs.declared.result.InCallback.{InCallback}
use Rattle.usb_model.specs.Setup.{Setup}
use Rattle.usb_model.specs.Machine.Calls.{callback_of}
use Rattle.usb_model.specs.World.{World, new_world, turn, world_from}
use Rattle.usb_model.specs.World.Journal.{is_own}

-- the bit of a status in a set: 1 shifted by its number
abbrev pub bit_of : Status → ℕ
bit_of Completed = 1
bit_of Error = 2
bit_of TimedOut = 4
bit_of Cancelled = 8
bit_of Stall = 16
bit_of NoDevice = 32
bit_of Overflow = 64

abbrev pub includes : StatusSet → Status → Bool
includes set status = bit_and set.0 (bit_of status) == bit_of status

-- what a callback under the rule answers; under Free this is one answer of many
abbrev pub verdict_of : Rule → Status → ℕ → Verdict
verdict_of rule.Free status round = verdict.Stop
verdict_of (rule.Again on rounds) status round = if includes on status && nat_lt round rounds then verdict.Again else verdict.Stop

-- whether a verdict fits the rule
abbrev pub FitsRule : Rule → Status → ℕ → Verdict → Type 0
FitsRule rule.Free status round v = Unit {0}
FitsRule (rule.Again on rounds) status round v = v ≡ verdict_of (rule.Again on rounds) status round

-- the rule of a callback that is called once and then used up
abbrev pub once_only : Rule
once_only = rule.Again (record { 0 = 0 }) 0

-- the rule of each number of each name
abbrev pub Book : Type 0
Book = ℕ → ℕ → Rule

abbrev pub with_rule : Book → ℕ → ℕ → Rule → Book
with_rule book h n rule g k = if (h == g) && (n == k) then rule else book g k

abbrev pub noted_by : Book → Option ℕ → Reply → Rule → Book
noted_by book (Some h) (Number n) rule = with_rule book h n rule
noted_by book _ _ rule = book

-- the book after an entry that may have given a number, under the rule
abbrev pub noted : Book → Entry → Rule → Book
noted book entry rule = noted_by book entry.owner entry.reply rule

-- a transfer in its callback returns; without one the verdict is Stop
abbrev pub verdict_by : Option InCallback → Rule → Verdict
verdict_by None rule = verdict.Stop
verdict_by (Some x) rule = verdict_of rule x.status x.round

abbrev pub FitsReturn : Option InCallback → Rule → Verdict → Type 0
FitsReturn None rule v = v ≡ verdict.Stop
FitsReturn (Some x) rule v = FitsRule rule x.status x.round v

-- whether a callback is to be told that it ends all the same: Again was refused, and not since there is no such thing
abbrev pub is_other_refusal : Reply → Bool
is_other_refusal (Refused refused.NotFound) = false
is_other_refusal (Refused why) = true
is_other_refusal _ = false

abbrev pub needs_stop : Verdict → Reply → Bool
needs_stop verdict.Stop reply = false
needs_stop _ reply = is_other_refusal reply

-- the steps of a return with this verdict
abbrev pub return_steps : Setup → World → ℕ → ℕ → Verdict → List Step
return_steps setup w h n v =
    if needs_stop v (turn setup w (Answer h n v)).entry.reply
    then Answer h n v ∷ Answer h n verdict.Stop ∷ []
    else Answer h n v ∷ []

abbrev pub is_submit : Step → Bool
is_submit (Submit h request) = true
is_submit _ = false

-- each Submit of a plan takes the next rule
abbrev pub rules_past : Bool → List Rule → List Rule
rules_past true [] = []
rules_past true (r ∷ rs) = rs
rules_past false rs = rs

abbrev pub rules_after : Plan → List Rule → List Rule
rules_after (Do step) rules = rules_past (is_submit step) rules
rules_after (Return h n) rules = rules

abbrev pub first_rule : List Rule → Rule
first_rule [] = once_only
first_rule (r ∷ rs) = r

-- the rule of the number that a piece may give: its own, or kept through Again and AgainWith
abbrev pub rule_for : Book → List Rule → Plan → Rule
rule_for book rules (Do step) = if is_submit step then first_rule rules else once_only
rule_for book rules (Return h n) = book h n

-- what stands in the midst of a plan: the world, the rules of the numbers that were given, and the rules of the Submits to come
pub record Stage : Type 0 where
  pub world : World
  pub book : Book
  pub rules : List Rule

abbrev pub first_stage : Setup → List Rule → Stage
first_stage setup rules = record { world = new_world setup; book = λ h n. once_only; rules = rules }

-- the transfer that a return speaks of, where it is in its callback
abbrev pub returning : Stage → ℕ → ℕ → Option InCallback
returning s h n = callback_of n (s.world.names h).in_callbacks

-- the steps that a piece stands for
abbrev pub steps_of : Setup → Stage → Plan → List Step
steps_of setup s (Do step) = step ∷ []
steps_of setup s (Return h n) = return_steps setup s.world h n (verdict_by (returning s h n) (s.book h n))

-- where these steps of a piece lead; the first of them may give a number
unfoldable pub stage_after : Setup → Stage → Plan → List Step → Stage
stage_after setup s piece [] = s
stage_after setup s piece (step ∷ steps) = record {
  world = world_from setup s.world (step ∷ steps);
  book = noted s.book (turn setup s.world step).entry (rule_for s.book s.rules piece);
  rules = rules_after piece s.rules;
}

unfoldable pub expand_from : Setup → Stage → List Plan → List Step
expand_from setup s [] = []
expand_from setup s (piece ∷ plan) = steps_of setup s piece ++ expand_from setup (stage_after setup s piece (steps_of setup s piece)) plan

-- the steps of a plan under rules, of which the first Submit takes the first
abbrev pub expand : Setup → List Plan → List Rule → List Step
expand setup plan rules = expand_from setup (first_stage setup rules) plan

-- the same as a relation, where a rule may be Free and its verdicts any
abbrev pub ExpandsFrom : Setup → Stage → List Plan → List Step → Type 0
ExpandsFrom setup s [] steps = steps ≡ []
ExpandsFrom setup s (Do step ∷ plan) steps = (rest : List Step) × (steps ≡ step ∷ rest) × ExpandsFrom setup (stage_after setup s (Do step) (step ∷ [])) plan rest
ExpandsFrom setup s (Return h n ∷ plan) steps = (v : Verdict) × (rest : List Step)
    × FitsReturn (returning s h n) (s.book h n) v
    × (steps ≡ return_steps setup s.world h n v ++ rest)
    × ExpandsFrom setup (stage_after setup s (Return h n) (return_steps setup s.world h n v)) plan rest

abbrev pub Expands : Setup → List Plan → List Rule → List Step → Type 0
Expands setup plan rules steps = ExpandsFrom setup (first_stage setup rules) plan steps

-- whether a piece is a handle's own: a step that is, or a return that names it
abbrev pub is_own_piece : Setup → ℕ → Stage → Plan → Bool
is_own_piece setup g s (Do step) = is_own g (record { step = step; entry = (turn setup s.world step).entry })
is_own_piece setup g s (Return h n) = h == g

abbrev pub is_submission : Plan → Bool
is_submission (Do step) = is_submit step
is_submission (Return h n) = false

unfoldable pub own_plan_from : Setup → ℕ → Stage → List Plan → List Plan
own_plan_from setup g s [] = []
own_plan_from setup g s (piece ∷ plan) =
    let rest : List Plan = own_plan_from setup g (stage_after setup s piece (steps_of setup s piece)) plan in
    if is_own_piece setup g s piece then piece ∷ rest else rest

unfoldable pub own_rules_from : Setup → ℕ → Stage → List Plan → List Rule
own_rules_from setup g s [] = []
own_rules_from setup g s (piece ∷ plan) =
    let rest : List Rule = own_rules_from setup g (stage_after setup s piece (steps_of setup s piece)) plan in
    if is_own_piece setup g s piece && is_submission piece then first_rule s.rules ∷ rest else rest

-- a handle's part of a plan
abbrev pub own_plan : Setup → List Plan → List Rule → ℕ → List Plan
own_plan setup plan rules h = own_plan_from setup h (first_stage setup rules) plan

-- and the rules of its Submits
abbrev pub own_rules : Setup → List Plan → List Rule → ℕ → List Rule
own_rules setup plan rules h = own_rules_from setup h (first_stage setup rules) plan
