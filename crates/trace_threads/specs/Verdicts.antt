-- What the callbacks of a plan may answer: each by the rule of one of its handle's submissions.
use Rattle.std.specs.Prelude.{◌≡◌, ◌<◌, ℕ, Bool, true, false, List, [], ◌∷◌, ◌++◌, count_by, Some, option_map, slice_get}
use Rattle.usb_model.specs.declared.entry.Entry.{Entry}
use Rattle.usb_model.specs.declared.plan.Plan.{Plan}
use Rattle.usb_model.specs.declared.plan.Plan.TheVariants.{Do}
use Rattle.usb_model.specs.declared.reply.Reply.{Reply}
use Rattle.usb_model.specs.declared.reply.Reply.TheVariants.{Called, Number}
use Rattle.usb_model.specs.declared.reply.Returned.{Returned}
use Rattle.usb_model.specs.declared.step.Step.{Step}
use Rattle.usb_model.specs.declared.step.Step.TheVariants.{Answer, Submit}
use Rattle.usb_model.specs.declared.verdict.Rule.{Rule}
use Rattle.usb_model.specs.declared.verdict.Verdict.{Verdict}
use Rattle.usb_model.specs.declared.verdict.Verdict.TheVariants.{Stop}
use Rattle.usb_model.specs.Numbers.{is_stop}
use Rattle.usb_model.specs.Setup.{Setup}
use Rattle.usb_model.specs.World.Journal.{world_run}
use Rattle.usb_model.specs.World.Plans.{once_only, verdict_of}
use Rattle.trace_threads.specs.Callbacks.{is_callback}

-- the submissions of a plan, each by its handle and the rule of its callback: of the rules that are given the next one, and once only where none is left
unfoldable pub ruled : List Plan → List Rule → List (ℕ × Rule)
ruled [] rules = []
ruled (Do (Submit h request) ∷ plan) [] = (h, once_only) ∷ ruled plan []
ruled (Do (Submit h request) ∷ plan) (rule ∷ rules) = (h, rule) ∷ ruled plan rules
ruled (piece ∷ plan) rules = ruled plan rules

-- a rule is that of one of a handle's submissions
abbrev pub IsRuleOf : List (ℕ × Rule) → ℕ → Rule → Type 0
IsRuleOf given h rule = (i : ℕ) × (slice_get given i ≡ Some (h, rule))

-- these submissions, each by its handle and a rule, are among those that are given
abbrev pub AreGiven : List (ℕ × Rule) → List (ℕ × Rule) → Type 0
AreGiven given some = (h : ℕ) (rule : Rule) → IsRuleOf some h rule → IsRuleOf given h rule

-- a callback was told this, by one of these entries
abbrev pub WasTold : List Entry → Returned → Type 0
WasTold entries r = (i : ℕ) × (option_map (λ (e : Entry). e.reply) (slice_get entries i) ≡ Some (Called r))

-- whether a reply accepts a submission
abbrev pub is_accepted : Reply → Bool
is_accepted (Number n) = true
is_accepted reply = false

-- why a callback's verdict is told, behind steps with these entries: it is what the rule of one of its handle's submissions answers to what it was told; or Stop, since more callbacks were told something than may answer as they like, or since the resubmission that its verdict asked for was refused
pub data MayBeTold (given : List (ℕ × Rule)) (rounds : ℕ) (steps : List Step) (entries : List Entry) (r : Returned) : Verdict → Type 0 where
  by_rule : (rule : Rule) → IsRuleOf given r.h rule → MayBeTold given rounds steps entries r (verdict_of rule r.status r.round)
  over : rounds < count_by is_callback entries → MayBeTold given rounds steps entries r Stop
  refused : (i : ℕ) (v : Verdict) → slice_get steps i ≡ Some (Answer r.h r.n v) → is_stop v ≡ false → option_map (λ (e : Entry). is_accepted e.reply) (slice_get entries i) ≡ Some false → MayBeTold given rounds steps entries r Stop

-- each verdict in a run of these steps is told for a transfer whose callback was told something before, and may be told then
abbrev pub AreToldSo : Setup → List (ℕ × Rule) → ℕ → List Step → Type 0
AreToldSo setup given rounds steps = (before after : List Step) (h n : ℕ) (v : Verdict) → steps ≡ before ++ Answer h n v ∷ after
    → (r : Returned) × (r.h ≡ h) × (r.n ≡ n) × WasTold (world_run setup before) r × MayBeTold given rounds before (world_run setup before) r v
