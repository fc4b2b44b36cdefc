-- A table of tests, and the reason of the first that holds: the reason told is of the reply's sort.
use Rattle.std.proofs.Common.{◌≡◌, ℕ, Bool, true, false, List, [], ◌∷◌, Option, Some, None, refl}
use Rattle.std.specs.Prelude.{if◌then◌else◌}
use Rattle.usb_model.specs.declared.effect.Effect.{Effect}
use Rattle.usb_model.specs.declared.refusal.Refusal.{Refusal}
use Rattle.usb_model.specs.declared.refused.Refused.TheVariants as refused
use Rattle.usb_model.specs.declared.reply.Reply.{Reply}
use Rattle.usb_model.specs.declared.reply.Reply.TheVariants as reply
use Rattle.usb_model.specs.Machine.{Machine, refused_if, unless}
use Rattle.usb_model.specs.Refusals.{first_reason, refusals, refused_of}
use Rattle.usb_model.specs.Setup.{Setup}
use Rattle.usb_model.specs.World.{World, is_blocked}
use Rattle.trace_explain.specs.Reasons.{refusal_told}
use Rattle.trace_explain.specs.Sorts.{Sort, Refusal as Refuses, Nothing, sort_of, sort_of_reply}

-- the sort of a refusal, if there is one
abbrev pub sort_told : Option Refusal → Sort
sort_told None = Nothing
sort_told (Some r) = Refuses (refused_of r)

-- it is that of the reason
pub told_sort : (setup : Setup) (h : ℕ) (m : Machine) (o : Option Refusal) → sort_of (refusal_told setup h m o) ≡ sort_told o
told_sort setup h m None = refl
told_sort setup h m (Some r) = refl

-- the reply to the step of a name with this effect
abbrev pub replied : Setup → ℕ → World → Effect → Reply
replied setup h w done = if is_blocked setup h w done.change then reply.Refused refused.HeldElsewhere else done.reply

-- one test more stands in front
pub tested : (setup : Setup) (h : ℕ) (w : World) (m : Machine) (b : Bool) (r : Refusal) (rest : List (Bool × Refusal)) (effect : Effect)
    → sort_told (first_reason rest) ≡ sort_of_reply (replied setup h w effect)
    → sort_told (first_reason ((b, r) ∷ rest)) ≡ sort_of_reply (replied setup h w (refused_if m b (refused_of r) effect))
unfolding refused_if is_blocked
tested setup h w m true r rest effect e = refl
tested setup h w m false r rest effect e = e

-- a whole table, in front of what has nothing to tell
pub all_tested : (setup : Setup) (h : ℕ) (w : World) (m : Machine) (tests : List (Bool × Refusal)) (effect : Effect)
    → Nothing ≡ sort_of_reply (replied setup h w effect)
    → sort_told (first_reason tests) ≡ sort_of_reply (replied setup h w (unless m (refusals tests) effect))
all_tested setup h w m [] effect e = e
all_tested setup h w m (x ∷ xs) effect e = tested setup h w m x.0 x.1 xs (unless m (refusals xs) effect) (all_tested setup h w m xs effect e)
