-- For crates above: what is told of a callback that returns follows from the reply to it, and not from its verdict, where that brings no bytes.
use Rattle.std.proofs.Common.{◌≡◌, ℕ, Option, Some, None, refl}
use Rattle.std.specs.Option.{option_map_or}
use Rattle.std.specs.Prelude.{[]}
use Rattle.usb_model.specs.declared.step.Step.TheVariants.{Answer}
use Rattle.usb_model.specs.declared.verdict.Verdict.TheVariants.{Stop, Again}
use Rattle.usb_model.specs.declared.reply.Reply.{Reply}
use Rattle.usb_model.specs.declared.reply.Reply.TheVariants.{Done, Number, Refused, Idle, Nak, Moved, Ended, Ran, Finished, Paused, Settled, Called}
use Rattle.trace_capture.specs.Events.{Recording, reply_events, reply_after, entry_events, entry_after}
use Rattle.trace_capture.specs.Laws.{SameOfVerdicts}

events_of_reply : (s : Recording) (line g h n : ℕ) (reply : Reply) → reply_events s line g (Answer h n Stop) reply ≡ reply_events s line g (Answer h n Again) reply
events_of_reply s line g h n Done = refl
events_of_reply s line g h n (Number m) = refl
events_of_reply s line g h n (Refused why) = refl
events_of_reply s line g h n Idle = refl
events_of_reply s line g h n (Nak m) = refl
events_of_reply s line g h n (Moved m bytes) = refl
events_of_reply s line g h n (Ended m code) = refl
events_of_reply s line g h n (Ran ep errand ok) = refl
events_of_reply s line g h n (Finished m) = refl
events_of_reply s line g h n (Paused m) = refl
events_of_reply s line g h n (Settled ep errand ok) = refl
events_of_reply s line g h n (Called returned) = refl

after_reply : (s : Recording) (g h n : ℕ) (reply : Reply) → reply_after s g (Answer h n Stop) reply ≡ reply_after s g (Answer h n Again) reply
after_reply s g h n Done = refl
after_reply s g h n (Number m) = refl
after_reply s g h n (Refused why) = refl
after_reply s g h n Idle = refl
after_reply s g h n (Nak m) = refl
after_reply s g h n (Moved m bytes) = refl
after_reply s g h n (Ended m code) = refl
after_reply s g h n (Ran ep errand ok) = refl
after_reply s g h n (Finished m) = refl
after_reply s g h n (Paused m) = refl
after_reply s g h n (Settled ep errand ok) = refl
after_reply s g h n (Called returned) = refl

pub same_of_verdicts : SameOfVerdicts
unfolding entry_events entry_after
same_of_verdicts s line h n entry = (events entry.owner, after entry.owner)
  where
    events : (o : Option ℕ) → option_map_or (λ g. reply_events s line g (Answer h n Stop) entry.reply) o [] ≡ option_map_or (λ g. reply_events s line g (Answer h n Again) entry.reply) o []
    events None = refl
    events (Some g) = events_of_reply s line g h n entry.reply

    after : (o : Option ℕ) → option_map_or (λ g. reply_after s g (Answer h n Stop) entry.reply) o s ≡ option_map_or (λ g. reply_after s g (Answer h n Again) entry.reply) o s
    after None = refl
    after (Some g) = after_reply s g h n entry.reply
