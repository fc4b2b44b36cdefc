-- Open, close, claim, release and reset: the reason told is of the reply's sort.
use Rattle.std.proofs.Common.{◌≡◌, ℕ, ◌==◌, Bool, true, false, not, ◌||◌, List, [], ◌∷◌, Option, Some, None, refl, cond}
use Rattle.std.specs.Prelude.{if◌then◌else◌}
use Rattle.std.specs.List.{find, list_any}
use Rattle.usb_model.specs.declared.effect.Change.TheVariants.{Gains, Keeps}
use Rattle.usb_model.specs.declared.handle.Handle.{Handle}
use Rattle.usb_model.specs.declared.refusal.Missing.TheVariants as missing
use Rattle.usb_model.specs.declared.refusal.Refusal.{Refusal}
use Rattle.usb_model.specs.declared.refusal.Refusal.TheVariants.{NotFound, NoDevice, Busy}
use Rattle.usb_model.specs.declared.refused.Refused.TheVariants as refused
use Rattle.usb_model.specs.declared.reply.Reply.TheVariants as reply
use Rattle.usb_model.specs.Machine.{Machine, device_of, does, is_gone, is_open}
use Rattle.usb_model.specs.Machine.Calls.{caller_facts, claim_effect, close_effect, open_effect, quiet_facts, release_effect, reset_effect}
use Rattle.usb_model.specs.Machine.Turns.{unplug_reply}
use Rattle.usb_model.specs.Refusals.{QuietFacts, close_tests, first_reason, open_tests, release_tests}
use Rattle.usb_model.specs.Setup.{Setup, has_interface, interfaces_of, is_device}
use Rattle.usb_model.specs.World.{World, is_blocked, is_its, is_others, machine_of}
use Rattle.trace_explain.specs.Reasons.{unplug_reason}
use Rattle.trace_explain.specs.Refusals.{claim_refusal, close_refusal, first_elsewhere, held_elsewhere, open_refusal, release_refusal, reset_refusal, some_elsewhere}
use Rattle.trace_explain.specs.Sorts.{sort_of, sort_of_reply}
use Rattle.trace_explain.proofs.Told.{all_tested, replied, sort_told, tested}

pub open_told : (setup : Setup) (h : ℕ) (w : World) (m : Machine) (dev : ℕ) → sort_told (open_refusal setup m dev) ≡ sort_of_reply (replied setup h w (open_effect setup m dev))
unfolding open_refusal open_effect is_blocked
open_told setup h w m dev = all_tested setup h w m (open_tests (caller_facts m) dev (is_device setup dev) (m.gone dev)) _ refl

pub close_told : (setup : Setup) (h : ℕ) (w : World) (m : Machine) → sort_told (close_refusal setup m) ≡ sort_of_reply (replied setup h w (close_effect setup m))
unfolding close_refusal close_effect is_blocked
close_told setup h w m = all_tested setup h w m (close_tests (caller_facts m) (quiet_facts setup m (λ x. true))) _ refl

-- a claim, by who holds the interface
claimed : (setup : Setup) (h : ℕ) (w : World) (handle : Handle) (dev i : ℕ) (o : Option ℕ) → w.claims dev i ≡ o
    → sort_told (first_reason (held_elsewhere h i o)) ≡ sort_of_reply (replied setup h w (does handle (if is_its h o then Keeps else Gains dev i)))
unfolding is_blocked
claimed setup h w handle dev i None e = rw e refl
claimed setup h w handle dev i (Some g) e = by_name (g == h) refl
  where
    by_name : (b : Bool) → (g == h) ≡ b → sort_told (first_reason (held_elsewhere h i (Some g))) ≡ sort_of_reply (replied setup h w (does handle (if b then Keeps else Gains dev i)))
    by_name true q = rw q refl
    by_name false q = rw (e, q) refl

pub claim_told : (setup : Setup) (h : ℕ) (w : World) (i : ℕ) → let m = machine_of setup h w in sort_told (claim_refusal setup h m w.claims i) ≡ sort_of_reply (replied setup h w (claim_effect setup m i))
unfolding claim_refusal claim_effect machine_of
claim_told setup h w i =
    let m : Machine = machine_of setup h w in
    let elsewhere : List (Bool × Refusal) = held_elsewhere h i (w.claims (device_of m) i) in
    let exists : List (Bool × Refusal) = (not (has_interface setup (device_of m) i), NotFound (missing.Interface (device_of m) i)) ∷ elsewhere in
    tested setup h w m (not (is_open m)) (NotFound missing.Open) ((is_gone m, NoDevice (device_of m)) ∷ exists) _
    (tested setup h w m (is_gone m) (NoDevice (device_of m)) exists _
    (tested setup h w m (not (has_interface setup (device_of m) i)) (NotFound (missing.Interface (device_of m) i)) elsewhere _
    (claimed setup h w m.handle (device_of m) i (w.claims (device_of m) i) refl)))

pub release_told : (setup : Setup) (h : ℕ) (w : World) (m : Machine) (i : ℕ) → sort_told (release_refusal setup m i) ≡ sort_of_reply (replied setup h w (release_effect setup m i))
unfolding release_refusal release_effect is_blocked
release_told setup h w m i =
    all_tested setup h w m (release_tests (caller_facts m) i (has_interface setup (device_of m) i) (m.held (device_of m) i) (quiet_facts setup m (λ x. x.interface == i))) _ refl

-- a reset, by who holds the device's interfaces
others_told : (h : ℕ) (held : ℕ → Option ℕ) (interfaces : List ℕ)
    → sort_told (first_reason (first_elsewhere h held interfaces)) ≡ sort_of_reply (if list_any (λ i. is_others h (held i)) interfaces then reply.Refused refused.HeldElsewhere else reply.Done)
others_told h held [] = refl
others_told h held (i ∷ interfaces) = by_holder (others_told h held interfaces) (held i) refl
  where
    by_holder : sort_told (first_reason (first_elsewhere h held interfaces)) ≡ sort_of_reply (if list_any (λ j. is_others h (held j)) interfaces then reply.Refused refused.HeldElsewhere else reply.Done)
        → (o : Option ℕ) → held i ≡ o
        → sort_told (first_reason (some_elsewhere h held (cond (is_others h o) (Some i) (find (λ j. is_others h (held j)) interfaces))))
        ≡ sort_of_reply (if is_others h o || list_any (λ j. is_others h (held j)) interfaces then reply.Refused refused.HeldElsewhere else reply.Done)
    by_holder rest None e = rest
    by_holder rest (Some g) e = by_name (g == h) refl
      where
        by_name : (b : Bool) → (g == h) ≡ b
            → sort_told (first_reason (some_elsewhere h held (cond (not b) (Some i) (find (λ j. is_others h (held j)) interfaces))))
            ≡ sort_of_reply (if not b || list_any (λ j. is_others h (held j)) interfaces then reply.Refused refused.HeldElsewhere else reply.Done)
        by_name true q = rest
        by_name false q = rw (e, q) refl

pub reset_told : (setup : Setup) (h : ℕ) (w : World) (m : Machine) → sort_told (reset_refusal setup h m w.claims) ≡ sort_of_reply (replied setup h w (reset_effect setup m))
unfolding reset_refusal reset_effect is_blocked
reset_told setup h w m =
    let q : QuietFacts = quiet_facts setup m (λ x. true) in
    let elsewhere : List (Bool × Refusal) = first_elsewhere h (λ i. w.claims (device_of m) i) (interfaces_of setup (device_of m)) in
    tested setup h w m (not (is_open m)) (NotFound missing.Open) ((is_gone m, NoDevice (device_of m)) ∷ (not q.quiet, Busy q.obstacle) ∷ elsewhere) _
    (tested setup h w m (is_gone m) (NoDevice (device_of m)) ((not q.quiet, Busy q.obstacle) ∷ elsewhere) _
    (tested setup h w m (not q.quiet) (Busy q.obstacle) elsewhere _
    (others_told h (λ i. w.claims (device_of m) i) (interfaces_of setup (device_of m)))))

pub unplug_told : (setup : Setup) (gone : ℕ → Bool) (dev : ℕ) → sort_of (unplug_reason (is_device setup dev) (gone dev) dev) ≡ sort_of_reply (unplug_reply setup gone dev)
unplug_told setup gone dev = by_tests (is_device setup dev) (gone dev)
  where
    by_tests : (b c : Bool) → sort_of (unplug_reason b c dev) ≡ sort_of_reply (if not b then reply.Refused refused.NotFound else if c then reply.Refused refused.NoDevice else reply.Done)
    by_tests false c = refl
    by_tests true true = refl
    by_tests true false = refl
