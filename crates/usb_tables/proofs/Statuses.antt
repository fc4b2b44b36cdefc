-- The status of an end is the one that it is told as, and no other.
use Rattle.std.proofs.Common.{Bool, None, Option, Some, ap, false, inl, inr, refl, subst, sym, true, ℕ, ◌==◌, ◌∙◌, ◌≡◌, ◌↔◌}
use Rattle.std.specs.Prelude.{if◌then◌else◌, nat_lt, ◌&&◌, ◌||◌}
use Rattle.std.proofs.lemmas.Bool.{eq-eqb, eqb-true, lt-ltb, ltb-true}
use Rattle.usb_model.specs.declared.item.Ask.{Ask}
use Rattle.usb_model.specs.declared.item.Ask.TheVariants.{Cancel, Time}
use Rattle.usb_model.specs.declared.status.Status.{Status}
use Rattle.usb_model.specs.declared.status.Status.TheVariants as status
use Rattle.usb_model.specs.Completion.{babble_detected, short_packet, stall_error, stopped, success}
use Rattle.usb_model.specs.Endpoint.Status.{asked_status, is_good, status_of}
use Rattle.usb_tables.specs.Statuses.{IsGood, IsOtherEnd, IsShort, IsToldAs}

-- of a test: whether a code is another
is_other : (a b : ℕ) → (a == b) ≡ false → a ≡ b → ⊥
is_other a b differs e = absurd (cc (eq-eqb a b e, differs))

-- a good end
good_end : (code : ℕ) → is_good code ≡ true → IsGood code
good_end code e = by_first (code == success) refl e
  where
    by_first : (t : Bool) → (code == success) ≡ t → (t || (code == short_packet)) ≡ true → IsGood code
    by_first true is e = inl (eqb-true code success is)
    by_first false is e = inr (eqb-true code short_packet e)

bad_end : (code : ℕ) → is_good code ≡ false → IsGood code → ⊥
bad_end code e (inl is) = absurd (cc (ap is_good is, e))
bad_end code e (inr is) = absurd (cc (ap is_good is, e))

-- a good end by its bytes
told_good : (t : Bool) (code : ℕ) (ask : Option Ask) (short : Bool) (l m : ℕ) → IsGood code → (short && nat_lt m l) ≡ t → IsToldAs (if t then status.Error else status.Completed) code ask short l m
told_good true code ask short l m good e = inl (good, (and_left short e, ltb-true m l (and_right short e)))
  where
    and_left : (t : Bool) → (t && nat_lt m l) ≡ true → t ≡ true
    and_left true e = refl
    and_left false e = e

    and_right : (t : Bool) → (t && nat_lt m l) ≡ true → nat_lt m l ≡ true
    and_right true e = e
    and_right false e = absurd cc
told_good false code ask short l m good e = (good, λ s. absurd (cc (e, subst (λ t. (t && nat_lt m l) ≡ true) (sym s.0) (lt-ltb m l s.1))))

-- a withdrawn transfer
told_asked : (code : ℕ) (ask : Option Ask) (short : Bool) (l m : ℕ) → (IsGood code → ⊥) → (code ≡ babble_detected → ⊥) → (code ≡ stall_error → ⊥) → code ≡ stopped → IsToldAs (asked_status ask) code ask short l m
told_asked code None short l m bad babble stall is = inr (record { bad = bad; babble = babble; stall = stall; asked = λ e. refl })
told_asked code (Some Cancel) short l m bad babble stall is = (is, refl)
told_asked code (Some Time) short l m bad babble stall is = (is, refl)

-- each end is told as its status
told : (code : ℕ) (ask : Option Ask) (short : Bool) (l m : ℕ) → IsToldAs (status_of code ask short l m) code ask short l m
unfolding status_of
told code ask short l m = by_good (is_good code) refl
  where
    Told : Status → Type 0
    Told s = IsToldAs s code ask short l m

    by_stopped : (t : Bool) → (code == stopped) ≡ t → is_good code ≡ false → (code == babble_detected) ≡ false → (code == stall_error) ≡ false → Told (if t then asked_status ask else status.Error)
    by_stopped true is bad babble stall = told_asked code ask short l m (bad_end code bad) (is_other code babble_detected babble) (is_other code stall_error stall) (eqb-true code stopped is)
    by_stopped false is bad babble stall =
        inr (record { bad = bad_end code bad; babble = is_other code babble_detected babble; stall = is_other code stall_error stall; asked = λ e. absurd (is_other code stopped is e) })

    by_stall : (t : Bool) → (code == stall_error) ≡ t → is_good code ≡ false → (code == babble_detected) ≡ false → Told (if t then status.Stall else if code == stopped then asked_status ask else status.Error)
    by_stall true is bad babble = eqb-true code stall_error is
    by_stall false is bad babble = by_stopped (code == stopped) refl bad babble is

    by_babble : (t : Bool) → (code == babble_detected) ≡ t → is_good code ≡ false → Told (if t then status.Overflow else if code == stall_error then status.Stall else if code == stopped then asked_status ask else status.Error)
    by_babble true is bad = eqb-true code babble_detected is
    by_babble false is bad = by_stall (code == stall_error) refl bad is

    by_good : (t : Bool) → is_good code ≡ t
        → Told (if t then (if short && nat_lt m l then status.Error else status.Completed) else if code == babble_detected then status.Overflow else if code == stall_error then status.Stall else if code == stopped then asked_status ask else status.Error)
    by_good true is = told_good (short && nat_lt m l) code ask short l m (good_end code is) refl
    by_good false is = by_babble (code == babble_detected) refl is

-- any other end is told as Error alone
other_end : (s : Status) (code : ℕ) (ask : Option Ask) (short : Bool) (l m : ℕ) → IsOtherEnd code ask → IsToldAs s code ask short l m → s ≡ status.Error
other_end status.Completed code ask short l m o is = absurd (o.bad is.0)
other_end status.Error code ask short l m o is = refl
other_end status.TimedOut code ask short l m o is = absurd (cc (o.asked is.0, is.1))
other_end status.Cancelled code ask short l m o is = absurd (cc (o.asked is.0, is.1))
other_end status.Stall code ask short l m o is = absurd (o.stall is)
other_end status.NoDevice code ask short l m o is = absurd is
other_end status.Overflow code ask short l m o is = absurd (o.babble is)

-- a good end has this status
good_status : (t : Bool) (code : ℕ) (ask : Option Ask) (short : Bool) (l m : ℕ) → IsGood code → (short && nat_lt m l) ≡ t → status_of code ask short l m ≡ (if t then status.Error else status.Completed)
unfolding status_of
good_status t code ask short l m (inl is) e = subst (λ k. status_of k ask short l m ≡ (if t then status.Error else status.Completed)) (sym is) (ap (λ u. if u then status.Error else status.Completed) e)
good_status t code ask short l m (inr is) e = subst (λ k. status_of k ask short l m ≡ (if t then status.Error else status.Completed)) (sym is) (ap (λ u. if u then status.Error else status.Completed) e)

not_short : (short : Bool) (l m : ℕ) → (IsShort short l m → ⊥) → (short && nat_lt m l) ≡ false
not_short false l m none = refl
not_short true l m none = by_test (nat_lt m l) refl
  where
    by_test : (t : Bool) → nat_lt m l ≡ t → t ≡ false
    by_test false is = refl
    by_test true is = absurd (none (refl, ltb-true m l is))

is_short : (short : Bool) (l m : ℕ) → IsShort short l m → (short && nat_lt m l) ≡ true
is_short true l m s = lt-ltb m l s.1
is_short false l m s = absurd (cc s.0)

-- an end that is told as a status has it
has : (s : Status) (code : ℕ) (ask : Option Ask) (short : Bool) (l m : ℕ) → IsToldAs s code ask short l m → status_of code ask short l m ≡ s
unfolding status_of
has status.Completed code ask short l m is = good_status false code ask short l m is.0 (not_short short l m is.1)
has status.Error code ask short l m (inl is) = good_status true code ask short l m is.0 (is_short short l m is.1)
has status.Error code ask short l m (inr o) = other_end (status_of code ask short l m) code ask short l m o (told code ask short l m)
has status.TimedOut code ask short l m is = rw (is.0, is.1) refl
has status.Cancelled code ask short l m is = rw (is.0, is.1) refl
has status.Stall code ask short l m is = rw is refl
has status.NoDevice code ask short l m is = absurd is
has status.Overflow code ask short l m is = rw is refl

-- so an end has just the status that it is told as
pub exact : (got s : Status) (code : ℕ) (ask : Option Ask) (short : Bool) (l m : ℕ) → got ≡ status_of code ask short l m → (got ≡ s) ↔ IsToldAs s code ask short l m
exact got s code ask short l m e = (λ is. subst (λ k. IsToldAs k code ask short l m) (sym e ∙ is) (told code ask short l m), λ is. e ∙ has s code ask short l m is)
