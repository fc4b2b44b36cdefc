-- Which status is told, by each code.
use Rattle.std.proofs.Common.{◌≡◌, ℕ, ◌==◌, ◌<◌, ◌≤◌, Bool, true, false, ◌&&◌, inl, inr, Option, Some, None, refl, sym, subst, ap, ◌∙◌}
use Rattle.std.specs.Prelude.{◌||◌, if◌then◌else◌, nat_lt}
use Rattle.std.proofs.lemmas.Bool.{eqb-true, eqb-false, ne_eqb, ltb-true, ltb-false, lt-ltb, le-ltb}
use Rattle.usb_model.specs.declared.item.Ask.{Ask}
use Rattle.usb_model.specs.declared.item.Ask.TheVariants.{Cancel, Time}
use Rattle.usb_model.specs.declared.status.Status.{Status}
use Rattle.usb_model.specs.declared.status.Status.TheVariants as status
use Rattle.usb_model.specs.Endpoint.Status.{status_of, told_status, is_good, asked_status}
use Rattle.proof_laws.specs.Statuses.{IsGood, IsOther, IsTold, TellsStatuses}

both : (a b : Bool) → a && b ≡ true → (a ≡ true) × (b ≡ true)
both true b e = (refl, e)
both false b e = absurd cc

good : (code : ℕ) → is_good code ≡ true → IsGood code
good code e = by_test (code == 1) refl e
  where
    by_test : (a : Bool) → (code == 1) ≡ a → (a || (code == 13)) ≡ true → IsGood code
    by_test true is e = inl (eqb-true code 1 is)
    by_test false is e = inr (eqb-true code 13 e)

bad : (code : ℕ) → is_good code ≡ false → IsGood code → ⊥
bad code e (inl is) = let f : is_good 1 ≡ false = subst (λ c. is_good c ≡ false) is e in cc
bad code e (inr is) = let f : is_good 13 ≡ false = subst (λ c. is_good c ≡ false) is e in cc

not_good : (code : ℕ) → (IsGood code → ⊥) → is_good code ≡ false
not_good code no_good = by_test (is_good code) refl
  where
    by_test : (a : Bool) → is_good code ≡ a → a ≡ false
    by_test true is = absurd (no_good (good code is))
    by_test false is = refl

-- the status that is told is the one that it is
told : (gone : Bool) (code : ℕ) (ask : Option Ask) (short_not_ok : Bool) (length actual : ℕ)
    → IsTold gone code ask short_not_ok length actual (told_status gone code ask short_not_ok length actual)
unfolding told_status status_of
told gone code ask short_not_ok length actual = by_gone (gone && (code == 4)) refl
  where
    by_ask : (a : Option Ask) → ask ≡ a → code ≡ 26 → IsTold gone code ask short_not_ok length actual (asked_status a)
    by_ask None is e = inr (inr (inl (e, is)))
    by_ask (Some Cancel) is e = (e, is)
    by_ask (Some Time) is e = (e, is)

    by_short : (t : Bool) → short_not_ok && nat_lt actual length ≡ t → IsGood code → IsTold gone code ask short_not_ok length actual (if t then status.Error else status.Completed)
    by_short true is g = let r = both short_not_ok (nat_lt actual length) is in inl (g, r.0, ltb-true actual length r.1)
    by_short false is g = (g, λ s. ltb-false actual length (sym (ap (λ b. b && nat_lt actual length) s) ∙ is))

    by_failure : (g t : Bool) → gone ≡ g → (code == 4) ≡ t → (g && t) ≡ false → is_good code ≡ false → (code == 3) ≡ false → (code == 6) ≡ false → (code == 26) ≡ false
        → IsTold gone code ask short_not_ok length actual status.Error
    by_failure true true is_g is_t e a b c d = absurd cc
    by_failure false true is_g is_t e a b c d = inr (inl (eqb-true code 4 is_t, is_g))
    by_failure g false is_g is_t e a b c d =
        inr (inr (inr (record { bad = bad code a; no_babble = eqb-false code 3 b; no_failure = eqb-false code 4 is_t; no_stall = eqb-false code 6 c; not_stopped = eqb-false code 26 d })))

    by_codes : (gone && (code == 4)) ≡ false → (a b c d : Bool) → is_good code ≡ a → (code == 3) ≡ b → (code == 6) ≡ c → (code == 26) ≡ d
        → IsTold gone code ask short_not_ok length actual
        (if a then (if short_not_ok && nat_lt actual length then status.Error else status.Completed)
        else if b then status.Overflow else if c then status.Stall else if d then asked_status ask else status.Error)
    by_codes e true b c d is_a is_b is_c is_d = by_short (short_not_ok && nat_lt actual length) refl (good code is_a)
    by_codes e false true c d is_a is_b is_c is_d = eqb-true code 3 is_b
    by_codes e false false true d is_a is_b is_c is_d = eqb-true code 6 is_c
    by_codes e false false false true is_a is_b is_c is_d = by_ask ask refl (eqb-true code 26 is_d)
    by_codes e false false false false is_a is_b is_c is_d = by_failure gone (code == 4) refl refl e is_a is_b is_c is_d

    by_gone : (g : Bool) → (gone && (code == 4)) ≡ g → IsTold gone code ask short_not_ok length actual (if g then status.NoDevice else status_of code ask short_not_ok length actual)
    by_gone true e = let r = both gone (code == 4) e in (eqb-true code 4 r.1, r.0)
    by_gone false e = by_codes e (is_good code) (code == 3) (code == 6) (code == 26) refl refl refl refl

-- a code that isn't 4 says nothing of a device that is gone
at_code : (gone : Bool) (code : ℕ) (ask : Option Ask) (short_not_ok : Bool) (length actual : ℕ)
    → (code == 4) ≡ false → told_status gone code ask short_not_ok length actual ≡ status_of code ask short_not_ok length actual
unfolding told_status
at_code true code ask short_not_ok length actual e = rw e refl
at_code false code ask short_not_ok length actual e = refl

completed : (code : ℕ) (ask : Option Ask) (short_not_ok : Bool) (length actual : ℕ) → is_good code ≡ true → (short_not_ok ≡ true → length ≤ actual)
    → status_of code ask short_not_ok length actual ≡ status.Completed
unfolding status_of
completed code ask false length actual e enough = rw e refl
completed code ask true length actual e enough = rw (e, le-ltb actual length (enough refl)) refl

too_short : (code : ℕ) (ask : Option Ask) (length actual : ℕ) → is_good code ≡ true → actual < length → status_of code ask true length actual ≡ status.Error
unfolding status_of
too_short code ask length actual e less = rw (e, lt-ltb actual length less) refl

good_is : (code : ℕ) → IsGood code → (is_good code ≡ true) × ((code == 4) ≡ false)
good_is code (inl is) = subst (λ c. (is_good c ≡ true) × ((c == 4) ≡ false)) (sym is) (refl, refl)
good_is code (inr is) = subst (λ c. (is_good c ≡ true) × ((c == 4) ≡ false)) (sym is) (refl, refl)

other : (code : ℕ) (ask : Option Ask) (short_not_ok : Bool) (length actual : ℕ) → IsOther code → status_of code ask short_not_ok length actual ≡ status.Error
unfolding status_of
other code ask short_not_ok length actual o =
    rw (not_good code o.bad, ne_eqb code 3 o.no_babble, ne_eqb code 6 o.no_stall, ne_eqb code 26 o.not_stopped) refl

-- the codes that tell one thing
at_babble : (gone : Bool) (ask : Option Ask) (short_not_ok : Bool) (length actual : ℕ) → told_status gone 3 ask short_not_ok length actual ≡ status.Overflow
unfolding told_status status_of
at_babble true ask short_not_ok length actual = refl
at_babble false ask short_not_ok length actual = refl

at_stall : (gone : Bool) (ask : Option Ask) (short_not_ok : Bool) (length actual : ℕ) → told_status gone 6 ask short_not_ok length actual ≡ status.Stall
unfolding told_status status_of
at_stall true ask short_not_ok length actual = refl
at_stall false ask short_not_ok length actual = refl

at_failure : (ask : Option Ask) (short_not_ok : Bool) (length actual : ℕ)
    → (told_status true 4 ask short_not_ok length actual ≡ status.NoDevice) × (told_status false 4 ask short_not_ok length actual ≡ status.Error)
unfolding told_status status_of
at_failure ask short_not_ok length actual = (refl, refl)

at_stop : (gone : Bool) (ask : Option Ask) (short_not_ok : Bool) (length actual : ℕ) → told_status gone 26 ask short_not_ok length actual ≡ asked_status ask
unfolding told_status status_of
at_stop true ask short_not_ok length actual = refl
at_stop false ask short_not_ok length actual = refl

-- the status that it is is told
is_told : (gone : Bool) (code : ℕ) (ask : Option Ask) (short_not_ok : Bool) (length actual : ℕ) (s : Status)
    → IsTold gone code ask short_not_ok length actual s → told_status gone code ask short_not_ok length actual ≡ s
is_told gone code ask short_not_ok length actual status.Completed is =
    let g = good_is code is.0 in
    at_code gone code ask short_not_ok length actual g.1 ∙ completed code ask short_not_ok length actual g.0 is.1
is_told gone code ask short_not_ok length actual status.Overflow is =
    subst (λ c. told_status gone c ask short_not_ok length actual ≡ status.Overflow) (sym is) (at_babble gone ask short_not_ok length actual)
is_told gone code ask short_not_ok length actual status.Stall is =
    subst (λ c. told_status gone c ask short_not_ok length actual ≡ status.Stall) (sym is) (at_stall gone ask short_not_ok length actual)
is_told gone code ask short_not_ok length actual status.NoDevice is =
    subst (λ g. told_status g code ask short_not_ok length actual ≡ status.NoDevice) (sym is.1)
    (subst (λ c. told_status true c ask short_not_ok length actual ≡ status.NoDevice) (sym is.0) (at_failure ask short_not_ok length actual).0)
is_told gone code ask short_not_ok length actual status.Cancelled is =
    subst (λ c. told_status gone c ask short_not_ok length actual ≡ status.Cancelled) (sym is.0) (at_stop gone ask short_not_ok length actual ∙ ap asked_status is.1)
is_told gone code ask short_not_ok length actual status.TimedOut is =
    subst (λ c. told_status gone c ask short_not_ok length actual ≡ status.TimedOut) (sym is.0) (at_stop gone ask short_not_ok length actual ∙ ap asked_status is.1)
is_told gone code ask short_not_ok length actual status.Error (inl is) =
    let g = good_is code is.0 in
    at_code gone code ask short_not_ok length actual g.1
    ∙ subst (λ b. status_of code ask b length actual ≡ status.Error) (sym is.1) (too_short code ask length actual g.0 is.2)
is_told gone code ask short_not_ok length actual status.Error (inr (inl is)) =
    subst (λ g. told_status g code ask short_not_ok length actual ≡ status.Error) (sym is.1)
    (subst (λ c. told_status false c ask short_not_ok length actual ≡ status.Error) (sym is.0) (at_failure ask short_not_ok length actual).1)
is_told gone code ask short_not_ok length actual status.Error (inr (inr (inl is))) =
    subst (λ c. told_status gone c ask short_not_ok length actual ≡ status.Error) (sym is.0) (at_stop gone ask short_not_ok length actual ∙ ap asked_status is.1)
is_told gone code ask short_not_ok length actual status.Error (inr (inr (inr o))) =
    at_code gone code ask short_not_ok length actual (ne_eqb code 4 o.no_failure) ∙ other code ask short_not_ok length actual o

pub tells_statuses : TellsStatuses
tells_statuses gone code ask short_not_ok length actual s = (
  λ e. subst (IsTold gone code ask short_not_ok length actual) e (told gone code ask short_not_ok length actual),
  is_told gone code ask short_not_ok length actual s,
)
