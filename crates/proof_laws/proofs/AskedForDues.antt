-- The passing of time asks for just the transfers that are due, by name and number.
use Rattle.std.proofs.Common.{◌≡◌, ◌∙◌, ◌==◌, ◌+◌, ◌<◌, ℕ, zero, suc, Bool, true, false, List, [], ◌∷◌, Option, Some, None, All, AllPairs, Contains, ap, ap₂, arith, inl, inr, is_none, map, min, nat_le, ne_eqb, refl, subst, sym}
use Rattle.std.specs.Prelude.{◌&&◌, if◌then◌else◌, not}
use Rattle.std.specs.List.{flat_map}
use Rattle.std.proofs.lemmas.Bool.{and_parts, eqb-false, eqb-true, false_from_ne_true, le-leb, leb-true, not-true, true≢false}
use Rattle.usb_model.specs.declared.item.Ask.{Ask}
use Rattle.usb_model.specs.declared.item.Item.{Item}
use Rattle.usb_model.specs.declared.reply.Reply.{Reply}
use Rattle.usb_model.specs.declared.reply.Reply.TheVariants as reply
use Rattle.usb_model.specs.declared.step.Step.{Step}
use Rattle.usb_model.specs.declared.step.Step.TheVariants.{Open, Close, Claim, Release, Reset, ClearHalt, Submit, Cancel, Expire, Serve, Command, Deliver, Take, Answer, Unplug}
use Rattle.usb_model.specs.Machine.{Machine, device_of}
use Rattle.usb_model.specs.Machine.Calls.{Home, home_of}
use Rattle.usb_model.specs.Setup.{Setup, endpoints_of}
use Rattle.usb_model.specs.World.{is_its, machine_of}
use Rattle.usb_model.specs.World.Journal.{steps_in}
use Rattle.usb_model.specs.World.Due.{Dated, below, due, due_of, given_at, is_due, is_number}
use Rattle.proof_model.proofs.Lists.Pieces.{same_name}
use Rattle.proof_model.proofs.Work.StepMoves.{IsHome, home_is}
use Rattle.proof_laws.specs.Dues.{AsksForDue, ComesBefore, Gives, IsAskedFor, IsDue, IsGivenAt, world_of}
use Rattle.proof_laws.proofs.ListedNumbers.{all_of, chosen_rise, flat_more, in_filter, in_flat, in_map, pairs_append, pairs_map, to_below, to_filter, to_flat, to_map}
use Rattle.proof_laws.proofs.LivesInLines.{found_lives, its_number, lives_found}

-- whose an entry is
its_owner : (h : ℕ) (o : Option ℕ) → is_its h o ≡ true → o ≡ Some h
its_owner h None e = absurd (true≢false (sym e))
its_owner h (Some g) e = ap Some (eqb-true g h e)

-- the number that a reply gives
its_reply : (n : ℕ) (r : Reply) → is_number n r ≡ true → r ≡ reply.Number n
its_reply n (reply.Number k) e = ap (λ v. reply.Number v) (eqb-true k n e)
its_reply n reply.Done e = absurd (true≢false (sym e))
its_reply n (reply.Refused why) e = absurd (true≢false (sym e))
its_reply n reply.Idle e = absurd (true≢false (sym e))
its_reply n (reply.Nak k) e = absurd (true≢false (sym e))
its_reply n (reply.Moved k bytes) e = absurd (true≢false (sym e))
its_reply n (reply.Ended k code) e = absurd (true≢false (sym e))
its_reply n (reply.Ran ep errand ok) e = absurd (true≢false (sym e))
its_reply n (reply.Finished k) e = absurd (true≢false (sym e))
its_reply n (reply.Paused k) e = absurd (true≢false (sym e))
its_reply n (reply.Settled ep errand ok) e = absurd (true≢false (sym e))
its_reply n (reply.Called r) e = absurd (true≢false (sym e))

-- whether a place gives a name's transfer a number
abbrev gives : ℕ → ℕ → Dated → Bool
gives h n x = is_its h x.place.entry.owner && is_number n x.place.entry.reply

gives_if : (h n : ℕ) (x : Dated) → gives h n x ≡ true → Gives h n x
gives_if h n x e =
    let its = and_parts (is_its h x.place.entry.owner) (is_number n x.place.entry.reply) e in
    record { owner = its_owner h x.place.entry.owner its.0; reply = its_reply n x.place.entry.reply its.1 }

if_gives : (h n : ℕ) (x : Dated) → Gives h n x → gives h n x ≡ true
if_gives h n x g = ap₂ (λ o r. is_its h o && is_number n r) g.owner g.reply ∙ (ap (λ b. b && (n == n)) (same_name h) ∙ same_name n)

-- the moment at which a number was given
given_is : (h n : ℕ) (book : List Dated) → IsGivenAt h n book (given_at h n book)
given_is h n [] = refl
given_is h n (x ∷ xs) = by_test (gives h n x) refl (given_is h n xs)
  where
    by_test : (b : Bool) → gives h n x ≡ b → IsGivenAt h n xs (given_at h n xs) → IsGivenAt h n (x ∷ xs) (if b then x.moment else given_at h n xs)
    by_test true is rest = inl (gives_if h n x is, refl)
    by_test false is rest = inr (λ g. true≢false (sym (if_gives h n x g) ∙ is), rest)

is_given : (h n : ℕ) (book : List Dated) (moment : ℕ) → IsGivenAt h n book moment → given_at h n book ≡ moment
is_given h n [] moment e = sym e
is_given h n (x ∷ xs) moment (inl r) = ap (λ b. if b then x.moment else given_at h n xs) (if_gives h n x r.0) ∙ sym r.1
is_given h n (x ∷ xs) moment (inr r) =
    ap (λ b. if b then x.moment else given_at h n xs) (false_from_ne_true (gives h n x) (λ e. r.0 (gives_if h n x e)))
    ∙ is_given h n xs moment r.1

none_asked : (a : Option Ask) → is_none a ≡ true → a ≡ None
none_asked None e = refl
none_asked (Some a) e = absurd (true≢false (sym e))

module _ (setup : Setup) (book : List Dated) (moment h : ℕ) where
  abbrev m : Machine
  m = machine_of setup h (world_of setup book)

  abbrev home : ℕ → Option Home
  home n = home_of m n (endpoints_of setup (device_of m))

  -- what passes the test is due
  passed : h < 64 → (n : ℕ) → is_due moment (given_at h n book) (home n) ≡ true → IsDue setup book moment h n
  passed name n passes = by_home (home n) (home_is m n (endpoints_of setup (device_of m))) passes
    where
      by_home : (o : Option Home) → IsHome m n o → is_due moment (given_at h n book) o ≡ true → IsDue setup book moment h n
      by_home None is e = absurd (true≢false (sym e))
      by_home (Some x) is e =
          let timed_and_over = nat_le (min (given_at h n book + x.item.request.timeout) 18446744073709551615) moment in
          let first = and_parts (is_none x.item.ask) (not (x.item.request.timeout == 0) && timed_and_over) e in
          let others = and_parts (not (x.item.request.timeout == 0)) timed_and_over first.1 in
          let lives = found_lives setup (steps_in (map (λ y. y.place) book)) h n x is in
          record {
            name = name;
            item = x.item;
            number = lives.0;
            lives = lives.1;
            unasked = none_asked x.item.ask first.0;
            timed = eqb-false x.item.request.timeout 0 (not-true (x.item.request.timeout == 0) others.0);
            given = given_at h n book;
            since = given_is h n book;
            over = leb-true (min (given_at h n book + x.item.request.timeout) 18446744073709551615) moment others.1;
          }

  -- and what is due passes it, and has a number below the next
  passes : (n : ℕ) → IsDue setup book moment h n → (is_due moment (given_at h n book) (home n) ≡ true) × (n < m.handle.next_number)
  passes n d =
      let steps = steps_in (map (λ (y : Dated). y.place) book) in
      let r = lives_found setup steps h d.item d.lives in
      let there : home n ≡ Some r.0 = ap home (sym d.number) ∙ r.1 in
      let tests : is_due moment (given_at h n book) (Some r.0) ≡ true = by_item r.0.item r.2 in
      (ap (is_due moment (given_at h n book)) there ∙ tests, subst (λ k. k < m.handle.next_number) d.number (its_number setup steps h d.item d.lives))
    where
      given : given_at h n book ≡ d.given
      given = is_given h n book d.given d.since

      here : (is_none d.item.ask && (not (d.item.request.timeout == 0) && nat_le (min (given_at h n book + d.item.request.timeout) 18446744073709551615) moment)) ≡ true
      here =
          ap (λ a. is_none a && (not (d.item.request.timeout == 0) && nat_le (min (given_at h n book + d.item.request.timeout) 18446744073709551615) moment)) d.unasked
          ∙ (ap (λ b. not b && nat_le (min (given_at h n book + d.item.request.timeout) 18446744073709551615) moment) (ne_eqb d.item.request.timeout 0 d.timed)
          ∙ (ap (λ k. nat_le (min (k + d.item.request.timeout) 18446744073709551615) moment) given
          ∙ le-leb (min (d.given + d.item.request.timeout) 18446744073709551615) moment d.over))

      by_item : (x : Item) → x ≡ d.item
          → (is_none x.ask && (not (x.request.timeout == 0) && nat_le (min (given_at h n book + x.request.timeout) 18446744073709551615) moment)) ≡ true
      by_item x same = subst (λ v. (is_none v.ask && (not (v.request.timeout == 0) && nat_le (min (given_at h n book + v.request.timeout) 18446744073709551615) moment)) ≡ true) (sym same) here

  abbrev test : ℕ → Bool
  test n = is_due moment (given_at h n book) (home n)

  -- the steps of one name
  abbrev pub of_name : List Step
  of_name = map (λ n. Expire h n) (due_of setup book moment h m)

  pub in_name : h < 64 → (step : Step) → Contains of_name step → IsAskedFor setup book moment step
  in_name name step c =
      let r = in_map (λ n. Expire h n) (due_of setup book moment h m) step c in
      let passed_it = in_filter test (below m.handle.next_number) r.0 r.1 in
      subst (IsAskedFor setup book moment) (sym r.2) (passed name r.0 passed_it.1)

  pub to_name : (n : ℕ) → IsDue setup book moment h n → Contains of_name (Expire h n)
  to_name n d =
      let r = passes n d in
      to_map (λ n. Expire h n) (due_of setup book moment h m) n (to_filter test (below m.handle.next_number) n r.0 (to_below m.handle.next_number n r.1))

  -- they rise by number
  pub name_rises : AllPairs ComesBefore of_name
  name_rises = pairs_map (λ n. Expire h n) (λ x y. x < y) ComesBefore (λ x y lt. inr (refl, lt)) (due_of setup book moment h m) (chosen_rise test m.handle.next_number)

-- a step that is an Expire of a name, and of one below another
pub record IsOf (h : ℕ) (step : Step) : Type 0 where
  pub n : ℕ
  pub same : step ≡ Expire h n

pub record IsBelow (j : ℕ) (step : Step) : Type 0 where
  pub h : ℕ
  pub n : ℕ
  pub same : step ≡ Expire h n
  pub less : h < j

module _ (setup : Setup) (book : List Dated) (moment : ℕ) where
  abbrev names : ℕ → List Step
  names h = of_name setup book moment h

  all_of_name : (h : ℕ) (step : Step) → Contains (names h) step → IsOf h step
  all_of_name h step c = let r = in_map (λ n. Expire h n) (due_of setup book moment h (machine_of setup h (world_of setup book))) step c in record { n = r.0; same = r.2 }

  all_below : (j : ℕ) (step : Step) → Contains (flat_map names (below j)) step → IsBelow j step
  all_below j step c =
      let r = in_flat names j step c in
      let its = all_of_name r.0 step r.2 in
      record { h = r.0; n = its.n; same = its.same; less = r.1 }

  across : (j : ℕ) (x y : Step) → IsBelow j x → IsOf j y → ComesBefore x y
  across j x y below_it its = subst (λ s. ComesBefore s y) (sym below_it.same) (subst (λ s. ComesBefore (Expire below_it.h below_it.n) s) (sym its.same) (inl below_it.less))

  -- the steps of all names below another rise
  rises : (j : ℕ) → AllPairs ComesBefore (flat_map names (below j))
  rises zero = λ i k d lt within. absurd (omega (arith, within))
  rises (suc j) =
      subst (AllPairs ComesBefore) (sym (flat_more names j))
      (pairs_append ComesBefore (flat_map names (below j)) (names j) (rises j) (name_rises setup book moment j)
      (all_of (λ x. All (ComesBefore x) (names j)) (flat_map names (below j)) (λ x c. all_of (ComesBefore x) (names j) (λ y c'. across j x y (all_below j x c) (all_of_name j y c')))))

  only : (step : Step) → Contains (flat_map names (below 64)) step → IsAskedFor setup book moment step
  only step c = let r = in_flat names 64 step c in in_name setup book moment r.0 r.1 step r.2

  each_due : (step : Step) → IsAskedFor setup book moment step → Contains (flat_map names (below 64)) step
  each_due (Expire h n) d = to_flat names 64 h (Expire h n) d.name (to_name setup book moment h n d)
  each_due (Open h dev) d = absurd d
  each_due (Close h) d = absurd d
  each_due (Claim h i) d = absurd d
  each_due (Release h i) d = absurd d
  each_due (Reset h) d = absurd d
  each_due (ClearHalt h ep) d = absurd d
  each_due (Submit h request) d = absurd d
  each_due (Cancel h n) d = absurd d
  each_due (Serve dev ep) d = absurd d
  each_due Command d = absurd d
  each_due Deliver d = absurd d
  each_due Take d = absurd d
  each_due (Answer h n verdict) d = absurd d
  each_due (Unplug dev) d = absurd d

  pub asks_for_due : AsksForDue setup book moment
  unfolding due
  asks_for_due = record { each = λ step. (only step, each_due step); rising = rises 64 }
