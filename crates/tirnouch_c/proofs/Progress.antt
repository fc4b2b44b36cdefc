-- Packets row by row, and steps until nothing is to be done.
use Rattle.std.proofs.Common.{◌≡◌, ℕ, zero, suc, ◌+◌, ◌-◌, ◌<◌, ◌≤◌, Bool, true, false, not, Option, Some, None, ◌⊎◌, inl, inr, nat_lt, refl, sym, ap, ◌∙◌, subst, arith}
use Rattle.std.proofs.lemmas.Bool.{ltb-false, ltb-true}
use Rattle.usb_core.specs.Public.{ShowsWorld, StillCarries}
use Rattle.usb_model.specs.declared.entry.Entry.{Entry}
use Rattle.usb_model.specs.declared.reply.Reply.{Reply}
use Rattle.usb_model.specs.declared.reply.Reply.TheVariants.{Called, Done, Ended, Finished, Idle, Moved, Nak, Number, Paused, Ran, Refused as IsRefused, Settled}
use Rattle.usb_model.specs.declared.step.Step.{Step}
use Rattle.usb_model.specs.declared.step.Step.TheVariants.{Serve}
use Rattle.usb_model.specs.Setup.{Setup}
use Rattle.usb_model.specs.World.{World, turn}
use Rattle.tirnouch_c.specs.declared.replies.StepReply.{StepReply}
use Rattle.tirnouch_c.specs.declared.session.Session.{Session}
use Rattle.tirnouch_c.specs.declared.settling.SettleProgress.{SettleProgress}
use Rattle.tirnouch_c.specs.Calls.{SameBeside}
use Rattle.tirnouch_c.specs.Packets.{Serves, ServesRow, ends_nothing, entry_behind, goes_on, served}
use Rattle.tirnouch_c.specs.Settling.{Advances, NoneAsked, Settles, behind_step, is_something, next_step, worked}
use Rattle.tirnouch_c.proofs.Quiet.{quiet_ends}
use Rattle.tirnouch_c.specs.Replies.{bit, entry_numbers, owner_numbers, reply_numbers}

-- where an endpoint may be served once more, its packet ended nothing
pub goes : (ready : Bool) (reply : Reply) → goes_on ready reply ≡ true → ends_nothing reply ≡ true
goes ready (Moved n bytes) on = refl
goes ready (Nak n) on = refl
goes ready Done on = on
goes ready (Number n) on = on
goes ready (IsRefused why) on = on
goes ready Idle on = on
goes ready (Ended n code) on = on
goes ready (Ran ep errand ok) on = on
goes ready (Finished n) on = on
goes ready (Paused n) on = on
goes ready (Settled ep errand ok) on = on
goes ready (Called r) on = on

-- where it may not, no packet just moved bytes
stops_by : (ready : Bool) (h : ℕ) (reply : Reply) → goes_on ready reply ≡ false → (reply_numbers h reply).kind ≡ 5 → ⊥
unfolding reply_numbers
stops_by ready h (Moved n bytes) on five = cc
stops_by ready h (Nak n) on five = absurd (omega (arith, five))
stops_by ready h Done on five = absurd (omega (arith, five))
stops_by ready h (Number n) on five = absurd (omega (arith, five))
stops_by ready h (IsRefused why) on five = absurd (omega (arith, five))
stops_by ready h Idle on five = absurd (omega (arith, five))
stops_by ready h (Ended n code) on five = absurd (omega (arith, five))
stops_by ready h (Ran ep errand ok) on five = absurd (omega (arith, five))
stops_by ready h (Finished n) on five = absurd (omega (arith, five))
stops_by ready h (Paused n) on five = absurd (omega (arith, five))
stops_by ready h (Settled ep errand ok) on five = absurd (omega (arith, five))
stops_by ready h (Called r) on five = absurd (omega (arith, five))

pub stops : (ready : Bool) (owner : Option ℕ) (reply : Reply) → goes_on ready reply ≡ false → (owner_numbers owner reply).kind ≡ 5 → ⊥
stops ready None reply on five = stops_by ready 255 reply on five
stops ready (Some h) reply on five = stops_by ready h reply on five

-- up to a place, or at it
pub at_or_before : (k n : ℕ) → k < suc n → (k < n) ⊎ (k ≡ n)
at_or_before k n low = by_test (nat_lt k n) refl
  where
    by_test : (b : Bool) → nat_lt k n ≡ b → (k < n) ⊎ (k ≡ n)
    by_test true is = inl (ltb-true k n is)
    by_test false is = inr (let le = ltb-false k n is in omega (arith, le, low))

-- so many packets, of which none ended a transfer
pub record Going (dev ep done : ℕ) (reply : StepReply) (s t : Session) : Type 0 where
  pub amount : reply.packets ≡ done
  pub shows : (setup : Setup) (w : World) → ShowsWorld setup s.core w → ShowsWorld setup t.core (served setup dev ep w done)
  pub last : (setup : Setup) (w : World) (k : ℕ) → ShowsWorld setup s.core w → done ≡ suc k → reply ≡ record (entry_numbers (entry_behind setup dev ep w k)) { packets = suc k }
  pub goes : (setup : Setup) (w : World) (k : ℕ) → ShowsWorld setup s.core w → k < done → ends_nothing (entry_behind setup dev ep w k).reply ≡ true
  pub carries : StillCarries s.core t.core
  pub same : SameBeside s t

-- none yet
pub none_yet : (dev ep : ℕ) (reply : StepReply) (s : Session) → reply.packets ≡ 0 → Going dev ep 0 reply s s
unfolding served
none_yet dev ep reply s none = record {
  amount = none;
  shows = λ setup w shows. shows;
  last = λ setup w k shows is. absurd (omega (arith, is));
  goes = λ setup w k shows low. absurd (omega (arith, low));
  carries = λ kept carried. carried;
  same = (refl, refl);
}

-- before so many, or so many behind them
place_of : (done k : ℕ) → (k < done) ⊎ ((j : ℕ) × (done + j ≡ k))
place_of done k = by_test (nat_lt k done) refl
  where
    by_test : (b : Bool) → nat_lt k done ≡ b → (k < done) ⊎ ((j : ℕ) × (done + j ≡ k))
    by_test true is = inl (ltb-true k done is)
    by_test false is = inr (k - done, let le = ltb-false k done is in omega (arith, le))

-- some are one and others
one_of_some : (n : ℕ) → 0 < n → (j : ℕ) × (n ≡ suc j)
one_of_some zero some = absurd (omega (arith, some))
one_of_some (suc j) some = (j, refl)

-- so many packets and then more
served_on : (setup : Setup) (dev ep : ℕ) (w : World) (a b : ℕ) → served setup dev ep (served setup dev ep w a) b ≡ served setup dev ep w (a + b)
unfolding served
served_on setup dev ep w a zero =
    let same : a ≡ a + 0 = omega arith in
    ap (λ (n : ℕ). served setup dev ep w n) same
served_on setup dev ep w a (suc b) =
    let same : suc (a + b) ≡ a + suc b = omega arith in
    ap (λ (v : World). (turn setup v (Serve dev ep)).world) (served_on setup dev ep w a b) ∙ ap (λ (n : ℕ). served setup dev ep w n) same

module _ (dev ep done rest : ℕ) (reply one : StepReply) (further : Bool) (s mid t : Session) (so_far : Going dev ep done reply s mid) (row : ServesRow dev ep rest (one, further) mid t) where
  -- the world behind a row more
  shown : (setup : Setup) (w : World) → ShowsWorld setup s.core w → ShowsWorld setup t.core (served setup dev ep w (done + one.packets))
  shown setup w shows = subst (λ (v : World). ShowsWorld setup t.core v) (served_on setup dev ep w done one.packets) (row.shows setup (served setup dev ep w done) (so_far.shows setup w shows))

  -- the entry of a packet of the row
  entry_on : (setup : Setup) (w : World) (j k : ℕ) → done + j ≡ k → entry_behind setup dev ep (served setup dev ep w done) j ≡ entry_behind setup dev ep w k
  entry_on setup w j k at = ap (λ (v : World). (turn setup v (Serve dev ep)).entry) (served_on setup dev ep w done j) ∙ ap (λ (n : ℕ). entry_behind setup dev ep w n) at

  last_is : (setup : Setup) (w : World) (k : ℕ) → ShowsWorld setup s.core w → done + one.packets ≡ suc k → record one { packets = suc k } ≡ record (entry_numbers (entry_behind setup dev ep w k)) { packets = suc k }
  last_is setup w k shows is =
      let some = one_of_some one.packets row.some in
      ap (λ (x : StepReply). record x { packets = suc k }) (row.last setup (served setup dev ep w done) some.0 (so_far.shows setup w shows) some.1)
      ∙ ap (λ (e : Entry). record (entry_numbers e) { packets = suc k }) (entry_on setup w some.0 k (omega (arith, is, some.1)))

  -- a packet of which none ended a transfer, but perhaps the last of the row
  before_last : (setup : Setup) (w : World) (k : ℕ) → ShowsWorld setup s.core w → suc k < done + one.packets → ends_nothing (entry_behind setup dev ep w k).reply ≡ true
  before_last setup w k shows low = by_place (place_of done k)
    where
      by_place : (k < done) ⊎ ((j : ℕ) × (done + j ≡ k)) → ends_nothing (entry_behind setup dev ep w k).reply ≡ true
      by_place (inl lower) = so_far.goes setup w k shows lower
      by_place (inr at) = subst (λ (e : Entry). ends_nothing e.reply ≡ true) (entry_on setup w at.0 k at.1) (row.before setup (served setup dev ep w done) at.0 (so_far.shows setup w shows) (omega (arith, low, at.1)))

  -- nor the last, where the endpoint may be served once more
  none_ended : (setup : Setup) (w : World) (k : ℕ) → ShowsWorld setup s.core w → further ≡ true → k < done + one.packets → ends_nothing (entry_behind setup dev ep w k).reply ≡ true
  none_ended setup w k shows on low = by_place (place_of (suc k) (done + one.packets))
    where
      by_place : (done + one.packets < suc k) ⊎ ((j : ℕ) × (suc k + j ≡ done + one.packets)) → ends_nothing (entry_behind setup dev ep w k).reply ≡ true
      by_place (inl lower) = absurd (omega (arith, low, lower))
      by_place (inr (zero, at)) =
          let some = one_of_some one.packets row.some in
          subst (λ (e : Entry). ends_nothing e.reply ≡ true) (entry_on setup w some.0 k (omega (arith, at, some.1))) (row.further setup (served setup dev ep w done) some.0 (so_far.shows setup w shows) on some.1)
      by_place (inr (suc j, at)) = before_last setup w k shows (omega (arith, at))

  still : StillCarries s.core t.core
  still kept carried = row.carries kept (so_far.carries kept carried)

  same_beside : SameBeside s t
  same_beside = (row.same.0 ∙ so_far.same.0, row.same.1 ∙ so_far.same.1)

  -- a row more, which ended nothing
  pub row_more : (next : ℕ) → next ≡ done + one.packets → further ≡ true → Going dev ep next (record one { packets = next }) s t
  row_more next is on = subst (λ (n : ℕ). Going dev ep n (record one { packets = n }) s t) (sym is) (record {
    amount = refl;
    shows = shown;
    last = λ setup w k shows at. ap (λ (n : ℕ). record one { packets = n }) at ∙ last_is setup w k shows at;
    goes = λ setup w k shows low. none_ended setup w k shows on low;
    carries = still;
    same = same_beside;
  })

  -- the last row
  pub last_row : (most next : ℕ) → next ≡ done + one.packets → next ≤ most → further ≡ false → Serves dev ep most (record one { packets = next }) s t
  last_row most next is within off = subst (λ (n : ℕ). Serves dev ep most (record one { packets = n }) s t) (sym is) (record {
    within = omega (arith, within, is);
    begun = λ none. let some = row.some in absurd (omega (arith, none, some));
    shows = shown;
    last = λ setup w k shows at. ap (λ (n : ℕ). record one { packets = n }) at ∙ last_is setup w k shows at;
    before = before_last;
    stops = λ fewer five. row.stops off five;
    carries = still;
    same = same_beside;
  })

-- as many as were wanted
pub all_of_them : (dev ep most : ℕ) (reply : StepReply) (s t : Session) → Going dev ep most reply s t → Serves dev ep most reply s t
all_of_them dev ep most reply s t so_far = record {
  within = omega (arith, so_far.amount);
  begun = λ none. sym so_far.amount ∙ none;
  shows = λ setup w shows. subst (λ (n : ℕ). ShowsWorld setup t.core (served setup dev ep w n)) (sym so_far.amount) (so_far.shows setup w shows);
  last = λ setup w k shows is. so_far.last setup w k shows (sym so_far.amount ∙ is);
  before = λ setup w k shows lower. so_far.goes setup w k shows (omega (arith, lower, so_far.amount));
  stops = λ fewer five. absurd (omega (arith, fewer, so_far.amount));
  carries = so_far.carries;
  same = so_far.same;
}

-- so many steps that were to be made
pub record Working (packets : Bool) (done : ℕ) (s t : Session) : Type 0 where
  pub shows : (setup : Setup) (w : World) → ShowsWorld setup s.core w → ShowsWorld setup t.core (worked setup packets w done)
  pub each : (setup : Setup) (w : World) (k : ℕ) → ShowsWorld setup s.core w → k < done → next_step setup packets (worked setup packets w k) ≡ None → ⊥
  pub carries : StillCarries s.core t.core
  pub same : SameBeside s t

-- none yet
pub no_step_yet : (packets : Bool) (s : Session) → Working packets 0 s s
unfolding worked
no_step_yet packets s = record { shows = λ setup w shows. shows; each = λ setup w k shows low. absurd (omega (arith, low)); carries = λ kept carried. carried; same = (refl, refl) }

-- what is tested to be nothing is nothing
none_is : (o : Option Step) → is_something o ≡ false → o ≡ None
none_is None is = refl
none_is (Some step) is = absurd cc

-- one step more
pub one_step_more : (packets : Bool) (done next : ℕ) (s mid t : Session) → Working packets done s mid → next ≡ suc done → Advances packets true mid.core t.core → SameBeside mid t → Working packets next s t
unfolding worked
one_step_more packets done next s mid t so_far is advanced same = subst (λ (n : ℕ). Working packets n s t) (sym is) (record {
  shows = λ setup w shows. advanced.shows setup (worked setup packets w done) (so_far.shows setup w shows);
  each = λ setup w k shows low. by_place setup w k shows (at_or_before k done low);
  carries = λ kept carried. advanced.carries kept (so_far.carries kept carried);
  same = (same.0 ∙ so_far.same.0, same.1 ∙ so_far.same.1);
})
  where
    by_place : (setup : Setup) (w : World) (k : ℕ) → ShowsWorld setup s.core w → (k < done) ⊎ (k ≡ done) → next_step setup packets (worked setup packets w k) ≡ None → ⊥
    by_place setup w k shows (inl low) none = so_far.each setup w k shows low none
    by_place setup w k shows (inr at) none =
        let there : true ≡ is_something (next_step setup packets (worked setup packets w done)) = advanced.made_is setup (worked setup packets w done) (so_far.shows setup w shows) in
        let not_there : is_something (next_step setup packets (worked setup packets w done)) ≡ false = subst (λ (j : ℕ). is_something (next_step setup packets (worked setup packets w j)) ≡ false) at (ap is_something none) in
        absurd cc

-- nothing is to be done where a core is
abbrev pub IsQuiet : Bool → Session → Type 0
IsQuiet packets s = (setup : Setup) (w : World) → ShowsWorld setup s.core w → is_something (next_step setup packets w) ≡ false

-- where nothing was to be done there are as many steps as before
pub no_step_more : (packets : Bool) (done : ℕ) (s mid t : Session) → Working packets done s mid → Advances packets false mid.core t.core → SameBeside mid t → Working packets done s t
no_step_more packets done s mid t so_far advanced same = record {
  shows = λ setup w shows.
      let before = so_far.shows setup w shows in
      let none = none_is _ (sym (advanced.made_is setup (worked setup packets w done) before)) in
      subst (λ (o : Option Step). ShowsWorld setup t.core (behind_step setup (worked setup packets w done) o)) none (advanced.shows setup (worked setup packets w done) before);
  each = so_far.each;
  carries = λ kept carried. advanced.carries kept (so_far.carries kept carried);
  same = (same.0 ∙ so_far.same.0, same.1 ∙ so_far.same.1);
}

-- where it ends: nothing was to be done any more where it was last, or as many were made as were wanted
pub settled : (packets quiet : Bool) (most done : ℕ) (s mid t : Session) (progress : SettleProgress) → Working packets done s mid → Working packets done s t → done ≤ most → (quiet ≡ true → IsQuiet packets mid) → (quiet ≡ false → done ≡ most)
    → progress ≡ record { steps = done; is_settled = bit quiet } → Settles packets most progress s t
settled packets quiet most done s mid t progress before so_far within none whole progress_is =
    let amount : progress.steps ≡ done = ap (λ (x : SettleProgress). x.steps) progress_is in
    record {
      quiet = quiet;
      is_settled = ap (λ (x : SettleProgress). x.is_settled) progress_is;
      within = omega (arith, within, amount);
      shows = λ setup w shows. subst (λ (n : ℕ). ShowsWorld setup t.core (worked setup packets w n)) (sym amount) (so_far.shows setup w shows);
      each = λ setup w k shows low. so_far.each setup w k shows (omega (arith, low, amount));
      nothing_left = λ setup w shows is. subst (λ (n : ℕ). next_step setup packets (worked setup packets w n) ≡ None) (sym amount) (nothing setup w shows is);
      ended = λ setup w shows is. subst (λ (n : ℕ). NoneAsked setup (worked setup packets w n)) (sym amount)
          (quiet_ends setup t.core (worked setup packets w done) packets (so_far.shows setup w shows) (nothing setup w shows is));
      whole = λ is. amount ∙ whole is;
      carries = so_far.carries;
      same = so_far.same;
    }
  where
    nothing : (setup : Setup) (w : World) → ShowsWorld setup s.core w → quiet ≡ true → next_step setup packets (worked setup packets w done) ≡ None
    nothing setup w shows is = none_is _ (none is setup (worked setup packets w done) (before.shows setup w shows))

-- what isn't so is false
pub not_so : (b : Bool) → not b ≡ true → b ≡ false
not_so true is = absurd cc
not_so false is = refl
