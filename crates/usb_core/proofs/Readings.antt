-- What an event tells, by what was read of it.
use Rattle.std.proofs.Common.{◌≡◌, ◌∙◌, ◌-◌, ◌≤◌, ℕ, Bool, true, false, ap, arith, refl, subst, subst₂, sym}
use Rattle.std.specs.Prelude.{◌==◌, nat_lt, if◌then◌else◌}
use Rattle.std.proofs.lemmas.Bool.{eqb-true, ltb-true}
use Rattle.usb_model.specs.declared.status.Status.{Status}
use Rattle.usb_model.specs.declared.status.Status.TheVariants.{Error}
use Rattle.usb_model.specs.Completion.{stopped}
use Rattle.usb_model.specs.Setup.{Setup}
use Rattle.usb_model.specs.Events.{kept_result}
use Rattle.usb_model.specs.Stands.{length_at, read_off}
use Rattle.usb_model.specs.Endpoint.Status.{told_status}
use Rattle.usb_model.specs.Requests.{is_short_not_ok, length_of}
use Rattle.usb_tables.specs.Events.{read_target, told_of_target}
use Rattle.usb_tables.specs.declared.target.Reading.{Reading}
use Rattle.usb_tables.specs.declared.target.Reading.TheVariants.{Ended, Paused, Stray}
use Rattle.usb_tables.specs.declared.held.HeldEndpoint.{HeldEndpoint}
use Rattle.usb_xhc.specs.Context.{Context}
use Rattle.usb_tables.specs.declared.ending.Ending.{Ending}
use Rattle.refine_core.proofs.Reports.{IsFound, tells_all}
use Rattle.refine_world.specs.Shows.{Core}
use Rattle.refine_core.specs.Deliveries.{Tells, ending_of, is_gone}
use Rattle.refine_core.specs.State.{State}
use Rattle.usb_tables.specs.Tds.{lengths, tds_of}
use Rattle.usb_tables.specs.declared.transfer.Transfer.{Transfer as InFlight}
use Rattle.usb_core.specs.declared.reports.Report.{Report}
use Rattle.usb_core.specs.Reports.{IsTold, target_of}

-- what a transfer with these bytes moved tells
abbrev told_by : {P : Type 0} → Bool → InFlight P → (item code actual : ℕ) → Reading
told_by gone t item code actual =
    if code == stopped then Paused item actual else Ended item (told_status gone code t.ask (is_short_not_ok t.request) (length_of t.request.body) actual) actual

-- an event whose residual isn't over the length of its TRB is read as that of its transfer
pub read_found : {P : Type 0} (gone : Bool) (size item trb r code : ℕ) (t : InFlight P) → r ≤ length_at (lengths (tds_of size t.request)) trb
    → read_target (target_of gone size item trb t) r code ≡ told_by gone t item code (read_off (lengths (tds_of size t.request)) trb r)
read_found gone size item trb r code t le = by_test (nat_lt (length_at (lengths (tds_of size t.request)) trb) r) refl
  where
    by_test : (b : Bool) → nat_lt (length_at (lengths (tds_of size t.request)) trb) r ≡ b
        → (if b then Stray else told_of_target (target_of gone size item trb t) code (read_off (lengths (tds_of size t.request)) trb r)) ≡ told_by gone t item code (read_off (lengths (tds_of size t.request)) trb r)
    by_test true e = let over = ltb-true (length_at (lengths (tds_of size t.request)) trb) r e in absurd (omega (arith, le, over))
    by_test false e = refl

-- what was read of the transfer that an event's pointer names is told of it
pub is_told : {P : Type 0} (setup : Setup) (s : State P) (c : Core) (pointer residual code : ℕ) (at : HeldEndpoint) (x : Context) (item trb : ℕ) (t : InFlight P) (read : Reading)
    → IsFound setup s c pointer residual code at.dev at.ep at.name x item trb t → read ≡ read_target (target_of (is_gone s.controller at.dev) x.size item trb t) residual code
    → IsTold setup s c code (record { at = at; n = t.n; reading = read })
is_told setup s c pointer residual code at x item trb t read is e =
    let moved : ℕ = read_off (lengths (tds_of x.size t.request)) trb residual in
    let all = tells_all setup s c pointer residual code at.dev at.ep at.name x item trb moved t (told_status (is_gone s.controller at.dev) code t.ask (is_short_not_ok t.request) (length_of t.request.body) moved) is is.moved refl in
    record {
      item = item;
      actual = moved;
      tells = all.0;
      reading = e ∙ read_found (is_gone s.controller at.dev) x.size item trb residual code t is.left ∙ ap (λ (v : Ending). if code == stopped then Paused item moved else Ended item v.status moved) all.1;
    }

item_in : Reading → ℕ
item_in (Ended item status actual) = item
item_in (Paused item actual) = item
item_in Stray = 0

actual_in : Reading → ℕ
actual_in (Ended item status actual) = actual
actual_in (Paused item actual) = actual
actual_in Stray = 0

status_in : Reading → Status
status_in (Ended item status actual) = status
status_in (Paused item actual) = Error
status_in Stray = Error

is_end : Reading → Bool
is_end (Ended item status actual) = true
is_end (Paused item actual) = false
is_end Stray = false

is_stray : Reading → Bool
is_stray (Ended item status actual) = false
is_stray (Paused item actual) = false
is_stray Stray = true

module _ {P : Type 0} (setup : Setup) (s : State P) (c : Core) where
  -- it stands: at the place that was read, with the bytes that were read
  pub stands_at : (x : Report) (item actual : ℕ) → IsTold setup s c stopped x → x.reading ≡ Paused item actual → Tells setup s c x.at.name x.at.dev x.at.ep item x.n actual stopped
  unfolding item_in actual_in
  stands_at x item actual told is =
      let same : Paused told.item told.actual ≡ Paused item actual = sym told.reading ∙ is in
      let item_is : told.item ≡ item = ap item_in same in
      let actual_is : told.actual ≡ actual = ap actual_in same in
      subst₂ (λ i a. Tells setup s c x.at.name x.at.dev x.at.ep i x.n a stopped) item_is actual_is told.tells

  -- it stands by the code Stopped alone
  pub stands_told : (x : Report) (item actual code : ℕ) → IsTold setup s c code x → x.reading ≡ Paused item actual → IsTold setup s c stopped x
  unfolding is_end
  stands_told x item actual code told is = by_test (code == stopped) refl
    where
      result : Status
      result = (kept_result (c.gone x.at.dev) code told.tells.kept told.actual).status

      by_test : (t : Bool) → (code == stopped) ≡ t → IsTold setup s c stopped x
      by_test true e = subst (λ (n : ℕ). IsTold setup s c n x) (eqb-true code stopped e) told
      by_test false e =
          let read : Paused item actual ≡ Ended told.item result told.actual = sym is ∙ told.reading ∙ ap (λ (b : Bool). if b then Paused told.item told.actual else Ended told.item result told.actual) e in
          let no : false ≡ true = ap is_end read in
          absurd cc

  -- and no event is stray
  pub never_stray : (x : Report) (code : ℕ) → IsTold setup s c code x → x.reading ≡ Stray → ⊥
  unfolding is_stray
  never_stray x code told is = by_test (code == stopped) refl
    where
      result : Status
      result = (kept_result (c.gone x.at.dev) code told.tells.kept told.actual).status

      by_test : (t : Bool) → (code == stopped) ≡ t → ⊥
      by_test true e = let read : Stray ≡ Paused told.item told.actual = sym is ∙ told.reading ∙ ap (λ (b : Bool). if b then Paused told.item told.actual else Ended told.item result told.actual) e in let no : true ≡ false = ap is_stray read in absurd cc
      by_test false e = let read : Stray ≡ Ended told.item result told.actual = sym is ∙ told.reading ∙ ap (λ (b : Bool). if b then Paused told.item told.actual else Ended told.item result told.actual) e in let no : true ≡ false = ap is_stray read in absurd cc

  -- it ended, and not by a stop; with the status of its code
  pub record EndsAt (x : Report) (item : ℕ) (ending : Ending) (code : ℕ) : Type 0 where
    pub other : (code == stopped) ≡ false
    pub tells : Tells setup s c x.at.name x.at.dev x.at.ep item x.n ending.actual code
    pub told : ending ≡ ending_of c x.at.dev tells.kept ending.actual code

  pub ends_at : (x : Report) (item : ℕ) (ending : Ending) (code : ℕ) → IsTold setup s c code x → x.reading ≡ Ended item ending.status ending.actual → EndsAt x item ending code
  unfolding item_in actual_in status_in is_end
  ends_at x item ending code told is = by_test (code == stopped) refl
    where
      result : Status
      result = (kept_result (c.gone x.at.dev) code told.tells.kept told.actual).status

      read : (t : Bool) → (code == stopped) ≡ t → Ended item ending.status ending.actual ≡ (if t then Paused told.item told.actual else Ended told.item result told.actual)
      read t e = sym is ∙ told.reading ∙ ap (λ (b : Bool). if b then Paused told.item told.actual else Ended told.item result told.actual) e

      by_test : (t : Bool) → (code == stopped) ≡ t → EndsAt x item ending code
      by_test true e = let no : true ≡ false = ap is_end (read true e) in absurd cc
      by_test false e =
          at item ending.status ending.actual (sym (ap item_in (read false e))) (ap status_in (read false e)) (sym (ap actual_in (read false e)))
        where
          at : (i : ℕ) (v : Status) (a : ℕ) → told.item ≡ i → v ≡ result → told.actual ≡ a → EndsAt x i (record { status = v; actual = a }) code
          at i v a item_is status_is actual_is = subst₂ (λ i a. EndsAt x i (record { status = v; actual = a }) code) item_is actual_is
              (record { other = e; tells = told.tells; told = ap (λ (w : Status). ending_as w) status_is })
            where
              ending_as : Status → Ending
              ending_as w = record { status = w; actual = told.actual }
