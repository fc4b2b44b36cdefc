-- Packets in a row, as the core serves them at once.
use Rattle.std.proofs.Common.{◌≡◌, ℕ, zero, suc, ◌+◌, ◌<◌, ◌≤◌, Bool, true, Option, Some, None, List, [], ◌∷◌, ◌++◌, refl, sym, ap, ◌∙◌, subst, arith}
use Rattle.std.specs.Prelude.{max, replicate}
use Rattle.refine_core.specs.Steps.{TurnsInRow}
use Rattle.usb_core.specs.Public.{ShowsWorld, StillCarries, burst_entries, whole_entries}
use Rattle.usb_core.specs.declared.step_bursts.Burst.{Burst}
use Rattle.usb_core.specs.declared.step_bursts.Whole.{Whole}
use Rattle.usb_model.specs.declared.entry.Entry.{Entry}
use Rattle.usb_model.specs.declared.step.Step.TheVariants.{Serve}
use Rattle.usb_model.specs.Setup.{Setup}
use Rattle.usb_model.specs.World.{World, turn, world_from}
use Rattle.usb_model.specs.World.Journal.{journal_from, run_from}
use Rattle.usb_core.specs.StepBursts.{whole_entry}
use Rattle.tirnouch_c.specs.declared.session.Session.{Session}
use Rattle.tirnouch_c.specs.Calls.{SameBeside}
use Rattle.tirnouch_c.specs.Packets.{ServesRow, ends_nothing, entry_behind, goes_on, served}
use Rattle.tirnouch_c.specs.Replies.{entry_numbers}
use Rattle.tirnouch_c.proofs.Progress.{goes, stops}

-- of lists that are the same the first are, and the others
first_is : {A : Type 0} (x y : A) (xs ys : List A) → x ∷ xs ≡ y ∷ ys → x ≡ y
first_is x y xs ys is = cc

others_are : {A : Type 0} (x y : A) (xs ys : List A) → x ∷ xs ≡ y ∷ ys → xs ≡ ys
others_are x y xs ys is = cc

module _ (setup : Setup) (dev ep : ℕ) where
  -- a packet more in front is one more behind
  served_first : (w : World) (n : ℕ) → served setup dev ep (turn setup w (Serve dev ep)).world n ≡ served setup dev ep w (suc n)
  unfolding served
  served_first w zero = refl
  served_first w (suc n) = ap (λ (v : World). (turn setup v (Serve dev ep)).world) (served_first w n)

  -- the world behind so many
  world_behind : (w : World) (n : ℕ) → world_from setup w (replicate n (Serve dev ep)) ≡ served setup dev ep w n
  unfolding served world_from
  world_behind w zero = refl
  world_behind w (suc n) = world_behind (turn setup w (Serve dev ep)).world n ∙ served_first w n

  -- where the entries are so many of one and another behind them, each is that of its packet
  rowed : (w : World) (each last : Entry) (full : ℕ) → replicate full each ++ last ∷ [] ≡ run_from setup w (replicate (suc full) (Serve dev ep))
      → (last ≡ entry_behind setup dev ep w full) × ((k : ℕ) → k < full → each ≡ entry_behind setup dev ep w k)
  unfolding served journal_from
  rowed w each last zero is = (first_is _ _ _ _ is, λ k low. absurd (omega (arith, low)))
  rowed w each last (suc full) is =
      let more = rowed (turn setup w (Serve dev ep)).world each last full (others_are _ _ _ _ is) in
      (more.0 ∙ ap (λ (v : World). (turn setup v (Serve dev ep)).entry) (served_first w full), by_place (first_is _ _ _ _ is) more.1)
    where
      by_place : each ≡ entry_behind setup dev ep w 0 → ((k : ℕ) → k < full → each ≡ entry_behind setup dev ep (turn setup w (Serve dev ep)).world k) → (k : ℕ) → k < suc full → each ≡ entry_behind setup dev ep w k
      by_place here more zero low = here
      by_place here more (suc k) low = more k (omega (arith, low)) ∙ ap (λ (v : World). (turn setup v (Serve dev ep)).entry) (served_first w k)

  -- where there is one entry there is one packet
  alone : (w : World) (last : Entry) (full : ℕ) → last ∷ [] ≡ run_from setup w (replicate (suc full) (Serve dev ep)) → (last ≡ entry_behind setup dev ep w full) × (full ≡ 0)
  unfolding served journal_from
  alone w last zero is = (first_is _ _ _ _ is, refl)
  alone w last (suc full) is = absurd cc

  -- all that is known of a row of packets: the last entry, and that none before it ended a transfer
  row_behind : (w : World) (b : Burst) → burst_entries b ≡ run_from setup w (replicate (b.full + 1) (Serve dev ep))
      → (b.last ≡ entry_behind setup dev ep w b.full) × ((k : ℕ) → k < b.full → ends_nothing (entry_behind setup dev ep w k).reply ≡ true)
  row_behind w b is = by_each b.each (is ∙ ap (λ (n : ℕ). run_from setup w (replicate n (Serve dev ep))) all)
    where
      all : b.full + 1 ≡ suc b.full
      all = omega arith

      by_each : (each : Option Whole) → whole_entries each b.full ++ b.last ∷ [] ≡ run_from setup w (replicate (suc b.full) (Serve dev ep))
          → (b.last ≡ entry_behind setup dev ep w b.full) × ((k : ℕ) → k < b.full → ends_nothing (entry_behind setup dev ep w k).reply ≡ true)
      by_each None same =
          let one = alone w b.last b.full same in
          (one.0, λ k low. absurd (omega (arith, low, one.1)))
      by_each (Some x) same =
          let row = rowed w (whole_entry x) b.last b.full same in
          (row.0, λ k low. subst (λ (e : Entry). ends_nothing e.reply ≡ true) (row.1 k low) refl)

-- packets in a row, and the reply of the last
pub row_is : (dev ep most : ℕ) (b : Burst) (ready further : Bool) (s t : Session) → 0 < most → TurnsInRow s.core (replicate (b.full + 1) (Serve dev ep)) (burst_entries b) t.core → b.full + 1 ≤ max 1 most
    → further ≡ goes_on ready b.last.reply → StillCarries s.core t.core → SameBeside s t → ServesRow dev ep most (record (entry_numbers b.last) { packets = b.full + 1 }, further) s t
row_is dev ep most b ready further s t some turned few is carries same = record {
  some = omega arith;
  within = omega (arith, some, few);
  shows = λ setup w shows. subst (λ (v : World). ShowsWorld setup t.core v) (world_behind setup dev ep w (b.full + 1)) (turned setup w shows).1;
  last = λ setup w k shows at.
      let place : b.full ≡ k = omega (arith, at) in
      let amount : b.full + 1 ≡ suc k = at in
      ap (λ (n : ℕ). record (entry_numbers b.last) { packets = n }) amount ∙ ap (λ (e : Entry). record (entry_numbers e) { packets = suc k })
      ((row_behind setup dev ep w b (turned setup w shows).0).0 ∙ ap (λ (n : ℕ). entry_behind setup dev ep w n) place);
  before = λ setup w k shows low. (row_behind setup dev ep w b (turned setup w shows).0).1 k (omega (arith, low));
  further = λ setup w k shows on at.
      let place : b.full ≡ k = omega (arith, at) in
      let last : b.last ≡ entry_behind setup dev ep w k = (row_behind setup dev ep w b (turned setup w shows).0).0 ∙ ap (λ (n : ℕ). entry_behind setup dev ep w n) place in
      subst (λ (e : Entry). ends_nothing e.reply ≡ true) last (goes ready b.last.reply (sym is ∙ on));
  stops = λ off five. stops ready b.last.owner b.last.reply (sym is ∙ off) five;
  carries = carries;
  same = same;
}
