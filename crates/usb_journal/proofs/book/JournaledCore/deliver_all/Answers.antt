use Rattle.std.proofs.Common.{◌≡◌, ◌∙◌, ◌≤◌, ℕ, List, ap, length, refl, subst, sym}
use Rattle.std.specs.Prelude.{replicate}
use Rattle.std.proofs.lemmas.List.{length-replicate}
use Rattle.usb_model.specs.declared.step.Step.TheVariants.{Deliver}
use Rattle.usb_model.specs.World.Journal.{run_from}
use Rattle.usb_receipts.specs.Rule.{BeginsWith}
use Rattle.usb_recorder.specs.declared.place.Place.{Place}
use Rattle.usb_journal.specs.Booked.{Booked, world_where}
use Rattle.usb_journal.specs.Entered.{IsRow}
use Rattle.usb_journal.specs.Rows.{EntersRow}
use Rattle.usb_journal.specs.Seen.{positioned}
use Rattle.usb_journal.proofs.InRows.{enters_looking}
use Rattle.usb_journal.proofs.book.JournaledCore.deliver_all.Goals as goal

pub returns-clause-made : goal.returns-clause-made
returns-clause-made g c =
    let setup = g.L.Naming.setup in
    let before = c.args.position.now in
    let looked = c.look.new.position in
    let mid = c.deliver_each-count.new.position in
    let n : ℕ = c.deliver_each-count.result.0 in
    let journal : List Place = c.self.inside.log.journal in
    let later : List Place = c.deliver_each-count.new.log.journal in
    let behind : c.look.new.self.journal ≡ journal = ap (λ l. l.journal) c.look.ensures.same ∙ c.reserve.ensures.same in
    let old : Booked g.row.P.Denot = record { setup = setup; journal = journal; moment = c.self.inside.moment; core = c.self.inside.core } in
    let new : Booked g.row.P.Denot = record { setup = setup; journal = later; moment = c.self.inside.moment; core = c.deliver_each-count.new.core } in
    let row : IsRow looked.number c.self.inside.moment (replicate n Deliver) (run_from setup (world_where setup journal) (replicate n Deliver)) journal looked later mid =
    subst (λ (l : List Place). IsRow looked.number c.self.inside.moment (replicate n Deliver) (run_from setup (world_where setup l) (replicate n Deliver)) l looked later mid) behind c.deliver_each-count.ensures.row.row in
    let entered : EntersRow (replicate n Deliver) old before (record { first = c.len-first.result; count = n }) new c.look_behind.new.position =
    enters_looking (replicate n Deliver) old new before looked mid c.look_behind.new.position (record { first = c.len-first.result; count = n })
    (c.look.ensures.position ∙ ap (positioned before.number) c.reserve.ensures.same) c.look.ensures.own
    (subst (BeginsWith before.seen) c.reserve.ensures.same c.look.ensures.began) (subst (λ (l : List Place). before.position ≤ length l) c.reserve.ensures.same c.look.ensures.above)
    row c.look_behind.ensures.position c.look_behind.ensures.own (c.len-first.ensures ∙ ap length behind) (sym (length-replicate n Deliver)) refl refl in
    subst (λ (b : Booked g.row.P.Denot). EntersRow (replicate c.from.result Deliver) b before (record { first = c.len-first.result; count = c.from.result }) (record new { journal = c.look_behind.new.self.journal }) c.look_behind.new.position) c.self.view_is
    (subst (λ (l : List Place). EntersRow (replicate c.from.result Deliver) old before (record { first = c.len-first.result; count = c.from.result }) (record new { journal = l }) c.look_behind.new.position) (sym (ap (λ l. l.journal) c.look_behind.ensures.same))
    (subst (λ (k : ℕ). EntersRow (replicate k Deliver) old before (record { first = c.len-first.result; count = k }) new c.look_behind.new.position) (sym c.from.ensures) entered))
