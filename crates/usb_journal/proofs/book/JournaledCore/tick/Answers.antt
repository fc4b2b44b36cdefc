use Rattle.std.proofs.Common.{◌≡◌, ◌∙◌, ap, drop, length, map, max, refl, subst, sym}
use Rattle.std.specs.List.{filter}
use Rattle.usb_model.specs.World.Due.{due}
use Rattle.usb_journal.specs.Booked.{Booked, asked, asks, dated, world_where}
use Rattle.usb_journal.specs.Timers.{by_name, expires, is_over}
use Rattle.usb_journal.proofs.Due.{due_by_timers}
use Rattle.usb_journal.proofs.book.JournaledCore.tick.Goals as goal

pub returns-clause-steps : goal.returns-clause-steps
returns-clause-steps g c =
    let i = c.self.invariant in
    let setup = g.L.Naming.setup in
    let journal = c.self.inside.log.journal in
    let later = c.max-later.result in
    let w = world_where setup journal in
    let found = c.deref-2.ensures.value ∙ (c.in_ok-due.ensures setup w i.0.1 ∙ ap (λ ts. by_name (filter (is_over setup w later) ts)) (c.deref.ensures.value ∙ i.1)) in
    subst (λ (b : Booked g.row.P.Denot). map asked (drop (length b.journal) c.expire_all.new.log.journal) ≡ asks c.args.position.now.number (max b.moment c.args.now) (due b.setup (dated b.journal) (max b.moment c.args.now))) c.self.view_is
    (ap (λ l. map asked (drop (length l) c.expire_all.new.log.journal)) (sym (ap (λ l. l.journal) c.look_behind.ensures.same ∙ c.reserve.ensures.same))
    ∙ (c.expire_all.ensures.steps ∙ (ap (λ l. asks c.number-caller.result later (expires l)) found ∙ (ap (asks c.number-caller.result later) (due_by_timers setup journal later i.0.0)
    ∙ (ap (λ k. asks c.number-caller.result k (due setup (dated journal) k)) c.max-later.ensures
    ∙ ap (λ n. asks n (max c.self.inside.moment c.args.now) (due setup (dated journal) (max c.self.inside.moment c.args.now))) c.number-caller.ensures)))))

pub returns-clause-library : goal.returns-clause-library
returns-clause-library g c = subst (λ (b : Booked g.row.P.Denot). b.setup ≡ g.L.Naming.setup) c.self.view_is refl
