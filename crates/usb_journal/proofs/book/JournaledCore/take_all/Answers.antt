use Rattle.std.proofs.Common.{◌≡◌, ◌∙◌, ◌+◌, ◌++◌, ℕ, [], ◌∷◌, Some, ap, arith, length, map, refl, subst, sym}
use Rattle.std.specs.Prelude.{replicate}
use Rattle.std.proofs.lemmas.List.{length-replicate}
use Rattle.usb_model.specs.declared.step.Step.TheVariants.{Take}
use Rattle.usb_core.specs.Public.{called_entry}
use Rattle.usb_core.specs.declared.results.Taken.{Taken}
use Rattle.usb_journal.specs.Booked.{Booked, entries_of}
use Rattle.usb_journal.specs.Rows.{EntersRow, new_places}
use Rattle.usb_journal.specs.Seen.{Logged, Positioned, positioned}
use Rattle.usb_journal.proofs.InRows.{enters, row_looked}
use Rattle.usb_journal.proofs.Takings.{looks_none, takes_on}
use Rattle.usb_journal.proofs.book.JournaledCore.take_all.Goals as goal

pub returns-then-most-eq0-clause-made : goal.returns-then-most-eq0-clause-made
returns-then-most-eq0-clause-made g c =
    let old : Booked g.row.P.Denot = record { setup = g.L.Naming.setup; journal = c.self.inside.log.journal; moment = c.self.inside.moment; core = c.self.inside.core } in
    let new : Booked g.row.P.Denot = record { setup = g.L.Naming.setup; journal = c.look_behind.new.self.journal; moment = c.self.inside.moment; core = c.self.inside.core } in
    subst (λ (b : Booked g.row.P.Denot). EntersRow [] b c.args.position.now (record { first = c.len-first.result; count = 0 }) new c.look_behind.new.position) c.self.view_is
    (looks_none old new c.args.position.now c.look_behind.new.position c.len-first.result c.look_behind.ensures.position c.look_behind.ensures.own c.look_behind.ensures.began c.look_behind.ensures.above c.len-first.ensures (ap (λ l. l.journal) c.look_behind.ensures.same) refl refl)

pub returns-clause-made : goal.returns-clause-made
returns-clause-made g c =
    let one = c.in_ok-take_next.ensures.ok in
    let rest = c.take_more-more.ensures.taken in
    let old : Booked g.row.P.Denot = c.args.self.now in
    let new : Booked g.row.P.Denot = c.take_more-more.new.self in
    let all = takes_on (one.0 ∷ []) rest.0 old c.take_next.new.self new c.args.position.now c.take_next.new.position c.take_more-more.new.position one.2 rest.3 in
    let count : length (one.0 ∷ rest.0) ≡ c.from-count.result + 1 = omega (arith, rest.2, c.from-count.ensures) in
    let first : c.len-first.result ≡ length old.journal = c.len-first.ensures ∙ ap (λ (b : Booked g.row.P.Denot). length b.journal) c.self.view_is in
    let end : c.look_behind-2.new.position ≡ positioned c.take_more-more.new.position.number new.journal = c.look_behind-2.ensures.position ∙ ap (λ (b : Booked g.row.P.Denot). positioned c.take_more-more.new.position.number b.journal) c.self-2.view_is in
    let row = row_looked c.args.position.now.number old.moment (replicate (length (one.0 ∷ rest.0)) Take) _ old.journal c.args.position.now new.journal c.take_more-more.new.position c.look_behind-2.new.position all.row end c.look_behind-2.ensures.own in
    let entered : EntersRow (replicate (length (one.0 ∷ rest.0)) Take) old c.args.position.now (record { first = c.len-first.result; count = length (one.0 ∷ rest.0) }) new c.look_behind-2.new.position =
    enters (replicate (length (one.0 ∷ rest.0)) Take) old new c.args.position.now c.look_behind-2.new.position (record { first = c.len-first.result; count = length (one.0 ∷ rest.0) }) row first (sym (length-replicate (length (one.0 ∷ rest.0)) Take)) c.in_ok-take_next.ensures.on
    (ap (λ (p : Positioned). p.position) end) all.setup all.moment in
    let looked : record { setup = g.L.Naming.setup; journal = c.look_behind-2.new.self.journal; moment = c.self-2.inside.moment; core = c.self-2.inside.core } ≡ new =
    ap (λ (l : Logged g.row.J.Denot). record { setup = g.L.Naming.setup; journal = l.journal; moment = c.self-2.inside.moment; core = c.self-2.inside.core }) c.look_behind-2.ensures.same ∙ c.self-2.view_is in
    subst (λ (b : Booked g.row.P.Denot). EntersRow (replicate (c.from-count.result + 1) Take) old c.args.position.now (record { first = c.len-first.result; count = c.from-count.result + 1 }) b c.look_behind-2.new.position) (sym looked)
    (subst (λ (n : ℕ). EntersRow (replicate n Take) old c.args.position.now (record { first = c.len-first.result; count = n }) new c.look_behind-2.new.position) count entered)

pub returns-clause-entries : goal.returns-clause-entries
returns-clause-entries g c =
    let one = c.in_ok-take_next.ensures.ok in
    let rest = c.take_more-more.ensures.taken in
    let old : Booked g.row.P.Denot = c.args.self.now in
    let new : Booked g.row.P.Denot = c.take_more-more.new.self in
    let all = takes_on (one.0 ∷ []) rest.0 old c.take_next.new.self new c.args.position.now c.take_next.new.position c.take_more-more.new.position one.2 rest.3 in
    let items : c.take_more-more.new.taken.items ≡ one.0 ∷ rest.0 = rest.1 ∙ ap (λ l. l ++ rest.0) (one.1 ∙ ap (λ l. l ++ one.0 ∷ []) c.requires.empty) in
    let looked : record { setup = g.L.Naming.setup; journal = c.look_behind-2.new.self.journal; moment = c.self-2.inside.moment; core = c.self-2.inside.core } ≡ new =
    ap (λ (l : Logged g.row.J.Denot). record { setup = g.L.Naming.setup; journal = l.journal; moment = c.self-2.inside.moment; core = c.self-2.inside.core }) c.look_behind-2.ensures.same ∙ c.self-2.view_is in
    ap (λ (b : Booked g.row.P.Denot). entries_of (new_places old b)) looked ∙ (all.entries ∙ ap (map (λ (t : Taken g.row.P.Denot). called_entry (Some t.returned))) (sym items))
