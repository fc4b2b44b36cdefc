use Rattle.std.proofs.Common.{rules, ◌≡◌, ap, sym, ◌∙◌, Some, true}
use Rattle.atomic_table.specs.Table.{keeps}
use Rattle.usb_receipts.specs.Rule.{appended, appended_if, said_by}
use Rattle.usb_receipts.proofs.Moves.{appends, checks}
use Rattle.usb_receipts.proofs.seats.append.Goals as goal

pub load-found-requires : goal.load-found-requires
load-found-requires g c =
    let e = c.exchange-before.ensures in
    let M = c.exchange-before.new.seat.me in
    let said : said_by M.1 ≡ Some c.args.entry = ap (λ m. said_by m.1) e.3 ∙ c.of.ensures in
    let whole : M.0.keeps ≡ true = ap (λ m. m.0.keeps) e.3 ∙ c.requires.keeper in
    let there = ap (λ m. m.0.positions) e.3 ∙ c.requires.position.1 in (
      e.0 ∙ c.requires.log.0,
      search rules,
      λ s h n at lt. (appended M.0 c.args.entry, keeps, tt, appends _ s.homes s.views _ _ _ c.requires.position.0 whole there h at, (ap (λ o. (appended_if M.0 o, M.1)) (sym said), checks _ s.homes s.views _ _ whole h at)),
    )
