use Rattle.std.proofs.Common.{rules, ◌≡◌, ap, sym, ◌∙◌, refl, subst, [], ◌∷◌, ◌++◌, map}
use mathlib.Core.Option.{some}
use Rattle.atomic_table.specs.Table.{takes}
use Rattle.usb_receipts.specs.Rule.{Rules, keeper, opener}
use Rattle.usb_receipts.proofs.Moves.{begins, slotted}
use Rattle.usb_receipts.proofs.seats.open.Goals as goal

pub new-requires : goal.new-requires
new-requires g c =
    let it : c.push.new.self.items ≡ c.of.result ∷ [] = c.in_ok-push.ensures.items ∙ ap (λ xs. xs ++ c.of.result ∷ []) c.new-slots.ensures.items in
    subst (λ xs. Rules g.E.Borne.bearer (map some xs) (opener ∷ [])) (sym it) (begins _ c.of.result)

pub load-found-requires : goal.load-found-requires
load-found-requires g c =
    let ok = c.in-Ok.ensures.ok in
    let me = ok.4 in (
      ok.2,
      search rules,
      λ s h n at lt.
          let t = slotted _ s.homes s.views _ h (at ∙ ap (λ m. some m.0) me) in
          (keeper [] 0, takes 0 t.0, t.1, t.2, (refl, (t.0, ap (λ m. (0, t.0) ∷ m.1) me))),
    )
