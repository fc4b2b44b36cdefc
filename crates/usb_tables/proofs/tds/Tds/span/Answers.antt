-- The bytes before a TRB, and those up to its end.
use Rattle.std.proofs.Common.{◌≡◌, ℕ, ◌+◌, ◌-◌, ◌*◌, ◌≤◌, ap, ap₂, arith, min, subst₂, sym, ◌∙◌}
use Rattle.usb_model.specs.Stands.{length_at}
use Rattle.usb_tables.specs.declared.tds.Span.{Span}
use Rattle.usb_tables.specs.Tds.{Tds, lengths}
use Rattle.usb_tables.proofs.Ends.{before-is, length-is, within}
use Rattle.usb_tables.proofs.tds.Tds.span.Goals as goal

pub returns-clause-value : goal.returns-clause-value
returns-clause-value c =
    let t : Tds = c.args.self in
    let seen : c.self.inside.length ≡ t.length = ap (λ (v : Tds). v.length) c.self.view_is in
    let before : c.min-before.result ≡ min t.length (c.args.trb * 65536) = c.min-before.ensures ∙ ap (λ n. min n (c.args.trb * 65536)) seen in
    let end : c.min-end.result ≡ min t.length ((c.args.trb + 1) * 65536) = c.min-end.ensures ∙ ap (λ n. min n ((c.args.trb + 1) * 65536)) seen in
    let long : c.min-end.result - c.min-before.result ≡ length_at (lengths t) c.args.trb = ap₂ (λ m n. m - n) end before ∙ length-is t.extra t.length c.args.trb c.requires in
    ap₂ span_of (before ∙ before-is t.extra t.length c.args.trb c.requires) long
  where
    span_of : ℕ → ℕ → Span
    span_of before length = record { before = before; length = length }

pub returns-clause-within : goal.returns-clause-within
returns-clause-within c =
    let t : Tds = c.args.self in
    let seen : c.self.inside.length ≡ t.length = ap (λ (v : Tds). v.length) c.self.view_is in
    let before : c.min-before.result ≡ min t.length (c.args.trb * 65536) = c.min-before.ensures ∙ ap (λ n. min n (c.args.trb * 65536)) seen in
    let end : c.min-end.result ≡ min t.length ((c.args.trb + 1) * 65536) = c.min-end.ensures ∙ ap (λ n. min n ((c.args.trb + 1) * 65536)) seen in
    subst₂ (λ m n. m + (n - m) ≤ t.length) (sym before) (sym end) (within t.length (c.args.trb * 65536) ((c.args.trb + 1) * 65536) (omega arith))
