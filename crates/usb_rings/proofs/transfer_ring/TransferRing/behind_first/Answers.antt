use Rattle.std.proofs.Common.{◌≡◌, ◌+◌, ◌*◌, ◌%◌, ℕ, Some, arith, ap, sym, ◌∙◌}
use Rattle.usb_rings.specs.Places.{address_of}
use Rattle.usb_rings.specs.Line.{places, place_behind}
use Rattle.usb_rings.specs.View.{Ring, back}
use Rattle.usb_rings.proofs.Holders.{address-behind, behind-is, index-back}
use Rattle.usb_rings.proofs.transfer_ring.TransferRing.behind_first.Goals as goal

pub returns : goal.returns
returns c =
    let s = c.self.invariant in
    let first : c.index-first.result ≡ back c.self.inside.enqueue c.self.inside.held % 254 % 127 = c.index-first.ensures.value ∙ ap (λ (q : ℕ). q % 127) c.place_before.ensures.value in record {
      found = λ n few h.
          let told = c.in_ok-at.ensures.found ((back c.self.inside.enqueue c.self.inside.held + n) % 127) (omega arith)
          (h ∙ sym (ap (λ (r : Ring). address_of places r.line.base (place_behind r.line n)) c.self.view_is)
          ∙ address-behind c.self.inside.segment c.self.inside.enqueue c.self.inside.left c.self.inside.held n c.self.inside.counts s few
          ∙ ap (λ (a : ℕ). a + 16 * ((back c.self.inside.enqueue c.self.inside.held + n) % 127)) (sym c.base.ensures)) in
          let at : c.in_ok-at.at ≡ (back c.self.inside.enqueue c.self.inside.held + n) % 127 = cc in
          ap Some (behind-is (back c.self.inside.enqueue c.self.inside.held) n c.index-first.result c.in_ok-at.at c.behind.result first at few c.behind.ensures.value);
      known = (
        c.behind.ensures.below,
        c.in_ok-at.ensures.known.1 ∙ ap (λ (a : ℕ). a + 16 * c.in_ok-at.at) c.base.ensures
            ∙ ap (λ (q : ℕ). c.self.inside.segment.base + 16 * q) (index-back (back c.self.inside.enqueue c.self.inside.held) c.index-first.result c.in_ok-at.at c.behind.result first c.in_ok-at.ensures.known.0 c.behind.ensures.value)
            ∙ sym (address-behind c.self.inside.segment c.self.inside.enqueue c.self.inside.left c.self.inside.held c.behind.result c.self.inside.counts s c.behind.ensures.below)
            ∙ ap (λ (r : Ring). address_of places r.line.base (place_behind r.line c.behind.result)) c.self.view_is,
      );
    }

pub returns-in_err-at-clause-found : goal.returns-in_err-at-clause-found
returns-in_err-at-clause-found c = λ n few h.
    let told = c.index_at.ensures.found ((back c.self.inside.enqueue c.self.inside.held + n) % 127) (omega arith)
    (h ∙ sym (ap (λ (r : Ring). address_of places r.line.base (place_behind r.line n)) c.self.view_is)
    ∙ address-behind c.self.inside.segment c.self.inside.enqueue c.self.inside.left c.self.inside.held n c.self.inside.counts c.self.invariant few
    ∙ ap (λ (a : ℕ). a + 16 * ((back c.self.inside.enqueue c.self.inside.held + n) % 127)) (sym c.base.ensures)) in
    let none = c.in_err-at.was in
    cc
