-- A look that shows nothing, and a world at rest.
use Rattle.std.proofs.Common.{◌≡◌, ◌∙◌, Bool, true, false, true≢false, not, ◌||◌, Option, Some, None, refl, sym, ap}
use Rattle.std.specs.Prelude.{is_some}
use Rattle.usb_model.specs.Setup.{Setup}
use Rattle.usb_model.specs.World.{World}
use Rattle.usb_core.specs.Public.{IsPending}
use Rattle.usb_core.specs.declared.pending.Pending.{Pending}
use Rattle.usb_library.specs.Calls.{IsAtRest, is_nothing}

none_if : {A : Type 0} (o : Option A) → is_some o ≡ false → o ≡ None
none_if None e = refl
none_if (Some x) e = absurd (true≢false e)

none_of : (s c d t o : Bool) → not ((s || c) || (d || (t || o))) ≡ true → (s ≡ false) × (c ≡ false) × (d ≡ false) × (t ≡ false) × (o ≡ false)
none_of true c d t o e = absurd (true≢false (sym e))
none_of false true d t o e = absurd (true≢false (sym e))
none_of false false true t o e = absurd (true≢false (sym e))
none_of false false false true o e = absurd (true≢false (sym e))
none_of false false false false true e = absurd (true≢false (sym e))
none_of false false false false false e = (refl, refl, refl, refl, refl)

all_none : (s c d t o : Bool) → s ≡ false → c ≡ false → d ≡ false → t ≡ false → o ≡ false → not ((s || c) || (d || (t || o))) ≡ true
all_none s c d t o no_s no_c no_d no_t no_o = rw (no_s, no_c, no_d, no_t, no_o) refl

module _ (setup : Setup) (w : World) (look : Pending) (is : IsPending setup w None look) where
  pub rests : is_nothing look ≡ true → IsAtRest setup w
  rests e =
      let none = none_of (is_some look.serve) look.command look.deliver look.take look.out e in
      record {
        packets = sym is.serve ∙ none_if look.serve none.0;
        orders = sym is.command ∙ none.1;
        events = sym is.deliver ∙ none.2;
        results = sym is.take ∙ none.3;
        callbacks = λ h some. true≢false (sym (is.out.1 (h, some)) ∙ none.4);
      }

  pub shows_rest : IsAtRest setup w → is_nothing look ≡ true
  shows_rest r = all_none (is_some look.serve) look.command look.deliver look.take look.out (ap is_some (is.serve ∙ r.packets)) (is.command ∙ r.orders) (is.deliver ∙ r.events) (is.take ∙ r.results) (none_out look.out refl)
    where
      none_out : (b : Bool) → look.out ≡ b → b ≡ false
      none_out false e = refl
      none_out true e = let some = is.out.0 e in absurd (r.callbacks some.0 some.1)
