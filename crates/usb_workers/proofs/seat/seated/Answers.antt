use Rattle.std.proofs.Common.{◌≡◌, ◌∷◌, ◌++◌, [], All, ap, map, subst, sym, ◌∙◌}
use Rattle.std.proofs.lemmas.List.{map-append}
use Rattle.std.proofs.lemmas.List.Elements.{All-push}
use Rattle.usb_workers.proofs.seat.seated.Goals as goal

pub loop-driver-preserved : goal.loop-driver-preserved
loop-driver-preserved g c = (
  ap (map (λ s. s.driver)) c.in_ok-push.ensures.items ∙ (map-append (λ s. s.driver) c.loop-driver.seats.items (record { caller = c.in_ok-caller.caller; driver = c.in-Some.driver } ∷ []) ∙ ap (λ xs. xs ++ c.in-Some.driver ∷ []) c.loop-driver.invariant.0),
  subst (All (λ s. s.caller.own ≡ [])) (sym c.in_ok-push.ensures.items) (All-push (λ s. s.caller.own ≡ []) c.loop-driver.seats.items (record { caller = c.in_ok-caller.caller; driver = c.in-Some.driver }) c.loop-driver.invariant.1 c.in_ok-caller.ensures),
)
