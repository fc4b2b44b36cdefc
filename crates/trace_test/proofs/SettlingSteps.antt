-- Steps that settle, one after another.
use Rattle.std.proofs.Common.{◌≡◌, ◌≤◌, Bool, true, false, List, [], ◌∷◌, ◌++◌, Some, length, inl, inr, refl, sym, ap, subst, arith}
use Rattle.usb_model.specs.declared.verdict.Rule.{Rule}
use Rattle.usb_model.specs.Setup.{Setup}
use Rattle.usb_model.specs.World.Plans.{Stage}
use Rattle.usb_plans.specs.PlanRuns.{PlanState, ShowsStage}
use Rattle.trace_test.specs.declared.settling.Settling.{Settling}
use Rattle.trace_test.specs.Settling.{MakesNext, SettleTo, SettlesFrom, SettlesOnce, most_steps, settling_at, stage_past}

-- none was made
pub settle_none : (setup : Setup) (s : Stage) → SettleTo setup s [] s
unfolding SettleTo
settle_none setup s = refl

-- one more is the next behind those that were made
pub settle_more : (setup : Setup) (s mid : Stage) (xs : List Settling) (x : Settling) → SettleTo setup s xs mid → settling_at setup mid.world ≡ Some x → SettleTo setup s (xs ++ x ∷ []) (stage_past setup mid x)
unfolding SettleTo
settle_more setup s mid [] x to next = (subst (λ (t : Stage). settling_at setup t.world ≡ Some x) to next, ap (λ (t : Stage). stage_past setup t x) to)
settle_more setup s mid (y ∷ ys) x to next = (to.0, settle_more setup (stage_past setup s y) mid ys x to.1 next)

module _ {P : Type 0} (rule : P → Rule) where
  -- from the first run to this one these steps were made
  abbrev pub HaveSettled : PlanState P → List Settling → PlanState P → Type 0
  HaveSettled first xs run = (setup : Setup) (s : Stage) → ShowsStage rule setup first s → (mid : Stage) × SettleTo setup s xs mid × ShowsStage rule setup run mid

  -- one more was made
  pub settled_more : (first old new : PlanState P) (xs ys : List Settling) (made : Bool) → made ≡ true → SettlesOnce rule made old xs new ys → HaveSettled first xs old → HaveSettled first ys new
  settled_more first old new xs ys made is next far setup s shows =
      let here = far setup s shows in
      let there = subst (λ (b : Bool). MakesNext rule b setup here.0 xs new ys) is (next setup here.0 here.2) in
      (stage_past setup here.0 there.0, subst (λ (l : List Settling). SettleTo setup s l (stage_past setup here.0 there.0)) (sym there.2) (settle_more setup s here.0 xs there.0 here.1 there.1), there.3)

  -- there was none more
  pub settled_all : (first old new : PlanState P) (xs ys : List Settling) (made : Bool) → made ≡ false → SettlesOnce rule made old xs new ys → HaveSettled first xs old → length xs ≤ most_steps → SettlesFrom rule first ys new
  settled_all first old new xs ys made is next far few setup s shows =
      let here = far setup s shows in
      let there = subst (λ (b : Bool). MakesNext rule b setup here.0 xs new ys) is (next setup here.0 here.2) in (
        here.0,
        record {
          each = subst (λ (l : List Settling). SettleTo setup s l here.0) (sym there.1) here.1;
          few = subst (λ (l : List Settling). length l ≤ most_steps) (sym there.1) few;
          rest = inl there.0;
        },
        there.2,
      )

  -- there were as many as may be
  pub settled_most : (first run : PlanState P) (xs : List Settling) → HaveSettled first xs run → length xs ≡ most_steps → SettlesFrom rule first xs run
  settled_most first run xs far most setup s shows =
      let here = far setup s shows in
      (here.0, record { each = here.1; few = omega (arith, most); rest = inr most }, here.2)
