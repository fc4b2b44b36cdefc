-- The places of a tick are those that the journal has more.
use Rattle.std.proofs.Common.{◌≡◌, Result, Ok, arith, length, drop, max, ap, sym, subst, ◌∙◌, ◌++◌}
use Rattle.std.proofs.lemmas.List.{take-append-drop}
use Rattle.std.specs.Prelude.{IfOk, OnOk}
use Rattle.usb_library.proofs.library.Library.tick.Goals as goal

-- what holds of a result that is there
there : {X E : Type 0} {A : Type 0} (r : Result X E) (x : X) → r ≡ Ok x → OnOk r A → A
there {A = A} r x e a = subst (λ s. OnOk s A) e a

it_is : {X E : Type 0} (P : X → Type 0) (r : Result X E) (x : X) → r ≡ Ok x → IfOk r P → P x
it_is P r x e a = subst (λ s. IfOk s P) e a

pub returns-clause-ticked : goal.returns-clause-ticked
returns-clause-ticked g c =
    let journal = c.behind-lock.inside.book.journal in
    let after = c.tick-made.new.self.journal in
    let e = c.tick-made.ensures in
    let is : c.tick-made.result ≡ Ok c.in_ok-receipts.receipts = sym c.counted.ensures.given ∙ c.in_ok-receipts.was in
    let same = there c.tick-made.result c.in_ok-receipts.receipts is c.counted.ensures.made in
    let saw = there c.tick-made.result c.in_ok-receipts.receipts is e.saw in record {
      before = journal;
      moment = max c.behind-lock.inside.book.moment c.args.now;
      places = drop (length journal) after;
      late = omega arith;
      each = rw (← e.library, ← c.caller.view_is) (there c.tick-made.result c.in_ok-receipts.receipts is e.steps);
      receipts = it_is _ c.tick-made.result c.in_ok-receipts.receipts is e.receipts;
      own = rw (← c.caller.view_is) (ap (λ x. x.own) same ∙ there c.tick-made.result c.in_ok-receipts.receipts is e.own);
      number = rw (← c.caller.view_is) (ap (λ x. x.number) same ∙ there c.tick-made.result c.in_ok-receipts.receipts is e.number);
      missed = rw (← c.caller.view_is) (ap (λ x. x.missed) same);
      behind = there c.tick-made.result c.in_ok-receipts.receipts is e.behind;
      began = rw (← c.caller.view_is) saw.0;
      saw = ap (λ x. x.seen) same ∙ (saw.1 ∙ (sym (take-append-drop (length journal) after) ∙ ap (λ l. l ++ drop (length journal) after) e.begins));
    }
