-- The line joins the entry of its endpoint, or is the last.
use Rattle.std.proofs.Common.{◌≡◌, ℕ, List, get_or, set, Some, None, position, Result, Ok, Err, IfOk, subst, sym, ap, ◌∙◌}
use Rattle.std.proofs.lemmas.List.Quantifiers.{position-Some}
use Rattle.trace_scenario.specs.declared.expectations.ExpectedPackets.{ExpectedPackets}
use Rattle.trace_judged.specs.Expected.{expected_at}
use Rattle.trace_judged.specs.Gathered.{HasEndpointsOnce, is_of}
use Rattle.trace_judged.proofs.Entries.{and_more, apart_from_none, joined_expected, joined_once, last_once}
use Rattle.trace_judged.proofs.gathered.put_line.Goals as goal

-- what follows from what holds where it went well holds there too
further : {T E P Q : Type 0} (r : Result T E) → (P → Q) → IfOk r (λ _. P) → IfOk r (λ _. Q)
further (Ok x) f p = f p
further (Err e) f p = tt

pub returns-in-Some : goal.returns-in-Some
returns-in-Some c =
    let items : List ExpectedPackets = c.args.entries.now.items in
    let line : ExpectedPackets = c.args.line in
    let entry : ExpectedPackets = c.index_mut.result.now in
    let place : ℕ = c.in-Some.place in
    let found : position (is_of line.dev line.ep) items ≡ Some place = ap (position (is_of line.dev line.ep)) (sym c.as_slice.ensures.value) ∙ (sym c.place_of.ensures ∙ c.in-Some.is) in
    let at = position-Some (is_of line.dev line.ep) items place entry found in
    let there : and_more entry line.packets ≡ and_more (get_or items place entry) line.packets = ap (λ (e : ExpectedPackets). and_more e line.packets) c.index_mut.ensures.value in
    record {
      once =
          further c.put_behind.result
          (λ behind. subst (λ (e : ExpectedPackets). HasEndpointsOnce (set items place e)) (sym (behind ∙ there)) (joined_once line entry items place at.0 c.requires))
          c.put_behind.ensures;
      expected =
          further c.put_behind.result
          (λ behind dev ep. ap (λ (e : ExpectedPackets). expected_at (set items place e) dev ep) (behind ∙ there) ∙ joined_expected line entry items place at.0 at.1 c.requires dev ep)
          c.put_behind.ensures;
    }

pub returns-in_ok-push-in-None-clause-once : goal.returns-in_ok-push-in-None-clause-once
returns-in_ok-push-in-None-clause-once c =
    let items : List ExpectedPackets = c.args.entries.now.items in
    let line : ExpectedPackets = c.args.line in
    let none : position (is_of line.dev line.ep) items ≡ None = ap (position (is_of line.dev line.ep)) (sym c.as_slice.ensures.value) ∙ (sym c.place_of.ensures ∙ c.in-None.is) in
    subst HasEndpointsOnce (sym c.in_ok-push-in-None.ensures.items) (last_once items line c.requires (apart_from_none line.dev line.ep items none))
