-- A step more each turn, until nothing is to be done.
use Rattle.std.proofs.Common.{◌≡◌, ◌+◌, ℕ, suc, Bool, true, false, not, refl, sym, ◌∙◌, subst, arith, rules}
use Rattle.tirnouch_c.specs.Settling.{Advances}
use Rattle.tirnouch_c.proofs.Progress.{Working, no_step_more, no_step_yet, not_so, one_step_more, settled}
use Rattle.tirnouch_c.proofs.settling.settle.Goals as goal

pub loop-done-init : goal.loop-done-init
loop-done-init c = no_step_yet c.args.packets c.args.session.now

pub returns-then-not-advance : goal.returns-then-not-advance
returns-then-not-advance c =
    let off : c.advance.result ≡ false = search rules in
    let none : Advances c.args.packets false c.loop-done.session.core c.advance.new.core = subst (λ (b : Bool). Advances c.args.packets b c.loop-done.session.core c.advance.new.core) off c.advance.ensures in
    settled c.args.packets true c.args.most c.loop-done.done c.args.session.now c.loop-done.session _ c.new.result c.loop-done.invariant
    (no_step_more c.args.packets c.loop-done.done c.args.session.now c.loop-done.session _ c.loop-done.invariant none (refl, refl)) (omega arith) (λ _ setup w shows. sym (none.made_is setup w shows)) (λ is. absurd cc) c.new.ensures

pub loop-done-preserved : goal.loop-done-preserved
loop-done-preserved c =
    let on : c.advance.result ≡ true = search rules in
    let one : Advances c.args.packets true c.loop-done.session.core c.advance.new.core = subst (λ (b : Bool). Advances c.args.packets b c.loop-done.session.core c.advance.new.core) on c.advance.ensures in
    let next : c.loop-done.done + 1 ≡ suc c.loop-done.done = omega arith in
    one_step_more c.args.packets c.loop-done.done (c.loop-done.done + 1) c.args.session.now c.loop-done.session _ c.loop-done.invariant next one (refl, refl)

pub returns : goal.returns
returns c =
    let all : c.loop-done.done ≡ c.args.most = omega arith in
    let so_far : Working c.args.packets c.args.most c.args.session.now c.loop-done.session = subst (λ (n : ℕ). Working c.args.packets n c.args.session.now c.loop-done.session) all c.loop-done.invariant in
    settled c.args.packets (not c.is_left-left.result) c.args.most c.args.most c.args.session.now c.loop-done.session c.loop-done.session c.new-2.result so_far so_far (omega arith)
    (λ is setup w shows. sym (c.is_left-left.ensures setup w shows) ∙ not_so c.is_left-left.result is) (λ _. refl) c.new-2.ensures
