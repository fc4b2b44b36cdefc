use Rattle.std.proofs.Common.{◌≡◌, ℕ, ◌+◌, [], ◌∷◌, ◌++◌, sym, ap, ◌∙◌, refl, rules, add-one}
use Rattle.usb_scripttext.specs.Devices.{empty_scripts}
use Rattle.usb_scripttext.proofs.devices.empty_scripts.Goals as goal

-- one more empty script
empty-more : (n : ℕ) → empty_scripts (n + 1) ≡ empty_scripts n ++ [] ∷ []
unfolding empty_scripts
empty-more n = rw add-one refl

pub loop-init : goal.loop-init
unfolding empty_scripts
loop-init c = search rules

pub loop-preserved : goal.loop-preserved
loop-preserved c =
    c.in_ok-push.ensures.items
    ∙ ap (λ s. c.loop.scripts.items ++ s ∷ []) c.new.ensures
    ∙ ap (λ xs. xs ++ [] ∷ []) c.loop.invariant
    ∙ sym (empty-more c.loop.counter)
