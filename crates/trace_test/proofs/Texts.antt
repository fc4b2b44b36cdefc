-- Texts, as they are lent.
use Rattle.std.proofs.Common.{◌≡◌, ◌+◌, ℕ, Bool, true, false, List, [], ◌∷◌, drop, Bor, cond, refl, sym, ap, ◌∙◌}
use Rattle.std.specs.List.{prefix_len}
use Rattle.std.proofs.lemmas.List.{drop-map}
use Rattle.trace_test.specs.Comparison.{texts_of}

-- as many pass in front where each is read
pub texts-front : (p : List ℕ → Bool) (texts : List (Bor (List ℕ))) → prefix_len (λ (text : Bor (List ℕ)). p text.now) texts ≡ prefix_len p (texts_of texts)
texts-front p [] = refl
texts-front p (text ∷ texts) = ap (λ n. cond (p text.now) (1 + n) 0) (texts-front p texts)

-- and what stands behind is the same
pub texts-past : (p : List ℕ → Bool) (texts : List (Bor (List ℕ))) → texts_of (drop (prefix_len (λ (text : Bor (List ℕ)). p text.now) texts) texts) ≡ drop (prefix_len p (texts_of texts)) (texts_of texts)
texts-past p texts =
    sym (drop-map (λ (text : Bor (List ℕ)). text.now) (prefix_len (λ (text : Bor (List ℕ)). p text.now) texts) texts) ∙ ap (λ n. drop n (texts_of texts)) (texts-front p texts)
