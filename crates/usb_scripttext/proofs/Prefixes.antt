-- What stands behind the beginning of a word.
use Rattle.std.proofs.Common.{◌≡◌, ℕ, true, false, List, length, drop, Option, Some, None, sym, ◌∙◌, ap, subst}
use denote.Ref.{Bor}
use Rattle.std.specs.Option.{MatchOption, option_copied}
use Rattle.std.specs.Str.{IsCharBoundary}
use Rattle.std.specs.Str.Pattern.{FindsTextPrefix, StripsPrefix}
use Rattle.std.proofs.lemmas.Bool.{cond-true, cond-false}
use Rattle.std.proofs.lemmas.Str.Pattern.{starts_text}
use Rattle.usb_scripttext.specs.Prefix.{behind}

-- it is what `strip_prefix` gives
pub strips : (begin word : List ℕ) (r : Option (Bor (List ℕ)))
    → MatchOption r (FindsTextPrefix begin word None) (λ x. StripsPrefix (FindsTextPrefix begin) word x.now)
    → option_copied r ≡ behind begin word
strips begin word None lacks = sym (cond-false _ _ _ (sym (starts_text false begin word lacks)))
strips begin word (Some x) has =
    let at : has.0 ≡ length begin = has.1.0 in
    let boundary : IsCharBoundary word has.0 = subst (λ (k : ℕ). IsCharBoundary word k) (sym at) has.1.2 in
    ap Some (has.2 ∙ ap (λ k. drop k word) at)
    ∙ sym (cond-true _ _ _ (sym (starts_text true begin word (has.0, has.1, boundary))))
