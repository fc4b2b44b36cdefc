-- The lines of a text, one after another.
use Rattle.std.proofs.Common.{◌≡◌, ℕ, ◌+◌, ◌<◌, ◌≤◌, List, length, get_or, drop, Option, None, Result, Ok, Err, sym, ◌∙◌, ap, subst, arith}
use Rattle.std.proofs.lemmas.List.{at_drop_more, at_drop_all, get_or-map, length-map}
use denote.Ref.{Bor}
use Rattle.usb_scripttext.specs.declared.fault.LineFault.{LineFault}
use Rattle.usb_scripttext.specs.declared.fault.LineFault.TheVariants.{Bad, Memory}
use Rattle.usb_scripttext.specs.declared.problem.Problem.{Problem}
use Rattle.usb_scripttext.specs.Words.{words_of}
use Rattle.usb_scripttext.specs.Results.{Becomes, AnswersAs, fault_at}
use Rattle.usb_devicetext.specs.Lines.{from_lines, taken_at}

-- one line of those that are left
pub lines-more : {S : Type 0} (f : S → List ℕ → Option S) (at : ℕ) (s : S) (texts : List (List ℕ)) (i : ℕ) (text : List ℕ)
    → (i < length texts) × (text ≡ get_or texts i text)
    → from_lines f at s (drop i texts) ≡ taken_at at (λ t. from_lines f (at + 1) t (drop (i + 1) texts)) (f s text)
unfolding from_lines
lines-more f at s texts i text here =
    at_drop_more (from_lines f at s) texts i text here.0
    ∙ ap (λ line. taken_at at (λ t. from_lines f (at + 1) t (drop (i + 1) texts)) (f s line)) (sym here.1)

-- none is left
pub lines-end : {S : Type 0} (f : S → List ℕ → Option S) (at : ℕ) (s : S) (texts : List (List ℕ)) (i : ℕ) → length texts ≤ i → from_lines f at s (drop i texts) ≡ Ok s
unfolding from_lines
lines-end f at s texts i end = at_drop_all (from_lines f at s) texts i end

-- the same of lines that are kept as slices
pub line-more : {S : Type 0} (f : S → List ℕ → Option S) (at : ℕ) (s : S) (lines : List (Bor (List ℕ))) (i : ℕ) (d : Bor (List ℕ)) → i < length lines
    → from_lines f at s (drop i (words_of lines)) ≡ taken_at at (λ t. from_lines f (at + 1) t (drop (i + 1) (words_of lines))) (f s (get_or lines i d).now)
line-more f at s lines i d low =
    let long = length-map lines (λ (line : Bor (List ℕ)). line.now) in
    let text : List ℕ = (get_or lines i d).now in
    lines-more f at s (words_of lines) i text (omega (arith, long, low), sym (get_or-map (λ (line : Bor (List ℕ)). line.now) lines i d text low))

pub line-end : {S : Type 0} (f : S → List ℕ → Option S) (at : ℕ) (s : S) (lines : List (Bor (List ℕ))) (i : ℕ) → length lines ≤ i → from_lines f at s (drop i (words_of lines)) ≡ Ok s
line-end f at s lines i end = lines-end f at s (words_of lines) i (omega (arith, length-map lines (λ (line : Bor (List ℕ)). line.now), end))

-- a bad line says nothing
pub refused : {A S : Type 0} (r : Result A LineFault) (fault : LineFault) (problem : Problem) (said : Option S) (old new : S)
    → Becomes r said old new → r ≡ Err fault → fault ≡ Bad problem → said ≡ None
refused {A} r fault problem said old new becomes is bad =
    let both : (said ≡ None) × (new ≡ old) = subst (λ (x : Result A LineFault). Becomes x said old new) (is ∙ ap Err bad) becomes in
    both.0

-- a bad line's fault is that of the text
pub faulty : {A S : Type 0} (r : Result A LineFault) (fault : LineFault) (said : Option S) (old new : S) (at : ℕ)
    (further : S → Result S ℕ) (whole : Result S ℕ)
    → Becomes r said old new → r ≡ Err fault → whole ≡ taken_at at further said → AnswersAs {T = S} (Err (fault_at at fault)) whole
faulty {A} {S} r (Bad problem) said old new at further whole becomes is all =
    let both : (said ≡ None) × (new ≡ old) = subst (λ (x : Result A LineFault). Becomes x said old new) is becomes in
    all ∙ ap (taken_at at further) both.0
faulty r Memory said old new at further whole becomes is all = tt
