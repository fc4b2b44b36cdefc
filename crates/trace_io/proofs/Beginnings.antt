-- What is appended is a beginning of a text.
use Rattle.std.proofs.Common.{◌≡◌, ℕ, List, [], ◌++◌, take, drop, Option, Some, None, refl, sym, ◌∙◌, ap, append_assoc, append-nil, take-append-drop}
use Rattle.std.specs.Io.KnownBytes.{Appends, Keeps}
use Rattle.trace_io.specs.Output.{AppendsAllBut, AppendsSome}

-- what is appended, and then appended to
pub joined : (old mid new : Option (List ℕ)) (xs ys zs : List ℕ) → zs ≡ xs ++ ys → Appends old mid xs → Appends mid new ys → Appends old new zs
joined None mid new xs ys zs same first second = tt
joined (Some os) None new xs ys zs same first second = absurd first
joined (Some os) (Some ms) None xs ys zs same first second = absurd second
joined (Some os) (Some ms) (Some ns) xs ys zs same first second =
    second ∙ ap (λ bs. bs ++ ys) first ∙ append_assoc os xs ys ∙ ap (λ bs. os ++ bs) (sym same)

-- nothing is appended
pub kept : (old : Option (List ℕ)) → Appends old old []
kept None = tt
kept (Some xs) = sym (append-nil xs)

-- what is appended stays
pub stays : (old mid new : Option (List ℕ)) (xs : List ℕ) → Appends old mid xs → Keeps mid new → Appends old new xs
stays None mid new xs first same = tt
stays (Some os) None new xs first same = absurd first
stays (Some os) (Some ms) None xs first same = absurd same
stays (Some os) (Some ms) (Some ns) xs first same = same ∙ first

-- nothing is a beginning of each text
pub none_yet : (text : List ℕ) (old : Option (List ℕ)) → AppendsSome text old old
none_yet text old = ([], (text, refl), kept old)

-- the whole is a beginning of itself
pub all_of : (text : List ℕ) (old new : Option (List ℕ)) → Appends old new text → AppendsSome text old new
all_of text old new whole = (text, ([], sym (append-nil text)), whole)

-- a beginning of what stands in front is one of the whole
pub some_of_front : (text front rest : List ℕ) (old new : Option (List ℕ)) → text ≡ front ++ rest → AppendsSome front old new → AppendsSome text old new
some_of_front text front rest old new split some =
    (some.0, (some.1.0 ++ rest, split ∙ ap (λ bs. bs ++ rest) some.1.1 ∙ append_assoc some.0 some.1.0 rest), some.2)

-- what stands in front was appended, and then a beginning of the rest
pub some_behind : (text front rest : List ℕ) (old mid new : Option (List ℕ)) → text ≡ front ++ rest → Appends old mid front → AppendsSome rest mid new → AppendsSome text old new
some_behind text front rest old mid new split whole some =
    (front ++ some.0, (some.1.0, split ∙ ap (λ bs. front ++ bs) some.1.1 ∙ sym (append_assoc front some.0 some.1.0)), joined old mid new front some.0 (front ++ some.0) refl whole some.2)

-- so many more of the rest
pub written_further : (text rest behind : List ℕ) (count : ℕ) (old mid new : Option (List ℕ)) → AppendsAllBut text rest old mid → behind ≡ drop count rest
    → Appends mid new (take count rest) → AppendsAllBut text behind old new
written_further text rest behind count old mid new so_far behind_it more = (
  so_far.0 ++ take count rest,
  so_far.1
      ∙ ap (λ l. so_far.0 ++ l) (sym (take-append-drop count rest))
      ∙ sym (append_assoc so_far.0 (take count rest) (drop count rest))
      ∙ ap (λ l. (so_far.0 ++ take count rest) ++ l) (sym behind_it),
  joined old mid new so_far.0 (take count rest) (so_far.0 ++ take count rest) refl so_far.2 more,
)

-- a text without its rest, and then the rest
pub whole : (text rest : List ℕ) (old mid new : Option (List ℕ)) → AppendsAllBut text rest old mid → Appends mid new rest → Appends old new text
whole text rest old mid new so_far more = joined old mid new so_far.0 rest text so_far.1 so_far.2 more

-- a text without its rest, and then the rest and a line, without a rest of its own
pub gathered_further : (text rest line left : List ℕ) (old mid new : Option (List ℕ)) → AppendsAllBut text rest old mid → AppendsAllBut (rest ++ line) left mid new
    → AppendsAllBut (text ++ line) left old new
gathered_further text rest line left old mid new so_far more = (
  so_far.0 ++ more.0,
  ap (λ bs. bs ++ line) so_far.1
      ∙ append_assoc so_far.0 rest line
      ∙ ap (λ bs. so_far.0 ++ bs) more.1
      ∙ sym (append_assoc so_far.0 more.0 left),
  joined old mid new so_far.0 more.0 (so_far.0 ++ more.0) refl so_far.2 more.2,
)

-- a text without its rest, and then a beginning of the rest and a line
pub some_further : (text rest line : List ℕ) (old mid new : Option (List ℕ)) → AppendsAllBut text rest old mid → AppendsSome (rest ++ line) mid new
    → AppendsSome (text ++ line) old new
some_further text rest line old mid new so_far more =
    some_behind (text ++ line) so_far.0 (rest ++ line) old mid new (ap (λ bs. bs ++ line) so_far.1 ∙ append_assoc so_far.0 rest line) so_far.2 more

-- nothing is written yet
pub all_left : (text : List ℕ) (old : Option (List ℕ)) → AppendsAllBut text text old old
all_left text old = ([], refl, kept old)
