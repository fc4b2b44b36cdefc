-- Files are tested one behind the other.
use Rattle.std.proofs.Common.{◌≡◌, ◌∙◌, ◌==◌, ◌+◌, ◌<◌, ◌≤◌, ◌++◌, false, ℕ, List, [], ◌∷◌, get_or, length, map, take, take_all, Result, Ok, Err, OnOk, ap, refl, subst, sym, arith}
use Rattle.std.proofs.lemmas.List.{take_more}
use Rattle.trace_suite.specs.Tests.{CountsEach, CountsFile, CountsFiles, CountsFolder, CountsPath, CountsPaths}
use Rattle.trace_suite.specs.declared.testing.Counting.{Counting}
use Rattle.trace_suite.specs.Tests as T

-- what follows from what holds where it went well holds there too
pub further : {X E P Q : Type 0} (r : Result X E) → (P → Q) → OnOk r P → OnOk r Q
further (Ok x) f p = f p
further (Err e) f p = tt

-- none yet
pub none_yet : (P : Type 0) (counts : Counting → Counting → Type 0) (t : Counting) → CountsEach {P = P} counts [] t t
unfolding CountsEach
none_yet P counts t = refl

-- one more behind others
put_behind : {P : Type 0} (counts : Counting → Counting → Type 0) (ps : List P) (p : P) (old mid new : Counting) → CountsEach counts ps old mid → counts mid new
    → CountsEach counts (ps ++ p ∷ []) old new
unfolding CountsEach
put_behind counts [] p old mid new same counted = (new, subst (λ (t : Counting). counts t new) same counted, refl)
put_behind counts (q ∷ ps) p old mid new so_far counted = (so_far.0, so_far.1, put_behind counts ps p so_far.0 mid new so_far.2 counted)

-- the wish for them stays
kept_by_file : (old new : Counting) → CountsFile old new → old.is_update ≡ false → new.is_update ≡ false
kept_by_file old new (T.CountsFile.read text (T.CountsTest.tested outcome came is)) none = ap (λ (t : Counting). t.is_update) is ∙ none
kept_by_file old new (T.CountsFile.read text (T.CountsTest.ended fault of is)) none = ap (λ (t : Counting). t.is_update) is ∙ none
kept_by_file old new (T.CountsFile.unread is) none = ap (λ (t : Counting). t.is_update) is ∙ none

-- so it does behind some
kept_by : {P : Type 0} (counts : Counting → Counting → Type 0) (ps : List P) (old new : Counting)
    → ((t u : Counting) → counts t u → t.is_update ≡ false → u.is_update ≡ false) → CountsEach counts ps old new → old.is_update ≡ false → new.is_update ≡ false
unfolding CountsEach
kept_by counts [] old new each same none = ap (λ (t : Counting). t.is_update) same ∙ none
kept_by counts (p ∷ ps) old new each counted none = kept_by counts ps counted.0 new each counted.2 (each old counted.0 counted.1 none)

kept_by_path : (old new : Counting) → CountsPath old new → old.is_update ≡ false → new.is_update ≡ false
kept_by_path old new (T.CountsPath.file counted) none = kept_by_file old new counted none
kept_by_path old new (T.CountsPath.folder (T.CountsFolder.found files some counted)) none = kept_by CountsFile files old new kept_by_file counted none
kept_by_path old new (T.CountsPath.folder (T.CountsFolder.unfound is)) none = ap (λ (t : Counting). t.is_update) is ∙ none

-- a turn of a loop over paths or files: one more of them
one_more : {P : Type 0} (counts : Counting → Counting → Type 0) (ps : List P) (i : ℕ) (old mid new : Counting)
    → ((t u : Counting) → counts t u → t.is_update ≡ false → u.is_update ≡ false) → i < length ps
    → (old.is_update ≡ false → CountsEach counts (take i ps) old mid × (mid.is_update ≡ false)) → (mid.is_update ≡ false → counts mid new)
    → old.is_update ≡ false → CountsEach counts (take (i + 1) ps) old new × (new.is_update ≡ false)
one_more counts [] i old mid new each within before turn none = absurd (omega (arith, within))
one_more counts (p ∷ ps) i old mid new each within before turn none =
    let so_far = before none in
    let counted = turn so_far.1 in (
      subst (λ (qs : List _). CountsEach counts qs old new) (sym (take_more (p ∷ ps) i p within)) (put_behind counts (take i (p ∷ ps)) (get_or (p ∷ ps) i p) old mid new so_far.0 counted),
      each mid new counted so_far.1,
    )

pub a_file_more : {P : Type 0} (ps : List P) (i : ℕ) (old mid new : Counting) → i < length ps
    → (old.is_update ≡ false → CountsFiles (take i ps) old mid × (mid.is_update ≡ false)) → (mid.is_update ≡ false → CountsFile mid new)
    → old.is_update ≡ false → CountsFiles (take (i + 1) ps) old new × (new.is_update ≡ false)
a_file_more ps i old mid new within before turn = one_more CountsFile ps i old mid new kept_by_file within before turn

pub a_path_more : {P : Type 0} (ps : List P) (i : ℕ) (old mid new : Counting) → i < length ps
    → (old.is_update ≡ false → CountsPaths (take i ps) old mid × (mid.is_update ≡ false)) → (mid.is_update ≡ false → CountsPath mid new)
    → old.is_update ≡ false → CountsPaths (take (i + 1) ps) old new × (new.is_update ≡ false)
a_path_more ps i old mid new within before turn = one_more CountsPath ps i old mid new kept_by_path within before turn

-- behind the loop it is all of them
pub all_of_them : {P : Type 0} (counts : Counting → Counting → Type 0) (ps : List P) (i : ℕ) (old new : Counting) → length ps ≤ i → CountsEach counts (take i ps) old new → CountsEach counts ps old new
all_of_them counts ps i old new past = subst (λ (qs : List _). CountsEach counts qs old new) (take_all i ps past)

-- files by other names
renamed : {P Q : Type 0} (counts : Counting → Counting → Type 0) (name : P → Q) (ps : List P) (old new : Counting) → CountsEach counts ps old new → CountsEach counts (map name ps) old new
unfolding CountsEach
renamed counts name [] old new same = same
renamed counts name (p ∷ ps) old new counted = (counted.0, counted.1, renamed counts name ps counted.0 new counted.2)

-- those of a folder
pub of_folder : {P : Type 0} (name : P → List ℕ) (files : List P) (old new : Counting) → (length files == 0) ≡ false → CountsFiles files old new → CountsFolder old new
of_folder name [] old new some counted = absurd cc
of_folder name (file ∷ files) old new some counted = T.CountsFolder.found (map name (file ∷ files)) (λ none. absurd cc) (renamed CountsFile name (file ∷ files) old new counted)
