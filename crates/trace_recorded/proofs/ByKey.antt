-- What a table has of a number behind one more value, and what the line of a request has behind one more answer.
use Rattle.std.proofs.Common.{◌≡◌, ℕ, ◌<◌, ◌==◌, Bool, true, false, cond, List, [], ◌∷◌, ◌++◌, Some, None, refl, ap, sym, ◌∙◌, append_assoc, append-nil, arith}
use Rattle.std.specs.Prelude.{Option, nat_lt, if◌then◌else◌}
use Rattle.std.specs.List.{flat_map}
use Rattle.std.specs.Option.{unwrap_or}
use Rattle.std.specs.Ordering.{is_eq, match_ordering, nat_cmp}
use Rattle.std.specs.declared.cmp.Ordering.{Ordering}
use Rattle.std.specs.declared.cmp.Ordering.TheVariants.{Less, Equal, Greater}
use Rattle.std.specs.Map.{lookup, remove_entry}
use Rattle.std.specs.BTreeMap.{insert_entry, is_at}
use Rattle.std.proofs.lemmas.Bool.{eqb-true, ltb-true, ne_eqb, eq-eqb}
use Rattle.trace_recorded.specs.declared.answer.RecordedAnswer.{RecordedAnswer}
use Rattle.trace_recorded.specs.declared.control_lines.ControlLines.{ControlLines}
use Rattle.trace_recorded.specs.declared.request.AnsweredRequest.{AnsweredRequest}
use Rattle.trace_recorded.specs.Folds.{after}
use Rattle.trace_recorded.specs.Laws.{LinesHaveTheAnswers, answer_for, line_of}
use Rattle.trace_recorded.specs.Keys.{key_of}
use Rattle.trace_recorded.specs.Requests.{control_lines, no_lines, with_answered, with_more}
use Rattle.trace_recorded.specs.Tables.{value_at, with_value, without}

-- numbers that compare equal are the same
compared : (q k : ℕ) → is_eq (nat_cmp q k) ≡ (q == k)
compared q k = by_less (nat_lt q k) refl
  where
    by_equal : (c : Bool) → is_eq (cond c Equal Greater) ≡ c
    by_equal true = refl
    by_equal false = refl

    by_less : (b : Bool) → nat_lt q k ≡ b → is_eq (cond b Less (cond (q == k) Equal Greater)) ≡ (q == k)
    by_less true e = let less : q < k = ltb-true q k e in sym (ne_eqb q k (λ z. omega (arith, z, less)))
    by_less false e = by_equal (q == k)

itself : (k : ℕ) → is_eq (nat_cmp k k) ≡ true
itself k = compared k k ∙ eq-eqb k k refl

other : (q k : ℕ) → (q == k) ≡ false → is_eq (nat_cmp q k) ≡ false
other q k e = compared q k ∙ e

same : (k x : ℕ) → is_eq (nat_cmp k x) ≡ true → k ≡ x
same k x e = eqb-true k x (sym (compared k x) ∙ e)

-- the value that was put
pub put_here : {V : Type 0} (k : ℕ) (v : V) (es : List (ℕ × V)) → value_at k (with_value k v es) ≡ Some v
put_here k v [] = ap (λ b. cond b (Some v) None) (itself k)
put_here k v (e ∷ es) = by_order (put_here k v es) (nat_cmp k e.0) refl
  where
    by_order : value_at k (with_value k v es) ≡ Some v → (o : Ordering) → nat_cmp k e.0 ≡ o → lookup (is_at (nat_cmp k)) (match_ordering o ((k, v) ∷ e ∷ es) ((e.0, v) ∷ es) (e ∷ insert_entry nat_cmp es k v)) ≡ Some v
    by_order ih Less h = ap (λ b. cond b (Some v) (value_at k (e ∷ es))) (itself k)
    by_order ih Equal h = ap (λ o. cond (is_eq o) (Some v) (value_at k es)) h
    by_order ih Greater h = ap (λ o. cond (is_eq o) (Some e.1) (value_at k (with_value k v es))) h ∙ ih

-- those of other numbers stay
pub put_apart : {V : Type 0} (q k : ℕ) (v : V) (es : List (ℕ × V)) → (q == k) ≡ false → value_at q (with_value k v es) ≡ value_at q es
put_apart q k v [] n = ap (λ b. cond b (Some v) None) (other q k n)
put_apart q k v (e ∷ es) n = by_order (put_apart q k v es n) (nat_cmp k e.0) refl
  where
    by_order : value_at q (with_value k v es) ≡ value_at q es → (o : Ordering) → nat_cmp k e.0 ≡ o → lookup (is_at (nat_cmp q)) (match_ordering o ((k, v) ∷ e ∷ es) ((e.0, v) ∷ es) (e ∷ insert_entry nat_cmp es k v)) ≡ value_at q (e ∷ es)
    by_order ih Less h = ap (λ b. cond b (Some v) (value_at q (e ∷ es))) (other q k n)
    by_order ih Equal h =
        let is : k ≡ e.0 = same k e.0 (ap is_eq h) in
        let past : is_eq (nat_cmp q e.0) ≡ false = ap (λ x. is_eq (nat_cmp q x)) (sym is) ∙ other q k n in
        ap (λ b. cond b (Some v) (value_at q es)) past ∙ sym (ap (λ b. cond b (Some e.1) (value_at q es)) past)
    by_order ih Greater h = ap (λ l. cond (is_eq (nat_cmp q e.0)) (Some e.1) l) ih

pub taken_apart : {V : Type 0} (q k : ℕ) (es : List (ℕ × V)) → (q == k) ≡ false → value_at q (without k es) ≡ value_at q es
taken_apart q k [] n = refl
taken_apart q k (e ∷ es) n = by_test (taken_apart q k es n) (is_eq (nat_cmp k e.0)) refl
  where
    by_test : value_at q (without k es) ≡ value_at q es → (b : Bool) → is_eq (nat_cmp k e.0) ≡ b → lookup (is_at (nat_cmp q)) (cond b es (e ∷ remove_entry (is_at (nat_cmp k)) es)) ≡ value_at q (e ∷ es)
    by_test ih true h =
        let is : k ≡ e.0 = same k e.0 h in
        let past : is_eq (nat_cmp q e.0) ≡ false = ap (λ x. is_eq (nat_cmp q x)) (sym is) ∙ other q k n in
        sym (ap (λ b. cond b (Some e.1) (value_at q es)) past)
    by_test ih false h = ap (λ l. cond (is_eq (nat_cmp q e.0)) (Some e.1) l) ih

-- the line of a key behind one more answer
here : (r : AnsweredRequest) (lines : ControlLines) (o : Option (List RecordedAnswer)) → value_at (key_of r.setup) lines.answers ≡ o → line_of (key_of r.setup) (with_more r o lines) ≡ line_of (key_of r.setup) lines ++ r.answer ∷ []
here r lines None e =
    ap (λ v. unwrap_or v []) (put_here (key_of r.setup) (r.answer ∷ []) (without (key_of r.setup) lines.answers))
    ∙ sym (ap (λ v. unwrap_or v [] ++ r.answer ∷ []) e)
here r lines (Some before) e =
    ap (λ v. unwrap_or v []) (put_here (key_of r.setup) (before ++ r.answer ∷ []) (without (key_of r.setup) lines.answers))
    ∙ sym (ap (λ v. unwrap_or v [] ++ r.answer ∷ []) e)

apart : (key : ℕ) (r : AnsweredRequest) (lines : ControlLines) (o : Option (List RecordedAnswer)) → (key == key_of r.setup) ≡ false → line_of key (with_more r o lines) ≡ line_of key lines
apart key r lines None n =
    ap (λ v. unwrap_or v []) (put_apart key (key_of r.setup) (r.answer ∷ []) (without (key_of r.setup) lines.answers) n ∙ taken_apart key (key_of r.setup) lines.answers n)
apart key r lines (Some before) n =
    ap (λ v. unwrap_or v []) (put_apart key (key_of r.setup) (before ++ r.answer ∷ []) (without (key_of r.setup) lines.answers) n ∙ taken_apart key (key_of r.setup) lines.answers n)

one_answer : (key : ℕ) (r : AnsweredRequest) (lines : ControlLines) → line_of key (with_answered r lines) ≡ line_of key lines ++ answer_for key r
unfolding with_answered
one_answer key r lines = by_test (key == key_of r.setup) refl
  where
    by_test : (b : Bool) → (key == key_of r.setup) ≡ b → line_of key (with_more r (value_at (key_of r.setup) lines.answers) lines) ≡ line_of key lines ++ (if b then r.answer ∷ [] else [])
    by_test true e =
        let is : key ≡ key_of r.setup = eqb-true key (key_of r.setup) e in
        ap (λ q. line_of q (with_more r (value_at (key_of r.setup) lines.answers) lines)) is
        ∙ (here r lines (value_at (key_of r.setup) lines.answers) refl
        ∙ sym (ap (λ q. line_of q lines ++ r.answer ∷ []) is))
    by_test false e = apart key r lines (value_at (key_of r.setup) lines.answers) e ∙ sym (append-nil (line_of key lines))

all_answers : (key : ℕ) (answered : List AnsweredRequest) (lines : ControlLines) → line_of key (after with_answered lines answered) ≡ line_of key lines ++ flat_map (answer_for key) answered
unfolding after
all_answers key [] lines = sym (append-nil (line_of key lines))
all_answers key (r ∷ rs) lines =
    all_answers key rs (with_answered r lines)
    ∙ (ap (λ l. l ++ flat_map (answer_for key) rs) (one_answer key r lines)
    ∙ append_assoc (line_of key lines) (answer_for key r) (flat_map (answer_for key) rs))

pub lines_have_the_answers : LinesHaveTheAnswers
lines_have_the_answers key answered = all_answers key answered no_lines
