-- Texts that say nothing in a scenario made of the other lines of a text: lines of comments.
use Rattle.std.proofs.Common.{◌≡◌, ℕ, ◌+◌, ◌==◌, not, List, [], ◌∷◌, ◌++◌, refl, ap, sym, ◌∙◌, append_assoc}
use Rattle.std.specs.List.{filter, flat_map, slice_split}
use Rattle.std.proofs.lemmas.List.Splits.{slice_split_at}
use Rattle.trace_scenario.specs.declared.scenario.Scenario.{Scenario}
use Rattle.trace_scenario.specs.Scenario.{scenario_from}
use Rattle.trace_descriptor.specs.Laws.{others_of, says_identity}
use Rattle.trace_descriptor.proofs.Plain.{Plain, none_of, plain_join, plain_push}

-- the lines of a text
abbrev pub lines : List ℕ → List (List ℕ)
lines text = slice_split (λ b. b == 10) text

-- those that say no identity
abbrev pub others : List (List ℕ) → List (List ℕ)
others texts = filter (λ line. not (says_identity line)) texts

-- in front of any text it changes nothing but the numbers of lines
pub record Quiet (t : List ℕ) : Type 0 where
  pub goes : (at : ℕ) (s : Scenario) (more : List ℕ) → (n : ℕ) × (scenario_from at s (others_of (t ++ more)) ≡ scenario_from n s (others_of more))

pub quiet_none : Quiet []
quiet_none = record { goes = λ at s more. (at, refl) }

pub quiet_join : (a b : List ℕ) → Quiet a → Quiet b → Quiet (a ++ b)
quiet_join a b p q = record {
  goes = λ at s more.
      let first = p.goes at s (b ++ more) in
      let second = q.goes first.0 s more in
      (second.0, ap (λ t. scenario_from at s (others_of t)) (append_assoc a b more) ∙ (first.1 ∙ second.1));
}

pub quiet_each : {A : Type 0} (f : A → List ℕ) (xs : List A) → ((x : A) → Quiet (f x)) → Quiet (flat_map f xs)
quiet_each f [] each = quiet_none
quiet_each f (x ∷ xs) each = quiet_join (f x) (flat_map f xs) (each x) (quiet_each f xs each)

-- the end of a line, without a line feed before its last byte
abbrev pub EndsLine : List ℕ → Type 0
EndsLine t = (body : List ℕ) × (t ≡ body ++ 10 ∷ []) × Plain body

pub ends_here : (body : List ℕ) → Plain body → EndsLine (body ++ 10 ∷ [])
ends_here body p = (body, refl, p)

pub ends_behind : (a t : List ℕ) → Plain a → EndsLine t → EndsLine (a ++ t)
ends_behind a t p e = (a ++ e.0, ap (λ x. a ++ x) e.1 ∙ sym (append_assoc a e.0 (10 ∷ [])), plain_join a e.0 p e.2)

comment_more : (at : ℕ) (s : Scenario) (body : List ℕ) (texts : List (List ℕ)) → scenario_from at s ((35 ∷ body) ∷ texts) ≡ scenario_from (at + 1) s texts
unfolding scenario_from
comment_more at s body texts = refl

-- a comment
pub quiet_comment : (t : List ℕ) → EndsLine t → Quiet (35 ∷ t)
quiet_comment t e = record {
  goes = λ at s more.
      let text : (35 ∷ t) ++ more ≡ (35 ∷ e.0) ++ 10 ∷ more = ap (λ x. (35 ∷ x) ++ more) e.1 ∙ append_assoc (35 ∷ e.0) (10 ∷ []) more in
      let cut = slice_split_at (λ b. b == 10) (35 ∷ e.0) 10 more (none_of (λ b. b == 10) (35 ∷ e.0) (plain_push 35 e.0 refl e.2).all) refl in
      (at + 1, ap (λ texts. scenario_from at s (others texts)) (ap lines text ∙ cut) ∙ comment_more at s e.0 (others_of more));
}
