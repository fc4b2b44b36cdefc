-- The lines of a device descriptor say nothing in a scenario: they are no other lines.
use Rattle.std.proofs.Common.{◌≡◌, ℕ, ◌==◌, Bool, true, false, not, cond, List, [], ◌∷◌, ◌++◌, length, refl, ap, sym, ◌∙◌, append_assoc, append-nil}
use Rattle.std.specs.Prelude.{codes}
use Rattle.std.proofs.lemmas.List.Splits.{slice_split_at}
use Rattle.hex.specs.Hex.{encode_lower}
use Rattle.usb_descriptors.specs.Pieces.{byte}
use Rattle.trace_descriptor.specs.Identity.{class_line, class_lines, identity_lines, ids_line}
use Rattle.trace_descriptor.specs.Laws.{others_of, says_identity}
use Rattle.trace_descriptor.proofs.Plain.{Plain, none_of, plain, plain_encode, plain_join}
use Rattle.trace_descriptor.proofs.Quiet.{EndsLine, ends_behind, ends_here, lines, others}

-- in front of any text it is as if it weren't there
pub record PassedOver (t : List ℕ) : Type 0 where
  pub goes : (more : List ℕ) → others_of (t ++ more) ≡ others_of more

none_passed : PassedOver []
none_passed = record { goes = λ more. refl }

join_passed : (a b : List ℕ) → PassedOver a → PassedOver b → PassedOver (a ++ b)
join_passed a b p q = record { goes = λ more. ap others_of (append_assoc a b more) ∙ (p.goes (b ++ more) ∙ q.goes more) }

either_passed : (b : Bool) (x y : List ℕ) → PassedOver x → PassedOver y → PassedOver (cond b x y)
either_passed true x y p q = p
either_passed false x y p q = q

-- a line that says an identity by its front
line_passed : (front t : List ℕ) → Plain front → EndsLine t → ((body : List ℕ) → says_identity (front ++ body) ≡ true) → PassedOver (front ++ t)
line_passed front t p e says = record {
  goes = λ more.
      let text : (front ++ t) ++ more ≡ (front ++ e.0) ++ 10 ∷ more =
      ap (λ x. (front ++ x) ++ more) e.1
      ∙ (ap (λ x. x ++ more) (sym (append_assoc front e.0 (10 ∷ []))) ∙ append_assoc (front ++ e.0) (10 ∷ []) more) in
      let cut = slice_split_at (λ b. b == 10) (front ++ e.0) 10 more (none_of (λ b. b == 10) (front ++ e.0) (plain_join front e.0 p e.2).all) refl in
      ap others (ap lines text ∙ cut)
      ∙ ap (λ b. cond (not b) ((front ++ e.0) ∷ others_of more) (others_of more)) (says e.0);
}

feed : EndsLine (codes "\n")
feed = ends_here [] (plain refl)

space : Plain (codes " ")
space = plain refl

ids_end : (d : List ℕ) → EndsLine (encode_lower (byte 9 d ∷ byte 8 d ∷ []) ++ (codes " " ++ (encode_lower (byte 11 d ∷ byte 10 d ∷ []) ++ (codes " " ++ (encode_lower (byte 13 d ∷ byte 12 d ∷ []) ++ codes "\n")))))
ids_end d = ends_behind _ _ (plain_encode _) (ends_behind _ _ space (ends_behind _ _ (plain_encode _) (ends_behind _ _ space (ends_behind _ _ (plain_encode _) feed))))

ids_passed : (d : List ℕ) → PassedOver (ids_line d)
unfolding ids_line
ids_passed d = line_passed (codes "ids 0 ") _ (plain refl) (ids_end d) (λ body. refl)

class_end : (d : List ℕ) → EndsLine (encode_lower (byte 4 d ∷ []) ++ (codes " " ++ (encode_lower (byte 5 d ∷ []) ++ (codes " " ++ (encode_lower (byte 6 d ∷ []) ++ codes "\n")))))
class_end d = ends_behind _ _ (plain_encode _) (ends_behind _ _ space (ends_behind _ _ (plain_encode _) (ends_behind _ _ space (ends_behind _ _ (plain_encode _) feed))))

class_passed : (d : List ℕ) → PassedOver (class_line d)
unfolding class_line
class_passed d = line_passed (codes "class 0 ") _ (plain refl) (class_end d) (λ body. refl)

pub identity_passed : (d : List ℕ) → PassedOver (identity_lines d)
identity_passed d =
    either_passed (length d == 0) _ _ none_passed
    (join_passed (ids_line d) (class_lines d) (ids_passed d) (either_passed _ _ _ none_passed (class_passed d)))

-- behind the last line nothing is left
pub identity_end : (d : List ℕ) → others_of (identity_lines d) ≡ [] ∷ []
identity_end d = ap others_of (sym (append-nil (identity_lines d))) ∙ (identity_passed d).goes []
