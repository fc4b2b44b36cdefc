-- The first words of lines are ASCII.
use Rattle.std.proofs.Common.{◌≡◌, ℕ, Bool, true, false, cond, List, None, refl, ap, sym, ◌∙◌}
use Rattle.std.specs.Prelude.{codes}
use Rattle.std.specs.Str.{bytes_eq}
use Rattle.std.proofs.lemmas.Slice.Eq.{bytes_eq-Decides}
use Rattle.usb_scripttext.specs.Words.{is_ascii}
use Rattle.usb_devicetext.specs.Topic.{topic_of}

-- what isn't ASCII is no word that is
other : (w c : List ℕ) → is_ascii c ≡ true → is_ascii w ≡ false → bytes_eq w c ≡ false
other w c plain not_plain = by_test (bytes_eq w c) refl
  where
    by_test : (b : Bool) → bytes_eq w c ≡ b → b ≡ false
    by_test true same = let wrong : true ≡ false = sym plain ∙ (ap is_ascii (sym ((bytes_eq-Decides w c).0 same)) ∙ not_plain) in cc
    by_test false same = refl

past : {A : Type 0} (b : Bool) (x y z : A) → b ≡ false → y ≡ z → cond b x y ≡ z
past b x y z is rest = ap (λ t. cond t x y) is ∙ rest

-- so it is no first word
pub no_topic : (w : List ℕ) → is_ascii w ≡ false → topic_of w ≡ None
unfolding topic_of
no_topic w not_plain =
    past _ _ _ _ (other w (codes "device") refl not_plain)
    (past _ _ _ _ (other w (codes "script") refl not_plain)
    (past _ _ _ _ (other w (codes "ids") refl not_plain)
    (past _ _ _ _ (other w (codes "class") refl not_plain)
    (past _ _ _ _ (other w (codes "descriptor") refl not_plain)
    (past _ _ _ _ (other w (codes "string") refl not_plain)
    (past _ _ _ _ (other w (codes "speed") refl not_plain)
    (past _ _ _ _ (other w (codes "control") refl not_plain)
    (past _ _ _ _ (other w (codes "after") refl not_plain)
    (past _ _ _ _ (other w (codes "leaves") refl not_plain)
    (past _ _ _ _ (other w (codes "hidden") refl not_plain)
    (past _ _ _ _ (other w (codes "anew") refl not_plain)
    (past _ _ _ _ (other w (codes "lasts") refl not_plain)
    (past _ _ _ _ (other w (codes "driver") refl not_plain) refl)))))))))))))
