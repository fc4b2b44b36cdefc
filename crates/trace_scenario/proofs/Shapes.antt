-- Words that are too few.
use Rattle.std.proofs.Common.{◌≡◌, ℕ, ◌<◌, List, [], ◌∷◌, length, None, refl, arith}
use denote.Ref.{Bor}
use Rattle.usb_scripttext.specs.Words.{words_of}
use Rattle.trace_scenario.specs.Line.{transfer_of}

-- a transfer has two words at least
pub transfer_short : (h ep : ℕ) (words : List (Bor (List ℕ))) → length words < 2 → transfer_of h ep (words_of words) ≡ None
unfolding transfer_of
transfer_short h ep [] few = refl
transfer_short h ep (kind ∷ []) few = refl
transfer_short h ep (kind ∷ body ∷ options) few = absurd (omega arith)
