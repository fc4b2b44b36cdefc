-- Which endpoints are made new.
use Rattle.std.specs.Prelude.{ℕ, Bool, true, List, Option, None}
use Rattle.reference.specs.declared.renewal.Renewed.{Renewed}
use Rattle.reference.specs.declared.renewal.Renewed.TheVariants.{All, Within, Held}
use Rattle.usb_model.specs.Setup.{Setup, is_within}
use Rattle.usb_model.specs.World.{holder, is_its}
use Rattle.reference.specs.Tables.{cell_at}

-- whether the endpoint e of device d is among them
abbrev pub is_renewed : Setup → List (Option ℕ) → Renewed → ℕ → ℕ → Bool
is_renewed setup claims All d e = true
is_renewed setup claims (Within dev i) d e = is_within setup dev i d e
is_renewed setup claims (Held h) d e = is_its h (holder setup (λ d i. cell_at None claims d i) d e)
