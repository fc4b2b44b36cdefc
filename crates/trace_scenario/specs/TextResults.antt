-- What judging a line may answer.
use Rattle.std.specs.Prelude.{◌≡◌, Option, Some, None}

-- a line was taken where no problem is told of it, and else is bad and takes nothing
abbrev pub IsJudged : {P S : Type 0} → Option P → Option S → S → S → Type 0
IsJudged None said old new = said ≡ Some new
IsJudged (Some problem) said old new = (said ≡ None) × (new ≡ old)
