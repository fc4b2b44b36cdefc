-- Which answers of an endpoint wait for what.
use Rattle.std.specs.Prelude.{ℕ, ◌+◌, ◌==◌, nat_lt, Bool, true, not, ◌&&◌, ◌||◌, List, [], ◌∷◌, ◌++◌, if◌then◌else◌}
use Rattle.std.specs.Option.{unwrap_or}
use Rattle.usb_model.specs.Setup.{is_in}
use Rattle.trace_recorded.specs.declared.waits.Source.{Source}
use Rattle.trace_recorded.specs.declared.waits.Source.TheVariants as source
use Rattle.trace_recorded.specs.declared.waits.TakenCount.{TakenCount}
use Rattle.trace_recorded.specs.declared.waits.Wait.{Wait}
use Rattle.trace_recorded.specs.declared.waits.Waits.{Waits}
use Rattle.trace_recorded.specs.Folds.{after}
use Rattle.trace_recorded.specs.Keys.{key_of}
use Rattle.trace_recorded.specs.Tables.{value_at, with_value, without}

-- the number in a table of what is counted: an endpoint's address, or 256 and a request's
abbrev pub source_number : Source → ℕ
source_number (source.Endpoint ep) = ep
source_number (source.Requests setup) = 256 + key_of setup

-- whether a read at an endpoint waits for it, which was submitted in this packet of the capture: at another endpoint for IN for answers of which the last
-- came since, for what had come before is there by itself; for what endpoints for OUT took; and for requests
abbrev pub is_awaited_of : ℕ → ℕ → ℕ → Source → Bool
is_awaited_of ep since frame (source.Endpoint other) = not (is_in other) || (not (other == ep) && nat_lt since frame)
is_awaited_of ep since frame (source.Requests setup) = true

unfoldable pub is_awaited : ℕ → ℕ → TakenCount → Bool
is_awaited ep since taken = is_awaited_of ep since taken.frame taken.source

-- for how much answers wait that were told, by the number of what is counted
abbrev pub told_at : ℕ → Waits → ℕ
told_at number waits = unwrap_or (value_at number waits.told) 0

abbrev pub told_of : Source → Waits → ℕ
told_of source waits = told_at (source_number source) waits

-- the answers from a place on wait for so much of something, where that is more than those before them wait for
unfoldable pub with_wait : ℕ → TakenCount → Waits → Waits
with_wait place taken waits =
    if nat_lt (told_of taken.source waits) taken.count
    then record { told = with_value (source_number taken.source) taken.count (without (source_number taken.source) waits.told); lines = waits.lines ++ record { place = place; source = taken.source; count = taken.count } ∷ [] }
    else waits

-- first for what was taken at their own endpoint, then for each of the others
abbrev pub with_waits : ℕ → TakenCount → List TakenCount → Waits → Waits
with_waits place own taken waits = after (with_wait place) (with_wait place own waits) taken

abbrev pub no_waits : Waits
no_waits = record { told = []; lines = [] }
