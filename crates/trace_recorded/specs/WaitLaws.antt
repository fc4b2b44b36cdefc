-- For what an answer waits, by the lines that are told of its endpoint.
use Rattle.std.specs.Prelude.{◌≡◌, ℕ, ◌^◌, ◌<◌, ◌≤◌, true, List, ◌∷◌}
use Rattle.std.specs.List.{AllByRecursion, filter}
use Rattle.usb_model.specs.declared.setup.EndpointInfo.{EndpointInfo}
use Rattle.trace_recorded.specs.declared.endpoint.RecordedEndpoint.{RecordedEndpoint}
use Rattle.trace_recorded.specs.declared.event.RecordedEvent.{RecordedEvent}
use Rattle.trace_recorded.specs.declared.waits.TakenCount.{TakenCount}
use Rattle.trace_recorded.specs.declared.waits.Wait.{Wait}
use Rattle.trace_recorded.specs.declared.waits.Waits.{Waits}
use Rattle.trace_recorded.specs.Endpoints.{no_answers, with_event}
use Rattle.trace_recorded.specs.Waits.{is_awaited, source_number, told_at, with_waits}

-- an answer at a place may come where so much was taken of each thing that is counted, by its number: each line of a place up to it is reached
abbrev pub MayCome : List Wait → ℕ → (ℕ → ℕ) → Type 0
MayCome lines place took = AllByRecursion (λ (w : Wait). w.place ≤ place → w.count ≤ took (source_number w.source)) lines

-- these counts are reached
abbrev pub AreReached : List TakenCount → (ℕ → ℕ) → Type 0
AreReached taken took = AllByRecursion (λ (t : TakenCount). t.count ≤ took (source_number t.source)) taken

-- of these those are reached for which a read at an endpoint waits that was submitted in this packet
abbrev pub AreAwaited : ℕ → ℕ → List TakenCount → (ℕ → ℕ) → Type 0
AreAwaited ep since taken took = AllByRecursion (λ (t : TakenCount). is_awaited ep since t ≡ true → t.count ≤ took (source_number t.source)) taken

-- what answers up to a place were told to wait for is reached where one there may come
abbrev pub AreTold : ℕ → Waits → Type 0
AreTold place waits = (took : ℕ → ℕ) → MayCome waits.lines place took → (number : ℕ) → told_at number waits ≤ took number

-- an answer that came when so much had been taken may come where that is reached, and what those before it wait for, and no sooner
pub record WaitsFor (place : ℕ) (own : TakenCount) (taken : List TakenCount) (waits : Waits) : Type 0 where
  pub told : AreTold place (with_waits place own taken waits)
  pub reached : (took : ℕ → ℕ) → MayCome (with_waits place own taken waits).lines place took → MayCome waits.lines place took × AreReached (own ∷ taken) took
  pub comes : (took : ℕ → ℕ) → MayCome waits.lines place took → AreReached (own ∷ taken) took → MayCome (with_waits place own taken waits).lines place took

-- an endpoint whose answers were told so, and are counted in 64 bits
pub record IsTold (x : RecordedEndpoint) : Type 0 where
  pub counted : x.count < 2 ^ 64
  pub told : AreTold x.count x.waits

-- so it is with the answers of each endpoint, over all events of its device; and one comes behind the answers at another endpoint for IN that came while
-- its read was in flight
pub record AnswersWait : Type 0 where
  pub first : (info : EndpointInfo) → IsTold (no_answers info)
  pub next : (taken : List TakenCount) (event : RecordedEvent) (x : RecordedEndpoint) → IsTold x → IsTold (with_event taken event x)
  pub waits : (own : TakenCount) (taken : List TakenCount) (x : RecordedEndpoint) → IsTold x → WaitsFor x.count own taken x.waits
  pub others : (own : TakenCount) (taken : List TakenCount) (since : ℕ) (x : RecordedEndpoint) → IsTold x → (took : ℕ → ℕ)
      → MayCome (with_waits x.count own (filter (is_awaited x.info.address since) taken) x.waits).lines x.count took → AreAwaited x.info.address since taken took
