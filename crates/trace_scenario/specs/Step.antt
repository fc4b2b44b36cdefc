-- Lines that are pieces of a plan, but for submissions: what the words behind each verb say.
use Rattle.std.specs.Prelude.{ℕ, List, [], ◌∷◌, Option, Some, None}
use Rattle.std.specs.Option.{option_map, option_and_then}
use Rattle.usb_model.specs.declared.step.Step.{Step}
use Rattle.usb_model.specs.declared.step.Step.TheVariants as step
use Rattle.usb_model.specs.declared.plan.Plan.TheVariants.{Do, Return}
use Rattle.trace_scenario.specs.declared.line.Line.{Line}
use Rattle.trace_scenario.specs.declared.line.Line.TheVariants.{Piece}
use Rattle.trace_scenario.specs.Handle.{handle_of}
use Rattle.usb_scripttext.specs.Number.{device_of, u8_of, u64_of, address_of}

-- the line of a step
abbrev pub line_of_step : Step → Line
line_of_step s = Piece (Do s)

-- a verb alone
unfoldable pub bare_of : Step → List (List ℕ) → Option Line
bare_of s [] = Some (line_of_step s)
bare_of s _ = None

-- a handle and a device
unfoldable pub open_of : List (List ℕ) → Option Line
open_of (h ∷ dev ∷ []) = option_and_then (λ x. option_map (λ y. line_of_step (step.Open x y)) (device_of dev)) (handle_of h)
open_of _ = None

-- a handle
unfoldable pub close_of : List (List ℕ) → Option Line
close_of (h ∷ []) = option_map (λ x. line_of_step (step.Close x)) (handle_of h)
close_of _ = None

-- a handle and an interface
unfoldable pub claim_of : List (List ℕ) → Option Line
claim_of (h ∷ i ∷ []) = option_and_then (λ x. option_map (λ y. line_of_step (step.Claim x y)) (u8_of i)) (handle_of h)
claim_of _ = None

-- a handle and an interface
unfoldable pub release_of : List (List ℕ) → Option Line
release_of (h ∷ i ∷ []) = option_and_then (λ x. option_map (λ y. line_of_step (step.Release x y)) (u8_of i)) (handle_of h)
release_of _ = None

-- a handle
unfoldable pub reset_of : List (List ℕ) → Option Line
reset_of (h ∷ []) = option_map (λ x. line_of_step (step.Reset x)) (handle_of h)
reset_of _ = None

-- a handle and an endpoint
unfoldable pub clear_of : List (List ℕ) → Option Line
clear_of (h ∷ ep ∷ []) = option_and_then (λ x. option_map (λ y. line_of_step (step.ClearHalt x y)) (address_of ep)) (handle_of h)
clear_of _ = None

-- a handle and a transfer's number
unfoldable pub cancel_of : List (List ℕ) → Option Line
cancel_of (h ∷ n ∷ []) = option_and_then (λ x. option_map (λ y. line_of_step (step.Cancel x y)) (u64_of n)) (handle_of h)
cancel_of _ = None

-- a handle and a transfer's number
unfoldable pub expire_of : List (List ℕ) → Option Line
expire_of (h ∷ n ∷ []) = option_and_then (λ x. option_map (λ y. line_of_step (step.Expire x y)) (u64_of n)) (handle_of h)
expire_of _ = None

-- a device and an endpoint
unfoldable pub serve_of : List (List ℕ) → Option Line
serve_of (dev ∷ ep ∷ []) = option_and_then (λ x. option_map (λ y. line_of_step (step.Serve x y)) (address_of ep)) (device_of dev)
serve_of _ = None

-- a device
unfoldable pub unplug_of : List (List ℕ) → Option Line
unplug_of (dev ∷ []) = option_map (λ x. line_of_step (step.Unplug x)) (device_of dev)
unplug_of _ = None

-- a handle and a callback's number
unfoldable pub return_of : List (List ℕ) → Option Line
return_of (h ∷ n ∷ []) = option_and_then (λ x. option_map (λ y. Piece (Return x y)) (u64_of n)) (handle_of h)
return_of _ = None
