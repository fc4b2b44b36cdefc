-- Of a run of which nothing is expected nothing is told.
use Rattle.std.proofs.Common.{◌≡◌, ℕ, zero, suc, ◌+◌, ◌≤◌, ◌==◌, Bool, true, false, cond, List, [], ◌∷◌, ◌++◌, length, drop, Option, Some, None, refl, ap, sym, ◌∙◌, arith}
use Rattle.std.specs.Prelude.{nat_lt, not, ◌&&◌, ◌||◌, position, slice_get, count_by, if◌then◌else◌}
use Rattle.std.specs.List.{flat_map, list_any, position_or_len, prefix_len}
use Rattle.std.specs.Option.{option_and_then, option_map, option_map_or, option_to_list}
use Rattle.std.proofs.lemmas.Bool.{le-ltb}
use Rattle.usb_model.specs.declared.plan.Plan.{Plan}
use Rattle.usb_model.specs.declared.plan.Plan.TheVariants.{Do, Return}
use Rattle.usb_model.specs.declared.setup.EndpointInfo.{EndpointInfo}
use Rattle.usb_model.specs.declared.step.Step.{Step}
use Rattle.usb_model.specs.declared.step.Step.TheVariants.{Open, Close, Claim, Release, Reset, ClearHalt, Submit, Cancel, Expire, Serve, Command, Deliver, Take, Answer, Unplug}
use Rattle.usb_model.specs.declared.verdict.Rule.{Rule}
use Rattle.usb_model.specs.Setup.{Setup, endpoints_of}
use Rattle.usb_model.specs.World.{World, new_world, world_from}
use Rattle.usb_model.specs.World.Plans.{Stage, expand, first_stage, stage_after, steps_of}
use Rattle.trace_scenario.specs.declared.expectations.ExpectedPackets.{ExpectedPackets}
use Rattle.usb_scripttext.specs.declared.expected_packet.ExpectedPacket.{ExpectedPacket}
use Rattle.usb_scripttext.specs.declared.expected_packet.ExpectedPacket.TheVariants.{Anything, Exactly, Beginning}
use Rattle.trace_judged.specs.declared.difference.Difference.{Difference}
use Rattle.trace_judged.specs.declared.missing.MissingPackets.{MissingPackets}
use Rattle.trace_judged.specs.Differences.{difference_by, difference_of, differences, differences_from, next_index, piece_difference, step_difference, taken_at}
use Rattle.trace_judged.specs.Expected.{differs_at, expected_at, expected_by}
use Rattle.trace_judged.specs.Missing.{all_missing, device_missing, is_wanted, missing_at, missing_of}
use Rattle.trace_judged.specs.Report.{unexpected_of}
use Rattle.trace_judged.specs.Text.{expects, line_expects, unexpected_in}

-- where neither of two holds, the one doesn't, and the other doesn't
none_first : (p q : Bool) → (p || q) ≡ false → p ≡ false
none_first true q none = let wrong : true ≡ false = none in cc
none_first false q none = refl

none_rest : (p q : Bool) → (p || q) ≡ false → q ≡ false
none_rest true q none = let wrong : true ≡ false = none in cc
none_rest false q none = none

-- none is wanted of what a line expects at an endpoint
none_of_line : (dev ep : ℕ) (line : ExpectedPackets) → line_expects line ≡ false → list_any is_wanted (expected_by dev ep line) ≡ false
none_of_line dev ep line none = by_test ((line.dev == dev) && (line.ep == ep))
  where
    by_test : (b : Bool) → list_any is_wanted (if b then line.packets else []) ≡ false
    by_test true = none
    by_test false = refl

none_joined : (xs ys : List ExpectedPacket) → list_any is_wanted xs ≡ false → list_any is_wanted ys ≡ false → list_any is_wanted (xs ++ ys) ≡ false
none_joined [] ys none more = more
none_joined (x ∷ xs) ys none more =
    ap (λ b. b || list_any is_wanted (xs ++ ys)) (none_first (is_wanted x) (list_any is_wanted xs) none)
    ∙ none_joined xs ys (none_rest (is_wanted x) (list_any is_wanted xs) none) more

-- nor of what all lines do
none_expected : (lines : List ExpectedPackets) (dev ep : ℕ) → expects lines ≡ false → list_any is_wanted (expected_at lines dev ep) ≡ false
none_expected [] dev ep none = refl
none_expected (line ∷ lines) dev ep none =
    none_joined (expected_by dev ep line) (expected_at lines dev ep) (none_of_line dev ep line (none_first (line_expects line) (expects lines) none))
    (none_expected lines dev ep (none_rest (line_expects line) (expects lines) none))

-- a packet isn't wanted at any place
none_at : (xs : List ExpectedPacket) (i : ℕ) → list_any is_wanted xs ≡ false → option_map_or is_wanted (slice_get xs i) false ≡ false
none_at [] i none = refl
none_at (x ∷ xs) zero none = none_first (is_wanted x) (list_any is_wanted xs) none
none_at (x ∷ xs) (suc i) none = none_at xs i (none_rest (is_wanted x) (list_any is_wanted xs) none)

-- one that isn't wanted may be anything
may_be_any : (packet : ExpectedPacket) (bytes : List ℕ) → is_wanted packet ≡ false → differs_at packet bytes ≡ None
may_be_any Anything bytes none = refl
may_be_any (Exactly expected) bytes none = let wrong : true ≡ false = none in cc
may_be_any (Beginning expected) bytes none = let wrong : true ≡ false = none in cc

-- no packet differs
module _ (lines : List ExpectedPackets) (none : expects lines ≡ false) where
  no_difference : (line dev ep index : ℕ) (came : List ℕ) → difference_by lines line dev ep index came ≡ None
  no_difference line dev ep index came = by_packet (slice_get (expected_at lines dev ep) index) (none_at (expected_at lines dev ep) index (none_expected lines dev ep none))
    where
      told : ExpectedPacket → ℕ → Difference
      told expected offset = record { line = line; dev = dev; ep = ep; index = index; came = came; expected = expected; offset = offset }

      by_packet : (packet : Option ExpectedPacket) → option_map_or is_wanted packet false ≡ false → option_and_then (λ expected. difference_of line dev ep index expected came) packet ≡ None
      by_packet None any = refl
      by_packet (Some packet) any = ap (λ (offset : Option ℕ). option_map (told packet) offset) (may_be_any packet came any)

  no_taken : (line dev ep index : ℕ) (came : Option (List ℕ)) → option_and_then (difference_by lines line dev ep index) came ≡ None
  no_taken line dev ep index None = refl
  no_taken line dev ep index (Some came) = no_difference line dev ep index came

  no_step : (setup : Setup) (w : World) (line : ℕ) (step : Step) → step_difference lines setup w line step ≡ None
  no_step setup w line (Open h dev) = refl
  no_step setup w line (Close h) = refl
  no_step setup w line (Claim h i) = refl
  no_step setup w line (Release h i) = refl
  no_step setup w line (Reset h) = refl
  no_step setup w line (ClearHalt h ep) = refl
  no_step setup w line (Submit h request) = refl
  no_step setup w line (Cancel h n) = refl
  no_step setup w line (Expire h n) = refl
  no_step setup w line (Serve dev ep) = no_taken line dev ep (next_index w dev ep) (taken_at setup w (Serve dev ep) dev ep)
  no_step setup w line Command = refl
  no_step setup w line Deliver = refl
  no_step setup w line Take = refl
  no_step setup w line (Answer h n verdict) = refl
  no_step setup w line (Unplug dev) = refl

  no_piece : (setup : Setup) (w : World) (line : ℕ) (piece : Plan) → piece_difference lines setup w line piece ≡ None
  no_piece setup w line (Do step) = no_step setup w line step
  no_piece setup w line (Return h n) = refl

  no_differences : (setup : Setup) (s : Stage) (plan : List Plan) (numbers : List (ℕ × List ℕ)) → differences_from lines setup s plan numbers ≡ []
  unfolding differences_from
  no_differences setup s [] numbers = refl
  no_differences setup s (piece ∷ plan) [] = refl
  no_differences setup s (piece ∷ plan) (line ∷ numbers) =
      ap (λ (found : Option Difference). option_to_list found ++ differences_from lines setup (stage_after setup s piece (steps_of setup s piece)) plan numbers) (no_piece setup s.world line.0 piece)
      ∙ no_differences setup (stage_after setup s piece (steps_of setup s piece)) plan numbers

-- none of some packets is the first that is wanted
none_before : (xs : List ExpectedPacket) → list_any is_wanted xs ≡ false → position_or_len is_wanted xs ≡ length xs
none_before [] none = refl
none_before (x ∷ xs) none =
    let rest : position_or_len is_wanted xs ≡ length xs = none_before xs (none_rest (is_wanted x) (list_any is_wanted xs) none) in
    let more : 1 + position_or_len is_wanted xs ≡ suc (length xs) = omega (arith, rest) in
    ap (λ b. cond (not b) (1 + position_or_len is_wanted xs) 0) (none_first (is_wanted x) (list_any is_wanted xs) none) ∙ more

no_place : (xs : List ExpectedPacket) → list_any is_wanted xs ≡ false → position is_wanted xs ≡ None
no_place xs none =
    ap (λ (n : ℕ). cond (nat_lt n (length xs)) (Some n) None) (none_before xs none)
    ∙ ap (λ b. cond b (Some (length xs)) None) (le-ltb (length xs) (length xs) (omega arith))

none_left : (xs : List ExpectedPacket) (n : ℕ) → list_any is_wanted xs ≡ false → list_any is_wanted (drop n xs) ≡ false
none_left xs zero none = none
none_left [] (suc n) none = refl
none_left (x ∷ xs) (suc n) none = none_left xs n (none_rest (is_wanted x) (list_any is_wanted xs) none)

-- none is missing
module _ (lines : List ExpectedPackets) (none : expects lines ≡ false) (w : World) where
  no_missing : (dev ep : ℕ) → missing_at lines w dev ep ≡ None
  no_missing dev ep =
      let index : ℕ = next_index w dev ep in
      let left : List ExpectedPacket = drop index (expected_at lines dev ep) in
      ap
      (λ (place : Option ℕ). option_and_then (λ at. option_map (λ expected. record { dev = dev; ep = ep; count = count_by is_wanted left; index = index + at; expected = expected }) (slice_get left at)) place)
      (no_place left (none_left (expected_at lines dev ep) index (none_expected lines dev ep none)))

  none_of : (dev : ℕ) (infos : List EndpointInfo) → flat_map (λ (info : EndpointInfo). option_to_list (missing_at lines w dev info.address)) infos ≡ []
  none_of dev [] = refl
  none_of dev (info ∷ infos) =
      ap (λ (m : Option MissingPackets). option_to_list m ++ flat_map (λ (i : EndpointInfo). option_to_list (missing_at lines w dev i.address)) infos) (no_missing dev info.address) ∙ none_of dev infos

  none_in_all : (setup : Setup) → all_missing lines setup w ≡ []
  none_in_all setup =
      rw (none_of 0 (endpoints_of setup 0), none_of 1 (endpoints_of setup 1), none_of 2 (endpoints_of setup 2), none_of 3 (endpoints_of setup 3)) refl

pub nothing_told : (lines : List ExpectedPackets) (setup : Setup) (plan : List Plan) (rules : List Rule) (numbers : List (ℕ × List ℕ)) → expects lines ≡ false
    → unexpected_in lines setup plan rules numbers ≡ None
nothing_told lines setup plan rules numbers none =
    let world : World = world_from setup (new_world setup) (expand setup plan rules) in
    ap (λ (ds : List Difference). unexpected_of ds (all_missing lines setup world)) (no_differences lines none setup (first_stage setup rules) plan numbers)
    ∙ ap (unexpected_of []) (none_in_all lines none world setup)
