-- Where lines expect the same at each endpoint the same is told of a run.
use Rattle.std.proofs.Common.{◌≡◌, ℕ, List, [], ◌∷◌, ◌++◌, drop, Option, Some, None, refl, ap, ◌∙◌}
use Rattle.std.specs.Prelude.{slice_get}
use Rattle.std.specs.List.{flat_map}
use Rattle.std.specs.Option.{option_and_then, option_to_list}
use Rattle.usb_model.specs.declared.plan.Plan.{Plan}
use Rattle.usb_model.specs.declared.plan.Plan.TheVariants.{Do, Return}
use Rattle.usb_model.specs.declared.setup.EndpointInfo.{EndpointInfo}
use Rattle.usb_model.specs.declared.step.Step.{Step}
use Rattle.usb_model.specs.declared.step.Step.TheVariants.{Open, Close, Claim, Release, Reset, ClearHalt, Submit, Cancel, Expire, Serve, Command, Deliver, Take, Answer, Unplug}
use Rattle.usb_model.specs.declared.verdict.Rule.{Rule}
use Rattle.usb_model.specs.Setup.{Setup, endpoints_of}
use Rattle.usb_model.specs.World.{World, new_world, world_from}
use Rattle.usb_model.specs.World.Plans.{Stage, expand, first_stage, stage_after, steps_of}
use Rattle.trace_scenario.specs.declared.expectations.ExpectedPackets.{ExpectedPackets}
use Rattle.usb_scripttext.specs.declared.expected_packet.ExpectedPacket.{ExpectedPacket}
use Rattle.trace_judged.specs.declared.difference.Difference.{Difference}
use Rattle.trace_judged.specs.declared.missing.MissingPackets.{MissingPackets}
use Rattle.trace_judged.specs.Differences.{difference_by, difference_of, differences, differences_from, next_index, piece_difference, step_difference, taken_at}
use Rattle.trace_judged.specs.Expected.{expected_at}
use Rattle.trace_judged.specs.Missing.{all_missing, missing_at, missing_of}
use Rattle.trace_judged.specs.Report.{unexpected_of}
use Rattle.trace_judged.specs.Text.{unexpected_in}

module _ (lines others : List ExpectedPackets) (alike : (dev ep : ℕ) → expected_at lines dev ep ≡ expected_at others dev ep) where
  -- the same packets differ
  same_difference : (line dev ep index : ℕ) (came : Option (List ℕ)) → option_and_then (difference_by lines line dev ep index) came ≡ option_and_then (difference_by others line dev ep index) came
  same_difference line dev ep index None = refl
  same_difference line dev ep index (Some came) =
      ap (λ (packets : List ExpectedPacket). option_and_then (λ expected. difference_of line dev ep index expected came) (slice_get packets index)) (alike dev ep)

  same_step : (setup : Setup) (w : World) (line : ℕ) (step : Step) → step_difference lines setup w line step ≡ step_difference others setup w line step
  same_step setup w line (Open h dev) = refl
  same_step setup w line (Close h) = refl
  same_step setup w line (Claim h i) = refl
  same_step setup w line (Release h i) = refl
  same_step setup w line (Reset h) = refl
  same_step setup w line (ClearHalt h ep) = refl
  same_step setup w line (Submit h request) = refl
  same_step setup w line (Cancel h n) = refl
  same_step setup w line (Expire h n) = refl
  same_step setup w line (Serve dev ep) = same_difference line dev ep (next_index w dev ep) (taken_at setup w (Serve dev ep) dev ep)
  same_step setup w line Command = refl
  same_step setup w line Deliver = refl
  same_step setup w line Take = refl
  same_step setup w line (Answer h n verdict) = refl
  same_step setup w line (Unplug dev) = refl

  same_piece : (setup : Setup) (w : World) (line : ℕ) (piece : Plan) → piece_difference lines setup w line piece ≡ piece_difference others setup w line piece
  same_piece setup w line (Do step) = same_step setup w line step
  same_piece setup w line (Return h n) = refl

  same_differences : (setup : Setup) (s : Stage) (plan : List Plan) (numbers : List (ℕ × List ℕ)) → differences_from lines setup s plan numbers ≡ differences_from others setup s plan numbers
  unfolding differences_from
  same_differences setup s [] numbers = refl
  same_differences setup s (piece ∷ plan) [] = refl
  same_differences setup s (piece ∷ plan) (line ∷ numbers) =
      let behind : Stage = stage_after setup s piece (steps_of setup s piece) in
      ap (λ (found : Option Difference). option_to_list found ++ differences_from lines setup behind plan numbers) (same_piece setup s.world line.0 piece)
      ∙ ap (λ (more : List Difference). option_to_list (piece_difference others setup s.world line.0 piece) ++ more) (same_differences setup behind plan numbers)

  -- the same are missing
  same_missing : (w : World) (dev ep : ℕ) → missing_at lines w dev ep ≡ missing_at others w dev ep
  same_missing w dev ep = ap (λ (packets : List ExpectedPacket). missing_of dev ep (next_index w dev ep) (drop (next_index w dev ep) packets)) (alike dev ep)

  same_of : (w : World) (dev : ℕ) (infos : List EndpointInfo)
      → flat_map (λ (info : EndpointInfo). option_to_list (missing_at lines w dev info.address)) infos ≡ flat_map (λ (info : EndpointInfo). option_to_list (missing_at others w dev info.address)) infos
  same_of w dev [] = refl
  same_of w dev (info ∷ infos) =
      ap (λ (m : Option MissingPackets). option_to_list m ++ flat_map (λ (i : EndpointInfo). option_to_list (missing_at lines w dev i.address)) infos) (same_missing w dev info.address)
      ∙ ap (λ (more : List MissingPackets). option_to_list (missing_at others w dev info.address) ++ more) (same_of w dev infos)

  same_in_all : (setup : Setup) (w : World) → all_missing lines setup w ≡ all_missing others setup w
  same_in_all setup w =
      rw (same_of w 0 (endpoints_of setup 0), same_of w 1 (endpoints_of setup 1), same_of w 2 (endpoints_of setup 2), same_of w 3 (endpoints_of setup 3)) refl

  pub the_same_told : (setup : Setup) (plan : List Plan) (rules : List Rule) (numbers : List (ℕ × List ℕ)) → unexpected_in lines setup plan rules numbers ≡ unexpected_in others setup plan rules numbers
  the_same_told setup plan rules numbers =
      let world : World = world_from setup (new_world setup) (expand setup plan rules) in
      ap (λ (found : List Difference). unexpected_of found (all_missing lines setup world)) (same_differences setup (first_stage setup rules) plan numbers)
      ∙ ap (unexpected_of (differences others setup plan rules numbers)) (same_in_all setup world)
