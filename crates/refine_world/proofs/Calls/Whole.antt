-- The whole core, every step.
use Rattle.usb_model.specs.declared.step.Step.TheVariants.{Answer, Cancel, Claim, ClearHalt, Close, Command, Deliver, Expire, Open, Release, Reset, Serve, Submit, Take, Unplug}
use Rattle.usb_model.specs.Setup.{Setup}
use Rattle.refine_world.specs.Calls.{StepsWhole, step_core, unplug_core}
use Rattle.refine_world.specs.Lively.{IsFine}
use Rattle.refine_world.proofs.Calls.Verdicts.{answer_steps}
use Rattle.refine_world.proofs.Calls.Asks.{cancel_steps, expire_steps}
use Rattle.refine_world.proofs.Calls.Claims.{claim_steps, release_steps, reset_steps}
use Rattle.refine_world.proofs.Calls.ClearedHalts.{clear_call_steps}
use Rattle.refine_world.proofs.Calls.Openings.{close_steps, open_steps}
use Rattle.refine_world.proofs.Calls.Submissions.{submit_call_steps}
use Rattle.refine_world.proofs.Calls.Tables.{by_tables}
use Rattle.refine_world.proofs.Delivers.{deliver_steps}
use Rattle.refine_world.proofs.WholeSteps.{command_steps, serve_steps}
use Rattle.refine_world.proofs.StepsWithoutWork.{unplug_steps}
use Rattle.refine_world.proofs.Takes.{take_steps}

-- each step of a core that shows a world is the world's turn
pub whole_steps : (setup : Setup) → IsFine setup → StepsWhole setup
unfolding step_core unplug_core
whole_steps setup fine w c s (Open h dev) = by_tables setup w c (Open h dev) s (λ t. open_steps setup w c fine t h dev)
whole_steps setup fine w c s (Close h) = by_tables setup w c (Close h) s (λ t. close_steps setup w c fine t h)
whole_steps setup fine w c s (Claim h i) = by_tables setup w c (Claim h i) s (λ t. claim_steps setup w c fine t h i)
whole_steps setup fine w c s (Release h i) = by_tables setup w c (Release h i) s (λ t. release_steps setup w c fine t h i)
whole_steps setup fine w c s (Reset h) = by_tables setup w c (Reset h) s (λ t. reset_steps setup w c fine t h)
whole_steps setup fine w c s (ClearHalt h ep) = by_tables setup w c (ClearHalt h ep) s (λ t. clear_call_steps setup w c fine t h ep)
whole_steps setup fine w c s (Submit h request) = by_tables setup w c (Submit h request) s (λ t. submit_call_steps setup w c fine t h request)
whole_steps setup fine w c s (Cancel h n) = by_tables setup w c (Cancel h n) s (λ t. cancel_steps setup w c fine t h n)
whole_steps setup fine w c s (Expire h n) = by_tables setup w c (Expire h n) s (λ t. expire_steps setup w c fine t h n)
whole_steps setup fine w c s (Serve dev ep) = serve_steps setup w c fine s dev ep
whole_steps setup fine w c s Command = command_steps setup w c fine s
whole_steps setup fine w c s Deliver = deliver_steps setup w c fine s
whole_steps setup fine w c s Take = take_steps setup w c fine s
whole_steps setup fine w c s (Answer h n verdict) = by_tables setup w c (Answer h n verdict) s (λ t. answer_steps setup w c fine t h n verdict)
whole_steps setup fine w c s (Unplug dev) = unplug_steps setup w c s dev
