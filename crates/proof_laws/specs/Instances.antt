-- The laws at worked rows: a bound that is reached, and scripts that are cut.
use Rattle.std.specs.Prelude.{◌≡◌, ℕ, true, false, List, [], ◌∷◌, ◌++◌, length, map, take, drop}
use Rattle.std.specs.List.{count_by}
use Rattle.usb_model.specs.declared.response.Response.TheVariants.{Data, Stall}
use Rattle.usb_model.specs.declared.request.Body.TheVariants.{In}
use Rattle.usb_model.specs.declared.reply.Returned.{Returned}
use Rattle.usb_model.specs.declared.status.Status.TheVariants.{Completed}
use Rattle.usb_model.specs.declared.step.Step.{Step}
use Rattle.usb_model.specs.declared.step.Step.TheVariants.{Open, Claim, Submit, Cancel, Serve}
use Rattle.usb_model.specs.declared.request.Kind.TheVariants.{Bulk}
use Rattle.usb_model.specs.Setup.{Setup, packet_size_of, script_of}
use Rattle.usb_model.specs.Fitness.{errands_of, events_of}
use Rattle.usb_model.specs.Machine.{Machine, endpoint_at, is_result_at}
use Rattle.usb_model.specs.World.{machine_of, new_world, world_from}
use Rattle.usb_model.specs.World.Journal.{entries}
use Rattle.usb_model.specs.World.Plans.{expand}
use Rattle.usb_model.specs.Laws.Account.{Transfer, account}
use Rattle.usb_model.specs.Laws.Cut.{Ended, Of, Cleared, Cell, IsCut}
use Rattle.usb_model.specs.Laws.Bound.{IsAccepted, is_in_progress, commands_in, delivers_in, world_at, asked_world, results_of}
use Rattle.usb_model.specs.Laws.Bounds.{line_at}
use Rattle.usb_model.specs.Laws.Calls.{made, returned, waiting}
use Rattle.usb_model.specs.Laws.Places.{calls}
use Rattle.proof_laws.specs.Rows.{Row, bulk}
use Rattle.proof_laws.specs.Rows.Callbacks.{resubmit_three_rounds}
use Rattle.proof_laws.specs.Rows.Cancels.{cancel_at_its_bound}

-- the steps of a worked row
abbrev pub steps_of : Row → List Step
steps_of row = expand row.setup row.plan row.rules

-- the steps before transfer 15 is asked to end
abbrev pub before_ask : List Step
before_ask = take 34 (steps_of cancel_at_its_bound)

-- and so many of those behind it
abbrev pub after_ask : ℕ → List Step
after_ask k = take k (drop 35 (steps_of cancel_at_its_bound))

-- a Command and sixteen Delivers leave it in progress, and the seventeenth makes its result
pub record ReachesBound : Type 0 where
  pub are_its : before_ask ++ Cancel 1 15 ∷ after_ask 18 ≡ take 53 (steps_of cancel_at_its_bound)
  pub accepted : IsAccepted cancel_at_its_bound.setup (world_at cancel_at_its_bound.setup before_ask) (Cancel 1 15)
  pub commands : commands_in cancel_at_its_bound.setup 1 0x81 (asked_world cancel_at_its_bound.setup before_ask (Cancel 1 15)) (after_ask 17) ≡ 1
  pub delivers : delivers_in cancel_at_its_bound.setup 1 0x81 (asked_world cancel_at_its_bound.setup before_ask (Cancel 1 15)) (after_ask 17) ≡ 16
  pub still : is_in_progress cancel_at_its_bound.setup 1 0x81 15 (world_at cancel_at_its_bound.setup (before_ask ++ Cancel 1 15 ∷ after_ask 17)) ≡ true
  pub not_made : results_of cancel_at_its_bound.setup (before_ask ++ Cancel 1 15 ∷ after_ask 17) 1 15 ≡ 0
  pub no_more : is_in_progress cancel_at_its_bound.setup 1 0x81 15 (world_at cancel_at_its_bound.setup (before_ask ++ Cancel 1 15 ∷ after_ask 18)) ≡ false
  pub made : results_of cancel_at_its_bound.setup (before_ask ++ Cancel 1 15 ∷ after_ask 18) 1 15 ≡ 1

-- the handle's machine after so many steps of a row
abbrev pub machine_in : Row → ℕ → Machine
machine_in row k = machine_of row.setup 1 (world_at row.setup (take k (steps_of row)))

-- sixteen transfers are in a line, one of them cancelled amid its packets: 1 order waits for them, then 17 pieces of news,
-- then 16 results; and a transfer that was submitted again three times has the number 3
pub record ReachesBounds : Type 0 where
  pub line : length (line_at (endpoint_at (machine_in cancel_at_its_bound 34) 0x81)) ≡ 16
  pub orders : length (errands_of 0x81 (machine_in cancel_at_its_bound 35).orders) ≡ 1
  pub news : length (events_of 0x81 (machine_in cancel_at_its_bound 36).news) ≡ 17
  pub results : count_by (is_result_at 0x81) (machine_in cancel_at_its_bound 53).results ≡ 16
  pub rounds : map (λ x. x.round) (machine_in resubmit_three_rounds 18).handle.in_callbacks ≡ 3 ∷ []

-- what is told of the transfer of this number, which was submitted so often before, and read this byte
abbrev pub round_told : ℕ → ℕ → Returned
round_told n byte = record { h = 1; n = n; ep = 0x81; round = n; status = Completed; actual = 1; bytes = byte ∷ [] }

-- of three rounds two were called back, and one waits
pub record CallsBack : Type 0 where
  pub called : calls (entries resubmit_three_rounds.setup (take 13 (steps_of resubmit_three_rounds)) 1) ≡ round_told 0 10 ∷ round_told 1 11 ∷ []
  pub waits : map (returned 1) (waiting resubmit_three_rounds.setup (take 13 (steps_of resubmit_three_rounds)) 1) ≡ round_told 2 12 ∷ []
  pub made : map (returned 1) (made resubmit_three_rounds.setup (take 13 (steps_of resubmit_three_rounds)) 1) ≡ round_told 0 10 ∷ round_told 1 11 ∷ round_told 2 12 ∷ []

-- the script of the endpoint 81 of device 0 is cut into these
abbrev pub IsCutInto : Row → List Cell → Type 0
IsCutInto row cells =
    (c : IsCut (packet_size_of row.setup 0 0x81) (script_of row.setup 0 0x81) (account row.setup 0 0x81 (steps_of row)) ((world_from row.setup (new_world row.setup) (steps_of row)).endpoints 0 0x81))
    × (c.cells ≡ cells)

-- a stall, one that stalls behind it, and after the halt was cleared a short packet
abbrev pub stalled_cells : List Cell
stalled_cells =
    Of (record { n = 0; request = bulk 0x81 (In 8); round = 0; share = Stall ∷ []; fate = Ended 6 false })
    ∷ Of (record { n = 1; request = bulk 0x81 (In 8); round = 0; share = []; fate = Ended 6 false })
    ∷ Cleared
    ∷ Of (record { n = 2; request = bulk 0x81 (In 8); round = 0; share = Data (1 ∷ []) ∷ []; fate = Ended 13 false })
    ∷ []

-- a whole packet, and one that ends when its device is gone
abbrev pub unplugged_cells : List Cell
unplugged_cells =
    Of (record { n = 0; request = bulk 0x81 (In 8); round = 0; share = Data (1 ∷ 2 ∷ 3 ∷ 4 ∷ 5 ∷ 6 ∷ 7 ∷ 8 ∷ []) ∷ []; fate = Ended 1 false })
    ∷ Of (record { n = 1; request = bulk 0x81 (In 8); round = 0; share = []; fate = Ended 4 true })
    ∷ []

-- a device whose endpoint 81 has the packet size 0, and answers with an empty packet
abbrev pub without_size : Setup
without_size = record {
  config = record { interfaces = 0 ∷ []; endpoints = record { address = 0x81; interface = 0; kind = Bulk; packet_size = 0 } ∷ [] };
  scripts = [] ∷ [] ∷ [] ∷ (Data [] ∷ []) ∷ [];
} ∷ []

-- a transfer of 8 bytes there, and a packet of it
abbrev pub reads_nothing : List Step
reads_nothing = Open 1 0 ∷ Claim 1 0 ∷ Submit 1 (bulk 0x81 (In 8)) ∷ Serve 0 0x81 ∷ []

-- it is accepted, and the script isn't cut: with the empty packet the transfer has no outcome
pub record IsNotCut : Type 0 where
  pub size : packet_size_of without_size 0 0x81 ≡ 0
  pub accepted : (account without_size 0 0x81 reads_nothing).accepted ≡ Transfer 0 (bulk 0x81 (In 8)) 0 ∷ []
  pub uncut : IsCut 0 (script_of without_size 0 0x81) (account without_size 0 0x81 reads_nothing) ((world_from without_size (new_world without_size) reads_nothing).endpoints 0 0x81) → ⊥
