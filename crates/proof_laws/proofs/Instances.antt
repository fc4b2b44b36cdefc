-- The laws at worked rows, computed.
use Rattle.std.proofs.Common.{◌≡◌, ℕ, true, false, inr, List, [], ◌∷◌, ◌++◌, ◌∙◌, Some, append-nil, map, refl, subst₂, sym, arith}
use Rattle.std.specs.List.{IsDistinct, flat_map}
use Rattle.usb_model.specs.declared.response.Response.{Response}
use Rattle.usb_model.specs.declared.response.Response.TheVariants.{Data, Stall}
use Rattle.usb_model.specs.declared.request.Body.TheVariants.{In}
use Rattle.usb_model.specs.declared.outcome.Outcome.{Outcome}
use Rattle.usb_model.specs.Endpoint.Packets.{outcome, open_with, ended_with, Ends, IsOpenAt}
use Rattle.usb_model.specs.Endpoint.{live_numbers}
use Rattle.usb_model.specs.Laws.Account.{Transfer, account, account_from, account_of}
use Rattle.usb_model.specs.Laws.Cut.{AllFit, Cell, Cleared, Ended, Fate, FitsFate, Of, Part, Waits, Withdrawn, accepted_as, endpoint_of, parts_of}
use Rattle.usb_model.specs.Laws.Calls.{made, made_from}
use Rattle.usb_model.specs.Laws.Places.{calls}
use Rattle.usb_model.specs.Laws.Bound.{commands_in, delivers_in}
use Rattle.proof_laws.specs.Rows.{bulk}
use Rattle.proof_laws.specs.Rows.Halts.{stall_and_clear_halt}
use Rattle.proof_laws.specs.Rows.Unplugs.{unplug_amid_transfers}
use Rattle.proof_laws.proofs.Computed.{computed}
use Rattle.proof_model.proofs.Shares.Cuts.{ends_now}
use Rattle.proof_model.proofs.Shares.OpenShares.{open_if, outcome_nothing}
use Rattle.proof_laws.specs.Instances.{CallsBack, ReachesBound, ReachesBounds, IsCutInto, IsNotCut, stalled_cells, unplugged_cells}

-- the bound is reached: the 17th Deliver makes the result, and no earlier one
pub reaches_bound : ReachesBound
unfolding computed commands_in delivers_in calls live_numbers
reaches_bound = record {
  are_its = refl;
  accepted = refl;
  commands = refl;
  delivers = refl;
  still = refl;
  not_made = refl;
  no_more = refl;
  made = refl;
}

-- the bounds of what waits are reached
pub reaches_bounds : ReachesBounds
unfolding computed
reaches_bounds = record { line = refl; orders = refl; news = refl; results = refl; rounds = refl }

-- the results made, those called back and those that wait
pub calls_back : CallsBack
unfolding computed calls made made_from
calls_back = record { called = refl; waits = refl; made = refl }

-- shares that one answer makes end
ends_by : (x : Response) (o : Outcome) (code : ℕ) → outcome (bulk 0x81 (In 8)) 8 (x ∷ []) false ≡ Some o → o.code ≡ Some code → Ends (bulk 0x81 (In 8)) 8 (x ∷ []) code
ends_by x o code is ended = ends_now (bulk 0x81 (In 8)) 8 [] (x ∷ []) o code (omega arith) (open_if (outcome (bulk 0x81 (In 8)) 8 [] false) (open_with []) (outcome_nothing (bulk 0x81 (In 8)) 8) refl) is ended

-- a stall ends a transfer
ends_stalled : Ends (bulk 0x81 (In 8)) 8 (Stall ∷ []) 6
unfolding computed
ends_stalled = ends_by Stall (ended_with [] 6) 6 refl refl

-- a short packet ends a transfer
ends_short : Ends (bulk 0x81 (In 8)) 8 (Data (1 ∷ []) ∷ []) 13
unfolding computed
ends_short = ends_by (Data (1 ∷ [])) (ended_with ((1 ∷ []) ∷ []) 13) 13 refl refl

-- a full packet ends a transfer of its length
ends_whole : Ends (bulk 0x81 (In 8)) 8 (Data (1 ∷ 2 ∷ 3 ∷ 4 ∷ 5 ∷ 6 ∷ 7 ∷ 8 ∷ []) ∷ []) 1
unfolding computed
ends_whole = ends_by (Data (1 ∷ 2 ∷ 3 ∷ 4 ∷ 5 ∷ 6 ∷ 7 ∷ 8 ∷ [])) (ended_with ((1 ∷ 2 ∷ 3 ∷ 4 ∷ 5 ∷ 6 ∷ 7 ∷ 8 ∷ []) ∷ []) 1) 1 refl refl

-- the cells of an endpoint that stalls and is cleared
pub stalled_is_cut : IsCutInto stall_and_clear_halt stalled_cells
unfolding computed account account_from account_of live_numbers IsDistinct
stalled_is_cut = (
  record {
    cells = stalled_cells;
    all = refl;
    numbers = ((refl, (refl, tt)), ((refl, tt), (tt, tt)));
    shares = refl;
    fits = (ends_stalled, ((refl, refl), (ends_short, tt)));
    ended = refl;
    told = (inr (refl, false, (λ q. q), refl), (inr (refl, false, (λ q. q), refl), (inr (refl, false, (λ q. q), refl), tt)));
    packets = refl;
    results = (omega arith, (omega arith, (omega arith, tt)));
    asks = tt;
  },
  refl,
)

-- the cells of an endpoint whose device is unplugged
pub unplugged_is_cut : IsCutInto unplug_amid_transfers unplugged_cells
unfolding computed account account_from account_of live_numbers IsDistinct
unplugged_is_cut = (
  record {
    cells = unplugged_cells;
    all = refl;
    numbers = ((refl, tt), (tt, tt));
    shares = refl;
    fits = (ends_whole, ((refl, refl), tt));
    ended = refl;
    told = (inr (refl, true, (λ q. refl), refl), (inr (refl, true, (λ q. q), refl), tt));
    packets = refl;
    results = (omega arith, (omega arith, tt));
    asks = tt;
  },
  refl,
)

-- a share of one empty packet, at the packet size 0, is open to no transfer
not_open : (x : Part) → x.request ≡ bulk 0x81 (In 8) → x.share ≡ Data [] ∷ [] → IsOpenAt (outcome x.request 0 x.share false) → ⊥
unfolding computed
not_open x request share op = let none : ⊥ = subst₂ (λ r l. IsOpenAt (outcome r 0 l false)) request share op in none

-- so what came of it can't be told
no_fate : (x : Part) (f : Fate) → x.request ≡ bulk 0x81 (In 8) → x.share ≡ Data [] ∷ [] → endpoint_of x.n f ≡ [] → FitsFate 0 false x f → ⊥
no_fate x Waits request share none fit = not_open x request share fit
no_fate x (Withdrawn ask) request share none fit = not_open x request share fit
no_fate x (Ended code gone) request share none fit = cc

-- nor by any cells
no_cells : (cells : List Cell) → map accepted_as cells ≡ Transfer 0 (bulk 0x81 (In 8)) 0 ∷ [] → flat_map (λ x. x.share) (flat_map parts_of cells) ++ [] ≡ Data [] ∷ []
    → flat_map (λ x. endpoint_of x.n x.fate) (flat_map parts_of cells) ≡ [] → AllFit 0 false cells → ⊥
no_cells [] all shares ended fits = cc
no_cells (Cleared ∷ cells) all shares ended fits = cc
no_cells (Of x ∷ y ∷ cells) all shares ended fits = cc
no_cells (Of x ∷ []) all shares ended fits =
    let request : x.request ≡ bulk 0x81 (In 8) = cc in
    no_fate x x.fate request (sym (append-nil x.share) ∙ (sym (append-nil (x.share ++ [])) ∙ shares)) (sym (append-nil (endpoint_of x.n x.fate)) ∙ ended) fits.0

-- the packet size 0, with an empty packet: no cut
pub is_not_cut : IsNotCut
unfolding computed account account_from account_of live_numbers IsDistinct
is_not_cut = record {
  size = refl;
  accepted = refl;
  uncut = λ c. no_cells c.cells c.all c.shares c.ended c.fits;
}
