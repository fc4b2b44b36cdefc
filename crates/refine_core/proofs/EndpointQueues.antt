-- The lanes of endpoints: each endpoint of a device has its own.
use Rattle.std.proofs.Common.{◌≡◌, ℕ, ◌<◌, ◌≤◌, refl, sym, arith, true, Some, None, length, List, Option, [], ◌∷◌, ◌⊎◌, inl, inr}
use Rattle.std.specs.Prelude.{slice_set}
use Rattle.usb_model.specs.Setup.{Setup, endpoint_id, interface_of}
use Rattle.usb_tables.specs.Tables.{is_plain}
use Rattle.usb_tables.specs.declared.outstanding.Sent.{Sent}
use Rattle.usb_tables.specs.Outstanding.{sent_at}
use Rattle.usb_tables.specs.ByEndpoint.{lane_at}
use Rattle.usb_tables.specs.TransfersInFlight.{TransfersInFlight, line_at, with_line}
use Rattle.std.proofs.lemmas.Bool.{cases_eq}
use Rattle.usb_model.specs.Kept.{KeptEndpoint, KeptTransfer}
use Rattle.refine_rings.specs.EndpointLaws.{HaveTrbsOf}
use Rattle.refine_rings.specs.Holds.{with_end}
use Rattle.refine_rings.specs.Laws.{HasPlain}
use Rattle.refine_rings.proofs.Ends.{at_other, beside}
use Rattle.refine_rings.proofs.Ids.{has_device, id-lt, same_id}
use Rattle.refine_core.proofs.Lines.{index_set, index_set_other}

-- a device's lanes are below 128
pub lane-lt : (d e : ℕ) → d < 4 → lane_at d e < 128
lane-lt d e few =
    let id : endpoint_id e < 32 = id-lt e in
    omega (arith, few, id)

-- one lane is one endpoint's
pub same_lane : (d e dev ep : ℕ) → is_plain e ≡ true → is_plain ep ≡ true → lane_at d e ≡ lane_at dev ep → (d ≡ dev) × (e ≡ ep)
same_lane d e dev ep p q same =
    let id : endpoint_id e < 32 = id-lt e in
    let other : endpoint_id ep < 32 = id-lt ep in
    let devices : d ≡ dev = omega (arith, same, id, other) in
    let ids : endpoint_id e ≡ endpoint_id ep = omega (arith, same, devices) in
    (devices, same_id e ep p q ids)

-- endpoints that aren't one have two lanes
pub lanes_apart : (setup : Setup) (d e i dev ep k : ℕ) → HasPlain setup → interface_of setup d e ≡ Some i → interface_of setup dev ep ≡ Some k → ((d ≡ dev) × (e ≡ ep) → ⊥) → lane_at dev ep ≡ lane_at d e → ⊥
lanes_apart setup d e i dev ep k plain here there other same = other (same_lane d e dev ep (plain d e i here) (plain dev ep k there) (sym same))

-- an endpoint of an interface has a lane
pub has_lane : (setup : Setup) (d e i : ℕ) → length setup ≤ 4 → interface_of setup d e ≡ Some i → lane_at d e < 128
has_lane setup d e i few there =
    let device : d < length setup = has_device setup d e i there in
    lane-lt d e (omega (arith, few, device))

module _ {T : Type 0} where
  -- a line that was put at an endpoint is there
  pub line_here : (v : TransfersInFlight T) (d e : ℕ) (l : List (Option T)) → length v.lines ≡ 128 → lane_at d e < 128 → line_at (with_line v d e l) d e ≡ l
  line_here v d e l all lane = index_set v.lines (lane_at d e) [] l (omega (arith, all, lane))

  -- and the others stay
  pub line_other : (v : TransfersInFlight T) (d e dev ep : ℕ) (l : List (Option T)) → (lane_at dev ep ≡ lane_at d e → ⊥) → line_at (with_line v d e l) dev ep ≡ line_at v dev ep
  line_other v d e dev ep l other = index_set_other v.lines (lane_at d e) (lane_at dev ep) [] l other

-- an errand that was put at an endpoint is there
pub sent_here : (v : List (Option Sent)) (d e : ℕ) (x : Option Sent) → length v ≡ 128 → lane_at d e < 128 → sent_at (slice_set v (lane_at d e) x) d e ≡ x
sent_here v d e x all lane = index_set v (lane_at d e) None x (omega (arith, all, lane))

-- and the others stay
pub sent_other : (v : List (Option Sent)) (d e dev ep : ℕ) (x : Option Sent) → (lane_at dev ep ≡ lane_at d e → ⊥) → sent_at (slice_set v (lane_at d e) x) dev ep ≡ sent_at v dev ep
sent_other v d e dev ep x other = index_set_other v (lane_at d e) (lane_at dev ep) None x other

-- endpoints but the one that was put
pub with_other : (endpoints : ℕ → ℕ → KeptEndpoint) (d e : ℕ) (b : KeptEndpoint) (dev ep : ℕ) → ((d ≡ dev) × (e ≡ ep) → ⊥) → with_end endpoints d e b dev ep ≡ endpoints dev ep
with_other endpoints d e b dev ep other = by_device (cases_eq d dev) (cases_eq e ep)
  where
    by_device : (d ≡ dev) ⊎ (d ≡ dev → ⊥) → (e ≡ ep) ⊎ (e ≡ ep → ⊥) → with_end endpoints d e b dev ep ≡ endpoints dev ep
    by_device (inr apart) end = at_other endpoints d e b dev ep apart
    by_device (inl same) (inr apart) = beside endpoints d e b dev ep apart
    by_device (inl same) (inl also) = absurd (other (same, also))

-- a line has the TRBs that it has
pub same_trbs : (ys : List KeptTransfer) → HaveTrbsOf ys ys
same_trbs [] = tt
same_trbs (y ∷ ys) = (record { place = refl; lengths = refl; blank = refl; request = refl }, same_trbs ys)
