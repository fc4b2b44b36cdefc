-- What the parts answer at a submission's tests: what it is refused for, and where it can join a line.
use Rattle.std.proofs.Common.{◌≡◌, ℕ, ◌+◌, ◌-◌, ◌<◌, ◌≤◌, true, false, ap, sym, subst, ◌∙◌, arith, length, List, Option, Some, None, Ok, Err}
use Rattle.std.specs.Prelude.{◌==◌, slice_get}
use Rattle.std.specs.List.{find}
use Rattle.std.specs.Option.{option_map, option_map_or}
use Rattle.std.proofs.lemmas.Bool.{eq-eqb, le-leb, lt-leb, ne_eqb}
use Rattle.usb_model.specs.declared.refused.Refused.{Refused}
use Rattle.usb_model.specs.declared.refused.Refused.TheVariants.{Busy, NoDevice, NotFound}
use Rattle.usb_model.specs.declared.request.Request.{Request}
use Rattle.usb_model.specs.declared.setup.Configuration.{Configuration}
use Rattle.usb_model.specs.declared.setup.EndpointInfo.{EndpointInfo}
use Rattle.usb_model.specs.Limits.{last_number, most_bytes, most_places}
use Rattle.usb_model.specs.Requests.{length_of}
use Rattle.usb_model.specs.Setup.{Setup, endpoint_id, info_of}
use Rattle.usb_model.specs.World.{Claims, World, holder, is_its}
use Rattle.proof_model.proofs.Lists.Pieces.{same_name}
use Rattle.proof_model.proofs.Handles.Alone.{is_its-some}
use Rattle.usb_model.specs.Kept.{KeptEndpoint}
use Rattle.usb_tables.specs.Holders.{device_of as device_at}
use Rattle.usb_tables.specs.Refusal.{checked}
use Rattle.usb_tables.specs.Tds.{Tds, tds_of}
use Rattle.usb_xhc.specs.Context.{Context}
use Rattle.usb_xhc.specs.Slots.{DeviceSlot, context_of}
use Rattle.usb_tables.specs.HandleStates.{number_of, results_at}
use Rattle.usb_tables.specs.TransfersInFlight.{line_at}
use Rattle.refine_world.specs.Shows.{Core, Shows, at as at_here, tellings}
use Rattle.refine_world.specs.ShownEndpoint.{StandsNear}
use Rattle.refine_rings.specs.Holds.{HasRing}
use Rattle.usb_device.specs.Pipe.{pipe_at}
use Rattle.refine_world.specs.Calls.{places_at}
use Rattle.refine_rings.proofs.Slots.{slot_there}
use Rattle.refine_core.specs.State.{Keeps, State}
use Rattle.refine_core.specs.Submissions.{Admits, RefusesIt}
use Rattle.refine_core.specs.Works.{IsAt, IsHolder, context_in}
use Rattle.refine_core.proofs.Admission.{CheckIs, IsOwn, Passes, check_is, refuses_closed, refuses_full, refuses_gone, refuses_last, refuses_others, right_body, short_body, takes_it}
use Rattle.refine_core.proofs.Held.{holder_is, is_at}
use Rattle.refine_core.proofs.Homes.{device_is, endpoints_none}
use Rattle.refine_core.proofs.Lines.{as_many}
use Rattle.refine_core.proofs.Posts.{ring_there}
use Rattle.refine_core.proofs.Rings.{ring_of}
use Rattle.refine_core.proofs.Room.{fits_one_more}
use Rattle.refine_core.proofs.Transfers.{end_at}

module _ {P : Type 0} where
  -- the name has no device open
  pub join_closed : (setup : Setup) (s : State P) (c : Core) (h : ℕ) (request : Request) → Keeps setup s c → None ≡ device_at s.claims h → RefusesIt setup c h request NotFound
  join_closed setup s c h request keeps is = refuses_closed setup c h request (device_is setup s c h None keeps is)

  -- the endpoint isn't the name's
  pub join_others : (setup : Setup) (s : State P) (c : Core) (h d : ℕ) (request : Request) (o : Option ℕ) → Keeps setup s c → Some d ≡ device_at s.claims h → IsHolder s d request.ep o → is_its h o ≡ false → RefusesIt setup c h request NotFound
  join_others setup s c h d request o keeps is holds other =
      refuses_others setup c h d request (device_is setup s c h (Some d) keeps is) (ap (is_its h) (holder_is setup s c d request.ep o keeps holds) ∙ other)

  -- the endpoint is the name's, of the device that it has open
  pub record IsMine (setup : Setup) (s : State P) (c : Core) (h d e : ℕ) : Type 0 where
    pub at : IsAt setup s c h d e
    pub own : IsOwn setup c h d e

  pub is_mine : (setup : Setup) (s : State P) (c : Core) (h d e : ℕ) (o : Option ℕ) → Keeps setup s c → Some d ≡ device_at s.claims h → IsHolder s d e o → is_its h o ≡ true → IsMine setup s c h d e
  is_mine setup s c h d e o keeps is holds its =
      let at : IsAt setup s c h d e = is_at setup s c h d e keeps (subst (IsHolder s d e) (is_its-some h o its) holds) in
      record { at = at; own = record { opened = device_is setup s c h (Some d) keeps is; held = ap (is_its h) at.holds ∙ same_name h } }

  -- whether its device is gone
  pub gone_is : (setup : Setup) (s : State P) (c : Core) (h d e : ℕ) → IsMine setup s c h d e → option_map_or (λ (x : DeviceSlot). x.gone) (slice_get s.controller.slots d) false ≡ c.gone d
  gone_is setup s c h d e mine =
      let found = slot_there setup s.controller c.gone c.endpoints c.orders c.events c.posted d e mine.at.interface mine.at.keeps.held mine.at.there in
      ap (λ (o : Option DeviceSlot). option_map_or (λ (x : DeviceSlot). x.gone) o false) found.1 ∙ (mine.at.keeps.held.each d found.0 found.1).is_gone

  -- it is
  pub join_gone : (setup : Setup) (s : State P) (c : Core) (h d : ℕ) (request : Request) → IsMine setup s c h d request.ep → option_map_or (λ (x : DeviceSlot). x.gone) (slice_get s.controller.slots d) false ≡ true → RefusesIt setup c h request NoDevice
  join_gone setup s c h d request mine gone = refuses_gone setup c h d request mine.own (sym (gone_is setup s c h d request.ep mine) ∙ gone)

  -- its device has a configuration
  pub join_nowhere : (setup : Setup) (s : State P) (c : Core) (h d e : ℕ) → IsMine setup s c h d e → slice_get s.claims.configs d ≡ None → ⊥
  unfolding info_of
  join_nowhere setup s c h d e mine none =
      let both : None ≡ Some mine.at.interface =
      sym (ap (λ (l : List EndpointInfo). option_map (λ (x : EndpointInfo). x.interface) (find (λ (x : EndpointInfo). x.address == e) l)) (endpoints_none setup s c d mine.at.keeps none)) ∙ mine.at.there in
      absurd cc

  -- its device is there, of this configuration
  pub record IsHere (setup : Setup) (s : State P) (c : Core) (h d e : ℕ) (config : Configuration) : Type 0 where
    pub mine : IsMine setup s c h d e
    pub here : option_map_or (λ (x : DeviceSlot). x.gone) (slice_get s.controller.slots d) false ≡ false
    pub known : slice_get s.claims.configs d ≡ Some config

  -- what the check of the request answers
  join_check : (setup : Setup) (s : State P) (c : Core) (h d : ℕ) (request : Request) (config : Configuration) → IsHere setup s c h d request.ep config → CheckIs setup c h d request (checked config request)
  join_check setup s c h d request config is =
      check_is setup s c h d request config is.mine.at.interface is.mine.at.keeps is.mine.own (sym (gone_is setup s c h d request.ep is.mine) ∙ is.here) is.mine.at.there is.known

  -- the check refuses
  pub join_refused : (setup : Setup) (s : State P) (c : Core) (h d : ℕ) (request : Request) (config : Configuration) (why : Refused) → IsHere setup s c h d request.ep config → Err why ≡ checked config request → RefusesIt setup c h request why
  join_refused setup s c h d request config why is refused = subst (CheckIs setup c h d request) (sym refused) (join_check setup s c h d request config is)

  -- the check passes
  join_passes : (setup : Setup) (s : State P) (c : Core) (h d : ℕ) (request : Request) (config : Configuration) (tds : Tds) → IsHere setup s c h d request.ep config → Ok tds ≡ checked config request → Passes setup d request tds
  join_passes setup s c h d request config tds is passed = subst (CheckIs setup c h d request) (sym passed) (join_check setup s c h d request config is)

  -- the places in use at the endpoint
  places_are : (setup : Setup) (s : State P) (c : Core) (h d e : ℕ) → IsAt setup s c h d e → places_at c h e (c.endpoints d e) ≡ length (line_at s.flights d e) + results_at s.callers h (endpoint_id e)
  places_are setup s c h d e at =
      omega (arith, as_many (Some h) e (line_at s.flights d e) (c.endpoints d e).line (end_at setup s c h d e at).line, (at.keeps.named h).waiting e (at.keeps.plain d e at.interface at.there))

  -- no place is left
  pub join_full : (setup : Setup) (s : State P) (c : Core) (h d : ℕ) (request : Request) (config : Configuration) (tds : Tds) → IsHere setup s c h d request.ep config → Ok tds ≡ checked config request
      → 16 - results_at s.callers h (endpoint_id request.ep) ≤ length (line_at s.flights d request.ep) → RefusesIt setup c h request Busy
  join_full setup s c h d request config tds is passed full =
      let passes = join_passes setup s c h d request config tds is passed in
      refuses_full setup c h d request is.mine.own (sym (gone_is setup s c h d request.ep is.mine) ∙ is.here) passes.supported passes.right
      (le-leb most_places (places_at c h request.ep (c.endpoints d request.ep)) (omega (arith, full, places_are setup s c h d request.ep is.mine.at)))

  -- no number is left
  pub join_last : (setup : Setup) (s : State P) (c : Core) (h d : ℕ) (request : Request) (config : Configuration) (tds : Tds) → IsHere setup s c h d request.ep config → Ok tds ≡ checked config request
      → number_of s.callers h ≡ last_number → RefusesIt setup c h request Busy
  join_last setup s c h d request config tds is passed last =
      let passes = join_passes setup s c h d request config tds is passed in
      refuses_last setup c h d request is.mine.own (sym (gone_is setup s c h d request.ep is.mine) ∙ is.here) passes.supported passes.right
      (eq-eqb (c.names h).next_number last_number ((is.mine.at.keeps.named h).number ∙ last))

  -- it joins the line
  pub joins_there : (setup : Setup) (w : World) (s : State P) (c : Core) (h d : ℕ) (request : Request) (config : Configuration) (tds : Tds) → Shows setup w c → IsHere setup s c h d request.ep config → Ok tds ≡ checked config request
      → length (line_at s.flights d request.ep) < 16 - results_at s.callers h (endpoint_id request.ep) → number_of s.callers h < last_number → Admits setup s c h d request tds
  joins_there setup w s c h d request config tds shows is passed free more = record {
    at = at;
    takes = takes_it setup c h d request is.mine.own (sym (gone_is setup s c h d request.ep is.mine) ∙ is.here) passes.supported passes.right
        (lt-leb most_places (places_at c h request.ep (c.endpoints d request.ep)) (omega (arith, free, places_are setup s c h d request.ep at)))
        (ne_eqb (c.names h).next_number last_number (λ same. omega (arith, same, (at.keeps.named h).number, more)));
    short = short;
    can = record {
      context = ring.0;
      there = ring.1;
      split = passes.split ∙ ap (λ (n : ℕ). tds_of n request) (sym has.3.size);
      fits = fits_one_more ring.0.size ring.0.ring.line b.line b.end b.dequeue request has.3.context.ring (shows.few d e) near.near
          (omega (arith, free, as_many (Some h) e (line_at s.flights d e) b.line (end_at setup s c h d e at).line)) short;
      place = omega (arith, free);
      number = more;
    };
  }
    where
      e : ℕ
      e = request.ep

      b : KeptEndpoint
      b = c.endpoints d e

      at : IsAt setup s c h d e
      at = is.mine.at

      passes : Passes setup d request tds
      passes = join_passes setup s c h d request config tds is passed

      short : length_of request.body ≤ most_bytes
      short = short_body e request.body (right_body setup d request passes.right)

      ring : (x : Context) × (context_in s.controller d e ≡ Some x)
      ring = ring_there setup s.controller c d e at.interface at.keeps.held at.there passes.supported

      has : (v : DeviceSlot) × (slice_get s.controller.slots d ≡ Some v) × (context_of v e ≡ Some ring.0) × HasRing setup d e (pipe_at v.pipes e) (c.endpoints d e) ring.0
      has = ring_of setup s.controller c d e at.interface ring.0 at.keeps.held at.there ring.1

      near : StandsNear b (tellings (at_here d e shows.news))
      near = shows.near h d e (ap (λ (f : Claims). holder setup f d e) (sym shows.claims) ∙ at.holds)
