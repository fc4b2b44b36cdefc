-- The oldest event is taken, and what it tells of a transfer is found in the parts.
use Rattle.std.proofs.Common.{Bool, List, None, Option, Some, [], ap, ap₂, arith, false, map, refl, subst, subst₂, suc, sym, true, length, ℕ, ◌%◌, ◌-◌, ◌<◌, ◌≤◌, ◌∙◌, ◌∷◌, ◌≡◌}
use Rattle.std.specs.Prelude.{drop, slice_get, nat_lt, if◌then◌else◌}
use Rattle.std.proofs.lemmas.Bool.{and_parts, ltb-false, ltb-true}
use Rattle.std.proofs.lemmas.Option.{same_Some}
use Rattle.usb_model.specs.declared.entry.Entry.{Entry}
use Rattle.usb_model.specs.declared.request.Request.{Request}
use Rattle.usb_model.specs.declared.reply.Reply.TheVariants.{Idle}
use Rattle.usb_model.specs.declared.step.Step.TheVariants.{Deliver}
use Rattle.usb_model.specs.Limits.{most_bytes}
use Rattle.usb_model.specs.Requests.{is_short_not_ok, length_of}
use Rattle.usb_model.specs.Setup.{Setup, endpoint_id, interface_of}
use Rattle.usb_model.specs.World.{World, holder}
use Rattle.usb_model.specs.World.Shared.{pieces_of}
use Rattle.usb_tables.specs.Holders.{IsSetup, owner_of}
use Rattle.usb_tables.specs.declared.held.HeldEndpoint.{HeldEndpoint}
use Rattle.usb_trb.specs.declared.kind.TrbKind.{TrbKind}
use Rattle.usb_trb.specs.declared.kind.TrbKind.TheVariants.{TransferEvent}
use Rattle.usb_rings.specs.Places.{address_of}
use Rattle.usb_rings.specs.Line.{IsAt as IsInRing, Line, places}
use Rattle.usb_tables.specs.declared.transfer.Transfer.{Transfer as InFlight}
use Rattle.usb_tables.specs.Tds.{lengths, tds_of}
use Rattle.usb_model.specs.Kept.{KeptEndpoint, KeptTransfer, trbs_of}
use Rattle.usb_model.specs.Events.{Reading, find_at, read_at, reading}
use Rattle.usb_model.specs.Stands.{length_at, read_off}
use Rattle.usb_device.specs.Pipe.{pipe_at}
use Rattle.usb_xhc.specs.Context.{Context}
use Rattle.usb_xhc.specs.Controller.{Controller}
use Rattle.usb_xhc.specs.Slots.{DeviceSlot}
use Rattle.std.specs.Option.{option_map_or}
use Rattle.usb_tables.specs.TransfersInFlight.{item_at}
use Rattle.refine_rings.proofs.Lines as lines
use Rattle.refine_rings.proofs.Where as where_
use Rattle.refine_rings.specs.Endpoint.{IsContext}
use Rattle.refine_rings.specs.Line.{IsSent}
use Rattle.refine_world.specs.Known.{KnowsEvent, KnowsTransfer}
use Rattle.refine_world.specs.Shows.{Completes, Core, RingEvent, Shows, Transfers}
use Rattle.refine_world.specs.Steps.{deliver_core, deliver_first}
use Rattle.refine_world.specs.Calls.{step_core}
use Rattle.refine_world.proofs.Strays.{never_stray}
use Rattle.refine_rings.specs.Holds.{HoldsCore, RingIs, event_trb, ring_at}
use Rattle.refine_rings.proofs.Events.{takes}
use Rattle.refine_core.specs.Deliveries.{IsTaken, Tells, ending_of, is_gone}
use Rattle.usb_tables.specs.declared.ending.Ending.{Ending}
use Rattle.usb_model.specs.declared.status.Status.{Status}
use Rattle.usb_model.specs.declared.item.Ask.{Ask}
use Rattle.usb_model.specs.Endpoint.Status.{told_status}
use Rattle.refine_core.specs.State.{IsFlight, Keeps, State}
use Rattle.refine_core.specs.Steps.{Is}
use Rattle.refine_core.specs.Works.{IsAt, context_in}
use Rattle.refine_core.proofs.Buffers.{buffers_same}
use Rattle.refine_core.proofs.Changed.{end_still, name_still}
use Rattle.refine_core.proofs.Items.{IsFoundAt, found_somewhere}
use Rattle.refine_core.proofs.Held.{held_interface, holder_same}
use Rattle.refine_core.proofs.Ringed.{SameRings, rings_as}
use Rattle.refine_core.proofs.Rings.{IsSlotOf, slot_of}
use Rattle.refine_core.proofs.Transfers.{IsLiveAt, live_at}

-- the controller without its oldest event
abbrev pub without_event : Controller → Controller
without_event k = record k { events = record k.events { waits = drop 1 k.events.waits } }

-- what is read is the transfer at the place, and no more of its TRB is left than this has
pub read_parts : (p r : ℕ) (o : Option KeptTransfer) (found : Reading) → read_at p r o ≡ Some found → (o ≡ Some found.kept) × (r ≤ length_at found.kept.lengths (p - found.kept.place)) × (read_off found.kept.lengths (p - found.kept.place) r ≡ found.actual)
read_parts p r None found is = absurd cc
read_parts p r (Some y) found is = by_test (nat_lt (length_at y.lengths (p - y.place)) r) refl is
  where
    by_test : (b : Bool) → nat_lt (length_at y.lengths (p - y.place)) r ≡ b → (if b then None else Some (record { kept = y; actual = read_off y.lengths (p - y.place) r })) ≡ Some found
        → (Some y ≡ Some found.kept) × (r ≤ length_at found.kept.lengths (p - found.kept.place)) × (read_off found.kept.lengths (p - found.kept.place) r ≡ found.actual)
    by_test true test it = absurd cc
    by_test false test it =
        let same : record { kept = y; actual = read_off y.lengths (p - y.place) r } ≡ found = same_Some _ found it in
        subst (λ (f : Reading). (Some y ≡ Some f.kept) × (r ≤ length_at f.kept.lengths (p - f.kept.place)) × (read_off f.kept.lengths (p - f.kept.place) r ≡ f.actual)) same
        (refl, ltb-false (length_at y.lengths (p - y.place)) r test, refl)

-- what has a place of a ring, as it is answered
abbrev pub FindsPlace : Line → ℕ → Option (ℕ × ℕ) → Type 0
FindsPlace l p o = (i j : ℕ) → IsInRing l p i j → o ≡ Some (i, j)

module _ {P : Type 0} where
  -- the core's events are others
  events_left : (setup : Setup) (old : State P) (k : Controller) (c : Core) (es : List RingEvent) → SameRings old.controller k → Keeps setup old c → HoldsCore setup k (record c { events = es }) → Keeps setup (record old { controller = k }) (record c { events = es })
  events_left setup old k c es rings keeps held = record {
    set = keeps.set;
    plain = keeps.plain;
    fine = keeps.fine;
    read = keeps.read;
    few = keeps.few;
    bounded = keeps.bounded;
    lanes = keeps.lanes;
    keyed = keeps.keyed;
    cells = keeps.cells;
    buffers = buffers_same old (record old { controller = k }) refl refl rings keeps.buffers;
    held = held;
    claimed = keeps.claimed;
    named = λ h. name_still old (record old { controller = k }) h (c.names h) (pieces_of h c.results) refl refl (keeps.named h);
    ended = keeps.ended;
    ended_plain = keeps.ended_plain;
    ends = λ d e i there. end_still old (record old { controller = k }) (holder setup c.claims d e) d e (c.endpoints d e) refl refl (keeps.ends d e i there);
    free = keeps.free;
  }

  -- the oldest event is taken
  pub takes_event : (setup : Setup) (w : World) (old : State P) (k : Controller) (c : Core) (x : TrbKind) → Keeps setup old c → Shows setup w c → slice_get old.controller.events.waits 0 ≡ Some x → k ≡ without_event old.controller
      → IsTaken setup (record old { controller = k }) c x
  takes_event setup w old k c x keeps shows oldest is = by_events c.events refl
    where
      by_events : (l : List RingEvent) → c.events ≡ l → IsTaken setup (record old { controller = k }) c x
      by_events [] none =
          let waits : old.controller.events.waits ≡ [] = keeps.held.told ∙ ap (map (event_trb old.controller.commands.memory.base)) none in
          let nothing : None ≡ Some x = sym (ap (λ (l : List TrbKind). slice_get l 0) waits) ∙ oldest in
          absurd cc
      by_events (y ∷ ys) first =
          let waits : old.controller.events.waits ≡ event_trb old.controller.commands.memory.base y ∷ map (event_trb old.controller.commands.memory.base) ys = keeps.held.told ∙ ap (map (event_trb old.controller.commands.memory.base)) first in
          let told : event_trb old.controller.commands.memory.base y ≡ x = same_Some _ x (sym (ap (λ (l : List TrbKind). slice_get l 0) waits) ∙ oldest) in
          record {
            world = w;
            shows = shows;
            event = y;
            rest = ys;
            first = first;
            told = sym told ∙ ap (λ (v : Controller). event_trb v.commands.memory.base y) (sym is);
            keeps = events_left setup old k c ys (rings_as old.controller (without_event old.controller) k (λ d id. refl) is) keeps
                (subst (λ (v : Controller). HoldsCore setup v (record c { events = ys })) (sym is)
                (subst (λ (l : List RingEvent). HoldsCore setup (without_event old.controller) (record c { events = l })) (ap (drop 1) first) (takes setup old.controller c.gone c.endpoints c.orders c.events c.posted keeps.held)));
          }

  -- where none waits nothing is done
  pub takes_none : (setup : Setup) (old : State P) (k : Controller) (c : Core) → Keeps setup old c → slice_get old.controller.events.waits 0 ≡ None → k ≡ without_event old.controller
      → Is setup (step_core setup c Deliver) (record { owner = None; reply = Idle }) (record old { controller = k })
  unfolding step_core deliver_core deliver_first
  takes_none setup old k c keeps none is = by_events c.events refl
    where
      by_events : (l : List RingEvent) → c.events ≡ l → Is setup (deliver_first setup c c.events) (record { owner = None; reply = Idle }) (record old { controller = k })
      by_events [] empty =
          let waits : old.controller.events.waits ≡ [] = keeps.held.told ∙ ap (map (event_trb old.controller.commands.memory.base)) empty in
          let same : k ≡ old.controller = is ∙ ap (λ (l : List TrbKind). record old.controller { events = record old.controller.events { waits = l } }) (ap (drop 1) waits ∙ sym waits) in
          subst (λ (l : List RingEvent). Is setup (deliver_first setup c l) (record { owner = None; reply = Idle }) (record old { controller = k })) (sym empty)
          (refl, subst (λ (v : Controller). Keeps setup (record old { controller = v }) c) (sym same) keeps)
      by_events (y ∷ ys) first =
          let waits : old.controller.events.waits ≡ event_trb old.controller.commands.memory.base y ∷ map (event_trb old.controller.commands.memory.base) ys = keeps.held.told ∙ ap (map (event_trb old.controller.commands.memory.base)) first in
          let some : Some (event_trb old.controller.commands.memory.base y) ≡ None = sym (ap (λ (l : List TrbKind). slice_get l 0) waits) ∙ none in
          absurd cc

  -- an event of a transfer at endpoint e of device d, which name h holds: the transfer is this one in flight, at this item, and the event points at this TRB of it
  pub record IsFound (setup : Setup) (s : State P) (c : Core) (pointer residual code d e h : ℕ) (x : Context) (item trb : ℕ) (t : InFlight P) : Type 0 where
    pub world : World
    pub shows : Shows setup world c
    pub place : ℕ
    pub rest : List RingEvent
    pub first : c.events ≡ Transfers d e place residual code ∷ rest
    pub keeps : Keeps setup s (record c { events = rest })
    pub holds : holder setup c.claims d e ≡ Some h
    pub kept : KeptTransfer
    pub actual : ℕ
    pub reads : reading (c.endpoints d e).line place residual ≡ Some (record { kept = kept; actual = actual })
    pub there : slice_get (c.endpoints d e).line item ≡ Some kept
    pub same : IsFlight (Some h) e t kept
    pub gone : is_gone s.controller d ≡ c.gone d
    pub few : length_of t.request.body ≤ most_bytes
    pub inside : trb < length (lengths (tds_of x.size t.request))
    pub left : residual ≤ length_at (lengths (tds_of x.size t.request)) trb
    pub moved : read_off (lengths (tds_of x.size t.request)) trb residual ≡ actual

  -- where it is
  pub record IsTelling (setup : Setup) (s : State P) (c : Core) (pointer residual code d e h : ℕ) : Type 0 where
    pub x : Context
    pub item : ℕ
    pub trb : ℕ
    pub t : InFlight P
    pub context : context_in s.controller d e ≡ Some x
    pub in_ring : IsInRing x.ring.line pointer item trb
    pub flight : item_at s.flights d e item ≡ Some t
    pub found : IsFound setup s c pointer residual code d e h x item trb t

  -- an endpoint whose line has a transfer has a ring
  pub ring_of_item : (setup : Setup) (s : State P) (c : Core) (h d e item : ℕ) (y : KeptTransfer) → IsAt setup s c h d e → slice_get (c.endpoints d e).line item ≡ Some y → (x : Context) × (context_in s.controller d e ≡ Some x) × IsContext x (c.endpoints d e) × (x.ring.line.base ≡ ring_at d e)
  ring_of_item setup s c h d e item y at there = by_context (context_in s.controller d e) refl slot.ring
    where
      slot : IsSlotOf setup s.controller c d e (context_in s.controller d e)
      slot = slot_of setup s.controller c d e at.interface at.keeps.held at.there

      by_context : (o : Option Context) → context_in s.controller d e ≡ o → RingIs setup d e (pipe_at slot.slot.pipes e) (c.endpoints d e) o → (x : Context) × (context_in s.controller d e ≡ Some x) × IsContext x (c.endpoints d e) × (x.ring.line.base ≡ ring_at d e)
      by_context None is ring =
          let nothing : None ≡ Some y = sym (ap (λ (l : List KeptTransfer). slice_get l item) ring.line) ∙ there in
          absurd cc
      by_context (Some x) is ring = (x, is, ring.context, ring.base)

  -- the endpoint of which an event tells, by its slot and id, with the name that holds it
  pub record IsOf (setup : Setup) (s : State P) (c : Core) (pointer residual code slot id : ℕ) : Type 0 where
    pub d : ℕ
    pub e : ℕ
    pub h : ℕ
    pub slot_is : slot ≡ suc d
    pub id_is : id ≡ endpoint_id e
    pub small : e < 256
    pub telling : IsTelling setup s c pointer residual code d e h

  -- an event that was taken and is a transfer's is found
  pub telling : (setup : Setup) (s : State P) (c : Core) (pointer residual code slot id : ℕ) → IsTaken setup s c (TransferEvent pointer residual code slot id) → IsOf setup s c pointer residual code slot id
  telling setup s c pointer residual code slot id taken = by_event taken.event refl
    where
      knows : KnowsEvent setup c taken.event
      knows = never_stray setup taken.keeps.fine (omega (arith, taken.keeps.bounded)) taken.world c taken.shows taken.event taken.rest taken.first

      by_event : (v : RingEvent) → taken.event ≡ v → IsOf setup s c pointer residual code slot id
      by_event (Completes d index cd) is =
          let other = taken.told ∙ ap (event_trb s.controller.commands.memory.base) is in
          absurd cc
      by_event (Transfers d e place r cd) is = record {
        d = d;
        e = e;
        h = known.name;
        slot_is = slot_is;
        id_is = id_is;
        small = small;
        telling = record {
          x = ring.0;
          item = found.0;
          trb = place - y.place;
          t = flight.t;
          context = ring.1;
          in_ring = subst (λ p. IsInRing ring.0.ring.line p found.0 (place - y.place)) (sym pointer_is) found.2;
          flight = flight.found;
          found = record {
            world = taken.world;
            shows = taken.shows;
            place = place;
            rest = taken.rest;
            first = taken.first ∙ ap (λ (v : RingEvent). v ∷ taken.rest) (is ∙ ap₂ (λ m n. Transfers d e place m n) (sym residual_is) (sym code_is));
            keeps = taken.keeps;
            holds = known.holds;
            kept = y;
            actual = known.found.actual;
            reads = ap (reading b.line place) residual_is ∙ known.reads;
            there = found.1;
            same = flight.same;
            gone = ap (λ (o : Option DeviceSlot). option_map_or (λ v. v.gone) o false) its_slot.there ∙ (taken.keeps.held.each d its_slot.slot its_slot.there).is_gone;
            few = subst (λ (q : Request). length_of q.body ≤ most_bytes) (sym flight.same.asks_for) sent.few;
            inside = subst (λ (l : List ℕ). place - y.place < length l) same_lengths (omega (arith, among.low, among.high));
            left = subst (λ (l : List ℕ). residual ≤ length_at l (place - y.place)) same_lengths (subst (λ m. m ≤ length_at y.lengths (place - y.place)) (sym residual_is) parts.1);
            moved = ap₂ (λ (l : List ℕ) m. read_off l (place - y.place) m) (sym same_lengths) residual_is ∙ parts.2;
          };
        };
      }
        where
          b : KeptEndpoint
          b = c.endpoints d e

          all : TransferEvent pointer residual code slot id ≡ TransferEvent (address_of places (ring_at d e) place) r cd (suc d) (endpoint_id e)
          all = taken.told ∙ ap (event_trb s.controller.commands.memory.base) is

          pointer_is : pointer ≡ address_of places (ring_at d e) place
          pointer_is = cc

          residual_is : residual ≡ r
          residual_is = cc

          code_is : code ≡ cd
          code_is = cc

          slot_is : slot ≡ suc d
          slot_is = cc

          id_is : id ≡ endpoint_id e
          id_is = cc

          known : KnowsTransfer setup c d e place r
          known = subst (KnowsEvent setup c) is knows

          y : KeptTransfer
          y = known.found.kept

          interface : (i : ℕ) × (interface_of setup d e ≡ Some i)
          interface = held_interface setup c.claims d e known.name known.holds

          small : e < 256
          small = ltb-true e 256 (and_parts (nat_lt e 256) (nat_lt (e % 128) 16) (taken.keeps.plain d e interface.0 interface.1)).0

          at : IsAt setup s (record c { events = taken.rest }) known.name d e
          at = record { keeps = taken.keeps; interface = interface.0; there = interface.1; holds = known.holds }

          its_slot : IsSlotOf setup s.controller (record c { events = taken.rest }) d e (context_in s.controller d e)
          its_slot = slot_of setup s.controller (record c { events = taken.rest }) d e interface.0 taken.keeps.held interface.1

          parts : (find_at place b.line ≡ Some y) × (r ≤ length_at y.lengths (place - y.place)) × (read_off y.lengths (place - y.place) r ≡ known.found.actual)
          parts = read_parts place r (find_at place b.line) known.found known.reads

          somewhere : (i : ℕ) × IsFoundAt place b.line y i
          somewhere = found_somewhere place b.line y parts.0

          ring : (x : Context) × (context_in s.controller d e ≡ Some x) × IsContext x b × (x.ring.line.base ≡ ring_at d e)
          ring = ring_of_item setup s (record c { events = taken.rest }) known.name d e somewhere.0 y at somewhere.1.there

          found : (i : ℕ) × (slice_get b.line i ≡ Some y) × IsInRing ring.0.ring.line (address_of places (ring_at d e) place) i (place - y.place)
          found = subst (λ base. (i : ℕ) × (slice_get b.line i ≡ Some y) × IsInRing ring.0.ring.line (address_of places base place) i (place - y.place)) ring.3 (where_.item ring.0 b place y ring.2 parts.0)

          among : lines.Found ring.0.size b.line ring.0.ring.line.items b.end place y
          among = lines.finds ring.0.size b.line ring.0.ring.line.items b.end place y ring.2.ring.items ring.2.ring.row parts.0

          flight : IsLiveAt s known.name d e found.0 y
          flight = live_at setup s (record c { events = taken.rest }) known.name d e found.0 y at found.1 known.live

          sent : IsSent ring.0.size y among.ks
          sent = among.is_item.sent known.live

          same_lengths : y.lengths ≡ lengths (tds_of ring.0.size flight.t.request)
          same_lengths = sent.lengths ∙ ap (trbs_of ring.0.size) (sym flight.same.asks_for)

  -- what names an endpoint by slot and id, as it is answered
  abbrev pub FindsHeld : State P → ℕ → ℕ → Option HeldEndpoint → Type 0
  FindsHeld s slot id o = (setup : Setup) → IsSetup s.claims setup → (d e h : ℕ) → slot ≡ suc d → id ≡ endpoint_id e → e < 256 → holder setup (λ d i. owner_of s.claims d i) d e ≡ Some h → o ≡ Some (record { dev = d; ep = e; name = h })

  -- the endpoint of an event's transfer is found
  pub held_told : (setup : Setup) (s : State P) (c : Core) (pointer residual code slot id m k : ℕ) (o : Option HeldEndpoint) → IsTaken setup s c (TransferEvent pointer residual code slot id) → m ≡ slot → k ≡ id → FindsHeld s m k o
      → (x : HeldEndpoint) × (o ≡ Some x) × IsTelling setup s c pointer residual code x.dev x.ep x.name
  held_told setup s c pointer residual code slot id m k o taken slot_is id_is found =
      let of = telling setup s c pointer residual code slot id taken in
      let holds : holder setup (λ dev i. owner_of s.claims dev i) of.d of.e ≡ Some of.h =
      sym (holder_same setup c.claims (λ dev i. owner_of s.claims dev i) of.d of.e taken.keeps.claimed) ∙ of.telling.found.holds in (
        record { dev = of.d; ep = of.e; name = of.h },
        found setup taken.keeps.set of.d of.e of.h (slot_is ∙ of.slot_is) (id_is ∙ of.id_is) of.small holds,
        of.telling,
      )

  -- it isn't missed
  pub no_held : (setup : Setup) (s : State P) (c : Core) (pointer residual code slot id m k : ℕ) → IsTaken setup s c (TransferEvent pointer residual code slot id) → m ≡ slot → k ≡ id → FindsHeld s m k None → ⊥
  no_held setup s c pointer residual code slot id m k taken slot_is id_is found =
      let is = held_told setup s c pointer residual code slot id m k None taken slot_is id_is found in
      let none : None ≡ Some is.0 = is.1 in
      absurd cc

  -- and what is found is it
  pub at_held : (setup : Setup) (s : State P) (c : Core) (pointer residual code slot id m k : ℕ) (x : HeldEndpoint) → IsTaken setup s c (TransferEvent pointer residual code slot id) → m ≡ slot → k ≡ id → FindsHeld s m k (Some x)
      → IsTelling setup s c pointer residual code x.dev x.ep x.name
  at_held setup s c pointer residual code slot id m k x taken slot_is id_is found =
      let is = held_told setup s c pointer residual code slot id m k (Some x) taken slot_is id_is found in
      subst (λ (v : HeldEndpoint). IsTelling setup s c pointer residual code v.dev v.ep v.name) (sym (same_Some x is.0 is.1)) is.2

  -- an endpoint that is found has its ring, in which the place is found
  pub at_place : (setup : Setup) (s : State P) (c : Core) (pointer residual code d e h : ℕ) (x : Context) (p : ℕ) (o : Option (ℕ × ℕ)) → (is : IsTelling setup s c pointer residual code d e h) → Some x ≡ context_in s.controller d e → p ≡ pointer
      → FindsPlace x.ring.line p o → (x ≡ is.x) × (o ≡ Some (is.item, is.trb))
  at_place setup s c pointer residual code d e h x p o is context pointer_is found =
      let same : x ≡ is.x = same_Some x is.x (context ∙ is.context) in
      (same, found is.item is.trb (subst₂ (λ (v : Context) q. IsInRing v.ring.line q is.item is.trb) (sym same) (sym pointer_is) is.in_ring))

  -- the transfer that is found is its
  pub found_by : (setup : Setup) (s : State P) (c : Core) (pointer residual code d e h : ℕ) (x : Context) (item trb p : ℕ) (t : InFlight P) → IsTelling setup s c pointer residual code d e h → Some x ≡ context_in s.controller d e → p ≡ pointer
      → FindsPlace x.ring.line p (Some (item, trb)) → Some t ≡ item_at s.flights d e item → IsFound setup s c pointer residual code d e h x item trb t
  found_by setup s c pointer residual code d e h x item trb p t is context pointer_is found flight =
      let at = at_place setup s c pointer residual code d e h x p (Some (item, trb)) is context pointer_is found in
      let both : ◌≡◌ {A = ℕ × ℕ} (item, trb) (is.item, is.trb) = same_Some {A = ℕ × ℕ} (item, trb) (is.item, is.trb) at.1 in
      let item_is : item ≡ is.item = ap (λ (v : ℕ × ℕ). v.0) both in
      let trb_is : trb ≡ is.trb = ap (λ (v : ℕ × ℕ). v.1) both in
      let t_is : t ≡ is.t = same_Some t is.t (flight ∙ ap (item_at s.flights d e) item_is ∙ is.flight) in
      subst (λ (v : Context). IsFound setup s c pointer residual code d e h v item trb t) (sym at.0)
      (subst₂ (λ m n. IsFound setup s c pointer residual code d e h is.x m n t) (sym item_is) (sym trb_is)
      (subst (λ (v : InFlight P). IsFound setup s c pointer residual code d e h is.x is.item is.trb v) (sym t_is) is.found))

  -- so is what it tells
  tells_of : (setup : Setup) (s : State P) (c : Core) (pointer residual code d e h : ℕ) (x : Context) (item trb actual : ℕ) (t : InFlight P) → (is : IsFound setup s c pointer residual code d e h x item trb t) → actual ≡ is.actual
      → Tells setup s c h d e item t.n actual code
  tells_of setup s c pointer residual code d e h x item trb actual t is same = record {
    world = is.world;
    shows = is.shows;
    place = is.place;
    residual = residual;
    rest = is.rest;
    first = is.first;
    keeps = is.keeps;
    holds = is.holds;
    kept = is.kept;
    reads = is.reads ∙ ap (λ m. Some (record { kept = is.kept; actual = m })) (sym same);
    there = is.there;
    number = sym is.same.number;
  }

  -- and the status that is told
  status_of_told : (setup : Setup) (s : State P) (c : Core) (pointer residual code d e h : ℕ) (x : Context) (item trb actual : ℕ) (t : InFlight P) (status : Status) → (is : IsFound setup s c pointer residual code d e h x item trb t)
      → status ≡ told_status (is_gone s.controller d) code t.ask (is_short_not_ok t.request) (length_of t.request.body) actual → ◌≡◌ {A = Ending} (record { status = status; actual = actual }) (ending_of c d is.kept actual code)
  status_of_told setup s c pointer residual code d e h x item trb actual t status is said =
      ap (λ (v : Status). ending_as v) (said ∙ ap (λ g. told_status g code t.ask (is_short_not_ok t.request) (length_of t.request.body) actual) is.gone ∙ ap₂ (λ (a : Option Ask) (q : Request). told_status (c.gone d) code a (is_short_not_ok q) (length_of q.body) actual) is.same.asked is.same.asks_for)
    where
      ending_as : Status → Ending
      ending_as v = record { status = v; actual = actual }

  -- both
  pub tells_all : (setup : Setup) (s : State P) (c : Core) (pointer residual code d e h : ℕ) (x : Context) (item trb actual : ℕ) (t : InFlight P) (status : Status) → (is : IsFound setup s c pointer residual code d e h x item trb t) → actual ≡ is.actual
      → status ≡ told_status (is_gone s.controller d) code t.ask (is_short_not_ok t.request) (length_of t.request.body) actual
      → (tells : Tells setup s c h d e item t.n actual code) × (◌≡◌ {A = Ending} (record { status = status; actual = actual }) (ending_of c d tells.kept actual code))
  unfolding tells_of
  tells_all setup s c pointer residual code d e h x item trb actual t status is same said = (
    tells_of setup s c pointer residual code d e h x item trb actual t is same,
    status_of_told setup s c pointer residual code d e h x item trb actual t status is said,
  )

  -- the oldest event of parts as a function finds them
  module _ (s v : State P) (seen : v ≡ s) (k : Controller) (without : k ≡ without_event v.controller) where
    pub taken_by : (x : TrbKind) → Some x ≡ slice_get v.controller.events.waits 0 → (setup : Setup) (w : World) (c : Core) → Keeps setup s c → Shows setup w c → IsTaken setup (record v { controller = k }) c x
    taken_by x oldest setup w c keeps shows = takes_event setup w v k c x (subst (λ (u : State P). Keeps setup u c) (sym seen) keeps) shows (sym oldest) without

    pub none_taken : None ≡ slice_get v.controller.events.waits 0 → (setup : Setup) (c : Core) → Keeps setup s c → Is setup (step_core setup c Deliver) (record { owner = None; reply = Idle }) (record v { controller = k })
    none_taken none setup c keeps = takes_none setup v k c (subst (λ (u : State P). Keeps setup u c) (sym seen) keeps) (sym none) without

  -- a handled event is the step
  pub delivered : (setup : Setup) (c : Core) (entry : Entry) (new : State P) → Is setup (deliver_core setup c) entry new → Is setup (step_core setup c Deliver) entry new
  unfolding step_core
  delivered setup c entry new is = is
