-- A packet is served, or there is nothing to serve: the step of the core.
use Rattle.std.proofs.Common.{◌≡◌, ℕ, Bool, true, false, refl, ap, sym, subst, ◌∙◌, [], append-nil, Option, Some, None}
use Rattle.std.specs.Prelude.{◌==◌, ◌&&◌, if◌then◌else◌, option_map, slice_get}
use Rattle.std.specs.Option.{option_and_then}
use Rattle.std.proofs.lemmas.Bool.{and_parts, eqb-true}
use Rattle.usb_model.specs.declared.entry.Entry.{Entry}
use Rattle.usb_model.specs.declared.reply.Reply.{Reply}
use Rattle.usb_model.specs.declared.reply.Reply.TheVariants.{Idle}
use Rattle.usb_model.specs.declared.step.Step.TheVariants.{Serve}
use Rattle.usb_model.specs.Setup.{Setup}
use Rattle.usb_model.specs.World.{Claims, World, holder}
use Rattle.usb_model.specs.Kept.{KeptEndpoint}
use Rattle.usb_model.specs.Packets.{Answered}
use Rattle.usb_device.specs.Pipe.{answer_of, pipe_at}
use Rattle.usb_xhc.specs.declared.packet.PacketResult.{PacketResult as ServedPacket}
use Rattle.usb_xhc.specs.declared.trb_at.TrbAt.{TrbAt}
use Rattle.usb_xhc.specs.Context.{Context}
use Rattle.usb_xhc.specs.Transaction.{working}
use Rattle.usb_xhc.specs.Controller.{Controller, told_at}
use Rattle.usb_xhc.specs.Slots.{DeviceSlot, context_of, serving, serving_at}
use Rattle.refine_rings.specs.Reports.{reply_of}
use Rattle.refine_world.specs.Shows.{Core, Shows}
use Rattle.refine_world.specs.Steps.{Stepped, answer_work, serve_core, serve_held, works}
use Rattle.refine_world.proofs.RunningEndpoints.{fresh_while_running}
use Rattle.refine_rings.specs.Laws as slots
use Rattle.refine_rings.proofs.SlotServes.{serves}
use Rattle.refine_core.specs.State.{Keeps, State}
use Rattle.refine_core.specs.Steps.{Is}
use Rattle.refine_core.specs.Works.{IsAt, IsFront, IsHolder, MovesPacket, behind_packet, context_in, packet_of}
use Rattle.refine_core.proofs.Amid.{core_as, own_name}
use Rattle.refine_core.proofs.Fronts.{works_at}
use Rattle.refine_core.proofs.Held.{holder_is}

-- where nothing works nothing is told
told_none : (k : Controller) (d e : ℕ) → ((x : Context) (first : TrbAt) → context_in k d e ≡ Some x → working x ≡ Some first → ⊥) → told_at k d e ≡ None
told_none k d e rests = by_slot (slice_get k.slots d) refl
  where
    by_work : (s : DeviceSlot) (x : Context) (o : Option TrbAt) → context_in k d e ≡ Some x → working x ≡ o → option_map (λ v. v.packet) (serving_at s.gone x (answer_of (pipe_at s.pipes e)) o) ≡ None
    by_work s x None there is = refl
    by_work s x (Some first) there is = absurd (rests x first there is)

    by_context : (s : DeviceSlot) (o : Option Context) → slice_get k.slots d ≡ Some s → context_of s e ≡ o → option_map (λ v. v.packet) (option_and_then (λ x. serving_at s.gone x (answer_of (pipe_at s.pipes e)) (working x)) o) ≡ None
    by_context s None there is = refl
    by_context s (Some x) there is = by_work s x (working x) (ap (λ (o : Option DeviceSlot). option_and_then (λ v. context_of v e) o) there ∙ is) refl

    by_slot : (o : Option DeviceSlot) → slice_get k.slots d ≡ o → told_at k d e ≡ None
    by_slot None is = ap (λ (o : Option DeviceSlot). option_and_then (λ s. option_map (λ v. v.packet) (serving s e)) o) is
    by_slot (Some s) is = ap (λ (o : Option DeviceSlot). option_and_then (λ v. option_map (λ v. v.packet) (serving v e)) o) is ∙ by_context s (context_of s e) is refl

-- an endpoint in its own place is no change
pub own_end : (endpoints : ℕ → ℕ → KeptEndpoint) (d e dev ep : ℕ) → (if (d == dev) && (e == ep) then endpoints d e else endpoints dev ep) ≡ endpoints dev ep
own_end endpoints d e dev ep = by_test ((d == dev) && (e == ep)) refl
  where
    by_test : (b : Bool) → ((d == dev) && (e == ep)) ≡ b → (if b then endpoints d e else endpoints dev ep) ≡ endpoints dev ep
    by_test true is =
        let both = and_parts (d == dev) (e == ep) is in
        ap (λ (n : ℕ). endpoints n e) (eqb-true d dev both.0) ∙ ap (endpoints dev) (eqb-true e ep both.1)
    by_test false is = refl

module _ {P : Type 0} where
  -- nobody holds the endpoint
  pub serves_nobody : (setup : Setup) (s : State P) (c : Core) (d e : ℕ) → Keeps setup s c → IsHolder s d e None → Is setup (serve_core setup c d e) (record { owner = None; reply = Idle }) s
  unfolding serve_core serve_held
  serves_nobody setup s c d e keeps nobody = rw (holder_is setup s c d e None keeps nobody) (refl, keeps)

  -- what is held is served as kept
  served_held : (setup : Setup) (s : State P) (c : Core) (h d e : ℕ) → IsAt setup s c h d e → serve_core setup c d e ≡ works h d e (Serve d e) (answer_work (packet_of setup c d e)) c
  unfolding serve_core serve_held
  served_held setup s c h d e at = ap (λ (o : Option ℕ). serve_held setup c d e o) at.holds

  -- nothing works there
  pub serves_none : (setup : Setup) (w : World) (s : State P) (c : Core) (h d e : ℕ) → IsAt setup s c h d e → Shows setup w c → IsFront s d e None → Is setup (serve_core setup c d e) (record { owner = Some h; reply = Idle }) s
  serves_none setup w s c h d e at shows front = (
    ap entry_of (sym (ap (λ (a : Answered). a.reply) rests)) ∙ sym (ap (λ (t : Stepped). t.entry) (served_held setup s c h d e at)),
    subst (λ (x : Core). Keeps setup s x) (sym (ap (λ (t : Stepped). t.core) (served_held setup s c h d e at) ∙ ap (λ (a : Answered). (works h d e (Serve d e) (answer_work a) c).core) rests ∙ same)) at.keeps,
  )
    where
      entry_of : Reply → Entry
      entry_of r = record { owner = Some h; reply = r }

      nothing : told_at s.controller d e ≡ None
      nothing = told_none s.controller d e (λ x first there work.
          let works = works_at setup w s c h d e x first at shows there work in
          let none : None ≡ Some works.0 = front.found x first works.0 works.1 there work works.2 in
          absurd cc)

      holds : holder setup w.claims d e ≡ Some h
      holds = ap (λ (g : Claims). holder setup g d e) (sym shows.claims) ∙ at.holds

      rests : packet_of setup c d e ≡ record { reply = Idle; endpoint = c.endpoints d e; told = [] }
      rests = (subst (λ (o : Option ServedPacket). slots.Serves setup s.controller c.gone c.endpoints c.orders c.events c.posted d e o (packet_of setup c d e)) nothing
          (serves setup s.controller c.gone c.endpoints c.orders c.events c.posted d e at.interface at.keeps.plain at.keeps.held at.there (fresh_while_running setup w c shows at.keeps.fine h d e holds))).0

      same : (works h d e (Serve d e) (answer_work (record { reply = Idle; endpoint = c.endpoints d e; told = [] })) c).core ≡ c
      same = core_as (works h d e (Serve d e) (answer_work (record { reply = Idle; endpoint = c.endpoints d e; told = [] })) c).core c (record {
        names = λ g. sym (own_name c.names h g);
        claims = λ dev i. refl;
        gone = λ dev. refl;
        endpoints = λ dev ep. own_end c.endpoints d e dev ep;
        orders = append-nil c.orders;
        events = append-nil c.events;
        posted = refl;
        results = append-nil c.results;
      })

  -- what a packet of an endpoint that is held leaves
  pub core_served : (setup : Setup) (old : State P) (c : Core) (h d e : ℕ) → IsAt setup old c h d e → (serve_core setup c d e).core ≡ behind_packet setup c d e
  core_served setup old c h d e at = ap (λ (t : Stepped). t.core) (served_held setup old c h d e at) ∙ core_as (works h d e (Serve d e) (answer_work (packet_of setup c d e)) c).core (behind_packet setup c d e) (record {
    names = λ g. sym (own_name c.names h g);
    claims = λ dev i. refl;
    gone = λ dev. refl;
    endpoints = λ dev ep. refl;
    orders = append-nil c.orders;
    events = refl;
    posted = refl;
    results = append-nil c.results;
  })

  -- a packet that the parts made is the core's
  pub serves_moved : (setup : Setup) (old new : State P) (c : Core) (h d e n : ℕ) (told : ServedPacket) → IsAt setup old c h d e → ((packet_of setup c d e).reply ≡ reply_of n told) × Keeps setup new (behind_packet setup c d e)
      → Is setup (serve_core setup c d e) (record { owner = Some h; reply = reply_of n told }) new
  serves_moved setup old new c h d e n told at moved = (
    ap entry_of (sym moved.0) ∙ sym (ap (λ (t : Stepped). t.entry) (served_held setup old c h d e at)),
    subst (λ (x : Core). Keeps setup new x) (sym (core_served setup old c h d e at)) moved.1,
  )
    where
      entry_of : Reply → Entry
      entry_of r = record { owner = Some h; reply = r }

  -- a packet of the transfer where it works
  pub serves_packet : (setup : Setup) (w : World) (old new : State P) (c : Core) (h d e item n : ℕ) (told : ServedPacket) → IsAt setup old c h d e → Shows setup w c → IsFront old d e (Some item) → MovesPacket old new h d e item n told
      → Is setup (serve_core setup c d e) (record { owner = Some h; reply = reply_of n told }) new
  serves_packet setup w old new c h d e item n told at shows front moves = serves_moved setup old new c h d e n told at (moves setup w c at shows front)
