-- Where a packet does something: the controller has a transfer to serve, and the device is ready or gone.
use Rattle.std.proofs.Common.{◌≡◌, ℕ, suc, Bool, true, false, refl, ap, sym, ◌∙◌, arith, List, [], ◌∷◌, length, Option, Some, None}
use Rattle.std.specs.Prelude.{◌||◌, ◌&&◌, nat_lt, is_some, option_map, slice_get, if◌then◌else◌}
use Rattle.std.specs.Option.{option_and_then, option_map_or}
use Rattle.std.proofs.lemmas.Bool.{lt-ltb}
use Rattle.usb_model.specs.declared.entry.Entry.{Entry}
use Rattle.usb_model.specs.declared.response.Response.{Response}
use Rattle.usb_model.specs.declared.response.Response.TheVariants as response
use Rattle.usb_model.specs.Endpoint.Serve.{is_no_packet}
use Rattle.usb_model.specs.Setup.{Setup}
use Rattle.usb_model.specs.World.{Claims, World, holder}
use Rattle.usb_model.specs.Packets.{Answered, Packet}
use Rattle.usb_device.specs.Pipe.{Pipe, answer_of, first_of, is_ready, pipe_at}
use Rattle.usb_tables.specs.declared.transfer.Transfer.{Transfer as InFlight}
use Rattle.usb_xhc.specs.declared.packet.PacketResult.{PacketResult as ServedPacket}
use Rattle.usb_xhc.specs.declared.packet.PacketResult.TheVariants as told
use Rattle.usb_xhc.specs.declared.trb_at.TrbAt.{TrbAt}
use Rattle.usb_xhc.specs.Context.{Context}
use Rattle.usb_xhc.specs.Transaction.{packet_in, served, served_by, served_gone, working}
use Rattle.usb_xhc.specs.Controller.{Controller, told_at}
use Rattle.usb_xhc.specs.Slots.{DeviceSlot, context_of, serving, serving_at}
use Rattle.usb_tables.specs.TransfersInFlight.{line_at}
use Rattle.refine_rings.specs.Reports.{reply_of}
use Rattle.refine_world.specs.Shows.{Core, Shows}
use Rattle.refine_world.specs.Steps.{serve_core, serve_held}
use Rattle.refine_world.proofs.WholeSteps.{serve_steps}
use Rattle.refine_world.proofs.RunningEndpoints.{fresh_while_running}
use Rattle.refine_rings.specs.Laws as slots
use Rattle.refine_rings.proofs.SlotServes as slot
use Rattle.refine_core.specs.State.{Keeps, State}
use Rattle.refine_core.specs.Works.{IsAt, IsHolder, context_in, packet_of}
use Rattle.refine_core.proofs.Fronts.{works_at}
use Rattle.refine_core.proofs.Held.{held_interface, holder_is, is_at}
use Rattle.refine_core.proofs.Rings.{IsSlotOf, slot_of}
use Rattle.usb_core.specs.Pending.{can_answer, has_answers, serves, tells_work}

-- whether what is told of a packet tells of something that was done; left: as of a reply
abbrev told_work : Bool → Option ServedPacket → Bool
told_work left None = false
told_work left (Some told.Nak) = left
told_work left (Some (told.Moved k)) = true
told_work left (Some (told.Ended code)) = true

-- so does its reply
reply_tells : (left : Bool) (n : ℕ) (t : ServedPacket) → tells_work left (reply_of n t) ≡ told_work left (Some t)
reply_tells left n told.Nak = refl
reply_tells left n (told.Moved k) = refl
reply_tells left n (told.Ended code) = refl

-- an answer that isn't Nak does something
answers : (left : Bool) (x : Context) (a : Response) (p : Packet) (o : Option ℕ) → is_no_packet (a ∷ []) ≡ false → told_work left (Some (served_by x a p o).packet) ≡ true
answers left x a p None other = ap (λ (b : Bool). told_work left (Some (if b then told.Nak else told.Moved p.bytes))) other
answers left x a p (Some code) other = refl

-- an answer is left
some_left : (rest : List Response) → nat_lt 0 (suc (length rest)) ≡ true
some_left rest = lt-ltb 0 (suc (length rest)) (omega arith)

-- what a device does that is there
answered_there : (x : Context) (halted : Bool) (left : List Response)
    → told_work (nat_lt 0 (length left)) (Some (served x (if halted then response.Stall else first_of left)).packet) ≡ (halted || nat_lt 0 (length left))
unfolding served
answered_there x true left = refl
answered_there x false [] = refl
answered_there x false (response.Data b ∷ rest) = answers (nat_lt 0 (suc (length rest))) x (response.Data b) (packet_in x (response.Data b)) (packet_in x (response.Data b)).code refl ∙ sym (some_left rest)
answered_there x false (response.Ack ∷ rest) = answers (nat_lt 0 (suc (length rest))) x response.Ack (packet_in x response.Ack) (packet_in x response.Ack).code refl ∙ sym (some_left rest)
answered_there x false (response.Nak ∷ rest) = refl
answered_there x false (response.Stall ∷ rest) = sym (some_left rest)
answered_there x false (response.Broken ∷ rest) = sym (some_left rest)

-- or one that is gone
at_work : (x : Context) (gone : Bool) (p : Pipe) (o : Option TrbAt) → told_work (nat_lt 0 (length p.left)) (option_map (λ v. v.packet) (serving_at gone x (answer_of p) o)) ≡ (is_some o && (gone || is_ready p))
unfolding served_gone
at_work x gone p None = refl
at_work x true p (Some first) = refl
at_work x false p (Some first) = answered_there x p.halted p.left

-- what the controller tells of a packet is of something that was done where it can be answered
tells_it : (k : Controller) (d e : ℕ) (s : DeviceSlot) → slice_get k.slots d ≡ Some s → told_work (nat_lt 0 (length (pipe_at s.pipes e).left)) (told_at k d e) ≡ can_answer k d e
tells_it k d e s there =
    ap (λ (o : Option DeviceSlot). told_work left (option_and_then (λ v. option_map (λ x. x.packet) (serving v e)) o)) there
    ∙ by_context (context_of s e)
    ∙ sym (ap (λ (o : Option DeviceSlot). option_map_or (λ v. option_map_or (λ x. is_some (working x) && (v.gone || is_ready (pipe_at v.pipes e))) (context_of v e) false) o false) there)
  where
    left : Bool
    left = nat_lt 0 (length (pipe_at s.pipes e).left)

    by_context : (o : Option Context) → told_work left (option_map (λ x. x.packet) (option_and_then (λ c. serving_at s.gone c (answer_of (pipe_at s.pipes e)) (working c)) o)) ≡ option_map_or (λ x. is_some (working x) && (s.gone || is_ready (pipe_at s.pipes e))) o false
    by_context None = refl
    by_context (Some x) = at_work x s.gone (pipe_at s.pipes e) (working x)

-- the core's reply is of what the controller tells
reply_is : (left : Bool) (setup : Setup) (k : Controller) (c : Core) (d e : ℕ) (o : Option ServedPacket) (a : Answered) → slots.Serves setup k c.gone c.endpoints c.orders c.events c.posted d e o a → tells_work left a.reply ≡ told_work left o
reply_is left setup k c d e None a is = ap (λ (x : Answered). tells_work left x.reply) is.0
reply_is left setup k c d e (Some t) a is = ap (tells_work left) is.reply ∙ reply_tells left is.y.n t

-- a list of no items
no_items : {A : Type 0} (l : List A) → length l ≡ 0 → l ≡ []
no_items [] none = refl
no_items (x ∷ xs) none = absurd (omega (arith, none))

module _ {P : Type 0} where
  -- at an endpoint that a name holds
  pub serves_held : (setup : Setup) (w : World) (s : State P) (c : Core) (h d e : ℕ) → IsAt setup s c h d e → Shows setup w c → serves setup w d e ≡ can_answer s.controller d e
  unfolding serve_core serve_held
  serves_held setup w s c h d e at shows =
      ap (λ (x : Entry). tells_work (has_answers w d e) x.reply) (sym (serve_steps setup w c at.keeps.fine shows d e).0 ∙ ap (λ (o : Option ℕ). (serve_held setup c d e o).entry) at.holds)
      ∙ held
      ∙ ap (λ (l : List Response). told_work (nat_lt 0 (length l)) (told_at s.controller d e)) (sym (shows.endpoints h d e holds).script_left ∙ sym is.end.pipe.left)
      ∙ tells_it s.controller d e is.slot is.there
    where
      holds : holder setup w.claims d e ≡ Some h
      holds = ap (λ (f : Claims). holder setup f d e) (sym shows.claims) ∙ at.holds

      is : IsSlotOf setup s.controller c d e (context_in s.controller d e)
      is = slot_of setup s.controller c d e at.interface at.keeps.held at.there

      held : tells_work (has_answers w d e) (serve_held setup c d e (Some h)).entry.reply ≡ told_work (has_answers w d e) (told_at s.controller d e)
      held = reply_is (has_answers w d e) setup s.controller c d e (told_at s.controller d e) (packet_of setup c d e)
          (slot.serves setup s.controller c.gone c.endpoints c.orders c.events c.posted d e at.interface at.keeps.plain at.keeps.held at.there (fresh_while_running setup w c shows at.keeps.fine h d e holds))

  -- where nobody holds it nothing is done
  serves_free : (setup : Setup) (w : World) (s : State P) (c : Core) (d e : ℕ) → Keeps setup s c → Shows setup w c → holder setup c.claims d e ≡ None → serves setup w d e ≡ false
  unfolding serve_core serve_held
  serves_free setup w s c d e keeps shows free =
      ap (λ (x : Entry). tells_work (has_answers w d e) x.reply) (sym (serve_steps setup w c keeps.fine shows d e).0 ∙ ap (λ (o : Option ℕ). (serve_held setup c d e o).entry) free)

  -- nor where no transfer is in the line
  nothing_there : (setup : Setup) (w : World) (s : State P) (c : Core) (h d e : ℕ) → IsAt setup s c h d e → Shows setup w c → line_at s.flights d e ≡ [] → can_answer s.controller d e ≡ false
  nothing_there setup w s c h d e at shows none = by_slot (slice_get s.controller.slots d) refl
    where
      by_work : (v : DeviceSlot) (x : Context) (o : Option TrbAt) → context_in s.controller d e ≡ Some x → working x ≡ o → (is_some o && (v.gone || is_ready (pipe_at v.pipes e))) ≡ false
      by_work v x None there work = refl
      by_work v x (Some first) there work =
          let is = (works_at setup w s c h d e x first at shows there work).3.is in
          let both : ◌≡◌ {A = Option (Option (InFlight P))} (Some (Some is.t)) None = sym is.there ∙ ap (λ (l : List (Option (InFlight P))). slice_get l (works_at setup w s c h d e x first at shows there work).0) none in
          absurd cc

      by_context : (v : DeviceSlot) (o : Option Context) → slice_get s.controller.slots d ≡ Some v → context_of v e ≡ o → option_map_or (λ x. is_some (working x) && (v.gone || is_ready (pipe_at v.pipes e))) o false ≡ false
      by_context v None there is = refl
      by_context v (Some x) there is = by_work v x (working x) (ap (λ (o : Option DeviceSlot). option_and_then (λ z. context_of z e) o) there ∙ is) refl

      by_slot : (o : Option DeviceSlot) → slice_get s.controller.slots d ≡ o → can_answer s.controller d e ≡ false
      by_slot None there = ap (λ (o : Option DeviceSlot). option_map_or (λ v. option_map_or (λ x. is_some (working x) && (v.gone || is_ready (pipe_at v.pipes e))) (context_of v e) false) o false) there
      by_slot (Some v) there = ap (λ (o : Option DeviceSlot). option_map_or (λ v. option_map_or (λ x. is_some (working x) && (v.gone || is_ready (pipe_at v.pipes e))) (context_of v e) false) o false) there ∙ by_context v (context_of v e) there refl

  -- an endpoint without a line
  pub without_line : (setup : Setup) (w : World) (s : State P) (c : Core) (d e : ℕ) → Keeps setup s c → Shows setup w c → length (line_at s.flights d e) ≡ 0 → serves setup w d e ≡ false
  without_line setup w s c d e keeps shows none = by_holder (holder setup c.claims d e) refl
    where
      by_holder : (o : Option ℕ) → holder setup c.claims d e ≡ o → serves setup w d e ≡ false
      by_holder None is = serves_free setup w s c d e keeps shows is
      by_holder (Some h) is =
          let interface = held_interface setup c.claims d e h is in
          let at : IsAt setup s c h d e = record { keeps = keeps; interface = interface.0; there = interface.1; holds = is } in
          serves_held setup w s c h d e at shows ∙ nothing_there setup w s c h d e at shows (no_items (line_at s.flights d e) none)

  -- one that nobody holds, or somebody
  pub without_holder : (setup : Setup) (w : World) (s : State P) (c : Core) (d e : ℕ) (o : Option ℕ) → Keeps setup s c → Shows setup w c → IsHolder s d e o → is_some o ≡ false → serves setup w d e ≡ false
  without_holder setup w s c d e None keeps shows held none = serves_free setup w s c d e keeps shows (holder_is setup s c d e None keeps held)
  without_holder setup w s c d e (Some h) keeps shows held none = absurd cc

  pub with_holder : (setup : Setup) (w : World) (s : State P) (c : Core) (d e : ℕ) (o : Option ℕ) → Keeps setup s c → Shows setup w c → IsHolder s d e o → is_some o ≡ true → serves setup w d e ≡ can_answer s.controller d e
  with_holder setup w s c d e None keeps shows held some = absurd cc
  with_holder setup w s c d e (Some h) keeps shows held some = serves_held setup w s c h d e (is_at setup s c h d e keeps held) shows
