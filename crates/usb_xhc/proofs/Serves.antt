-- What a packet leaves, by what it did.
use Rattle.std.proofs.Common.{◌≡◌, ℕ, ap, sym, ◌∙◌, [], ◌∷◌, Some, None, Bool}
use Rattle.std.specs.Prelude.{Option, if◌then◌else◌}
use Rattle.usb_model.specs.declared.response.Response.{Response}
use Rattle.usb_model.specs.Endpoint.Serve.{is_no_packet}
use Rattle.usb_model.specs.Packets.{Packet, packet_by}
use Rattle.usb_xhc.specs.declared.packet.PacketResult.TheVariants as told
use Rattle.usb_xhc.specs.Ahead.{Reaches}
use Rattle.usb_xhc.specs.Context.{Context, trbs, stand_by, event_by, gone_on}
use Rattle.usb_xhc.specs.Transaction.{packet_in, served_by, served, ended_by}

-- what an answer did, told by a reach
pub packet-told : (c : Context) (a : Response) (size r : ℕ) (e : Bool) (k : ℕ) (o : Option ℕ) → size ≡ c.size → Reaches c.size (trbs c) c.within r e
    → k ≡ (packet_by size r e a).bytes → o ≡ (packet_by size r e a).code → packet_in c a ≡ record { bytes = k; code = o }
packet-told c a size r e k o s h f g =
    sym (h.packet a) ∙ ap (λ (n : ℕ). packet_by n r e a) (sym s)
    ∙ sym (ap (λ (n : ℕ). record { bytes = n; code = o }) f ∙ ap (λ (x : Option ℕ). record { bytes = (packet_by size r e a).bytes; code = x }) g)

-- the transfer goes on
pub served-moved : (c : Context) (a : Response) (k : ℕ) → packet_in c a ≡ record { bytes = k; code = None }
    → served c a ≡ record { packet = if is_no_packet (a ∷ []) then told.Nak else told.Moved k; context = gone_on c k; events = [] }
unfolding served
served-moved c a k h = ap (λ (p : Packet). served_by c a p p.code) h

-- the transfer ended
pub served-ended : (c : Context) (a : Response) (k code : ℕ) → packet_in c a ≡ record { bytes = k; code = Some code }
    → served c a ≡ record { packet = told.Ended code; context = ended_by c k code; events = event_by c (stand_by c k) code ∷ [] }
unfolding served
served-ended c a k code h = ap (λ (p : Packet). served_by c a p p.code) h
