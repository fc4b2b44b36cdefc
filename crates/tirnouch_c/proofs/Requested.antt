-- A request that was answered.
use Rattle.std.proofs.Common.{◌≡◌, ℕ, ℤ, pos, List, Option, Some, refl, sym, ap, ◌∙◌, subst}
use Rattle.std.specs.Prelude.{slice_get}
use Rattle.usb_devicetext.specs.declared.answer.ControlAnswer.{ControlAnswer}
use Rattle.usb_devicetext.specs.declared.device.DeskDevice.{DeskDevice}
use Rattle.usb_devicetext.specs.declared.packet.SetupPacket.{SetupPacket}
use Rattle.usb_devicetext.specs.Control.{has_answer, reply_of}
use Rattle.tirnouch_c.specs.declared.requests.ControlResponse.{ControlResponse}
use Rattle.tirnouch_c.specs.declared.session.Session.{Session}
use Rattle.tirnouch_c.specs.Buffers.{filled, taken_count}
use Rattle.tirnouch_c.specs.Requests.{Asks, AsksOf, control_bytes, control_numbers, response_numbers, with_asked}

pub asked : (s t : Session) (dev : ℕ) (d : DeskDevice) (p : SetupPacket) (reply : ControlAnswer) (bytes old new : List ℕ) (response : ControlResponse) (moved : ℕ) → slice_get s.devices dev ≡ Some d
    → reply ≡ reply_of d p → bytes ≡ control_bytes p reply → moved ≡ taken_count bytes old → new ≡ filled bytes old → response ≡ response_numbers p reply moved (has_answer d p)
    → t ≡ record s { devices = with_asked s.devices dev p } → Asks dev p (pos 0) response old new s t
asked s t dev d p reply bytes old new response moved there reply_is bytes_is moved_is new_is response_is t_is =
    let all : bytes ≡ control_bytes p (reply_of d p) = bytes_is ∙ ap (control_bytes p) reply_is in
    subst (λ (o : Option DeskDevice). AsksOf o dev p (pos 0) response old new s t) (sym there) (
      refl,
      (response_is ∙ ap (λ (x : ControlAnswer). response_numbers p x moved (has_answer d p)) reply_is ∙ ap (control_numbers d p) (moved_is ∙ ap (λ (xs : List ℕ). taken_count xs old) all)),
      (new_is ∙ ap (λ (xs : List ℕ). filled xs old) all),
      t_is,
    )
