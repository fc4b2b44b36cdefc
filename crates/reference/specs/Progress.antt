-- How far a transfer comes by an answer that leaves it open.
use Rattle.std.specs.Prelude.{◌≡◌, ◌<◌, ◌≤◌, ◌*◌, ◌-◌, ℕ, false, List, [], ◌∷◌, ◌++◌, length, map, take, drop, Option, Some}
use Rattle.std.specs.List.{concat}
use Rattle.usb_model.specs.declared.endpoint.Endpoint.{Endpoint}
use Rattle.usb_model.specs.declared.item.Item.{Item}
use Rattle.usb_model.specs.declared.request.Body.{Body}
use Rattle.usb_model.specs.declared.request.Body.TheVariants.{In, Out}
use Rattle.usb_model.specs.declared.request.Request.{Request}
use Rattle.usb_model.specs.declared.response.Response.{Response}
use Rattle.usb_model.specs.declared.response.Response.TheVariants.{Data}
use Rattle.usb_model.specs.Endpoint.Packets.{open_with, outcome, packets_by, without_naks}
use Rattle.usb_model.specs.Endpoint.Serve.{next_answer}
use Rattle.reference.specs.declared.progress.Progress.{Progress}

-- so many packets are those of a read, each of this size; or the first of a write, and not all
abbrev pub AreMoved : Request → ℕ → Body → List Response → ℕ → List (List ℕ) → Type 0
AreMoved request size (In n) share count ps = (without_naks share ≡ map Data ps) × (length ps ≡ count) × (length (concat ps) ≡ count * size)
AreMoved request size (Out bytes) share count ps = (ps ≡ take count (packets_by request size (Out bytes))) × (count < length (packets_by request size (Out bytes)))

-- with this share a transfer is open, and so many packets moved
abbrev pub HasMoved : Request → ℕ → List Response → ℕ → Type 0
HasMoved request size share count = (ps : List (List ℕ)) × (outcome request size share false ≡ Some (open_with ps)) × AreMoved request size request.body share count ps

-- an answer comes to item x, which is open before it and behind it
pub record GoesOn (size : ℕ) (e : Endpoint) (x : Item) (progress : Progress) : Type 0 where
  pub runs : e.device_halted ≡ false
  pub comes : (answer : Response) × (rest : List Response) × (e.script_left ≡ answer ∷ rest)
  pub rises : progress.before ≤ progress.after
  pub was : HasMoved x.request size x.share progress.before
  pub is : HasMoved x.request size (x.share ++ next_answer e) progress.after

-- the packets of a write between two of their number; a read sends none
abbrev pub sent_by : Request → ℕ → Body → (before after : ℕ) → List (List ℕ)
sent_by request size (In n) before after = []
sent_by request size (Out bytes) before after = drop before (take after (packets_by request size (Out bytes)))

-- how many bytes move: whole packets of a read, or those of the packets that a write sends
abbrev pub bytes_by : Body → (size before after sent : ℕ) → ℕ
bytes_by (In n) size before after sent = (after - before) * size
bytes_by (Out bytes) size before after sent = sent
