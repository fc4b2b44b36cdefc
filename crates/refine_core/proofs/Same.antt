-- A controller that holds a core holds each core with the same endpoints.
use Rattle.std.proofs.Common.{◌≡◌, ℕ, refl, subst, ◌∙◌, List, [], ◌∷◌, Bool, true, false}
use Rattle.std.specs.Prelude.{◌==◌, ◌&&◌, if◌then◌else◌}
use Rattle.usb_model.specs.Setup.{Setup}
use Rattle.usb_trb.specs.declared.kind.TrbKind.{TrbKind}
use Rattle.usb_model.specs.Kept.{KeptEndpoint}
use Rattle.usb_xhc.specs.Controller.{Controller}
use Rattle.usb_xhc.specs.Slots.{DeviceSlot}
use Rattle.refine_world.specs.Shows.{RingEvent, RingOrder}
use Rattle.refine_rings.specs.Holds.{AllPosted, Holds, IsEnd, IsPosted, IsSlot, with_end}

-- endpoints are the same, one by one
abbrev pub AreSame : (ℕ → ℕ → KeptEndpoint) → (ℕ → ℕ → KeptEndpoint) → Type 0
AreSame endpoints others = (d e : ℕ) → endpoints d e ≡ others d e

-- a slot
slot_as : (setup : Setup) (d : ℕ) (s : DeviceSlot) (gone now : ℕ → Bool) (endpoints others : ℕ → ℕ → KeptEndpoint) → gone d ≡ now d → AreSame endpoints others → IsSlot setup d s gone endpoints → IsSlot setup d s now others
slot_as setup d s gone now endpoints others devices same is = record {
  contexts = is.contexts;
  pipes = is.pipes;
  is_gone = is.is_gone ∙ devices;
  scripts = is.scripts;
  ends = λ e i there. subst (λ (b : KeptEndpoint). IsEnd setup s d e b) (same d e) (is.ends e i there);
}

-- the orders
posted_as : (endpoints others : ℕ → ℕ → KeptEndpoint) (orders : List RingOrder) (ks : List TrbKind) → AreSame endpoints others → AllPosted endpoints orders ks → AllPosted others orders ks
posted_as endpoints others [] [] same all = tt
posted_as endpoints others (o ∷ os) (k ∷ ks) same all = (subst (λ (b : KeptEndpoint). IsPosted b o.dev o.ep o.errand k) (same o.dev o.ep) all.0, posted_as endpoints others os ks same all.1)
posted_as endpoints others [] (k ∷ ks) same all = absurd all
posted_as endpoints others (o ∷ os) [] same all = absurd all

-- the whole
pub holds_as : (setup : Setup) (k : Controller) (gone now : ℕ → Bool) (endpoints others : ℕ → ℕ → KeptEndpoint) (orders : List RingOrder) (events : List RingEvent) (posted : ℕ) → ((d : ℕ) → gone d ≡ now d) → AreSame endpoints others
    → Holds setup k gone endpoints orders events posted → Holds setup k now others orders events posted
holds_as setup k gone now endpoints others orders events posted devices same is = record {
  slots = is.slots;
  each = λ d s there. slot_as setup d s gone now endpoints others (devices d) same (is.each d s there);
  ordered = posted_as endpoints others orders k.commands.waits same is.ordered;
  told = is.told;
  count = is.count;
}

-- what was put last stands
pub put_twice : (endpoints : ℕ → ℕ → KeptEndpoint) (d e : ℕ) (b after : KeptEndpoint) → AreSame (with_end (with_end endpoints d e b) d e after) (with_end endpoints d e after)
put_twice endpoints d e b after dev ep = by_test ((d == dev) && (e == ep))
  where
    by_test : (t : Bool) → (if t then after else if t then b else endpoints dev ep) ≡ (if t then after else endpoints dev ep)
    by_test true = refl
    by_test false = refl

-- and by one that is the same
pub put_same : (endpoints : ℕ → ℕ → KeptEndpoint) (d e : ℕ) (b after : KeptEndpoint) → b ≡ after → AreSame (with_end endpoints d e b) (with_end endpoints d e after)
put_same endpoints d e b after same dev ep = by_test ((d == dev) && (e == ep))
  where
    by_test : (t : Bool) → (if t then b else endpoints dev ep) ≡ (if t then after else endpoints dev ep)
    by_test true = same
    by_test false = refl
