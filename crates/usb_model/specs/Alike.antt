-- What the answers of a share have in common.
use Rattle.std.specs.Prelude.{◌≡◌, ℕ, List, [], length, map, replicate, Option, Some, None}
use Rattle.std.specs.List.{AllByRecursion}
use Rattle.usb_model.specs.declared.response.Response.{Response}
use Rattle.usb_model.specs.declared.response.Response.TheVariants.{Ack, Data}
use Rattle.usb_model.specs.declared.share.Alike.{Alike}
use Rattle.usb_model.specs.declared.share.Alike.TheVariants.{Nothing, Packets, Acks, Mixed}

-- answers, none of which is a nak, are none, or so many packets of one size, or so many acknowledgements; of mixed ones nothing is said
abbrev pub AreAlike : Alike → List Response → Type 0
AreAlike Nothing xs = xs ≡ []
AreAlike (Packets size count) xs = (ps : List (List ℕ)) × (xs ≡ map Data ps) × AllByRecursion (λ b. length b ≡ size) ps × (length ps ≡ count)
AreAlike (Acks count) xs = xs ≡ replicate count Ack
AreAlike Mixed xs = Unit {0}

-- so many, where they could be counted
abbrev pub packets_by : ℕ → Option ℕ → Alike
packets_by size (Some count) = Packets size count
packets_by size None = Mixed

abbrev pub acks_by : Option ℕ → Alike
acks_by (Some count) = Acks count
acks_by None = Mixed
