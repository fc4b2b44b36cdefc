use Rattle.std.proofs.Common.{Bool, ℕ, ap, length, take}
use Rattle.usb_rings.specs.Line.{all_of}
use Rattle.usb_rings.proofs.ItemsTrbs.{first-few}
use Rattle.usb_rings.proofs.transfer_laws.a_pointer_to_an_item_leads_there.Goals as goal

pub returns-clause-found : goal.returns-clause-found
returns-clause-found c =
    let items = c.args.ring.now.line.items in
    (c.set_dequeue.ensures.found (length (all_of (take c.args.item items))) (first-few items c.args.item) (ap (λ (r : ℕ × Bool). r.0) c.pointer_to-pointer.ensures)).0

pub returns-clause-line : goal.returns-clause-line
returns-clause-line c =
    let items = c.args.ring.now.line.items in
    (c.set_dequeue.ensures.found (length (all_of (take c.args.item items))) (first-few items c.args.item) (ap (λ (r : ℕ × Bool). r.0) c.pointer_to-pointer.ensures)).1
