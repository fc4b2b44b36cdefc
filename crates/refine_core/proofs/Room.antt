-- The ring of an endpoint has room for one more transfer, where its line has a place.
use Rattle.std.proofs.Common.{◌≡◌, ℕ, zero, suc, ◌+◌, ◌<◌, ◌≤◌, refl, ap, ◌*◌, arith, List, [], ◌∷◌, length, length-append}
use Rattle.usb_model.specs.declared.request.Request.{Request}
use Rattle.usb_model.specs.Limits.{most_bytes}
use Rattle.usb_model.specs.Requests.{length_of}
use Rattle.usb_trb.specs.declared.kind.TrbKind.{TrbKind}
use Rattle.usb_model.specs.Kept.{InRow, KeptTransfer, first_place, is_extra, trbs_of}
use Rattle.usb_rings.specs.Line.{Line, all_of, capacity, used}
use Rattle.refine_rings.specs.Line.{AllItems, IsLine}
use Rattle.refine_world.specs.ShownEndpoint.{AllFew}
use Rattle.refine_world.proofs.Budget.{few_trbs, row_span}

-- the TRBs of the items are those between the first item's place and the end
item_span : (size : ℕ) (ys : List KeptTransfer) (kss : List (List TrbKind)) (end : ℕ) → AllItems size ys kss → InRow ys end → first_place ys end + length (all_of kss) ≡ end
item_span size [] [] end all row = omega arith
item_span size [] (ks ∷ kss) end all row = absurd all
item_span size (y ∷ ys) [] end all row = absurd all
item_span size (y ∷ ys) (ks ∷ kss) end all row = omega (arith, length-append ks (all_of kss), all.0.count, row.0, item_span size ys kss end all.1 row.1)

-- in a ring of 126 places
pub fits_one_more : (size : ℕ) (l : Line) (ys : List KeptTransfer) (end dequeue : ℕ) (request : Request) → IsLine size l ys end dequeue → AllFew ys → first_place ys end ≤ dequeue + 5 → length ys < 16 → length_of request.body ≤ most_bytes
    → used l + length (trbs_of size request) ≤ capacity
fits_one_more size l ys end dequeue request is few near place short = by_passed l.passed refl
  where
    span : end ≤ first_place ys end + length ys * 5
    span = (row_span 5 ys end is.row few).1

    items : first_place ys end + length (all_of l.items) ≡ end
    items = item_span size ys l.items end is.items is.row

    more : length (trbs_of size request) ≤ 5
    more = few_trbs (is_extra size request request.body) (length_of request.body) short

    by_passed : (n : ℕ) → l.passed ≡ n → length l.gone + length (all_of l.items) + length (trbs_of size request) ≤ capacity
    by_passed zero none = omega (arith, span, items, more, is.between, none, near, place)
    by_passed (suc n) some =
        let gone : length l.gone ≡ 0 = ap length (is.whole (omega (arith, some))) in
        omega (arith, span, items, more, gone, place)
