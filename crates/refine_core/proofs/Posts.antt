-- What an order at an endpoint stands on: its ring, and room in the command ring.
use Rattle.std.proofs.Common.{◌≡◌, ℕ, suc, true, false, refl, ap, sym, subst, ◌∙◌, arith, ◌<◌, ◌≤◌, List, [], ◌∷◌, length, Option, Some, None}
use Rattle.std.specs.Prelude.{IfSome, is_none, option_map, slice_set}
use Rattle.std.proofs.lemmas.Option.{same_Some}
use Rattle.usb_model.specs.declared.errand.Errand.{Errand}
use Rattle.usb_rings.specs.Places.{index_of}
use Rattle.usb_tables.specs.declared.outstanding.Sent.{Sent}
use Rattle.usb_xhc.specs.Posts.{posted_one}
use Rattle.std.proofs.lemmas.List.Sums.{prefix_len-le-length}
use Rattle.usb_model.specs.Requests.{is_unsupported}
use Rattle.usb_model.specs.Setup.{Setup, interface_of, kind_of}
use Rattle.usb_model.specs.World.{holder}
use Rattle.usb_trb.specs.declared.kind.TrbKind.{TrbKind}
use Rattle.usb_model.specs.Kept.{KeptEndpoint, KeptTransfer}
use Rattle.refine_rings.specs.Line.{AllItems as AllSent}
use Rattle.usb_xhc.specs.Context.{Context}
use Rattle.usb_xhc.specs.Controller.{Controller}
use Rattle.usb_tables.specs.ByEndpoint.{lane_at}
use Rattle.usb_tables.specs.TransfersInFlight.{line_at}
use Rattle.refine_world.specs.Shows.{Core, RingOrder}
use Rattle.refine_rings.specs.Holds.{AllPosted, HoldsCore}
use Rattle.refine_core.specs.State.{Keeps, KeepsEnd, State}
use Rattle.refine_core.specs.Steps.{CanPost}
use Rattle.refine_core.specs.Works.{Posts, context_in, leading, order_by}
use Rattle.refine_core.proofs.Errands.{posts}
use Rattle.refine_core.proofs.Lines.{as_many}
use Rattle.refine_core.proofs.Rings.{IsSlotOf, ring_of, slot_of}

-- an endpoint where transfers can go has a ring
pub ring_there : (setup : Setup) (k : Controller) (c : Core) (d e i : ℕ) → HoldsCore setup k c → interface_of setup d e ≡ Some i → is_unsupported (kind_of setup d e) ≡ false → (x : Context) × (context_in k d e ≡ Some x)
ring_there setup k c d e i held at supported = by_context (context_in k d e) refl (slot_of setup k c d e i held at)
  where
    by_context : (o : Option Context) → context_in k d e ≡ o → IsSlotOf setup k c d e o → (x : Context) × (context_in k d e ≡ Some x)
    by_context None is slot =
        let both : false ≡ true = sym supported ∙ slot.ring.unsupported in
        absurd cc
    by_context (Some x) is slot = (x, is)

-- as many orders wait as the core has
pub as_many_orders : (endpoints : ℕ → ℕ → KeptEndpoint) (os : List RingOrder) (ks : List TrbKind) → AllPosted endpoints os ks → length ks ≡ length os
as_many_orders endpoints [] [] all = refl
as_many_orders endpoints [] (k ∷ ks) all = absurd all
as_many_orders endpoints (o ∷ os) [] all = absurd all
as_many_orders endpoints (o ∷ os) (k ∷ ks) all = ap suc (as_many_orders endpoints os ks all.1)

-- as many items in the ring as in the line
pub as_many_items : (size : ℕ) (ys : List KeptTransfer) (kss : List (List TrbKind)) → AllSent size ys kss → length kss ≡ length ys
as_many_items size [] [] all = refl
as_many_items size [] (ks ∷ kss) all = absurd all
as_many_items size (y ∷ ys) [] all = absurd all
as_many_items size (y ∷ ys) (ks ∷ kss) all = ap suc (as_many_items size ys kss all.1)

module _ {P : Type 0} where
  -- the ring of an endpoint has as many items as its line of transfers in flight
  pub ring_items : (setup : Setup) (s : State P) (c : Core) (d e i : ℕ) (x : Context) → Keeps setup s c → interface_of setup d e ≡ Some i → context_in s.controller d e ≡ Some x → length x.ring.line.items ≡ length (line_at s.flights d e)
  ring_items setup s c d e i x keeps at there =
      let ring = ring_of setup s.controller c d e i x keeps.held at there in
      let end : KeepsEnd s (holder setup c.claims d e) d e (c.endpoints d e) = keeps.ends d e i at in
      as_many_items x.size (c.endpoints d e).line x.ring.line.items ring.3.context.ring.items
      ∙ sym (as_many (holder setup c.claims d e) e (line_at s.flights d e) (c.endpoints d e).line end.line)

  -- the ring is there
  pub can_post_ring : (s : State P) (d e : ℕ) → CanPost s d e → (x : Context) × (context_in s.controller d e ≡ Some x)
  can_post_ring s d e can = ring_there can.setup s.controller can.core d e can.at.interface can.at.keeps.held can.at.there can.supported

  -- there is room for the order
  pub can_post_room : (s : State P) (d e : ℕ) → CanPost s d e → length s.controller.commands.waits < 254
  can_post_room s d e can = omega (arith, as_many_orders can.core.endpoints can.core.orders s.controller.commands.waits can.at.keeps.held.ordered, can.room)

  -- the ring has an item, or its end, where so many blanks lead the line
  pub can_post_items : (s : State P) (d e : ℕ) (x : Context) → CanPost s d e → context_in s.controller d e ≡ Some x → leading s d e ≤ length x.ring.line.items
  can_post_items s d e x can there =
      omega (arith, ring_items can.setup s can.core d e can.at.interface x can.at.keeps can.at.there there, prefix_len-le-length is_none (line_at s.flights d e))

  -- there is an order of the errand
  pub can_post_order : (s : State P) (d e blanks : ℕ) (errand : Errand) → CanPost s d e → option_map (λ x. order_by x blanks errand) (context_in s.controller d e) ≡ None → ⊥
  can_post_order s d e blanks errand can none =
      let there = can_post_ring s d e can in
      let both : Some (order_by there.0 blanks errand) ≡ None = sym (ap (option_map (λ x. order_by x blanks errand)) there.1) ∙ none in
      absurd cc

  -- it is posted
  pub post_is : (old : State P) (k : Controller) (o : List (Option Sent)) (d e blanks index : ℕ) (errand : Errand) (order : TrbKind) → CanPost old d e → blanks ≡ leading old d e
      → option_map (λ x. order_by x blanks errand) (context_in old.controller d e) ≡ Some order → index ≡ index_of 255 old.controller.commands.posted
      → k ≡ record old.controller { commands = posted_one 255 old.controller.commands order } → o ≡ slice_set old.outstanding (lane_at d e) (Some (record { errand = errand; index = index }))
      → (h : ℕ) → Posts old (record old { controller = k; outstanding = o }) h d e errand
  post_is old k o d e blanks index errand order can led ordered is_index is_k is_o h =
      let there = can_post_ring old d e can in
      let same : order_by there.0 (leading old d e) errand ≡ order =
      ap (λ (n : ℕ). order_by there.0 n errand) (sym led) ∙ same_Some (order_by there.0 blanks errand) order (sym (ap (option_map (λ x. order_by x blanks errand)) there.1) ∙ ordered) in
      posts old k o h d e there.0 errand index there.1 (is_k ∙ ap (λ (t : TrbKind). record old.controller { commands = posted_one 255 old.controller.commands t }) (sym same)) is_index is_o

  -- what its ring asks for
  pub can_post_blanks : (s : State P) (d e blanks : ℕ) → CanPost s d e → blanks ≡ leading s d e → IfSome (context_in s.controller d e) (λ x. blanks ≤ length x.ring.line.items)
  can_post_blanks s d e blanks can led =
      let there = can_post_ring s d e can in
      subst (λ (x : Option Context). IfSome x (λ x. blanks ≤ length x.ring.line.items)) (sym there.1) (omega (arith, led, can_post_items s d e there.0 can there.1))
