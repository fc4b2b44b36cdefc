-- What the tests of a call read of an endpoint, the core reads of its endpoint.
use Rattle.std.proofs.Common.{Bool, List, None, Option, Some, [], ap, ap₂, false, option_map, refl, subst, sym, true, ℕ, ◌&&◌, ◌==◌, ◌∙◌, ◌∷◌, ◌≡◌}
use Rattle.std.specs.Prelude.{if◌then◌else◌, is_none, not}
use Rattle.std.proofs.lemmas.Bool.{and_right}
use Rattle.usb_model.specs.declared.errand.Errand.{Errand}
use Rattle.usb_model.specs.declared.item.Ask.{Ask}
use Rattle.usb_model.specs.declared.item.Item.{Item}
use Rattle.usb_model.specs.declared.request.Request.{Request}
use Rattle.usb_model.specs.Endpoint.{in_progress, is_blank, is_transfer}
use Rattle.refine_world.specs.Calls.{is_kept_it, kept_in_progress}
use Rattle.refine_world.specs.ShownEndpoint.{AllKept}
use Rattle.usb_model.specs.Kept.{KeptTransfer, SentErrand}

-- what is read of it
pub record Looked : Type 0 where
  pub ask : Option Ask
  pub request : Request

abbrev pub look_item : Item → Looked
look_item x = record { ask = x.ask; request = x.request }

abbrev pub look_kept : KeptTransfer → Looked
look_kept y = record { ask = y.ask; request = y.request }

pub seen_item : (size n : ℕ) (xs : List Item) (ys : List KeptTransfer) → AllKept size xs ys → option_map look_kept (kept_in_progress n ys) ≡ option_map look_item (in_progress n xs)
unfolding in_progress kept_in_progress
seen_item size n [] [] k = refl
seen_item size n [] (y ∷ ys) k = absurd k
seen_item size n (x ∷ xs) [] k = absurd k
seen_item size n (x ∷ xs) (y ∷ ys) k = by_blank (is_blank x) refl (seen_item size n xs ys k.1)
  where
    Same : Bool → Bool → Type 0
    Same a b = option_map look_kept (if a then Some y else kept_in_progress n ys) ≡ option_map look_item (if b then Some x else in_progress n xs)

    live : is_blank x ≡ false → (t : Bool) → (x.n == n) ≡ t → option_map look_kept (kept_in_progress n ys) ≡ option_map look_item (in_progress n xs) → Same t t
    live q true is rest = let l = k.0.live q in ap₂ (λ a r. Some (record { ask = a; request = r })) l.ask l.request
    live q false is rest = rest

    by_blank : (b : Bool) → is_blank x ≡ b → option_map look_kept (kept_in_progress n ys) ≡ option_map look_item (in_progress n xs) → Same (is_kept_it n y) (is_transfer n x)
    by_blank true q rest =
        let a : is_kept_it n y ≡ false = and_right (y.n == n) (not y.blank) (ap not (k.0.blank ∙ q)) in
        let b : is_transfer n x ≡ false = and_right (x.n == n) (not (is_blank x)) (ap not q) in
        subst (λ t. Same t (is_transfer n x)) (sym a) (subst (Same false) (sym b) rest)
    by_blank false q rest =
        let and_true : (t : Bool) → (t && true) ≡ t = decided in
        let a : is_kept_it n y ≡ (x.n == n) = ap₂ (λ m t. (m == n) && not t) (k.0.live q).n (k.0.blank ∙ q) ∙ and_true (x.n == n) in
        let b : is_transfer n x ≡ (x.n == n) = ap (λ t. (x.n == n) && not t) q ∙ and_true (x.n == n) in
        subst (λ t. Same t (is_transfer n x)) (sym a) (subst (Same (x.n == n)) (sym b) (live q (x.n == n) refl rest))
      where
        decided : (t : Bool) → (t && true) ≡ t
        decided true = refl
        decided false = refl

-- whether there is an errand
pub seen_errand : (o : Option SentErrand) (e : Option Errand) → option_map (λ s. s.errand) o ≡ e → is_none o ≡ is_none e
seen_errand None e q = ap is_none q
seen_errand (Some s) e q = ap is_none q
