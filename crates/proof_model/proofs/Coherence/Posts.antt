-- The orders and news of one endpoint among those of a machine.
use Rattle.std.proofs.Common.{List, [], ap, ap₂, false, map, refl, true, ℕ, ◌++◌, ◌==◌, ◌∙◌, ◌∷◌, ◌≡◌}
use Rattle.std.proofs.lemmas.List.{map-append}
use Rattle.std.proofs.lemmas.List.Elements.{filter-append}
use Rattle.std.specs.List.{filter}
use Rattle.usb_model.specs.declared.errand.Errand.{Errand}
use Rattle.usb_model.specs.declared.news.Event.{Event}
use Rattle.usb_model.specs.declared.step.Step.TheVariants.{Command, Deliver}
use Rattle.usb_model.specs.declared.step.Step.{Step}
use Rattle.usb_model.specs.Laws.Bound.{first_counts}
use Rattle.usb_model.specs.Machine.{Machine, news_at, orders_at}
use Rattle.proof_model.proofs.Lists.Pieces.{same_name}
use Rattle.usb_model.specs.Fitness.{posts_of, errands_of, events_of}

-- in two lists together, those of the first and then those of the second
pub posts-append : {A B : Type 0} (place : A → ℕ) (what : A → B) (ep : ℕ) (xs ys : List A) → posts_of place what ep (xs ++ ys) ≡ posts_of place what ep xs ++ posts_of place what ep ys
posts-append place what ep xs ys = ap (map what) (filter-append (λ x. place x == ep) xs ys) ∙ map-append what (filter (λ x. place x == ep) xs) (filter (λ x. place x == ep) ys)

-- what is posted at an endpoint is the endpoint's
posts-own : {A B : Type 0} (place : A → ℕ) (what : A → B) (make : B → A) (ep : ℕ) (xs : List B) → ((b : B) → (place (make b) == ep) ≡ true) → ((b : B) → what (make b) ≡ b) → posts_of place what ep (map make xs) ≡ xs
posts-own place what make ep [] here is = refl
posts-own place what make ep (x ∷ xs) here is = rw (here x) (ap₂ (λ a l. a ∷ l) (is x) (posts-own place what make ep xs here is))

-- what is posted at another endpoint is not
posts-others : {A B : Type 0} (place : A → ℕ) (what : A → B) (make : B → A) (at : ℕ) (xs : List B) → ((b : B) → (place (make b) == at) ≡ false) → posts_of place what at (map make xs) ≡ []
posts-others place what make at [] there = refl
posts-others place what make at (x ∷ xs) there = rw (there x) (posts-others place what make at xs there)

-- those of the endpoint itself are its own, and no other's
pub errands_of-at : (ep : ℕ) (xs : List Errand) → errands_of ep (orders_at ep xs) ≡ xs
errands_of-at ep xs = posts-own (λ x. x.ep) (λ x. x.errand) (λ x. record { ep = ep; errand = x }) ep xs (λ b. same_name ep) (λ b. refl)

-- news of an endpoint, at it
pub events_of-at : (ep : ℕ) (xs : List Event) → events_of ep (news_at ep xs) ≡ xs
events_of-at ep xs = posts-own (λ x. x.ep) (λ x. x.event) (λ x. record { ep = ep; event = x }) ep xs (λ b. same_name ep) (λ b. refl)

-- orders of another endpoint
pub errands_of-other : (at ep : ℕ) (xs : List Errand) → (ep == at) ≡ false → errands_of at (orders_at ep xs) ≡ []
errands_of-other at ep xs e = posts-others (λ x. x.ep) (λ x. x.errand) (λ x. record { ep = ep; errand = x }) at xs (λ b. e)

-- news of another endpoint
pub events_of-other : (at ep : ℕ) (xs : List Event) → (ep == at) ≡ false → events_of at (news_at ep xs) ≡ []
events_of-other at ep xs e = posts-others (λ x. x.ep) (λ x. x.event) (λ x. record { ep = ep; event = x }) at xs (λ b. e)

-- whether the step takes an order of the endpoint
abbrev pub commands_now : ℕ → Machine → Step → ℕ
commands_now ep m Command = first_counts (λ x. x.ep == ep) m.orders
commands_now ep m _ = 0

-- whether the step takes a piece of news of the endpoint
abbrev pub delivers_now : ℕ → Machine → Step → ℕ
delivers_now ep m Deliver = first_counts (λ x. x.ep == ep) m.news
delivers_now ep m _ = 0
