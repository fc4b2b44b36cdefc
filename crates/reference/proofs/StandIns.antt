-- An endpoint is served alike where another item stands in for its first that waits.
use Rattle.std.proofs.Common.{◌≡◌, ℕ, Bool, true, false, List, Option, Some, None, sym, ap, ◌∙◌}
use Rattle.usb_model.specs.declared.item.Item.{Item}
use Rattle.usb_model.specs.declared.outcome.Outcome.{Outcome}
use Rattle.usb_model.specs.declared.endpoint.Endpoint.{Endpoint}
use Rattle.usb_model.specs.declared.endpoint.EndpointState.TheVariants.{Running}
use Rattle.usb_model.specs.Endpoint.{first_waiting, with_first}
use Rattle.usb_model.specs.Endpoint.Serve.{serve_by, serve_gone, serve_first, serve}

-- the endpoint with this line, whose first that waits is replaced as in the endpoint's own
abbrev StandsIn : Endpoint → List Item → Type 0
StandsIn e l = (y : Item) → with_first y l ≡ with_first y e.line

-- where the transfer takes an answer
by_alike : (e : Endpoint) (l : List Item) (x : Item) (before after : Outcome) (code : Option ℕ) → StandsIn e l
    → serve_by (record e { line = l }) x before after code ≡ serve_by e x before after code
unfolding serve_by
by_alike e l x before after None same = simp same
by_alike e l x before after (Some code) same = simp same

-- where its device is gone
gone_alike : (e : Endpoint) (l : List Item) (x : Item) → StandsIn e l → serve_gone (record e { line = l }) x ≡ serve_gone e x
unfolding serve_gone
gone_alike e l x same = simp same

-- a running endpoint whose first that waits is this one is served as this one is
is_first : (size : ℕ) (gone : Bool) (e : Endpoint) (x : Item) → e.state ≡ Running → first_waiting e.line ≡ Some x
    → serve_first size gone e Running (Some x) ≡ serve size gone e
unfolding serve
is_first size gone e x state first = rw (state, first)

pub serve_gone_taken : (size : ℕ) (gone : Bool) (e : Endpoint) (l : List Item) (x : Item) → e.state ≡ Running → first_waiting e.line ≡ Some x → StandsIn e l → gone ≡ true
    → serve_gone (record e { line = l }) x ≡ serve size gone e
unfolding serve_first
serve_gone_taken size gone e l x state first same there =
    gone_alike e l x same ∙ ap (λ b. serve_first size b e Running (Some x)) (sym there) ∙ is_first size gone e x state first

pub serve_first_taken : (size : ℕ) (gone : Bool) (e : Endpoint) (l : List Item) (x : Item) → e.state ≡ Running → first_waiting e.line ≡ Some x → StandsIn e l → gone ≡ false
    → serve_first size false (record e { line = l }) Running (Some x) ≡ serve size gone e
unfolding serve_first
serve_first_taken size gone e l x state first same there =
    by_alike e l x _ _ _ same ∙ ap (λ b. serve_first size b e Running (Some x)) (sym there) ∙ is_first size gone e x state first
