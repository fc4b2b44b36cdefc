-- What a device receives of a transfer that writes.
use Rattle.std.proofs.Common.{◌≡◌, ◌∙◌, ℕ, Bool, true, false, List, [], ◌++◌, Option, Some, None, refl, sym, ap, append-nil}
use Rattle.usb_model.specs.declared.endpoint.Endpoint.{Endpoint}
use Rattle.usb_model.specs.declared.endpoint.EndpointState.{EndpointState}
use Rattle.usb_model.specs.declared.endpoint.EndpointState.TheVariants.{Running, Stopped, Halted}
use Rattle.usb_model.specs.declared.item.Item.{Item}
use Rattle.usb_model.specs.declared.request.Body.{Body}
use Rattle.usb_model.specs.declared.request.Body.TheVariants.{Out}
use Rattle.usb_model.specs.Endpoint.{first_waiting, outcome_of}
use Rattle.usb_model.specs.declared.outcome.Outcome.{Outcome}
use Rattle.usb_model.specs.Endpoint.Serve.{acknowledged, serve, serve_by, serve_first, serve_gone}
use Rattle.reference.specs.Moved.{outcome_after, packets_moved, packets_of_first}

-- of an answer that is taken, whether it ends the transfer or not
taken : (e : Endpoint) (x : Item) (before after : Outcome) (code : Option ℕ) → (serve_by e x before after code).endpoint.packets_received ≡ e.packets_received ++ acknowledged x.request.body before after
unfolding serve_by
taken e x before after None = refl
taken e x before after (Some code) = refl

-- of the first item that waits, where there is one
of_first : (size : ℕ) (gone : Bool) (e : Endpoint) (state : EndpointState) (x : Item) (bytes : List ℕ) → x.request.body ≡ Out bytes
    → (serve_first size gone e state (Some x)).endpoint.packets_received ≡ e.packets_received ++ packets_of_first size gone e state (Some x)
unfolding serve_first serve_gone
of_first size false e Running x bytes out =
    taken e x (outcome_of size x) (outcome_after size e x) (outcome_after size e x).code
    ∙ ap (λ body. e.packets_received ++ acknowledged body (outcome_of size x) (outcome_after size e x)) out
of_first size true e Running x bytes out = sym (append-nil e.packets_received)
of_first size false e Stopped x bytes out = sym (append-nil e.packets_received)
of_first size true e Stopped x bytes out = sym (append-nil e.packets_received)
of_first size false e Halted x bytes out = sym (append-nil e.packets_received)
of_first size true e Halted x bytes out = sym (append-nil e.packets_received)

pub device_receives : (size : ℕ) (gone : Bool) (e : Endpoint) (x : Item) (bytes : List ℕ) → first_waiting e.line ≡ Some x → x.request.body ≡ Out bytes
    → (serve size gone e).endpoint.packets_received ≡ e.packets_received ++ packets_moved size gone e
unfolding serve packets_moved
device_receives size gone e x bytes first out = rw first (of_first size gone e e.state x bytes out)
