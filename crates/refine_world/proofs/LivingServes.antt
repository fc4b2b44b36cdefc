-- One Serve: what is left behind the answer that is taken isn't looked at.
use Rattle.std.proofs.Common.{◌≡◌, ℕ, ◌==◌, ◌-◌, Bool, true, false, not, ◌&&◌, ◌||◌, List, [], ◌∷◌, ◌++◌, length, take, drop, Option, Some, None, refl, sym, ap, ap₂, ◌∙◌}
use Rattle.std.specs.Prelude.{if◌then◌else◌, is_some}
use Rattle.std.specs.Option.{unwrap_or}
use Rattle.usb_model.specs.declared.response.Response.{Response}
use Rattle.usb_model.specs.declared.reply.Reply.TheVariants.{Nak, Moved, Ended}
use Rattle.usb_model.specs.declared.item.Item.{Item}
use Rattle.usb_model.specs.declared.item.ItemState.TheVariants.{Served}
use Rattle.usb_model.specs.declared.news.Event.TheVariants.{Finished}
use Rattle.usb_model.specs.declared.endpoint.Endpoint.{Endpoint}
use Rattle.usb_model.specs.declared.endpoint.EndpointState.{EndpointState}
use Rattle.usb_model.specs.declared.endpoint.EndpointState.TheVariants.{Running, Stopped, Halted}
use Rattle.usb_model.specs.declared.endpoint_effect.EndpointEffect.{EndpointEffect}
use Rattle.usb_model.specs.declared.outcome.Outcome.{Outcome}
use Rattle.usb_model.specs.Endpoint.Packets.{outcome, open_with, count_of}
use Rattle.usb_model.specs.Endpoint.Status.{halts}
use Rattle.usb_model.specs.Endpoint.{first_waiting, with_first, outcome_of}
use Rattle.usb_model.specs.Endpoint.Serve.{next_answer, is_no_packet, is_stall, acknowledged, serve, serve_first, serve_by, serve_gone}
use Rattle.refine_world.specs.Living.{with_more, is_wanting, is_running, is_empty}

-- what is done at an endpoint, but that more is left
abbrev pub effect_of_end : List Response → EndpointEffect → EndpointEffect
effect_of_end more x = record x { endpoint = with_more more x.endpoint }

-- the next answer is the same, and more is left behind it: where there is no more, the device is halted, or has an answer left
next_same : (more left : List Response) (halted : Bool) → (not (is_empty more) && (not halted && is_empty left)) ≡ false
    → (if halted then [] else take 1 (left ++ more)) ≡ (if halted then [] else take 1 left)
next_same more left true e = refl
next_same [] [] false e = refl
next_same (y ∷ more) [] false e = absurd cc
next_same more (x ∷ left) false e = refl

rest_same : (more left : List Response) (halted : Bool) → (not (is_empty more) && (not halted && is_empty left)) ≡ false
    → drop (length (if◌then◌else◌ {A = List Response} halted [] (take 1 left))) (left ++ more) ≡ drop (length (if◌then◌else◌ {A = List Response} halted [] (take 1 left))) left ++ more
rest_same more left true e = refl
rest_same [] [] false e = refl
rest_same (y ∷ more) [] false e = absurd cc
rest_same more (x ∷ left) false e = refl

-- so what the first waiting item does with it is the same
serve_by_same : (more : List Response) (e : Endpoint) (x : Item) (before after : Outcome) (code : Option ℕ) → (not (is_empty more) && (not e.device_halted && is_empty e.script_left)) ≡ false
    → serve_by (with_more more e) x before after code ≡ effect_of_end more (serve_by e x before after code)
unfolding serve_by
serve_by_same more e x before after None free = ap₂ made next left
  where
    next : next_answer (with_more more e) ≡ next_answer e
    next = next_same more e.script_left e.device_halted free

    left : drop (length (next_answer (with_more more e))) (e.script_left ++ more) ≡ drop (length (next_answer e)) e.script_left ++ more
    left = ap (λ a. drop (length a) (e.script_left ++ more)) next ∙ rest_same more e.script_left e.device_halted free

    made : List Response → List Response → EndpointEffect
    made a l = record {
      reply = if is_no_packet a then Nak x.n else Moved x.n (count_of after - count_of before);
      endpoint = record e {
        line = with_first (record x { share = x.share ++ a }) e.line;
        script_left = l;
        packets_received = e.packets_received ++ acknowledged x.request.body before after;
      };
      orders = [];
      news = [];
      results = [];
    }
serve_by_same more e x before after (Some code) free = ap₂ made next left
  where
    next : next_answer (with_more more e) ≡ next_answer e
    next = next_same more e.script_left e.device_halted free

    left : drop (length (next_answer (with_more more e))) (e.script_left ++ more) ≡ drop (length (next_answer e)) e.script_left ++ more
    left = ap (λ a. drop (length a) (e.script_left ++ more)) next ∙ rest_same more e.script_left e.device_halted free

    made : List Response → List Response → EndpointEffect
    made a l = record {
      reply = Ended x.n code;
      endpoint = record e {
        line = with_first (record x { share = x.share ++ a; state = Served code }) e.line;
        script_left = l;
        packets_received = e.packets_received ++ acknowledged x.request.body before after;
        device_halted = e.device_halted || is_stall a;
        state = if halts code then Halted else e.state;
      };
      orders = [];
      news = Finished x.n code ∷ [];
      results = [];
    }

serve_first_same : (size : ℕ) (gone : Bool) (more : List Response) (e : Endpoint) (state : EndpointState) (o : Option Item)
    → (not (is_empty more) && (not gone && (is_running state && (is_some o && (not e.device_halted && is_empty e.script_left))))) ≡ false
    → serve_first size gone (with_more more e) state o ≡ effect_of_end more (serve_first size gone e state o)
unfolding serve_first serve_gone
serve_first_same size true more e Running (Some x) free = refl
serve_first_same size false more e Running (Some x) free =
    ap (λ a. serve_by (with_more more e) x (outcome_of size x) (after a) (after a).code) (next_same more e.script_left e.device_halted free)
    ∙ serve_by_same more e x (outcome_of size x) (after (next_answer e)) (after (next_answer e)).code free
  where
    after : List Response → Outcome
    after a = unwrap_or (outcome x.request size (x.share ++ a) e.device_halted) (open_with [])
serve_first_same size true more e Running None free = refl
serve_first_same size false more e Running None free = refl
serve_first_same size true more e Stopped None free = refl
serve_first_same size false more e Stopped None free = refl
serve_first_same size true more e Stopped (Some x) free = refl
serve_first_same size false more e Stopped (Some x) free = refl
serve_first_same size true more e Halted None free = refl
serve_first_same size false more e Halted None free = refl
serve_first_same size true more e Halted (Some x) free = refl
serve_first_same size false more e Halted (Some x) free = refl

-- a Serve that doesn't want for an answer is the same where more is left
pub serve_same : (size : ℕ) (gone : Bool) (more : List Response) (e : Endpoint) → (not (is_empty more) && (not gone && is_wanting e)) ≡ false
    → serve size gone (with_more more e) ≡ effect_of_end more (serve size gone e)
unfolding serve
serve_same size gone more e free = serve_first_same size gone more e e.state (first_waiting e.line) free
