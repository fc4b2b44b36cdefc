-- A core whose devices are fed shows the world where more is left.
use Rattle.std.proofs.Common.{◌≡◌, ℕ, Bool, true, false, List, [], ◌∷◌, ◌++◌, Option, Some, None, refl, sym, ap, subst, ◌∙◌}
use Rattle.std.specs.Prelude.{if◌then◌else◌}
use Rattle.std.specs.Option.{unwrap_or}
use Rattle.usb_model.specs.declared.step.Step.{Step}
use Rattle.usb_model.specs.declared.item.Item.{Item}
use Rattle.usb_model.specs.declared.response.Response.{Response}
use Rattle.usb_model.specs.declared.endpoint.Endpoint.{Endpoint}
use Rattle.usb_model.specs.declared.outcome.Outcome.{Outcome}
use Rattle.usb_model.specs.Setup.{Setup, packet_size_of}
use Rattle.usb_model.specs.Endpoint.{first_waiting, outcome_of}
use Rattle.usb_model.specs.Endpoint.Packets.{IsOpenAt, open_with, outcome}
use Rattle.usb_model.specs.World.{World, Claims, new_world, holder, is_its, machine_of, world_from}
use Rattle.proof_model.proofs.Lists.Pieces.{same_name}
use Rattle.usb_model.specs.Kept.{KeptEndpoint}
use Rattle.refine_world.specs.Lively.{IsFine, IsLively}
use Rattle.refine_world.specs.ShownEndpoint.{ShowsDevice, ShowsEnd}
use Rattle.refine_world.specs.Shows.{Core, Shows, At, AllHeld, errands, events, tellings, at}
use Rattle.refine_world.proofs.EndpointInvariant.{sound_at}
use Rattle.refine_world.proofs.PauseEvents.{first_open}
use Rattle.refine_world.specs.Living.{More, GoesOn, world_with, with_more}
use Rattle.refine_world.specs.Wanting.{IsOpen, wanting_none}
use Rattle.refine_world.specs.FedCore.{kept_with, core_with, ShowsFed}
use Rattle.refine_world.proofs.Effects.{size_same}
use Rattle.refine_world.proofs.Worlds.{holder_same}
use Rattle.refine_world.proofs.Wanting.{reached_longer}

is_open : (o : Option Outcome) → IsOpenAt o → (unwrap_or o (open_with [])).code ≡ None
is_open None i = absurd i
is_open (Some o) i = i

-- in each world that a run reaches a waiting transfer is open
pub open_at : (setup : Setup) (steps : List Step) → IsFine setup → IsOpen setup (world_from setup (new_world setup) steps)
unfolding machine_of
open_at setup steps fine h d ep x own first =
    let w : World = world_from setup (new_world setup) steps in
    let there : (machine_of setup h w).endpoints d ep ≡ Some (w.endpoints d ep) = ap (λ b. if◌then◌else◌ {A = Option Endpoint} b (Some (w.endpoints d ep)) None) (ap (is_its h) own ∙ same_name h) in
    let lively : IsLively setup d ep (w.endpoints d ep) = (sound_at setup steps fine h).lively d ep (w.endpoints d ep) there in
    is_open (outcome x.request (packet_size_of setup d ep) x.share false) (first_open (packet_size_of setup d ep) (w.endpoints d ep).line x first lively.orderly.opens)

held_same : {A : Type 0} (setup longer : Setup) (more : More) (claims : Claims) (xs : List (At A)) → GoesOn setup longer more → AllHeld setup claims xs → AllHeld longer claims xs
held_same setup longer more claims [] g a = tt
held_same setup longer more claims (x ∷ xs) g a = (holder_same setup longer more claims x.dev x.ep g ∙ a.0, held_same setup longer more claims xs g a.1)

pub shows_fed : ShowsFed
shows_fed setup longer more w c g fine s = record {
  steps = wanting_none setup (new_world setup) s.steps;
  reached = ap (world_with more) s.reached ∙ sym (reached_longer setup longer more s.steps g (λ begun. open_at setup begun fine));
  names = s.names;
  claims = s.claims;
  gone = s.gone;
  results = s.results;
  orders = s.orders;
  news = s.news;
  orders_shown = s.orders_shown;
  orders_kept = s.orders_kept;
  news_shown = s.news_shown;
  news_kept = s.news_kept;
  orders_held = held_same setup longer more w.claims s.orders g s.orders_held;
  news_held = held_same setup longer more w.claims s.news g s.news_held;
  first = s.first;
  in_run = s.in_run;
  few = s.few;
  near = λ h d e own. s.near h d e (sym (holder_same setup longer more w.claims d e g) ∙ own);
  endpoints = λ h d e own. end_of h d e (sym (holder_same setup longer more w.claims d e g) ∙ own);
  devices = λ d e. device_of (more d e) (w.endpoints d e) (c.endpoints d e) (s.devices d e);
}
  where
    device_of : (rest : List Response) (e : Endpoint) (b : KeptEndpoint) → ShowsDevice e b → ShowsDevice (with_more rest e) (kept_with rest b)
    device_of rest e b q = record {
      script_left = ap (λ l. l ++ rest) q.script_left;
      device_halted = q.device_halted;
      packets_received = q.packets_received;
    }

    end_of : (h d e : ℕ) → holder setup w.claims d e ≡ Some h
        → ShowsEnd (packet_size_of longer d e) (with_more (more d e) (w.endpoints d e)) (errands (at d e s.orders)) (events (at d e s.news)) (kept_with (more d e) (c.endpoints d e)) (at d e s.orders) (tellings (at d e s.news))
    end_of h d e own =
        let q = s.endpoints h d e own in
        subst (λ z. ShowsEnd z (with_more (more d e) (w.endpoints d e)) (errands (at d e s.orders)) (events (at d e s.news)) (kept_with (more d e) (c.endpoints d e)) (at d e s.orders) (tellings (at d e s.news)))
        (sym (size_same setup longer more d e g))
        (record {
          tail = q.tail;
          news = q.news;
          kept = q.kept;
          row = q.row;
          state = q.state;
          errand = q.errand;
          script_left = ap (λ l. l ++ more d e) q.script_left;
          device_halted = q.device_halted;
          packets_received = q.packets_received;
          told_is = q.told_is;
          sent_is = q.sent_is;
          stands = q.stands;
          paused = q.paused;
          known = q.known;
        })
