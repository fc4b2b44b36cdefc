-- Cores that are the same, and the core behind a piece of work.
use Rattle.std.proofs.Common.{◌≡◌, ℕ, Bool, true, false, refl, ap, sym, subst, ◌∙◌, List, [], append-nil, Some}
use Rattle.std.specs.Prelude.{◌==◌, if◌then◌else◌}
use Rattle.std.proofs.lemmas.Bool.{eqb-true}
use Rattle.usb_model.specs.declared.errand.Errand.{Errand}
use Rattle.usb_model.specs.declared.handle.Handle.{Handle}
use Rattle.usb_model.specs.declared.reply.Reply.{Reply}
use Rattle.usb_model.specs.declared.result.TransferResult.{TransferResult}
use Rattle.usb_model.specs.declared.step.Step.{Step}
use Rattle.usb_model.specs.Setup.{Setup}
use Rattle.usb_model.specs.Kept.{KeptEndpoint}
use Rattle.usb_model.specs.Events.{posts}
use Rattle.refine_world.specs.Shows.{Core}
use Rattle.refine_world.specs.Steps.{handle_work, worked}
use Rattle.refine_rings.specs.Holds.{with_end}
use Rattle.refine_rings.proofs.Ends.{here}
use Rattle.refine_core.specs.State.{Keeps, State}
use Rattle.refine_core.specs.Steps.{amid}
use Rattle.refine_core.specs.Works.{IsAt, Posts}
use Rattle.refine_core.proofs.Same.{put_same, put_twice}

-- cores of which each part is the same
pub record SameCore (c other : Core) : Type 0 where
  pub names : (h : ℕ) → c.names h ≡ other.names h
  pub claims : (d i : ℕ) → c.claims d i ≡ other.claims d i
  pub gone : (d : ℕ) → c.gone d ≡ other.gone d
  pub endpoints : (d e : ℕ) → c.endpoints d e ≡ other.endpoints d e
  pub orders : c.orders ≡ other.orders
  pub events : c.events ≡ other.events
  pub posted : c.posted ≡ other.posted
  pub results : c.results ≡ other.results

-- they are one
pub core_as : (c other : Core) → SameCore c other → c ≡ other
core_as c other same = λ i. record {
  names = λ h. same.names h i;
  claims = λ d k. same.claims d k i;
  gone = λ d. same.gone d i;
  endpoints = λ d e. same.endpoints d e i;
  orders = same.orders i;
  events = same.events i;
  posted = same.posted i;
  results = same.results i;
}

-- a name's own handle in its place is no change
pub own_name : (names : ℕ → Handle) (h g : ℕ) → names g ≡ (if h == g then names h else names g)
own_name names h g = by_test (h == g) refl
  where
    by_test : (b : Bool) → (h == g) ≡ b → names g ≡ (if b then names h else names g)
    by_test true is = ap names (sym (eqb-true h g is))
    by_test false is = refl

module _ {P : Type 0} where
  -- parts that keep a core keep each that is the same
  pub keeps_as : (setup : Setup) (s : State P) (c other : Core) → SameCore c other → Keeps setup s c → Keeps setup s other
  keeps_as setup s c other same keeps = subst (λ (x : Core). Keeps setup s x) (core_as c other same) keeps

  -- work at an endpoint that posts nothing
  pub rests_amid : (setup : Setup) (s : State P) (c : Core) (h d e : ℕ) (step : Step) (b : KeptEndpoint) (reply : Reply) (results : List TransferResult) → Keeps setup s (amid h d e step b results c)
      → Keeps setup s (worked h (c.names h) d e step (handle_work (record { reply = reply; endpoint = b; orders = []; results = results })) c)
  rests_amid setup s c h d e step b reply results keeps = keeps_as setup s (amid h d e step b results c) (worked h (c.names h) d e step (handle_work (record { reply = reply; endpoint = b; orders = []; results = results })) c)
      (record {
        names = own_name c.names h;
        claims = λ dev i. refl;
        gone = λ dev. refl;
        endpoints = λ dev ep. refl;
        orders = sym (append-nil (amid h d e step b results c).orders);
        events = sym (append-nil (amid h d e step b results c).events);
        posted = refl;
        results = refl;
      })
      keeps

  -- and work that posts an errand
  pub posts_amid : (setup : Setup) (old new : State P) (c : Core) (h d e : ℕ) (step : Step) (b : KeptEndpoint) (errand : Errand) (reply : Reply) (results : List TransferResult) → IsAt setup old (amid h d e step b results c) h d e
      → Posts old new h d e errand → Keeps setup new (worked h (c.names h) d e step (handle_work (posts b errand c.posted reply results)) c)
  posts_amid setup old new c h d e step b errand reply results at post = keeps_as setup new _ (worked h (c.names h) d e step (handle_work (posts b errand c.posted reply results)) c)
      (record {
        names = own_name c.names h;
        claims = λ dev i. refl;
        gone = λ dev. refl;
        endpoints = λ dev ep.
            put_same (with_end c.endpoints d e b) d e (with_errand (with_end c.endpoints d e b d e)) (with_errand b) (ap with_errand (here c.endpoints d e b)) dev ep
            ∙ put_twice c.endpoints d e b (with_errand b) dev ep;
        orders = refl;
        events = sym (append-nil (amid h d e step b results c).events);
        posted = refl;
        results = refl;
      })
      (post setup (amid h d e step b results c) at)
    where
      with_errand : KeptEndpoint → KeptEndpoint
      with_errand x = record x { errand = Some (record { errand = errand; index = c.posted }) }
