-- A core that is fed shows the world where more is left.
use Rattle.std.proofs.Common.{◌≡◌, ℕ, true, [], ◌∷◌, Result, Ok, Err, OnOk, OnErr, sym, subst}
use Rattle.usb_model.specs.declared.response.Response.{Response}
use Rattle.usb_model.specs.Setup.{endpoint_id}
use Rattle.refine_world.specs.Fed.{fed, fed_at}
use Rattle.refine_world.specs.Living.{world_with}
use Rattle.refine_core.specs.Feeds.{FeedsWorld, may_be_fed_at, state_fed}
use Rattle.refine_core.specs.State.{IsState, State}
use Rattle.refine_core.proofs.Feeds.{feeds}

pub fed_world : {P X Y : Type 0} (old new : State P) (dev ep : ℕ) (a : Response) (r : Result X Y) → OnOk r (new ≡ state_fed dev ep a old) → OnOk r (may_be_fed_at dev ep a old ≡ true) → OnOk r (FeedsWorld old dev ep a new)
fed_world old new dev ep a (Ok x) is may = subst (FeedsWorld old dev ep a) (sym is) (feeds old dev ep a may)
fed_world old new dev ep a (Err y) is may = tt

pub fed_state : {P X Y : Type 0} (old new : State P) (dev ep : ℕ) (a : Response) (r : Result X Y) → IsState old → OnOk r (new ≡ state_fed dev ep a old) → OnOk r (may_be_fed_at dev ep a old ≡ true)
    → OnErr r (new ≡ old) → IsState new
fed_state {Y = Y} old new dev ep a (Ok x) shown is may stays =
    (fed shown.0 dev (endpoint_id ep) (a ∷ []), world_with (fed_at shown.0 dev (endpoint_id ep) (a ∷ [])) shown.1, fed_world {Y = Y} old new dev ep a (Ok x) is may shown.0 shown.1 shown.2)
fed_state old new dev ep a (Err y) shown is may stays = subst IsState (sym stays) shown
