-- The first endpoint with a transfer of the number is where it is in progress.
use Rattle.std.proofs.Common.{◌≡◌, ℕ, Some, None, [], ap, refl, sym, subst, ◌∙◌, arith, Option}
use Rattle.std.specs.Prelude.{slice_get, option_copied}
use Rattle.usb_model.specs.Setup.{endpoints_of}
use Rattle.usb_tables.specs.Holders.{device_of as device_at}
use Rattle.refine_world.specs.Calls.{device_of}
use Rattle.refine_core.specs.State.{State}
use Rattle.refine_core.specs.Steps.{InLine}
use Rattle.refine_core.proofs.Homes.{device_is, endpoints_are, endpoints_none, home_closed, home_nowhere, searched_all, searched_here, searched_on, stands_there}
use Rattle.usb_core.specs.Homes.{HomeIs}
use Rattle.usb_core.proofs.parts.Parts.home.Goals as goal

pub returns-in_err-dev : goal.returns-in_err-dev
returns-in_err-dev g c = λ setup core keeps.
    let closed : (core.names c.args.h).device ≡ None = device_is setup c.args.self.now core c.args.h None keeps (sym c.in_err-dev.was ∙ c.device_of.ensures ∙ ap (λ (s : State g.row.P.Denot). device_at s.claims c.args.h) c.self.view_is) in
    subst (λ o. HomeIs setup core c.args.h c.args.n o) (sym c.from_residual.ensures) (home_closed setup core c.args.h c.args.n (endpoints_of setup (device_of core c.args.h)) closed)

pub returns-in_err-config : goal.returns-in_err-config
returns-in_err-config g c = λ setup core keeps.
    let open_at : (core.names c.args.h).device ≡ Some c.in_ok-dev.dev = device_is setup c.args.self.now core c.args.h (Some c.in_ok-dev.dev) keeps (sym c.in_ok-dev.was ∙ c.device_of.ensures ∙ ap (λ (s : State g.row.P.Denot). device_at s.claims c.args.h) c.self.view_is) in
    let none : endpoints_of setup c.in_ok-dev.dev ≡ [] = endpoints_none setup c.args.self.now core c.in_ok-dev.dev keeps
    (sym (ap (λ (s : State g.row.P.Denot). slice_get s.claims.configs c.in_ok-dev.dev) c.self.view_is) ∙ sym c.config.ensures ∙ ap option_copied c.in_err-config.was) in
    subst (λ o. HomeIs setup core c.args.h c.args.n o) (sym c.from_residual-in_err-config.ensures) (home_nowhere setup core c.args.h c.args.n c.in_ok-dev.dev open_at none)

pub loop-info-init : goal.loop-info-init
loop-info-init g c = λ setup core keeps. refl

pub returns-in-Some : goal.returns-in-Some
returns-in-Some g c = λ setup core keeps.
    let open_at : (core.names c.args.h).device ≡ Some c.in_ok-dev.dev = device_is setup c.args.self.now core c.args.h (Some c.in_ok-dev.dev) keeps (sym c.in_ok-dev.was ∙ c.device_of.ensures ∙ ap (λ (s : State g.row.P.Denot). device_at s.claims c.args.h) c.self.view_is) in
    let all : endpoints_of setup c.in_ok-dev.dev ≡ c.endpoints-info-items.result.now = endpoints_are setup c.args.self.now core c.in_ok-dev.dev c.in_ok-config.config.now keeps
    (sym (ap (λ (s : State g.row.P.Denot). slice_get s.claims.configs c.in_ok-dev.dev) c.self.view_is) ∙ sym c.config.ensures ∙ ap option_copied c.in_ok-config.was) ∙ sym c.endpoints-info-items.ensures.value in
    searched_here setup core c.args.h c.args.n c.in_ok-dev.dev c.loop-info.info-index c.in-Some.item c.info-item.result c.endpoints-info-items.result.now open_at all
    (stands_there c.endpoints-info-items.result.now c.loop-info.info-index c.info-item.result c.loop-info-test.true c.info-item.is) (c.in-Some.ensures setup core keeps) (c.loop-info.invariant setup core keeps)

pub loop-info-preserved : goal.loop-info-preserved
loop-info-preserved g c = λ setup core keeps.
    let open_at : (core.names c.args.h).device ≡ Some c.in_ok-dev.dev = device_is setup c.args.self.now core c.args.h (Some c.in_ok-dev.dev) keeps (sym c.in_ok-dev.was ∙ c.device_of.ensures ∙ ap (λ (s : State g.row.P.Denot). device_at s.claims c.args.h) c.self.view_is) in
    searched_on setup core c.args.h c.args.n c.in_ok-dev.dev c.loop-info.info-index c.info-item.result c.endpoints-info-items.result.now open_at
    (stands_there c.endpoints-info-items.result.now c.loop-info.info-index c.info-item.result c.loop-info-test.true c.info-item.is)
    (subst (λ (o : Option ℕ). InLine setup core c.args.h c.args.n c.in_ok-dev.dev c.info-item.result.address o) c.in_default.is (c.item_of.ensures setup core keeps)) (c.loop-info.invariant setup core keeps)

pub returns : goal.returns
returns g c = λ setup core keeps.
    let open_at : (core.names c.args.h).device ≡ Some c.in_ok-dev.dev = device_is setup c.args.self.now core c.args.h (Some c.in_ok-dev.dev) keeps (sym c.in_ok-dev.was ∙ c.device_of.ensures ∙ ap (λ (s : State g.row.P.Denot). device_at s.claims c.args.h) c.self.view_is) in
    let all : endpoints_of setup c.in_ok-dev.dev ≡ c.endpoints-info-items.result.now = endpoints_are setup c.args.self.now core c.in_ok-dev.dev c.in_ok-config.config.now keeps
    (sym (ap (λ (s : State g.row.P.Denot). slice_get s.claims.configs c.in_ok-dev.dev) c.self.view_is) ∙ sym c.config.ensures ∙ ap option_copied c.in_ok-config.was) ∙ sym c.endpoints-info-items.ensures.value in
    searched_all setup core c.args.h c.args.n c.in_ok-dev.dev c.loop-info.info-index c.endpoints-info-items.result.now open_at all (omega (arith, c.loop-info-test.false)) (c.loop-info.invariant setup core keeps)
