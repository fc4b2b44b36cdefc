use Rattle.std.proofs.Common.{◌≡◌, [], ◌∷◌, true, false, suc, ap, sym, subst, ◌∙◌, arith}
use Rattle.std.specs.Prelude.{slice_get, option_copied}
use Rattle.usb_model.specs.Setup.{endpoints_of}
use Rattle.std.specs.List.{find}
use Rattle.refine_world.specs.Shows.{Completes}
use Rattle.refine_world.specs.Steps.{has_sent}
use Rattle.refine_core.specs.State.{State}
use Rattle.refine_core.specs.Deliveries.{SentIs}
use Rattle.refine_core.proofs.Homes.{endpoints_are, endpoints_none, stands_there}
use Rattle.refine_core.proofs.Senders.{done, done_at, looked_all, looked_here, looked_on, sender_there, settles_of}
use Rattle.usb_core.proofs.parts.Parts.sender.Goals as goal

pub returns-in_err-dev : goal.returns-in_err-dev
returns-in_err-dev g c = λ setup core code taken.
    let found = done setup c.args.self.now core c.args.pointer code c.args.slot taken in
    let no : false ≡ true = c.in_err-dev.ensures.known.1 (omega (arith, found.2.slot_is, found.2.small, c.number.ensures.value)) in
    absurd cc

pub returns-in_err-config : goal.returns-in_err-config
returns-in_err-config g c = λ setup core code taken.
    let found = done setup c.args.self.now core c.args.pointer code c.args.slot taken in
    let dev : found.0 ≡ c.in_ok-dev.dev = omega (arith, found.2.slot_is, c.number.ensures.value, c.in_ok-dev.ensures.value) in
    let slot_is : c.args.slot ≡ suc c.in_ok-dev.dev = found.2.slot_is ∙ ap suc dev in
    let first : core.events ≡ Completes c.in_ok-dev.dev found.1 code ∷ found.2.rest = found.2.first ∙ ap (λ m. Completes m found.1 code ∷ found.2.rest) dev in
    let is = done_at setup c.args.self.now core c.args.pointer code c.args.slot c.in_ok-dev.dev found.1 found.2.rest taken first in
    let none : endpoints_of setup c.in_ok-dev.dev ≡ [] = endpoints_none setup c.args.self.now _ c.in_ok-dev.dev is.keeps
    (sym (ap (λ (s : State g.row.P.Denot). slice_get s.claims.configs c.in_ok-dev.dev) c.self.view_is) ∙ sym c.config.ensures ∙ ap option_copied c.in_err-config.was) in
    absurd (sender_there setup c.args.self.now core c.args.pointer code c.args.slot c.in_ok-dev.dev found.1 is (ap (find (has_sent setup core c.in_ok-dev.dev found.1)) none))

pub returns-in-Some : goal.returns-in-Some
returns-in-Some g c = λ setup core code taken.
    let found = done setup c.args.self.now core c.args.pointer code c.args.slot taken in
    let dev : found.0 ≡ c.in_ok-dev.dev = omega (arith, found.2.slot_is, c.number.ensures.value, c.in_ok-dev.ensures.value) in
    let slot_is : c.args.slot ≡ suc c.in_ok-dev.dev = found.2.slot_is ∙ ap suc dev in
    let first : core.events ≡ Completes c.in_ok-dev.dev found.1 code ∷ found.2.rest = found.2.first ∙ ap (λ m. Completes m found.1 code ∷ found.2.rest) dev in
    let is = done_at setup c.args.self.now core c.args.pointer code c.args.slot c.in_ok-dev.dev found.1 found.2.rest taken first in
    let all : endpoints_of setup c.in_ok-dev.dev ≡ c.endpoints-info-items.result.now = endpoints_are setup c.args.self.now _ c.in_ok-dev.dev c.in_ok-config.config.now is.keeps
    (sym (ap (λ (s : State g.row.P.Denot). slice_get s.claims.configs c.in_ok-dev.dev) c.self.view_is) ∙ sym c.config.ensures ∙ ap option_copied c.in_ok-config.was) ∙ sym c.endpoints-info-items.ensures.value in
    let sent = c.in-Some.ensures setup core code c.args.slot taken slot_is found.1 found.2.rest first in
    settles_of setup c.args.self.now core c.args.pointer code c.args.slot c.in_ok-dev.dev found.1 _ _ c.info-item.result is
    (ap (find (has_sent setup core c.in_ok-dev.dev found.1)) all
    ∙ looked_here setup core c.in_ok-dev.dev found.1 c.endpoints-info-items.result.now c.loop-info.info-index c.info-item.result
    (stands_there c.endpoints-info-items.result.now c.loop-info.info-index c.info-item.result c.loop-info-test.true c.info-item.is) sent.0
    (c.loop-info.invariant setup core code found.1 found.2.rest taken slot_is first))
    sent

pub loop-info-preserved : goal.loop-info-preserved
loop-info-preserved g c = λ setup core code index rest taken slot_is first.
    looked_on setup core c.in_ok-dev.dev index c.endpoints-info-items.result.now c.loop-info.info-index c.info-item.result
    (stands_there c.endpoints-info-items.result.now c.loop-info.info-index c.info-item.result c.loop-info-test.true c.info-item.is)
    (subst (λ o. SentIs setup core c.in_ok-dev.dev index c.info-item.result.address o) c.in_default.is (c.errand_at.ensures setup core code c.args.slot taken slot_is index rest first))
    (c.loop-info.invariant setup core code index rest taken slot_is first)

pub returns : goal.returns
returns g c = λ setup core code taken.
    let found = done setup c.args.self.now core c.args.pointer code c.args.slot taken in
    let dev : found.0 ≡ c.in_ok-dev.dev = omega (arith, found.2.slot_is, c.number.ensures.value, c.in_ok-dev.ensures.value) in
    let slot_is : c.args.slot ≡ suc c.in_ok-dev.dev = found.2.slot_is ∙ ap suc dev in
    let first : core.events ≡ Completes c.in_ok-dev.dev found.1 code ∷ found.2.rest = found.2.first ∙ ap (λ m. Completes m found.1 code ∷ found.2.rest) dev in
    let is = done_at setup c.args.self.now core c.args.pointer code c.args.slot c.in_ok-dev.dev found.1 found.2.rest taken first in
    let all : endpoints_of setup c.in_ok-dev.dev ≡ c.endpoints-info-items.result.now = endpoints_are setup c.args.self.now _ c.in_ok-dev.dev c.in_ok-config.config.now is.keeps
    (sym (ap (λ (s : State g.row.P.Denot). slice_get s.claims.configs c.in_ok-dev.dev) c.self.view_is) ∙ sym c.config.ensures ∙ ap option_copied c.in_ok-config.was) ∙ sym c.endpoints-info-items.ensures.value in
    sender_there setup c.args.self.now core c.args.pointer code c.args.slot c.in_ok-dev.dev found.1 is
    (ap (find (has_sent setup core c.in_ok-dev.dev found.1)) all
    ∙ looked_all setup core c.in_ok-dev.dev found.1 c.endpoints-info-items.result.now c.loop-info.info-index c.loop-info-test.false
    (c.loop-info.invariant setup core code found.1 found.2.rest taken slot_is first))
