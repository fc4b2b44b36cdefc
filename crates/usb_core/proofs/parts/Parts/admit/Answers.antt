-- Each refusal is that of the core's first test that holds, and where none holds the transfer can join.
use Rattle.std.proofs.Common.{◌≡◌, ◌-◌, ◌≤◌, ◌<◌, ap, sym, subst, ◌∙◌, arith, length, Some, Result, Ok, Err}
use Rattle.std.specs.Prelude.{slice_get, option_copied}
use Rattle.std.proofs.lemmas.Result.{err_from_is_err_and}
use Rattle.usb_model.specs.declared.refused.Refused.{Refused}
use Rattle.usb_model.specs.Limits.{last_number}
use Rattle.usb_model.specs.Setup.{endpoint_id}
use Rattle.usb_tables.specs.Holders.{device_of as device_at}
use Rattle.usb_tables.specs.HandleStates.{number_of, results_at}
use Rattle.usb_tables.specs.TransfersInFlight.{line_at}
use Rattle.usb_tables.specs.Refusal.{checked}
use Rattle.refine_core.specs.State.{State}
use Rattle.refine_core.specs.Works.{IsHolder}
use Rattle.refine_core.proofs.Joins.{IsHere, IsMine, is_mine, join_closed, join_full, join_gone, join_last, join_nowhere, join_others, join_refused, joins_there}
use Rattle.usb_core.specs.Submissions.{IsAdmission}
use Rattle.usb_core.specs.declared.submission.Admission.{Admission}
use Rattle.usb_core.proofs.parts.Parts.admit.Goals as goal

pub returns-in_default : goal.returns-in_default
returns-in_default g c = λ setup w core keeps shows.
    join_closed setup c.args.self.now core c.args.h c.args.request.now keeps (sym c.in_default.is ∙ c.device_of.ensures ∙ ap (λ (s : State g.row.P.Denot). device_at s.claims c.args.h) c.self.view_is)

pub returns-then-not-is_its : goal.returns-then-not-is_its
returns-then-not-is_its g c = λ setup w core keeps shows.
    let opened : Some c.in-Some.dev ≡ device_at c.args.self.now.claims c.args.h = sym c.in-Some.is ∙ c.device_of.ensures ∙ ap (λ (s : State g.row.P.Denot). device_at s.claims c.args.h) c.self.view_is in
    let holds : IsHolder c.args.self.now c.in-Some.dev c.args.request.now.ep c.holder.result = subst (λ (s : State g.row.P.Denot). IsHolder s c.in-Some.dev c.args.request.now.ep c.holder.result) c.self.view_is c.holder.ensures in
    join_others setup c.args.self.now core c.args.h c.in-Some.dev c.args.request.now c.holder.result keeps opened holds (sym c.is_its.ensures ∙ c.if-not-is_its.true)

pub returns-then-is_gone : goal.returns-then-is_gone
returns-then-is_gone g c = λ setup w core keeps shows.
    let opened : Some c.in-Some.dev ≡ device_at c.args.self.now.claims c.args.h = sym c.in-Some.is ∙ c.device_of.ensures ∙ ap (λ (s : State g.row.P.Denot). device_at s.claims c.args.h) c.self.view_is in
    let holds : IsHolder c.args.self.now c.in-Some.dev c.args.request.now.ep c.holder.result = subst (λ (s : State g.row.P.Denot). IsHolder s c.in-Some.dev c.args.request.now.ep c.holder.result) c.self.view_is c.holder.ensures in
    let mine : IsMine setup c.args.self.now core c.args.h c.in-Some.dev c.args.request.now.ep = is_mine setup c.args.self.now core c.args.h c.in-Some.dev c.args.request.now.ep c.holder.result keeps opened holds (sym c.is_its.ensures ∙ c.if-not-is_its.false) in
    join_gone setup c.args.self.now core c.args.h c.in-Some.dev c.args.request.now mine (sym c.is_gone.ensures ∙ c.if-is_gone.true)

pub unreachable-requires : goal.unreachable-requires
unreachable-requires g c =
    let setup = c.requires.0 in
    let core = c.requires.2.0 in
    let keeps = c.requires.2.1 in
    let opened : Some c.in-Some.dev ≡ device_at c.args.self.now.claims c.args.h = sym c.in-Some.is ∙ c.device_of.ensures ∙ ap (λ (s : State g.row.P.Denot). device_at s.claims c.args.h) c.self.view_is in
    let holds : IsHolder c.args.self.now c.in-Some.dev c.args.request.now.ep c.holder.result = subst (λ (s : State g.row.P.Denot). IsHolder s c.in-Some.dev c.args.request.now.ep c.holder.result) c.self.view_is c.holder.ensures in
    let mine : IsMine setup c.args.self.now core c.args.h c.in-Some.dev c.args.request.now.ep = is_mine setup c.args.self.now core c.args.h c.in-Some.dev c.args.request.now.ep c.holder.result keeps opened holds (sym c.is_its.ensures ∙ c.if-not-is_its.false) in
    join_nowhere setup c.args.self.now core c.args.h c.in-Some.dev c.args.request.now.ep mine (ap (λ (s : State g.row.P.Denot). slice_get s.claims.configs c.in-Some.dev) (sym c.self.view_is) ∙ sym c.config.ensures ∙ ap option_copied c.in_default-config.is)

pub returns-in_err-tds : goal.returns-in_err-tds
returns-in_err-tds g c = λ setup w core keeps shows.
    let opened : Some c.in-Some.dev ≡ device_at c.args.self.now.claims c.args.h = sym c.in-Some.is ∙ c.device_of.ensures ∙ ap (λ (s : State g.row.P.Denot). device_at s.claims c.args.h) c.self.view_is in
    let holds : IsHolder c.args.self.now c.in-Some.dev c.args.request.now.ep c.holder.result = subst (λ (s : State g.row.P.Denot). IsHolder s c.in-Some.dev c.args.request.now.ep c.holder.result) c.self.view_is c.holder.ensures in
    let mine : IsMine setup c.args.self.now core c.args.h c.in-Some.dev c.args.request.now.ep = is_mine setup c.args.self.now core c.args.h c.in-Some.dev c.args.request.now.ep c.holder.result keeps opened holds (sym c.is_its.ensures ∙ c.if-not-is_its.false) in
    let is : IsHere setup c.args.self.now core c.args.h c.in-Some.dev c.args.request.now.ep c.in-Some-config.config.now = record { mine = mine; here = sym c.is_gone.ensures ∙ c.if-is_gone.false; known = (ap (λ (s : State g.row.P.Denot). slice_get s.claims.configs c.in-Some.dev) (sym c.self.view_is) ∙ sym c.config.ensures ∙ ap option_copied c.in-Some-config.is) } in
    let error = err_from_is_err_and c.from_residual.result c.from_residual.ensures.1 in
    subst (λ (r : Result Admission Refused). IsAdmission setup c.args.self.now core c.args.h c.args.request.now r) (sym (error.1 ∙ ap (λ (e : Refused). Err e) error.2))
    (join_refused setup c.args.self.now core c.args.h c.in-Some.dev c.args.request.now c.in-Some-config.config.now c.in_err-tds.field-0.0 is (sym c.in_err-tds.was ∙ c.check.ensures))

pub returns-then-free-len : goal.returns-then-free-len
returns-then-free-len g c = λ setup w core keeps shows.
    let opened : Some c.in-Some.dev ≡ device_at c.args.self.now.claims c.args.h = sym c.in-Some.is ∙ c.device_of.ensures ∙ ap (λ (s : State g.row.P.Denot). device_at s.claims c.args.h) c.self.view_is in
    let holds : IsHolder c.args.self.now c.in-Some.dev c.args.request.now.ep c.holder.result = subst (λ (s : State g.row.P.Denot). IsHolder s c.in-Some.dev c.args.request.now.ep c.holder.result) c.self.view_is c.holder.ensures in
    let mine : IsMine setup c.args.self.now core c.args.h c.in-Some.dev c.args.request.now.ep = is_mine setup c.args.self.now core c.args.h c.in-Some.dev c.args.request.now.ep c.holder.result keeps opened holds (sym c.is_its.ensures ∙ c.if-not-is_its.false) in
    let is : IsHere setup c.args.self.now core c.args.h c.in-Some.dev c.args.request.now.ep c.in-Some-config.config.now = record { mine = mine; here = sym c.is_gone.ensures ∙ c.if-is_gone.false; known = (ap (λ (s : State g.row.P.Denot). slice_get s.claims.configs c.in-Some.dev) (sym c.self.view_is) ∙ sym c.config.ensures ∙ ap option_copied c.in-Some-config.is) } in
    let passed : Ok c.in_ok-tds.tds ≡ checked c.in-Some-config.config.now c.args.request.now = sym c.in_ok-tds.was ∙ c.check.ensures in
    join_full setup c.args.self.now core c.args.h c.in-Some.dev c.args.request.now c.in-Some-config.config.now c.in_ok-tds.tds is passed
    (subst (λ (s : State g.row.P.Denot). 16 - results_at s.callers c.args.h (endpoint_id c.args.request.now.ep) ≤ length (line_at s.flights c.in-Some.dev c.args.request.now.ep)) c.self.view_is
    (omega (arith, c.if-free-len.true, c.saturating_sub-free.ensures, c.results.ensures, c.len.ensures.value)))

pub returns-then-next_number : goal.returns-then-next_number
returns-then-next_number g c = λ setup w core keeps shows.
    let opened : Some c.in-Some.dev ≡ device_at c.args.self.now.claims c.args.h = sym c.in-Some.is ∙ c.device_of.ensures ∙ ap (λ (s : State g.row.P.Denot). device_at s.claims c.args.h) c.self.view_is in
    let holds : IsHolder c.args.self.now c.in-Some.dev c.args.request.now.ep c.holder.result = subst (λ (s : State g.row.P.Denot). IsHolder s c.in-Some.dev c.args.request.now.ep c.holder.result) c.self.view_is c.holder.ensures in
    let mine : IsMine setup c.args.self.now core c.args.h c.in-Some.dev c.args.request.now.ep = is_mine setup c.args.self.now core c.args.h c.in-Some.dev c.args.request.now.ep c.holder.result keeps opened holds (sym c.is_its.ensures ∙ c.if-not-is_its.false) in
    let is : IsHere setup c.args.self.now core c.args.h c.in-Some.dev c.args.request.now.ep c.in-Some-config.config.now = record { mine = mine; here = sym c.is_gone.ensures ∙ c.if-is_gone.false; known = (ap (λ (s : State g.row.P.Denot). slice_get s.claims.configs c.in-Some.dev) (sym c.self.view_is) ∙ sym c.config.ensures ∙ ap option_copied c.in-Some-config.is) } in
    let passed : Ok c.in_ok-tds.tds ≡ checked c.in-Some-config.config.now c.args.request.now = sym c.in_ok-tds.was ∙ c.check.ensures in
    join_last setup c.args.self.now core c.args.h c.in-Some.dev c.args.request.now c.in-Some-config.config.now c.in_ok-tds.tds is passed (subst (λ (s : State g.row.P.Denot). number_of s.callers c.args.h ≡ last_number) c.self.view_is (omega (arith, c.next_number.ensures, c.if-next_number.true)))

pub returns : goal.returns
returns g c = λ setup w core keeps shows.
    let opened : Some c.in-Some.dev ≡ device_at c.args.self.now.claims c.args.h = sym c.in-Some.is ∙ c.device_of.ensures ∙ ap (λ (s : State g.row.P.Denot). device_at s.claims c.args.h) c.self.view_is in
    let holds : IsHolder c.args.self.now c.in-Some.dev c.args.request.now.ep c.holder.result = subst (λ (s : State g.row.P.Denot). IsHolder s c.in-Some.dev c.args.request.now.ep c.holder.result) c.self.view_is c.holder.ensures in
    let mine : IsMine setup c.args.self.now core c.args.h c.in-Some.dev c.args.request.now.ep = is_mine setup c.args.self.now core c.args.h c.in-Some.dev c.args.request.now.ep c.holder.result keeps opened holds (sym c.is_its.ensures ∙ c.if-not-is_its.false) in
    let is : IsHere setup c.args.self.now core c.args.h c.in-Some.dev c.args.request.now.ep c.in-Some-config.config.now = record { mine = mine; here = sym c.is_gone.ensures ∙ c.if-is_gone.false; known = (ap (λ (s : State g.row.P.Denot). slice_get s.claims.configs c.in-Some.dev) (sym c.self.view_is) ∙ sym c.config.ensures ∙ ap option_copied c.in-Some-config.is) } in
    let passed : Ok c.in_ok-tds.tds ≡ checked c.in-Some-config.config.now c.args.request.now = sym c.in_ok-tds.was ∙ c.check.ensures in
    joins_there setup w c.args.self.now core c.args.h c.in-Some.dev c.args.request.now c.in-Some-config.config.now c.in_ok-tds.tds shows is passed
    (subst (λ (s : State g.row.P.Denot). length (line_at s.flights c.in-Some.dev c.args.request.now.ep) < 16 - results_at s.callers c.args.h (endpoint_id c.args.request.now.ep)) c.self.view_is
    (omega (arith, c.if-free-len.false, c.saturating_sub-free.ensures, c.results.ensures, c.len.ensures.value)))
    (subst (λ (s : State g.row.P.Denot). number_of s.callers c.args.h < last_number) c.self.view_is (omega (arith, c.next_number.ensures, c.if-next_number.false)))
