-- An event that was taken names its endpoint, or the order of its endpoint's errand.
use Rattle.std.proofs.Common.{None, Some, subst}
use Rattle.refine_core.specs.Deliveries.{IsTaken}
use Rattle.refine_core.proofs.FirstEvents.{completion_first, transfer_first}
use Rattle.refine_core.proofs.Reports.{FindsHeld, at_held, no_held}
use Rattle.usb_core.proofs.parts.Parts.endpoint_of.Goals as goal

pub returns-in_err-at-in-TransferEvent : goal.returns-in_err-at-in-TransferEvent
returns-in_err-at-in-TransferEvent g c = λ setup w core taken shows.
    absurd (no_held setup c.args.self.now core _ _ _ _ _ _ _ (subst (λ k. IsTaken setup c.args.self.now core k) c.in-TransferEvent.is taken) c.number.ensures.value c.number-in-TransferEvent.ensures.value
    (subst (λ v. FindsHeld v c.number.result c.number-in-TransferEvent.result None) c.self.view_is c.in_err-at-in-TransferEvent.ensures.found))

pub returns-in_ok-at-in-TransferEvent : goal.returns-in_ok-at-in-TransferEvent
returns-in_ok-at-in-TransferEvent g c = λ setup w core taken shows.
    let at = at_held setup c.args.self.now core _ _ _ _ _ _ _ c.in_ok-at-in-TransferEvent.at (subst (λ k. IsTaken setup c.args.self.now core k) c.in-TransferEvent.is taken) c.number.ensures.value c.number-in-TransferEvent.ensures.value
    (subst (λ v. FindsHeld v c.number.result c.number-in-TransferEvent.result (Some c.in_ok-at-in-TransferEvent.at)) c.self.view_is c.in_ok-at-in-TransferEvent.ensures.found) in
    transfer_first setup w core shows c.in_ok-at-in-TransferEvent.at.dev c.in_ok-at-in-TransferEvent.at.ep at.found.place _ _ at.found.rest at.found.first

pub returns-in_err-at-in-CommandCompletion : goal.returns-in_err-at-in-CommandCompletion
returns-in_err-at-in-CommandCompletion g c = λ setup w core taken shows.
    absurd (c.in_err-at-in-CommandCompletion.ensures setup core c.in-CommandCompletion.code (subst (λ k. IsTaken setup c.args.self.now core k) c.in-CommandCompletion.is taken))

pub returns-in_ok-at-in-CommandCompletion : goal.returns-in_ok-at-in-CommandCompletion
returns-in_ok-at-in-CommandCompletion g c = λ setup w core taken shows.
    let is = c.in_ok-at-in-CommandCompletion.ensures setup core c.in-CommandCompletion.code (subst (λ k. IsTaken setup c.args.self.now core k) c.in-CommandCompletion.is taken) in
    completion_first setup w core shows is.keeps.fine c.in_ok-at-in-CommandCompletion.at.dev is.index _ c.in_ok-at-in-CommandCompletion.at.ep is.rest is.first is.sends
