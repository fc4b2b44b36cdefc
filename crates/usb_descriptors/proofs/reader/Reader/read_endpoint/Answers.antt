-- An endpoint is kept where the nearest earlier interface is used and its number isn't 0, and else passed over.
use Rattle.std.proofs.Common.{cond, not, [], ◌∷◌, ◌++◌, Some, None, Ok, Err, Result, OnOk, MatchResult, refl, sym, ap, ap₂, ◌∙◌}
use Rattle.std.proofs.lemmas.Result.{MatchResult-weaker}
use Rattle.usb_descriptors.specs.declared.config.Config.{Config}
use Rattle.usb_model.specs.declared.setup.EndpointInfo.{EndpointInfo}
use Rattle.usb_descriptors.specs.Table.{faults_beside}
use Rattle.usb_descriptors.specs.Reader.{nearest_in}
use Rattle.usb_descriptors.proofs.Steps.{step_passed_over, step_kept, info_in, reads_on}
use Rattle.usb_descriptors.proofs.reader.Reader.read_endpoint.Goals as goal

-- what holds at `Ok`, beside what holds by cases
both : {T E : Type 0} (r : Result T E) (A : Type 0) (P : T → Type 0) (Q : E → Type 0) → OnOk r A → MatchResult r P Q
    → MatchResult r (λ x. A × P x) Q
both (Ok x) A P Q a p = (a, p)
both (Err e) A P Q a q = q

pub returns-in-Unused : goal.returns-in-Unused
returns-in-Unused c = λ p at is before has.
    let there = sym has.section ∙ ap nearest_in c.in-Unused.is in
    let step = step_passed_over before p c.args.endpoint None is there refl in
    reads_on c.args.self.now step refl has.config (has.section ∙ there)

pub returns-in-Used : goal.returns-in-Used
returns-in-Used c = λ p at is before has.
    let there = sym has.section ∙ ap nearest_in c.in-Used.is in
    let zero = sym c.has_number_0.ensures ∙ c.if-has_number_0.true in
    let none = ap (λ b. cond (not b) (info_in c.in-Used.field-0 c.args.endpoint ∷ []) []) zero in
    let step = step_passed_over before p c.args.endpoint (Some c.in-Used.field-0) is there none in
    reads_on c.args.self.now step refl has.config (has.section ∙ there)

pub returns-in-Used-2 : goal.returns-in-Used-2
returns-in-Used-2 c = λ p at is before has.
    let there = sym has.section ∙ ap nearest_in c.in-Used-2.is in
    let numbered = sym c.has_number_0.ensures ∙ c.if-has_number_0.false in
    let step = step_kept before p c.args.endpoint c.in-Used-2.interface is there numbered in
    let same = ap₂ (λ (config : Config) (x : EndpointInfo). faults_beside config.endpoints x) (sym has.config) (sym c.info.ensures) in
    let with_info = λ (config : Config) (x : EndpointInfo). record config { endpoints = config.endpoints ++ x ∷ [] } in
    let new = record c.args.self.now { config = c.add_endpoint.new.self } in
    MatchResult-weaker c.add_endpoint.result (both c.add_endpoint.result _ _ _ c.add_endpoint.ensures.ok c.add_endpoint.ensures.fault)
    (λ _ (added, none). reads_on new step (same ∙ none) (added ∙ ap₂ with_info has.config c.info.ensures) (has.section ∙ there))
    (λ _ fault. step.faults ∙ same ∙ fault)
