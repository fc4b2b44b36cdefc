-- The message is its text, and that is what is written.
use Rattle.std.proofs.Common.{◌≡◌, ◌∙◌, ◌++◌, ap}
use Rattle.std.proofs.lemmas.Fmt.{contents_after_writes}
use Rattle.trace_io.specs.Faults.{sentence_of}
use Rattle.trace_io.proofs.fault.Fault.tell_sentence.Goals as goal

pub returns-in-Ok-clause-whole : goal.returns-in-Ok-clause-whole
returns-in-Ok-clause-whole g c =
    let text = contents_after_writes _ (λ w. w.bytes) (λ w bs v e. e) c.new-message.result (sentence_of c.args.self.now) c.write.new.self c.in-Ok.ensures.writes in
    let same : c.as_bytes.result.now ≡ sentence_of c.args.self.now =
    c.as_bytes.ensures.value ∙ c.deref.ensures.0 ∙ text ∙ ap (λ bs. bs ++ sentence_of c.args.self.now) c.new-message.ensures in
    rw same at c.write_bytes.ensures.whole

pub returns-in-Ok-clause-begun : goal.returns-in-Ok-clause-begun
returns-in-Ok-clause-begun g c =
    let text = contents_after_writes _ (λ w. w.bytes) (λ w bs v e. e) c.new-message.result (sentence_of c.args.self.now) c.write.new.self c.in-Ok.ensures.writes in
    let same : c.as_bytes.result.now ≡ sentence_of c.args.self.now =
    c.as_bytes.ensures.value ∙ c.deref.ensures.0 ∙ text ∙ ap (λ bs. bs ++ sentence_of c.args.self.now) c.new-message.ensures in
    rw same at c.write_bytes.ensures.begun
