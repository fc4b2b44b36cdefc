-- The status stays as it is, and so does an input that no task asks for.
use Rattle.std.proofs.Common.{◌≡◌, ◌∙◌, ◌==◌, ℕ, Bool, List, true, false, ap, refl, sym, subst}
use Rattle.std.specs.Prelude.{◌&&◌, if◌then◌else◌}
use Rattle.usb_scripttext.specs.Words.{words_of}
use Rattle.trace_command.specs.Layer.{TracesInput}
use Rattle.trace_options.specs.Status.{lenient_status}
use Rattle.trace_command.proofs.program.run_input.Goals as goal

stays : (status : ℕ) → lenient_status status false ≡ status
stays status = by_test (status == 3)
  where
    by_test : (b : Bool) → (if b && false then 0 else status) ≡ status
    by_test true = refl
    by_test false = refl

pub returns-clause-traced : goal.returns-clause-traced
returns-clause-traced g c = λ strict.
    let same : c.status_of.result ≡ c.run_words-status.result = c.status_of.ensures ∙ (ap (lenient_status c.run_words-status.result) strict ∙ stays c.run_words-status.result) in
    subst
    (TracesInput (words_of c.args.line.now.words.items) (g.R.Read.remaining c.args.input.now) (g.W.Write.contents c.args.out.now) (g.W.Write.contents c.run_words-status.new.out) (g.E.Write.contents c.args.err.now) (g.E.Write.contents c.run_words-status.new.err))
    (sym same) (rw c.as_slice.ensures.value at c.run_words-status.ensures.traced)

pub returns-clause-unread : goal.returns-clause-unread
returns-clause-unread g c = rw c.as_slice.ensures.value at c.run_words-status.ensures.unread
