-- A block more; and at the end nothing is left.
use Rattle.std.proofs.Common.{◌≡◌, sym, ◌∙◌}
use Rattle.std.proofs.lemmas.Bool.{eqb-true}
use Rattle.trace_recorded.proofs.FilesRead.{block_next, blocks_end}
use Rattle.trace_recorded.proofs.pcapng.blocks.Goals as goal

pub loop-rest-preserved : goal.loop-rest-preserved
loop-rest-preserved c =
    block_next _ c.loop-rest.reading _ c.loop-rest.rest.now _ c.of-front.result (sym c.is_empty.ensures ∙ c.loop-rest-test.true) c.of-front.ensures.value c.of-front.ensures.within
    c.in_ok-read.ensures c.past-rest.ensures c.loop-rest.invariant

pub returns : goal.returns
returns c = blocks_end _ c.loop-rest.reading c.loop-rest.rest.now (eqb-true _ 0 (sym c.is_empty.ensures ∙ c.loop-rest-test.false)) c.loop-rest.invariant
