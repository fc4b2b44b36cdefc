-- One write further.
use Rattle.std.proofs.Common.{◌++◌, ◌∙◌, List, ℕ, ap, sym, Bor}
use Rattle.std.proofs.lemmas.List.{take_rest}
use Rattle.trace_io.proofs.Beginnings.{written_further, stays}
use Rattle.trace_io.proofs.write.write_bytes.Goals as goal
use Rattle.trace_io.proofs.write.write_bytes.Goals.{in-Ok, in-Err}

pub loop-preserved : goal.loop-preserved
loop-preserved g c =
    let so_far = c.loop.invariant in
    elim c.match-write.branch [
      | in-Ok w ↦ written_further c.args.bytes.now c.loop.rest.now c.match-write.rest.now w.in-Ok.count
          (g.W.Write.contents c.args.out.now) (g.W.Write.contents c.loop.out) (g.W.Write.contents c.write.new.self)
          so_far (ap (λ (r : Bor (List ℕ)). r.now) w.rest-is ∙ take_rest c.loop.rest.now w.in-Ok.count) w.in-Ok.ensures.bytes
      | in-Err w ↦ (
        so_far.0,
        so_far.1 ∙ ap (λ (r : Bor (List ℕ)). so_far.0 ++ r.now) (sym w.rest-is),
        stays (g.W.Write.contents c.args.out.now) (g.W.Write.contents c.loop.out) (g.W.Write.contents c.write.new.self) so_far.0 so_far.2 w.in-Err.ensures.bytes,
      )
    ]
