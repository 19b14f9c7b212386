use Rattle.std.proofs.KnownBytes.{Appends-kept}
use Rattle.pe_io.proofs.PartialWrites.{Appends-more, done_more}
use Rattle.pe_io.proofs.whole.write_whole.Goals as goal
use Rattle.pe_io.proofs.whole.write_whole.Goals.{in-Ok, in-Err+in_ok-again-in-Err}

pub loop-preserved : goal.loop-preserved
loop-preserved g c =
    let invariant = c.loop.invariant in
    elim c.match-write.branch [
      | in-Ok w ↦ rw w.done-is (done_more _ _ c.args.bytes.now invariant.0 w.in-Ok.ensures.bound, Appends-more _ _ _ _ _ c.args.bytes.now invariant.1 w.in-Ok.ensures.bytes)
      | in-Err+in_ok-again-in-Err w ↦ rw w.done-is (invariant.0, Appends-kept _ _ _ _ invariant.1 w.in-Err.ensures.bytes)
    ]
