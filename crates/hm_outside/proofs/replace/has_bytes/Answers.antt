use Rattle.std.proofs.Common.{take, Some, None}
use Rattle.std.proofs.lemmas.Bool.Decides.{Decides-eqb}
use Rattle.std.proofs.lemmas.Slice.Eq.{strip_prefix_is}
use Rattle.std.proofs.KnownBytes.{Consumes-kept}
use Rattle.hm_outside.proofs.Compared.{piece_is, piece_differs}
use Rattle.hm_outside.proofs.replace.has_bytes.Goals.{in-Ok+in-Some, in-Err+else-ne}
use Rattle.hm_outside.proofs.replace.has_bytes.Goals as goal

pub loop-preserved : goal.loop-preserved
loop-preserved g c = elim c.match-read.branch [
  | in-Ok+in-Some w ↦ rw w.rest-is (piece_is _ _ _ _ _ _ _ c.loop.invariant.1 w.in-Ok.ensures.bytes.0 c.loop.invariant.2 _
      (strip_prefix_is Decides-eqb c.loop.rest.now (take w.in-Ok.count c.read.new.buf) (Some w.in-Some.behind) w.in-Some.ensures.cases))
  | in-Err+else-ne w ↦ rw w.rest-is (c.loop.invariant.0, Consumes-kept _ _ _ _ c.loop.invariant.1 w.in-Err.ensures.bytes, c.loop.invariant.2)
]

pub returns-in-None : goal.returns-in-None
returns-in-None g c = record {
  told = piece_differs _ _ _ _ _ _ _ c.loop.invariant.1 c.in-Ok.ensures.bytes.0 c.loop.invariant.2
      (strip_prefix_is Decides-eqb c.loop.rest.now (take c.in-Ok.count c.read.new.buf) None c.in-None.ensures.cases);
}
