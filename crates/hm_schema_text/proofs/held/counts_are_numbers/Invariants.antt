use Rattle.std.proofs.Common.{All, take}
use Rattle.hm_schema_writer.specs.WrittenNodes.{IsWritableShape}
use Rattle.hm_schema_text.proofs.held.counts_are_numbers.Given as goal

abbrev pub invariant-loop-shape : goal.invariant-loop-shape
invariant-loop-shape l = All IsWritableShape (take l.shape-index l.shapes)
