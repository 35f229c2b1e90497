use Rattle.std.proofs.Common.{rules}
use Rattle.hm_schema.proofs.Lists.{all_next, all_done}
use Rattle.hm_schema_writer.specs.WrittenNodes.{IsWritableShape}
use Rattle.hm_schema_text.proofs.held.counts_are_numbers.Goals as goal

pub loop-shape-preserved : goal.loop-shape-preserved
loop-shape-preserved c = all_next IsWritableShape c.args.shapes.now _ _ (search rules) c.shape-item.is c.loop-shape.invariant c.count_is_number.ensures

pub returns : goal.returns
returns c = all_done IsWritableShape c.args.shapes.now _ (search rules) c.loop-shape.invariant
