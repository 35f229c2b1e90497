use Rattle.std.proofs.Common.{ap}
use Rattle.hm_schema_lines.specs.Entries.{entry_values}
use Rattle.hm_focal.specs.OwnLines.{own_values}
use Rattle.hm_focal.proofs.Taking.{line_named, one_taken}
use Rattle.hm_focal.proofs.program.build_parts.Goals as goal

pub take_line-requires-clause-nodes : goal.take_line-requires-clause-nodes
take_line-requires-clause-nodes c =
    line_named (entry_values c.args.entries.now) (own_values c.args.own.items) c.requires.sound _ _ _ (ap own_values c.in-Some.ensures.items) _
    c.loop-line.invariant

pub loop-line-preserved : goal.loop-line-preserved
loop-line-preserved c =
    one_taken (entry_values c.args.entries.now) (own_values c.args.own.items) c.requires.sound _ _ _ (ap own_values c.in-Some.ensures.items) _
    c.loop-line.invariant _ c.in_ok-take_line.ensures
