use Rattle.hm_schema_lines.specs.NodeLines.{other}
use Rattle.hm_schema_lines.specs.Entries.{says}
use Rattle.hm_schema_lines.proofs.Building.{none_next, none_left}
use Rattle.hm_schema_lines.proofs.build.first_other.Goals as goal

pub loop-entry-preserved : goal.loop-entry-preserved
loop-entry-preserved c = λ s. none_next c.args.lines.now c.loop-entry.entry-index c.entry-item.result c.loop-entry-test.true c.entry-item.is
    (says (other s.0 s.1))
    (λ there. c.loop-entry.invariant (s.0, s.1, there))
    (c.in_default.ensures s.0 s.1)
    s.2

pub returns : goal.returns
returns c = λ s. none_left c.args.lines.now c.loop-entry.entry-index c.loop-entry-test.false (says (other s.0 s.1))
    (λ there. c.loop-entry.invariant (s.0, s.1, there)) s.2
