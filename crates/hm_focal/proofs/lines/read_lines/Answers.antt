use Rattle.std.proofs.Common.{ap, ◌∙◌}
use Rattle.std.proofs.lemmas.List.{map-append}
use Rattle.hm_schema_lines.specs.Entries.{entry_value, entry_values}
use Rattle.hm_focal.specs.OwnLines.{own_value, own_values}
use Rattle.hm_focal.proofs.Placing.{one_read}
use Rattle.hm_focal.proofs.lines.read_lines.Goals as goal

pub loop-line-preserved : goal.loop-line-preserved
loop-line-preserved c =
    one_read _ _ _ _ _ _ _ _ _ c.loop-line.invariant _ c.in-Some.ensures.steps
    (entry_value c.in_ok-read_entry.field-0) (entry_value c.place_entry-entry.result) c.in_ok-read_entry.ensures c.place_entry-entry.ensures
    (own_value c.in_ok-read_own.field-0) (own_value c.place_own-said.result) c.in_ok-read_own.ensures c.place_own-said.ensures
    c.behind-stage.ensures
    (ap entry_values c.in_ok-push.ensures.items ∙ map-append entry_value _ _)
    (ap own_values c.in_ok-push-2.ensures.items ∙ map-append own_value _ _)
