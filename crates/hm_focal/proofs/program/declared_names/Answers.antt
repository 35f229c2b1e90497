use Rattle.std.proofs.Common.{[], ◌∷◌, ◌++◌, take, sym, ap, ◌∙◌}
use Rattle.std.specs.List.{cons_option}
use Rattle.std.proofs.lemmas.List.Elements.{filter_map-append}
use Rattle.hm_schema_lines.specs.Entries.{entry_value, entry_values}
use Rattle.hm_schema_lines.specs.Firsts.{begun_name, node_names}
use Rattle.hm_focal.proofs.LensNames.{one_more}
use Rattle.hm_focal.proofs.program.declared_names.Goals as goal

pub loop-entry-preserved : goal.loop-entry-preserved
loop-entry-preserved c =
    c.in_ok-push_begun.ensures
    ∙ ap (λ z. z ++ cons_option (begun_name (entry_value c.entry-item.result)) []) c.loop-entry.invariant
    ∙ sym (ap node_names (one_more entry_value c.args.entries.now c.loop-entry.entry-index c.entry-item.result c.loop-entry-test.true c.entry-item.is)
    ∙ filter_map-append begun_name (entry_values (take c.loop-entry.entry-index c.args.entries.now)) (entry_value c.entry-item.result ∷ []))
