use Rattle.std.proofs.Common.{rules, tests, ◌∙◌}
use Rattle.std.proofs.lemmas.Iterator.{YieldsList-from_slice}
use Rattle.std.proofs.lemmas.Iterator.Consumers.{count_from_yields_List, YieldsList-from_filter}
use Rattle.hm_schema_lines.specs.declared.entry.Entry.{Entry}
use Rattle.hm_schema_lines.specs.Entries.{entry_value}
use Rattle.hm_schema_lines.specs.BadLines.{begins_node}
use Rattle.hm_schema_lines.proofs.Sections.{length_of_kind}
use Rattle.hm_schema_lines.proofs.section.count_nodes.Goals as goal

pub returns : goal.returns
returns c =
    count_from_yields_List c.filter.result _ c.count.ensures.ran
    (YieldsList-from_filter _ (λ (e : Entry). begins_node (entry_value e)) (YieldsList-from_slice c.args.entries.now cc)
    c.filter.ensures.closure (λ x b q k. search (rules, tests)))
    ∙ length_of_kind begins_node c.args.entries.now
