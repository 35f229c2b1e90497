use Rattle.std.proofs.Common.{count_by, rules, tests, ap, ◌∙◌}
use Rattle.std.proofs.lemmas.Iterator.{YieldsList-from_slice}
use Rattle.std.proofs.lemmas.Iterator.Consumers.{count_from_yields_List, YieldsList-from_filter}
use Rattle.hm_schema_lines.specs.declared.entry.Entry.{Entry}
use Rattle.hm_schema_lines.specs.Entries.{entry_value}
use Rattle.hm_schema_lines.specs.BadLines.{is_shape}
use Rattle.hm_schema_lines.specs.Sections.{speaks_of_others}
use Rattle.hm_schema_lines.proofs.Sections.{length_of_kind}
use Rattle.hm_schema_lines.proofs.section.read_section.Goals as goal

pub returns : goal.returns
returns c = record {
  listed = search rules;
  others =
      count_from_yields_List c.filter.result _ c.count.ensures.ran
      (YieldsList-from_filter _ (λ (e : Entry). speaks_of_others (entry_value e)) (YieldsList-from_slice c.lines_of_node-lines.result.now cc)
      c.filter.ensures.closure (λ x b q k. search (rules, tests)))
      ∙ length_of_kind speaks_of_others c.lines_of_node-lines.result.now
      ∙ ap (count_by speaks_of_others) c.lines_of_node-lines.ensures;
  shapes =
      count_from_yields_List c.filter-2.result _ c.count-2.ensures.ran
      (YieldsList-from_filter _ (λ (e : Entry). is_shape (entry_value e)) (YieldsList-from_slice c.lines_of_node-lines.result.now cc)
      c.filter-2.ensures.closure (λ x b q k. search (rules, tests)))
      ∙ length_of_kind is_shape c.lines_of_node-lines.result.now
      ∙ ap (count_by is_shape) c.lines_of_node-lines.ensures;
}
