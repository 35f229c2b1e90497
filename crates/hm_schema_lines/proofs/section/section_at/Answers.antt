use Rattle.std.proofs.Common.{sym, subst, ◌∙◌}
use Rattle.std.specs.Prelude.{IfOk}
use Rattle.hm_schema_lines.specs.Entries.{entry_value, entry_values}
use Rattle.hm_schema_lines.specs.Sections.{IsSection}
use Rattle.hm_schema_lines.proofs.Made.{entry_at}
use Rattle.hm_schema_lines.proofs.NodesOf.{behind_is}
use Rattle.hm_schema_lines.proofs.Sections.{around_begun, around_next}
use Rattle.hm_schema_lines.proofs.section.section_at.Goals as goal

pub returns-then-begins_node : goal.returns-then-begins_node
returns-then-begins_node c =
    let at = entry_at c.args.entries.now c.args.place c.index-entries-place.result c.requires.place c.index-entries-place.is in
    subst (λ z. IfOk c.read_section.result (IsSection z))
    (behind_is c.args.entries.now c.args.place
    ∙ sym (around_begun (entry_values c.args.entries.now) c.args.place (entry_value c.index-entries-place.result) at
    (sym c.begins_node.ensures ∙ c.if-begins_node.true)))
    c.read_section.ensures

pub returns : goal.returns
returns c =
    let at = entry_at c.args.entries.now c.args.place c.index-entries-place.result c.requires.place c.index-entries-place.is in
    subst (λ z. IsSection z c.args.before)
    (sym (around_next (entry_values c.args.entries.now) c.args.place (entry_value c.index-entries-place.result) at
    (sym c.begins_node.ensures ∙ c.if-begins_node.false)))
    c.requires.before
