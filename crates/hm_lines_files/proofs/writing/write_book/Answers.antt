use Rattle.std.proofs.Common.{List, ap, subst, ◌∙◌, arith}
use Rattle.hm_schema.specs.Values.{options_value}
use Rattle.hm_lines_files.specs.Components.{Bytes}
use Rattle.hm_lines_files.specs.Lent.{texts, layout_of, template_of}
use Rattle.hm_lines_files.specs.Stops.{AreOf}
use Rattle.hm_format.proofs.Limits.{not_over}
use Rattle.hm_lines_files.proofs.Opened.{shown_is, lines_are, written_said}
use Rattle.hm_lines_files.proofs.Writings.{has_lists, lists_rise, answer_written}
use Rattle.hm_lines_files.proofs.writing.write_book.Goals as goal

pub write_layout-requires-clause-lists : goal.write_layout-requires-clause-lists
write_layout-requires-clause-lists g c =
    has_lists (g.G.Grammar.form c.args.grammar.now) c.tag-tag.ensures.lawful (options_value c.args.options.now) c.args.tree.now c.args.before.now c.requires

pub write_layout-requires-clause-rise : goal.write_layout-requires-clause-rise
write_layout-requires-clause-rise g c =
    lists_rise (g.G.Grammar.form c.args.grammar.now) c.tag-tag.ensures.lawful (options_value c.args.options.now) c.args.tree.now c.args.before.now c.requires

pub returns-in-Ok : goal.returns-in-Ok
returns-in-Ok g c =
    let f = g.G.Grammar.form c.args.grammar.now in
    let law = c.tag-tag.ensures.lawful in
    let o = options_value c.args.options.now in
    let t = c.args.tree.now in
    let before = c.args.before.now in
    let shown = shown_is f o c.in_ok-properties.field-0.items c.deref.result.now c.in_ok-shown.shown.items c.in_ok-properties.ensures c.deref.ensures.value c.in_ok-shown.ensures in
    let layout = layout_of c.in-Ok.layout in
    let lines = ap texts c.deref-4.ensures.value
    ∙ lines_are before c.in_ok-text.text.now (texts c.in_ok-lines.lines.items)
    (c.in_ok-text.ensures.text ∙ c.deref-2.ensures.value ∙ c.in_ok-unfolded.ensures) c.in_ok-lines.ensures in
    let are = subst (λ (ls : List Bytes). AreOf f o ls layout) lines (c.in-Ok.ensures.layout o (c.deref-3.ensures.value ∙ shown)) in
    let deep = c.if-depth-gt-DEEPEST.false in
    let is = c.depth-depth.ensures in
    let over = not_over t (omega (arith, deep, is)) in
    answer_written f law o t before c.requires layout are over c.in_ok-write_layout-in-Ok.field-0
    (written_said f o (template_of c.in_ok-template.template) c.deref-in-Ok.result.now t layout before c.in_ok-write_layout-in-Ok.field-0.items c.in_ok-template.ensures.template
    (c.deref-in-Ok.ensures.value ∙ shown) c.in_ok-write_layout-in-Ok.ensures)
