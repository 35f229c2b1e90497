use Rattle.std.proofs.Common.{List, subst, ◌∙◌}
use Rattle.std.specs.Prelude.{IsUtf8}
use Rattle.hm_lines.specs.Unfolding.{lines as lines_of_bytes}
use Rattle.hm_lines_files.specs.Faults.{IsFaultOf}
use Rattle.hm_schema.specs.Values.{options_value}
use Rattle.hm_lines_files.specs.Components.{Bytes, components}
use Rattle.hm_lines_files.specs.Lent.{texts, layout_of, template_of}
use Rattle.hm_lines_files.specs.Stops.{AreOf, IsStop}
use Rattle.hm_lines_files.proofs.Opened.{shown_is, names_rise, lines_are, tree_said, fault_said}
use Rattle.hm_lines_files.proofs.Readings.{answer_read, stop_read}
use Rattle.hm_lines_files.proofs.reading.read_book.Goals as goal

pub book_of-requires-clause-names : goal.book_of-requires-clause-names
book_of-requires-clause-names g c =
    let f = g.G.Grammar.form c.args.grammar.now in
    let o = options_value c.args.options.now in
    names_rise f c.tag-tag.ensures.lawful o c.deref-in-Ok.result.now
    (c.deref-in-Ok.ensures.value ∙ shown_is f o c.in_ok-properties.field-0.items c.deref.result.now c.in_ok-shown.shown.items c.in_ok-properties.ensures c.deref.ensures.value c.in_ok-shown.ensures)

pub returns-in-Ok : goal.returns-in-Ok
returns-in-Ok g c =
    let f = g.G.Grammar.form c.args.grammar.now in
    let o = options_value c.args.options.now in
    let bytes = c.args.bytes.now in
    let shown = shown_is f o c.in_ok-properties.field-0.items c.deref.result.now c.in_ok-shown.shown.items c.in_ok-properties.ensures c.deref.ensures.value c.in_ok-shown.ensures in
    let layout = layout_of c.in-Ok.layout in
    let made = c.deref-2.ensures.value ∙ c.in_ok-unfolded.ensures in
    let opened = c.in_ok-text.ensures.text ∙ made in
    let lines = lines_are bytes c.in_ok-text.text.now (texts c.in_ok-lines.lines.items) opened c.in_ok-lines.ensures in
    let are = subst (λ (ls : List Bytes). AreOf f o ls layout) lines (c.in-Ok.ensures.layout o (c.deref-3.ensures.value ∙ shown)) in
    let template = template_of c.in_ok-template.template in
    let lent = c.deref-in-Ok.ensures.value ∙ shown in
    answer_read f o bytes (subst IsUtf8 made c.in_ok-text.ensures.utf8) layout are c.book_of.result
    (tree_said f o template c.deref-in-Ok.result.now (components layout) c.book_of.result c.in_ok-template.ensures.template lent c.book_of.ensures.tree)
    (fault_said f o template c.deref-in-Ok.result.now (components layout) c.book_of.result c.in_ok-template.ensures.template lent c.book_of.ensures.fault)

pub returns : goal.returns
returns g c =
    let f = g.G.Grammar.form c.args.grammar.now in
    let o = options_value c.args.options.now in
    let bytes = c.args.bytes.now in
    let shown = shown_is f o c.in_ok-properties.field-0.items c.deref.result.now c.in_ok-shown.shown.items c.in_ok-properties.ensures c.deref.ensures.value c.in_ok-shown.ensures in
    let made = c.deref-2.ensures.value ∙ c.in_ok-unfolded.ensures in
    let opened = c.in_ok-text.ensures.text ∙ made in
    let lines = lines_are bytes c.in_ok-text.text.now (texts c.in_ok-lines.lines.items) opened c.in_ok-lines.ensures in
    let stop = subst (λ (ls : List Bytes). IsStop f o ls c.in-Err.stop) lines (c.in-Err.ensures.stop o (c.deref-3.ensures.value ∙ shown)) in
    stop_read f o bytes (subst IsUtf8 made c.in_ok-text.ensures.utf8) c.tag-tag.ensures.lawful c.in-Err.stop stop c.fault_of.result
    (subst (λ (b : Bytes). IsFaultOf (lines_of_bytes b) c.in-Err.stop c.fault_of.result) opened c.fault_of.ensures)
