use Rattle.std.proofs.Common.{sym, subst, List, arith}
use Rattle.hm_tree.specs.Nodes.{edges}
use Rattle.hm_schema.specs.Values.{options_value}
use Rattle.hm_book_items.specs.ItemTrees.{AreLists}
use Rattle.hm_book_items.specs.Lent.{LentList, lent_lists}
use Rattle.hm_format.specs.Formats.{depth_over}
use Rattle.hm_format.proofs.Limits.{not_over}
use Rattle.hm_csv.specs.Rewriting.{IsAnew}
use Rattle.hm_csv.specs.Writing.{CsvWrites}
use Rattle.hm_csv.proofs.Rewritten.{no_fault, even, has_lists, lists_rise, written_text, kept_bytes}
use Rattle.hm_csv.proofs.writing.write_book.Goals as goal

pub returns-in_err-opened : goal.returns-in_err-opened
returns-in_err-opened c =
    no_fault (options_value c.args.options.now) c.args.before.now c.requires.old c.requires.read (depth_over c.args.tree.now)
    (CsvWrites (options_value c.args.options.now) c.args.tree.now c.args.before.now) c.from_residual.result c.in_err-opened.field-0.0 c.from_residual.ensures.1
    c.in_err-opened.ensures.fault

pub item_lists-requires : goal.item_lists-requires
item_lists-requires c =
    let e = c.depth-depth.ensures in
    let f = c.if-depth-gt-DEEPEST.false in
    let over = not_over c.args.tree.now (omega (arith, e, f)) in
    has_lists (options_value c.args.options.now) c.requires.options.schema c.requires.options.sound c.requires.options.has c.args.before.now c.in_ok-opened.opened c.in_ok-opened.ensures.opened c.requires.old c.args.tree.now c.requires.read c.requires.member over

pub written_anew-requires-clause-even : goal.written_anew-requires-clause-even
written_anew-requires-clause-even c =
    even (options_value c.args.options.now) c.requires.options.schema c.requires.options.sound c.requires.options.has c.args.before.now c.in_ok-opened.opened c.in_ok-opened.ensures.opened

pub written_anew-requires-clause-rise : goal.written_anew-requires-clause-rise
written_anew-requires-clause-rise c =
    let e = c.depth-depth.ensures in
    let f = c.if-depth-gt-DEEPEST.false in
    let over = not_over c.args.tree.now (omega (arith, e, f)) in
    lists_rise (options_value c.args.options.now) c.requires.options.schema c.requires.options.sound c.requires.options.has c.args.before.now c.in_ok-opened.opened c.in_ok-opened.ensures.opened c.requires.old c.args.tree.now c.requires.read c.requires.member over (lent_lists c.deref.result.now)
    (subst (λ (ls : List LentList). AreLists (edges c.args.tree.now) (lent_lists ls)) (sym c.deref.ensures.value) c.in_ok-lists.ensures)

pub returns-in-Some : goal.returns-in-Some
returns-in-Some c =
    let e = c.depth-depth.ensures in
    let f = c.if-depth-gt-DEEPEST.false in
    let over = not_over c.args.tree.now (omega (arith, e, f)) in
    let below = subst (λ (ls : List LentList). AreLists (edges c.args.tree.now) (lent_lists ls)) (sym c.deref.ensures.value) c.in_ok-lists.ensures in (
      over,
      written_text (options_value c.args.options.now) c.requires.options.schema c.requires.options.sound c.requires.options.has c.args.before.now c.in_ok-opened.opened c.in_ok-opened.ensures.opened c.requires.old c.args.tree.now c.requires.read c.requires.member over (lent_lists c.deref.result.now) below c.in-Some.text
          (subst (IsAnew c.in_ok-opened.opened (lent_lists c.deref.result.now)) c.in-Some.is c.in_ok-text.ensures),
    )

pub returns : goal.returns
returns c =
    let e = c.depth-depth.ensures in
    let f = c.if-depth-gt-DEEPEST.false in
    let over = not_over c.args.tree.now (omega (arith, e, f)) in
    let below = subst (λ (ls : List LentList). AreLists (edges c.args.tree.now) (lent_lists ls)) (sym c.deref.ensures.value) c.in_ok-lists.ensures in (
      over,
      kept_bytes (options_value c.args.options.now) c.requires.options.schema c.requires.options.sound c.requires.options.has c.args.before.now c.in_ok-opened.opened c.in_ok-opened.ensures.opened c.requires.old c.args.tree.now c.requires.read c.requires.member over (lent_lists c.deref.result.now) below c.in_ok-copy_of-in-None.field-0.items c.in_ok-copy_of-in-None.ensures
          (subst (IsAnew c.in_ok-opened.opened (lent_lists c.deref.result.now)) c.in-None.is c.in_ok-text.ensures),
    )
