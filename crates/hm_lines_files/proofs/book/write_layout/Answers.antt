use Rattle.std.proofs.Common.{List, inl, inr, refl, sym, subst}
use Rattle.hm_tree.specs.Nodes.{edges}
use Rattle.hm_book_items.specs.ItemTrees.{AreLists}
use Rattle.hm_book_items.specs.Lent.{LentList, lent_lists}
use Rattle.hm_lines_files.specs.Rewriting.{rewritten_layout}
use Rattle.hm_lines_files.specs.Lent.{layout_of, template_of}
use Rattle.hm_lines_files.specs.WrittenPieces.{IsAnew}
use Rattle.hm_lines_files.proofs.book.write_layout.Goals as goal

pub returns-in-Some : goal.returns-in-Some
returns-in-Some c =
    let lists = lent_lists c.deref.result.now in
    let below = subst (λ (ls : List LentList). AreLists (edges c.args.tree.now) (lent_lists ls)) (sym c.deref.ensures.value) c.in_ok-lists.ensures in
    let old = layout_of c.args.layout.now in
    let text = subst (IsAnew (template_of c.args.template.now) c.args.shown.now lists old) c.in-Some.is c.in_ok-text.ensures in
    record {
      new = rewritten_layout (template_of c.args.template.now) c.args.shown.now lists old;
      rewritten = record { lists = lists; below = below; is = refl };
      text = inr text;
    }

pub returns : goal.returns
returns c =
    let lists = lent_lists c.deref.result.now in
    let below = subst (λ (ls : List LentList). AreLists (edges c.args.tree.now) (lent_lists ls)) (sym c.deref.ensures.value) c.in_ok-lists.ensures in
    let old = layout_of c.args.layout.now in
    let same = subst (IsAnew (template_of c.args.template.now) c.args.shown.now lists old) c.in-None.is c.in_ok-text.ensures in
    record {
      new = rewritten_layout (template_of c.args.template.now) c.args.shown.now lists old;
      rewritten = record { lists = lists; below = below; is = refl };
      text = inl (same, c.in_ok-from_slice-in-None.ensures.items);
    }
