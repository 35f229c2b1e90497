use Rattle.std.proofs.Common.{◌<◌, [], ◌∙◌, ap, sym, refl, take, drop, length, get_or, arith}
use Rattle.std.specs.List.{flat_map}
use Rattle.std.proofs.lemmas.List.{take_all}
use Rattle.hm_tree.specs.Names.{name_cmp}
use Rattle.hm_book_items.specs.Items.{fresh}
use Rattle.hm_book_items.specs.Plans.{keys_of}
use Rattle.hm_book_items.proofs.Numbers.{counted_read}
use Rattle.hm_lines_files.specs.Components.{piece_lines}
use Rattle.hm_lines_files.specs.Rewriting.{keyed, items_for}
use Rattle.hm_lines_files.specs.Lent.{template_of}
use Rattle.hm_book_items.specs.Taken.{list_at}
use Rattle.hm_lines_files.proofs.WrittenLines.{all_more, extends_as}
use Rattle.hm_lines_files.proofs.Passes.{added_lines, all_added}
use Rattle.hm_book_items.proofs.Taking.{as_many, key_at}
use Rattle.hm_lines_files.proofs.rewriting.append_new.Goals as goal

pub loop-edge-preserved : goal.loop-edge-preserved
loop-edge-preserved c = λ lists cs h.
    let K = template_of c.args.template.now in
    let keys = keys_of (keyed c.args.template.now.key cs) in
    let n = as_many c.args.trees.now lists keys h in
    let t = c.loop-edge-test.true in
    let edge = c.loop-edge.edge in
    let lt : edge < length lists = omega (arith, n, t) in
    let key = key_at c.args.trees.now lists keys h edge lt c.index-trees-edge.result (get_or c.args.trees.now.lists.now edge c.index-trees-edge.result) refl in
    let left =
    c.left.ensures lists keys h
    ∙ ap (λ n. drop n (list_at lists edge).1) (counted_read (list_at lists edge).0 0 (keyed c.args.template.now.key cs)) in
    all_more c.args.writer.now c.loop-edge.writer c.append_with_key.new.writer lists edge ([], []) (list_at lists edge) lt refl (added_lines K c.args.shown.now cs)
    (c.loop-edge.invariant lists cs h)
    (extends_as c.loop-edge.writer c.append_with_key.new.writer _ (added_lines K c.args.shown.now cs (list_at lists edge))
    (λ i. flat_map piece_lines (items_for K c.args.shown.now (fresh name_cmp (sym key i) (left i)))) c.in_ok-append_with_key.ensures)

pub returns : goal.returns
returns c = λ lists cs h.
    let K = template_of c.args.template.now in
    let n = as_many c.args.trees.now lists (keys_of (keyed c.args.template.now.key cs)) h in
    let f = c.loop-edge-test.false in
    extends_as c.args.writer.now c.loop-edge.writer (flat_map (added_lines K c.args.shown.now cs) (take c.loop-edge.edge lists)) _
    (ap (flat_map (added_lines K c.args.shown.now cs)) (take_all c.loop-edge.edge lists (omega (arith, n, f))) ∙ all_added K c.args.shown.now cs lists) (c.loop-edge.invariant lists cs h)
