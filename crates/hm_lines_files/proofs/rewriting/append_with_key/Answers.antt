use Rattle.std.proofs.Common.{◌∙◌, ap, take}
use Rattle.std.specs.Borrow.{Bor}
use Rattle.std.specs.List.{flat_map}
use Rattle.std.proofs.lemmas.List.{take_all}
use Rattle.hm_tree.specs.Nodes.{Tree}
use Rattle.hm_lines_files.specs.Lent.{template_of}
use Rattle.hm_lines_files.proofs.WrittenLines.{all_more, extends_as}
use Rattle.hm_lines_files.proofs.Passes.{new_lines, with_key}
use Rattle.hm_lines_files.proofs.rewriting.append_with_key.Goals as goal

pub loop-tree-preserved : goal.loop-tree-preserved
loop-tree-preserved c =
    all_more c.args.writer.now c.loop-tree.writer c.append_new_item.new.writer c.args.trees.now c.loop-tree.tree-index c.tree-item.result c.tree-item.result c.loop-tree-test.true
    c.tree-item.is (λ (b : Bor Tree). new_lines (template_of c.args.template.now) c.args.shown.now c.args.key.now b.now) c.loop-tree.invariant c.in_ok-append_new_item.ensures

pub returns : goal.returns
returns c =
    let F = λ (b : Bor Tree). new_lines (template_of c.args.template.now) c.args.shown.now c.args.key.now b.now in
    extends_as c.args.writer.now c.loop-tree.writer (flat_map F (take c.loop-tree.tree-index c.args.trees.now)) _
    (ap (flat_map F) (take_all c.loop-tree.tree-index c.args.trees.now c.loop-tree-test.false) ∙ with_key (template_of c.args.template.now) c.args.shown.now c.args.key.now c.args.trees.now)
    c.loop-tree.invariant
