use Rattle.std.proofs.Common.{take}
use Rattle.std.specs.Borrow.{Bor}
use Rattle.std.specs.List.{flat_map}
use Rattle.hm_tree.specs.Nodes.{Tree}
use Rattle.hm_lines_files.specs.Lent.{template_of}
use Rattle.hm_lines_files.specs.WrittenLines.{Extends}
use Rattle.hm_lines_files.proofs.Passes.{new_lines}
use Rattle.hm_lines_files.proofs.rewriting.append_with_key.Given as goal

abbrev pub invariant-loop-tree : goal.invariant-loop-tree
invariant-loop-tree l = Extends l.fn.writer l.writer (flat_map (λ (b : Bor Tree). new_lines (template_of l.template) l.shown l.key b.now) (take l.tree-index l.trees))
