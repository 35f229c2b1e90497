use Rattle.std.proofs.Common.{ap, ◌∙◌, arith, rules}
use Rattle.hm_tree.specs.Nodes.{node, deepest}
use Rattle.hm_tree.specs.NodeLaws.{edges_are}
use Rattle.hm_tree.proofs.Deepest.{depth_left}
use Rattle.hm_tree.proofs.Sorted.{remove_is, edges_filter, without_missing}
use Rattle.hm_tree.proofs.tree.Tree.without.Goals as goal
use Rattle.hm_tree.proofs.tree.Tree.without.Goals.{then-child-self, else-child-self}

pub overflow_add-child-inside : goal.overflow_add-child-inside
overflow_add-child-inside c =
    let d = depth_left _ c.remove-child.new.self.items _ _ c.in-Ok.at _ _ c.remove-child.result c.self.invariant c.self.view_is
    c.in-Ok.ensures.found.in_range c.remove-child.ensures.value c.remove-child.ensures.items c.child.invariant c.child.view_is in
    search rules

pub deepest-self-inside-requires : goal.deepest-self-inside-requires
deepest-self-inside-requires c =
    let d = depth_left _ c.remove-child.new.self.items _ _ c.in-Ok.at _ _ c.remove-child.result c.self.invariant c.self.view_is
    c.in-Ok.ensures.found.in_range c.remove-child.ensures.value c.remove-child.ensures.items c.child.invariant c.child.view_is in
    rw c.deref.ensures.value (omega arith)

pub invariant_of-self : goal.invariant_of-self
invariant_of-self c = record {
  edges = rw (
    c.remove-child.ensures.items,
    remove_is _ _ c.self.invariant.edges c.self.view_is c.args.name.now c.in-Ok.at
        c.in-Ok.ensures.found,
  ) (edges_filter _ _ (edges_are _));
  deep = c.deepest-self-inside.ensures ∙ ap deepest c.deref.ensures.value;
}

pub invariant_of-self-else-child-self : goal.invariant_of-self-else-child-self
invariant_of-self-else-child-self c = record {
  edges = rw (
    c.remove-child.ensures.items,
    remove_is _ _ c.self.invariant.edges c.self.view_is c.args.name.now c.in-Ok.at
        c.in-Ok.ensures.found,
  ) (edges_filter _ _ (edges_are _));
  deep =
      let d = depth_left _ c.remove-child.new.self.items _ _ c.in-Ok.at _ _ c.remove-child.result c.self.invariant c.self.view_is
      c.in-Ok.ensures.found.in_range c.remove-child.ensures.value c.remove-child.ensures.items c.child.invariant c.child.view_is in
      omega (arith, c.if-child-self.false);
}

pub returns-after-child-self-clause-left : goal.returns-after-child-self-clause-left
returns-after-child-self-clause-left c =
    let left = ap node (c.remove-child.ensures.items ∙ remove_is _ _ c.self.invariant.edges c.self.view_is c.args.name.now c.in-Ok.at
    c.in-Ok.ensures.found) in
    elim c.if-child-self.branch [
      | then-child-self w ↦ w.self-is ∙ left
      | else-child-self w ↦ w.self-is ∙ left
    ]

pub returns-in-Err-clause-left : goal.returns-in-Err-clause-left
returns-in-Err-clause-left c = without_missing _ _ c.in-Err.ensures.absent.absent
