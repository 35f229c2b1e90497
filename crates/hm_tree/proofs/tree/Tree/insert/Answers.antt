use Rattle.std.proofs.Common.{length, sym, ap, ◌∙◌, arith, rules, ◌+◌, false}
use Rattle.hm_tree.specs.Nodes.{node, Node, depth}
use Rattle.hm_tree.specs.NodeLaws.{edges_are}
use Rattle.hm_tree.specs.Names.{Name}
use Rattle.hm_tree.proofs.Deepest.{most_insert, depth_kept}
use Rattle.hm_tree.proofs.Sorted.{edges_seen, insert_is, edges_put, not_None}
use Rattle.hm_tree.proofs.tree.Tree.insert.Goals as goal

pub insert_edge-requires : goal.insert_edge-requires
insert_edge-requires c = let e = ap length (edges_seen _ _ c.self.invariant.edges c.self.view_is) in omega (arith, c.in-Err.ensures.absent.in_range)

pub invariant_of-self-in-Err : goal.invariant_of-self-in-Err
invariant_of-self-in-Err c = record {
  edges = rw (
    c.in_ok-insert_edge-in-Err.ensures.ok,
    insert_is _ _ c.self.invariant.edges c.self.view_is c.args.name c.args.child c.in-Err.at
        c.in-Err.ensures.absent,
  ) (edges_put _ _ _ c.utf8-2.ensures (edges_are _));
  deep =
      let a = most_insert (λ (e : Name × Node false). depth e.1 + 1) c.self.inside.edges.items c.in-Err.at (c.args.name, c.args.child) in
      let e = c.child-in-Err.invariant.deep in
      let b = depth_kept _ _ c.child-in-Err.invariant.edges c.child-in-Err.view_is in
      rw c.in_ok-insert_edge-in-Err.ensures.ok (search rules);
}

pub returns-in-Ok-clause-ok : goal.returns-in-Ok-clause-ok
returns-in-Ok-clause-ok c = absurd (not_None _ (sym (c.in-Ok.ensures.found.found (c.args.name, c.args.child)) ∙ c.requires))

pub returns-in_ok-insert_edge-in-Err-clause-ok : goal.returns-in_ok-insert_edge-in-Err-clause-ok
returns-in_ok-insert_edge-in-Err-clause-ok c =
    ap node (c.in_ok-insert_edge-in-Err.ensures.ok ∙ insert_is _ _ c.self.invariant.edges c.self.view_is c.args.name c.args.child c.in-Err.at
    c.in-Err.ensures.absent)
