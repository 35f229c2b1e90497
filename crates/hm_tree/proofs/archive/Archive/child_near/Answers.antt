use Rattle.std.proofs.Common.{◌+◌, sym, ap, ◌∙◌}
use Rattle.hm_tree.specs.Edges.{rank}
use Rattle.hm_tree.proofs.Kept.{root_sorted, edges_kept, under_found, under_gone}
use Rattle.hm_tree.proofs.archive.Archive.child_near.Goals as goal

pub place_near-requires : goal.place_near-requires
place_near-requires c = rw c.deref.ensures.value (root_sorted _ _ c.self.invariant)

pub returns-in-Ok : goal.returns-in-Ok
returns-in-Ok c =
    let at = rw c.deref.ensures.value at c.in-Ok.ensures.found in
    let found = under_found _ _ _ c.self.invariant c.self.view_is c.args.name.now c.in-Ok.at at c.index.result.now c.index.ensures in
    (found.0, found.1, ap (λ i. i + 1) (at.place ∙ ap (rank c.args.name.now) (sym (edges_kept _ _ _ c.self.invariant c.self.view_is))))

pub returns-in-Err : goal.returns-in-Err
returns-in-Err c = under_gone _ _ _ c.self.invariant c.self.view_is c.args.name.now _ (rw c.deref.ensures.value at c.in-Err.ensures.absent)
