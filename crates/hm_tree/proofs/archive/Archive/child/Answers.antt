use Rattle.hm_tree.proofs.Kept.{root_sorted, under_found, under_gone}
use Rattle.hm_tree.proofs.archive.Archive.child.Goals as goal

pub place_of-requires : goal.place_of-requires
place_of-requires c = rw c.deref.ensures.value (root_sorted _ _ c.self.invariant)

pub returns-in-Ok : goal.returns-in-Ok
returns-in-Ok c = under_found _ _ _ c.self.invariant c.self.view_is c.args.name.now c.in-Ok.at
    (rw c.deref.ensures.value at c.in-Ok.ensures.found) c.index.result.now c.index.ensures

pub returns-in-Err : goal.returns-in-Err
returns-in-Err c = under_gone _ _ _ c.self.invariant c.self.view_is c.args.name.now _ (rw c.deref.ensures.value at c.in-Err.ensures.absent)
