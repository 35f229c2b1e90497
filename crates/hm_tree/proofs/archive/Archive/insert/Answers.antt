use Rattle.hm_tree.proofs.Kept.{root_sorted, no_place, insert_kept, insert_view}
use Rattle.hm_tree.proofs.archive.Archive.insert.Goals as goal

pub place_of-requires : goal.place_of-requires
place_of-requires c = rw c.deref.ensures.value (root_sorted _ _ c.self.invariant)

pub invariant_of-self-in-Err : goal.invariant_of-self-in-Err
invariant_of-self-in-Err c =
    insert_kept _ _ _ c.self.invariant c.self.view_is c.requires.present c.args.name c.utf8-2.ensures c.args.child c.requires.there _
    (rw c.deref.ensures.value at c.in-Err.ensures.absent) _ c.in_ok-insert_edge-in-Err.ensures.ok

pub returns-in-Ok-clause-ok : goal.returns-in-Ok-clause-ok
returns-in-Ok-clause-ok c =
    absurd (no_place _ _ _ c.self.invariant c.self.view_is c.args.name c.requires.absent _ (rw c.deref.ensures.value at c.in-Ok.ensures.found))

pub returns-in_ok-insert_edge-in-Err-clause-ok : goal.returns-in_ok-insert_edge-in-Err-clause-ok
returns-in_ok-insert_edge-in-Err-clause-ok c =
    insert_view _ _ _ c.self.invariant c.self.view_is c.requires.present c.args.name c.utf8-2.ensures c.args.child c.requires.there _
    (rw c.deref.ensures.value at c.in-Err.ensures.absent) _ c.in_ok-insert_edge-in-Err.ensures.ok
