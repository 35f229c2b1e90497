use Rattle.hm_focal_terms.proofs.Sets.{read_more, set_read, no_set, edge_shorter}
use Rattle.hm_focal_terms.proofs.names.read_set.Goals as goal

pub returns-in-Some-read_sign : goal.returns-in-Some-read_sign
returns-in-Some-read_sign c =
    set_read _ _ _ c.names.invariant c.args.text.now c.in-Some.ensures _ c.in-Some-read_sign.ensures _ c.in_ok-from_list.ensures

pub returns-in_default-2 : goal.returns-in_default-2
returns-in_default-2 c =
    no_set _ _ _ c.names.invariant c.args.text.now c.in-Some.ensures c.in_default-read_sign.ensures (rw c.in_default-2.is at c.in_ok-name.ensures)

pub names-smaller : goal.names-smaller
names-smaller c = edge_shorter _ _ _ (rw c.in-Some-2.is at c.in_ok-name.ensures)

pub names-preserved : goal.names-preserved
names-preserved c =
    read_more _ _ _ c.names.invariant c.in-Some-2.name _ (rw c.in-Some-2.is at c.in_ok-name.ensures) _ c.in_ok-push.ensures.items
