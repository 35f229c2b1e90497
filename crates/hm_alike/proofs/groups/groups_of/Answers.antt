use Rattle.std.proofs.Common.{[], take, sym, subst}
use Rattle.hm_alike.specs.Groups.{AreGroups, bytes_of, lent, lent_lists}
use Rattle.hm_alike.proofs.Grouped.{grouped_none}
use Rattle.hm_alike.proofs.Lent.{lent_more, lent_rises}
use Rattle.hm_alike.proofs.groups.groups_of.Goals as goal

pub loop-name-init : goal.loop-name-init
loop-name-init c =
    subst (λ ks. AreGroups [] (bytes_of ks) (lent_lists c.new-groups.result.items)) (sym c.new-texts.ensures.empty)
    (subst (λ gs. AreGroups [] [] (lent_lists gs)) (sym c.new-groups.ensures.items) grouped_none)

pub loop-name-preserved : goal.loop-name-preserved
loop-name-preserved c =
    let names = c.args.names.now in
    let at = c.loop-name.name-index in
    let n = c.name-item.result in
    let rise = lent_rises names at n c.loop-name-test.true c.name-item.is c.requires in
    subst (λ ns. AreGroups ns (bytes_of c.add.new.texts.keys) (lent_lists c.add.new.groups.items))
    (sym (lent_more names at n c.loop-name-test.true c.name-item.is))
    (c.in_ok-add.ensures (lent (take at names)) rise c.loop-name.invariant)
