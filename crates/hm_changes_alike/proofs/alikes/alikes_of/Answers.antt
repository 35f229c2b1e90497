use Rattle.std.proofs.Common.{◌++◌, List, Bor, sym, subst}
use Rattle.std.proofs.lemmas.List.{take_all}
use Rattle.hm_tree.specs.States.{Path}
use Rattle.hm_changes_alike.specs.Below.{renewal}
use Rattle.hm_changes_alike.specs.Parents.{parents_in, lent_paths, AreOnceEach}
use Rattle.hm_changes_alike.proofs.Gathered.{AreGathered, none_gathered, gathered_more, all_gathered}
use Rattle.hm_changes_alike.proofs.alikes.alikes_of.Goals as goal

pub loop-parent-init : goal.loop-parent-init
loop-parent-init c = none_gathered (renewal c.args.left) (renewal c.args.right) c.new-sets.result.items c.new-sets.ensures.items

pub loop-parent-preserved : goal.loop-parent-preserved
loop-parent-preserved c =
    let once = subst (λ (l : List (Bor Path)). AreOnceEach (parents_in c.args.left_changes.now ++ parents_in c.args.right_changes.now) (lent_paths l))
    (sym c.deref-parent-items.ensures.value) c.in_ok-parents_of.ensures in
    gathered_more (renewal c.args.left) (renewal c.args.right) c.deref-parent-items.result.now c.loop-parent.parent-index c.parent-item.result
    c.loop-parent.sets.items c.append_below.new.sets.items once.rise c.loop-parent-test.true c.parent-item.is c.loop-parent.invariant c.in_ok-append_below.ensures

pub returns : goal.returns
returns c =
    let once = subst (λ (l : List (Bor Path)). AreOnceEach (parents_in c.args.left_changes.now ++ parents_in c.args.right_changes.now) (lent_paths l))
    (sym c.deref-parent-items.ensures.value) c.in_ok-parents_of.ensures in
    let all = subst (λ (l : List (Bor Path)). AreGathered (renewal c.args.left) (renewal c.args.right) (lent_paths l) c.loop-parent.sets.items)
    (take_all c.loop-parent.parent-index c.deref-parent-items.result.now c.loop-parent-test.false) c.loop-parent.invariant in
    all_gathered (renewal c.args.left) (renewal c.args.right) c.args.left_changes.now c.args.right_changes.now (lent_paths c.deref-parent-items.result.now)
    c.loop-parent.sets.items c.requires.left c.requires.right once all
