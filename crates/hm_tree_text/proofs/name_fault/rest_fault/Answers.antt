use Rattle.std.proofs.Common.{◌+◌, ◌≤◌, length, rules, subst, sym}
use Rattle.hm_tree_text.proofs.Walking.{WalkedAll, walked_more, walked_end, step_at, none_at, most_at, place_within}
use Rattle.hm_tree_text.proofs.name_fault.rest_fault.Goals as goal

pub loop-byte-preserved : goal.loop-byte-preserved
loop-byte-preserved c =
    subst (WalkedAll c.args.left.now c.args.bytes.now (c.loop-byte.at + c.in-Some.length) c.in-Some.next) (sym c.left_behind-left.ensures)
    (walked_more c.args.bytes.now c.loop-byte.at c.loop-byte.invariant.within c.loop-byte.character c.loop-byte.left.now c.in-Some.byte
    c.in-Some.length c.in-Some.next (step_at c.loop-byte.character c.loop-byte.left.now c.args.bytes.now c.loop-byte.at _ _ _
    c.in-Some.ensures) c.args.left.now c.loop-byte.invariant)

pub overflow_add-result : goal.overflow_add-result
overflow_add-result c =
    let le : c.loop-byte.at + c.most_shared.result ≤ length c.args.bytes.now =
    place_within c.args.bytes.now c.loop-byte.at c.most_shared.result c.loop-byte.invariant.within c.most_shared.ensures.within in
    search rules

pub returns-in-None-clause-within : goal.returns-in-None-clause-within
returns-in-None-clause-within c = place_within c.args.bytes.now c.loop-byte.at c.most_shared.result c.loop-byte.invariant.within
    c.most_shared.ensures.within

pub returns-in-None-clause-fault : goal.returns-in-None-clause-fault
returns-in-None-clause-fault c = walked_end _ _ c.loop-byte.at _ _ _ c.loop-byte.invariant
    (none_at c.loop-byte.character c.loop-byte.left.now c.args.bytes.now c.loop-byte.at c.in-None.ensures)
    (most_at c.loop-byte.character c.loop-byte.left.now c.args.bytes.now c.loop-byte.at c.most_shared.result c.most_shared.ensures.most)
