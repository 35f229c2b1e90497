use Rattle.std.proofs.Common.{◌+◌, ◌≤◌, length, refl, rules}
use Rattle.hm_tree_text.proofs.Reached.{not_false}
use Rattle.hm_tree_text.proofs.Walking.{no_quote, fault_behind_quote, none_behind, rest_behind, place_within}
use Rattle.hm_tree_text.proofs.name_fault.name_fault.Goals as goal

pub returns-then-not-is_at : goal.returns-then-not-is_at
returns-then-not-is_at c = no_quote _ _ _ c.text_of-left.ensures (λ r e. not_false (c.if-not-is_at.ensures.only r e))

pub overflow_add-result : goal.overflow_add-result
overflow_add-result c =
    let there = c.if-not-is_at.ensures.there refl in
    let le : 1 + c.rest_fault.result ≤ length c.args.bytes.now =
    place_within c.args.bytes.now 1 c.rest_fault.result there.within c.rest_fault.ensures.within in
    search rules

pub returns : goal.returns
returns c =
    let is = rest_behind _ (c.if-not-is_at.ensures.there refl) in
    fault_behind_quote _ _ _ _ is (c.rest_fault.ensures.fault _ c.text_of-left.ensures (none_behind _ _ _ is c.requires))
