use Rattle.std.proofs.Common.{◌≡◌, sym, ap, ◌∙◌, subst, rules}
use Rattle.std.specs.Ordering.{is_lt}
use Rattle.std.specs.List.{dedup}
use Rattle.std.specs.List.Sorted.{IsSorted, IsStrictlySortedBy}
use Rattle.std.specs.FinSet as set
use Rattle.std.proofs.lemmas.Fn.{dedup_same}
use Rattle.std.proofs.lemmas.List.Sorted.{ranks_by, answers_always}
use Rattle.hm_tree.specs.Names.{name_cmp}
use Rattle.hm_tree.proofs.Sorted.{name_total}
use Rattle.hm_tree.proofs.NameSets.{tied, sorted_once, set_of_sorted}
use Rattle.hm_tree.proofs.name_set.NameSet.from_list.Goals as goal

pub invariant_of-result : goal.invariant_of-result
invariant_of-result c =
    let sorted : IsSorted name_cmp c.sort_by.new.self.items =
    c.in_ok-sort_by.ensures.sorted (λ x y. is_lt (name_cmp x y)) (ranks_by name_total (λ x. x))
    (answers_always _ _ _ (λ f a r f' called. search rules)) in
    let once : c.dedup_by.new.self.items ≡ dedup tied c.sort_by.new.self.items =
    dedup_same _ tied _ (λ x y b f' x' y' called. search rules) _ _ c.dedup_by.ensures.filtered in
    subst (IsStrictlySortedBy name_cmp) (sym once) (sorted_once _ sorted)

pub returns : goal.returns
returns c =
    let once : c.dedup_by.new.self.items ≡ dedup tied c.sort_by.new.self.items =
    dedup_same _ tied _ (λ x y b f' x' y' called. search rules) _ _ c.dedup_by.ensures.filtered in
    ap (λ l. set.from_list {R = name_cmp} l) once ∙ set_of_sorted c.args.names.items c.sort_by.new.self.items c.in_ok-sort_by.ensures.permutation
