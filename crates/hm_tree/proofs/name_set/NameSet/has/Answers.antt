use Rattle.std.proofs.Common.{List, ap, ◌∙◌, rules}
use Rattle.std.proofs.lemmas.Fn.{always_returns_same}
use Rattle.std.specs.List.Sorted.{IsStrictlySortedBy}
use Rattle.std.specs.FinSet as set
use Rattle.hm_tree.specs.Names.{Name, name_cmp}
use Rattle.hm_tree.proofs.NameSets.{searched_any}
use Rattle.hm_tree.proofs.name_set.NameSet.has.Goals as goal

pub returns : goal.returns
returns c =
    let facts = c.binary_search_by.ensures in
    let by_name = facts.position (λ e. name_cmp e c.args.name.now) (always_returns_same _ _ _ (λ a r h called. search rules)) in
    let rising : IsStrictlySortedBy name_cmp c.deref.result.now = rw c.deref.ensures.value c.self.invariant in
    c.is_ok.ensures.value
    ∙ searched_any c.args.name.now c.deref.result.now rising _ facts.bound by_name
    ∙ ap (λ (l : List Name). set.contains (set.from_list {R = name_cmp} l) c.args.name.now) c.deref.ensures.value
    ∙ ap (λ (s : set.FinSet name_cmp). set.contains s c.args.name.now) c.self.view_is
