use Rattle.std.proofs.Common.{◌≡◌, ◌++◌, ap, ◌∙◌, rules}
use Rattle.std.specs.FinSet as set
use Rattle.hm_tree.specs.Names.{name_cmp}
use Rattle.hm_tree.proofs.SetEdits.{set_of-both}
use Rattle.hm_tree.proofs.name_set.NameSet.union.Goals as goal

pub returns : goal.returns
returns c =
    let all : c.push_copies-2.new.names.items ≡ c.self.inside.names.items ++ c.other.inside.names.items = search rules in
    c.in_ok-from_list.ensures ∙ ap (set.from_list {R = name_cmp}) all ∙ set_of-both c.self.inside.names.items c.other.inside.names.items
    ∙ (λ i. set.union (c.self.view_is i) (c.other.view_is i))
