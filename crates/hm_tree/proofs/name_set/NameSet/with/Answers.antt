use Rattle.std.proofs.Common.{◌≡◌, ◌++◌, ◌∷◌, [], ap, ◌∙◌, rules}
use Rattle.std.specs.FinSet as set
use Rattle.hm_tree.specs.Names.{name_cmp}
use Rattle.hm_tree.proofs.Sorted.{name_total, name_one}
use Rattle.hm_tree.proofs.name_set.NameSet.with.Goals as goal

pub returns : goal.returns
returns c =
    let all : c.push.new.self.items ≡ c.self.inside.names.items ++ c.args.name.now ∷ [] = search rules in
    c.in_ok-from_list.ensures ∙ ap (set.from_list {R = name_cmp}) all
    ∙ set.from_list_push name_total name_one c.self.inside.names.items c.args.name.now
    ∙ ap (λ s. set.insert s c.args.name.now) c.self.view_is
