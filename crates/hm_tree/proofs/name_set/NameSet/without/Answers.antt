use Rattle.std.proofs.Common.{◌≡◌, [], ◌∷◌, not, ap, ◌∙◌, rules}
use Rattle.std.specs.FinSet as set
use Rattle.hm_tree.specs.Names.{name_cmp}
use Rattle.hm_tree.proofs.SetEdits.{without_one}
use Rattle.hm_tree.proofs.name_set.NameSet.without.Goals as goal

pub returns : goal.returns
returns c =
    let alone : c.in_ok-from_list.field-0 ≡ set.from_list {R = name_cmp} (c.args.name.now ∷ []) = search rules in
    c.in_ok-others.ensures.outside ∙ ap (λ s. set.retain c.args.self.now (λ k. not (set.contains s k))) alone
    ∙ without_one c.args.self.now c.args.name.now
