use Rattle.std.proofs.Common.{rules}
use Rattle.std.proofs.lemmas.Fn.{always_returns_same}
use Rattle.hm_tree.specs.Names.{name_cmp}
use Rattle.hm_tree.proofs.Sorted.{searched}
use Rattle.hm_tree.proofs.edges.place_of.Goals as goal

pub returns : goal.returns
returns g c =
    let facts = c.binary_search_by.ensures in
    let by_name = facts.position (λ e. name_cmp e.0 c.args.name.now) (always_returns_same _ _ _ (λ a r h called. search rules)) in
    searched c.args.name.now _ c.requires _ facts.bound by_name
