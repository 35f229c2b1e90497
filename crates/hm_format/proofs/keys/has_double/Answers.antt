use Rattle.std.proofs.Common.{length, ap, sym, List, ◌≡◌, ◌∙◌, nat_lt}
use Rattle.hm_tree.specs.Names.{Name}
use Rattle.hm_tree.specs.Sets.{ascending}
use Rattle.std.specs.FinSet.{from_list}
use Rattle.hm_tree.proofs.Ascending.{ascending_is}
use Rattle.hm_format.proofs.keys.has_double.Goals as goal

pub returns : goal.returns
returns c =
    let set = ascending_is c.names.result.now c.in_ok-set.set c.names.ensures.ascending c.names.ensures.same in
    let copied : c.in_ok-copy_names.field-0.items ≡ c.args.names.now = c.in_ok-copy_names.ensures in
    ap (λ (l : List Name). nat_lt (length l) (length c.args.names.now))
    (sym set ∙ ap ascending c.in_ok-set.ensures ∙ ap (λ (l : List Name). ascending (from_list l)) copied)
