use Rattle.std.proofs.Common.{rules, sym, ap, ◌∙◌}
use Rattle.hm_tree.specs.Sets.{ascending}
use Rattle.hm_tree.proofs.Ascending.{ascending_is}
use Rattle.hm_csv.proofs.options.shown_names.Goals as goal

pub returns : goal.returns
returns c =
    let set = ascending_is c.into_names.result.items c.in_ok-from_list.field-0 c.into_names.ensures.ascending c.into_names.ensures.same in
    sym set ∙ ap ascending (search rules)
