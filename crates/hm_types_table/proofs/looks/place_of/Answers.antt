use Rattle.std.proofs.Common.{◌≡◌, false, MatchOption, Some, sym, subst, ◌∙◌, slice_get}
use Rattle.std.specs.List.{list_any}
use Rattle.std.specs.Ordering.{eq_by_cmp}
use Rattle.std.proofs.lemmas.Option.{same_Some}
use Rattle.hm_tree.specs.Names.{name_cmp}
use Rattle.hm_types_table.specs.Tables.{seat}
use Rattle.hm_types_table.proofs.ListedPlaces.{place_listed}
use Rattle.hm_types_table.proofs.looks.place_of.Goals as goal

pub returns : goal.returns
returns c n e =
    let is = same_Some (seat c.at.result.0.now c.at.result.1.now) n (sym c.at.ensures.node ∙ e) in
    place_listed c.at.result.0.now c.at.result.1.now c.at.ensures.count n is c.args.name.now c.place.result
    (subst (λ names. MatchOption c.place.result (list_any (eq_by_cmp name_cmp c.args.name.now) names ≡ false) (λ i. slice_get names i ≡ Some c.args.name.now))
    c.deref.ensures.value c.place.ensures)
