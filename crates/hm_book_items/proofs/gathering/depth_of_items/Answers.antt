use Rattle.std.proofs.Common.{List, ap, ◌∙◌}
use Rattle.std.proofs.lemmas.Result.{IfOk-weaker}
use Rattle.hm_tree.specs.Names.{Name, name_cmp}
use Rattle.hm_tree.proofs.Sorted.{name_total, name_one}
use Rattle.hm_book_items.specs.ItemTrees.{lists_depth}
use Rattle.hm_book_items.specs.Runs.{runs}
use Rattle.hm_book_items.proofs.ReadBack.{grouped_once}
use Rattle.hm_book_items.proofs.Runs.{grouped}
use Rattle.hm_book_items.proofs.gathering.depth_of_items.Goals as goal

pub returns : goal.returns
returns g c =
    let xs = c.in_ok-sorted.sorted.items in
    let mine = grouped c.args.items.items xs c.in_ok-sorted.ensures.rise c.in_ok-sorted.ensures.each in
    IfOk-weaker c.depth_of_runs.result _ _
    (λ depth is lists others. is ∙ ap (λ (l : List (Name × g.row.D.Denot)). lists_depth g.D.Deep.deep (runs l)) c.deref.ensures.value
    ∙ ap (lists_depth g.D.Deep.deep) (grouped_once name_cmp name_total name_one c.args.items.items (runs xs) lists mine others))
    c.depth_of_runs.ensures.depth
