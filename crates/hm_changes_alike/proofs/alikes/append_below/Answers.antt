use Rattle.std.proofs.Common.{T, List, sym, subst, Bor}
use Rattle.std.specs.FinMap.{is_sorted}
use Rattle.std.proofs.lemmas.Result.{on_ok_weaker}
use Rattle.hm_tree.specs.Names.{Name, name_cmp}
use Rattle.hm_changes.specs.Taken.{Edges}
use Rattle.hm_alike.specs.Alike.{AreClasses}
use Rattle.hm_alike.specs.Groups.{lent, lent_lists}
use Rattle.hm_changes_alike.specs.Shown.{AreUnited}
use Rattle.hm_changes_alike.specs.Staying.{seen, edges_shown}
use Rattle.hm_changes_alike.proofs.Adding.{adds_sets}
use Rattle.hm_changes_alike.proofs.Staying.{shown_rise}
use Rattle.hm_changes_alike.proofs.alikes.append_below.Goals as goal

pub names_of-requires-clause-ones : goal.names_of-requires-clause-ones
names_of-requires-clause-ones c = subst (λ (es : Edges). T (is_sorted name_cmp es)) (sym c.edges_shown.ensures) (shown_rise (seen c.views_at-left.result))

pub names_of-requires-clause-others : goal.names_of-requires-clause-others
names_of-requires-clause-others c = subst (λ (es : Edges). T (is_sorted name_cmp es)) (sym c.edges_shown-2.ensures) (shown_rise (seen c.views_at-right.result))

pub returns : goal.returns
returns c =
    let names = lent c.in_ok-names.names.items in
    let united = subst (λ (es : Edges). AreUnited es c.edges_shown-2.result.now names) c.edges_shown.ensures c.in_ok-names.ensures in
    on_ok_weaker c.append_told.result
    (adds_sets c.args.left c.args.right c.args.parent.now (seen c.views_at-left.result) (seen c.views_at-right.result) names
    (lent_lists c.in_ok-classes.classes.items) c.args.sets.now.items c.append_told.new.sets.items c.views_at-left.ensures c.views_at-right.ensures
    (subst (λ (es : Edges). AreUnited (edges_shown (seen c.views_at-left.result)) es names) c.edges_shown-2.ensures united)
    (subst (λ (l : List (Bor Name)). AreClasses (lent l) (lent_lists c.in_ok-classes.classes.items)) c.deref.ensures.value c.in_ok-classes.ensures))
    c.append_told.ensures
