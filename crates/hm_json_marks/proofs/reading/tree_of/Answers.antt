use Rattle.std.proofs.Common.{Err, sym, ap, ◌∙◌, subst}
use Rattle.serde_json.specs.View.{view}
use Rattle.hm_json_marks.specs.Roots.{HasRoots, IsBadItem}
use Rattle.hm_json_marks.proofs.ReadTrees.{tree_given, bad_item}
use Rattle.hm_json_marks.proofs.reading.tree_of.Goals as goal

pub returns-in-Ok : goal.returns-in-Ok
returns-in-Ok c = λ bytes text document.
    let found = rw c.in-Some.is at c.roots_of.ensures in
    let roots : HasRoots bytes (view c.in-Some.bar.now) (view c.in-Some.other.now) =
    record { file = view c.args.file.now; document = document; bar_is = found.0; other_is = found.1 } in
    tree_given bytes text _ _ roots _ _ c.in-Ok.ensures.bar c.in-Ok.ensures.other c.whole_tree.result c.whole_tree.ensures

pub returns-in-Err-Misfit : goal.returns-in-Err-Misfit
returns-in-Err-Misfit c = λ bytes text document.
    let found = rw c.in-Some.is at c.roots_of.ensures in
    let roots : HasRoots bytes (view c.in-Some.bar.now) (view c.in-Some.other.now) =
    record { file = view c.args.file.now; document = document; bar_is = found.0; other_is = found.1 } in (
      text,
      subst (IsBadItem bytes) (sym c.in-Err-Misfit.number-is) (bad_item bytes text _ _ roots c.in-Err-Misfit.number
          (c.nodes_of_roots.ensures.misfit c.in-Err-Misfit.number (c.in-Err-Misfit.is ∙ ap Err c.in-Err-Misfit.field-0-is))),
    )
