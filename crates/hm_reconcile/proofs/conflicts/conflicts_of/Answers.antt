use Rattle.std.proofs.Common.{List, ◌++◌, [], ◌∷◌, map, sym, ap, subst, ◌∙◌, All}
use Rattle.std.proofs.lemmas.List.{map-append}
use Rattle.std.proofs.lemmas.List.Elements.{All-push}
use Rattle.hm_tree.specs.States.{Path}
use Rattle.hm_outcome.specs.Trios.{given, views}
use Rattle.hm_report.specs.declared.conflict.Conflict.{Conflict}
use Rattle.hm_reconcile.specs.Showing.{ShowsWherever}
use Rattle.hm_reconcile.proofs.conflicts.conflicts_of.Goals as goal

pub loop-path-preserved : goal.loop-path-preserved
loop-path-preserved c = record {
  paths =
      ap (map (λ (x : Conflict). x.path)) c.in_ok-push.ensures.items ∙ map-append (λ (x : Conflict). x.path) c.loop-path.conflicts.items (here ∷ [])
      ∙ ap (λ (paths : List Path). paths ++ c.in-Some.path ∷ []) c.loop-path.invariant.paths;
  each = subst (All shows) (sym c.in_ok-push.ensures.items)
      (All-push shows c.loop-path.conflicts.items here c.loop-path.invariant.each c.in_ok-why.ensures);
}
  where
    here : Conflict
    here = record { path = c.in-Some.path; why = c.in_ok-why.why }

    shows : Conflict → Type 0
    shows x = ShowsWherever (views (given c.args.archive.now c.args.left.now c.args.right.now)) x.path x.why
