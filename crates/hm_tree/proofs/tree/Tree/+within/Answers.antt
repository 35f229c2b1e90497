use Rattle.std.proofs.Common.{Some, refl, sym, ◌∙◌, subst, arith, rules}
use mathlib.Core.Bool.{false≢true}
use Rattle.std.specs.List.{All}
use Rattle.std.proofs.lemmas.List.{take_all}
use Rattle.hm_tree.specs.Nodes.{edges}
use Rattle.hm_tree.specs.Archives.{Archive}
use Rattle.hm_tree.specs.States.{IsWithin}
use Rattle.hm_tree.proofs.Presence.{IsEdgeWithin, within_root, within_edge, within_gone, within_more, within_all}
use Rattle.hm_tree.proofs.tree.Tree.+within.Goals as goal

pub returns-in_default : goal.returns-in_default
returns-in_default t c = (λ f. absurd (false≢true f), λ all. absurd (c.in_default.not-Present (c.root.ensures ∙ within_root _ _ all)))

pub returns-in_default-child_near : goal.returns-in_default-child_near
returns-in_default-child_near t c = (
  λ f. absurd (false≢true f),
  λ all. absurd (within_gone _ _ c.loop-place.place c.edge.result.0.now c.edge.result.1.now c.edge.ensures c.in_default-child_near.ensures all),
)

pub returns-then-not-within : goal.returns-then-not-within
returns-then-not-within t c = (
  λ f. absurd (false≢true f),
  λ all. let here = within_edge c.args.self.now c.args.archive.now c.loop-place.place c.edge.result.0.now c.edge.result.1.now c.edge.ensures all in
      let yes = c.within.ensures.1 (subst (λ (a : Archive). IsWithin (Some c.edge.result.1.now) a) (sym c.in-Some.ensures.0) here) in
      search rules,
)

pub loop-place-preserved : goal.loop-place-preserved
loop-place-preserved t c =
    let yes = c.within.ensures.0 (search rules) in
    within_more c.args.self.now c.args.archive.now c.loop-place.place c.edge.result.0.now c.edge.result.1.now c.edge.ensures
    c.loop-place.invariant (subst (λ (a : Archive). IsWithin (Some c.edge.result.1.now) a) c.in-Some.ensures.0 yes)

pub returns : goal.returns
returns t c =
    let all = take_all c.loop-place.place (edges c.args.self.now) (omega (arith, c.count-place-end.ensures)) in (
      λ _. within_all c.args.self.now c.args.archive.now (search rules)
          (subst (All (IsEdgeWithin c.args.archive.now)) all c.loop-place.invariant),
      λ _. refl,
    )
