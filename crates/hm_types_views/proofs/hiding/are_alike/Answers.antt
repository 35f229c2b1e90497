use Rattle.std.proofs.Common.{sym, subst, ◌∙◌}
use Rattle.std.proofs.lemmas.Option.{same_Some}
use Rattle.hm_types_views.specs.Hiding.{StandForSame}
use Rattle.hm_types_views.proofs.hiding.are_alike.Goals as goal

pub returns-in-Some-Some : goal.returns-in-Some-Some
returns-in-Some-Some c =
    let nodes = c.args.table.now in
    let one = c.in-Some-Some.one in
    let two = c.in-Some-Some.two in (
      λ t i j e f. subst (λ i. StandForSame nodes i j) (same_Some one i (sym c.in-Some-Some.is-0 ∙ e))
          (subst (StandForSame nodes one) (same_Some two j (sym c.in-Some-Some.is-1 ∙ f)) (c.same.ensures.0 t)),
      λ h. c.same.ensures.1 (h one two c.in-Some-Some.is-0 c.in-Some-Some.is-1),
    )
