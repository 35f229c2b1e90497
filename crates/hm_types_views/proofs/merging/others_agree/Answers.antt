use Rattle.std.proofs.Common.{◌≡◌, sym, subst, ◌∙◌}
use mathlib.Core.Bool.{true≢false}
use Rattle.std.proofs.lemmas.Option.{same_Some}
use Rattle.hm_tree.specs.declared.class.Class.{Class}
use Rattle.hm_schema.specs.declared.node.NodeId.{NodeId}
use Rattle.hm_types_views.specs.Hiding.{StandForSame}
use Rattle.hm_types_views.proofs.merging.others_agree.Goals as goal

pub returns-then-same_class : goal.returns-then-same_class
returns-then-same_class c =
    let nodes = c.args.table.now in
    let one = c.in-Some-Some.one in
    let two = c.in-Some-Some.two in
    let classes : one.0 ≡ two.0 = c.same_class.ensures.0 c.if-same_class.true in (
      λ t x y e f.
          let first : one ≡ x = same_Some one x (sym c.in-Some-Some.is-0 ∙ e) in
          let second : two ≡ y = same_Some two y (sym c.in-Some-Some.is-1 ∙ f) in
          subst (λ (x : Class × NodeId). (x.0 ≡ y.0) × StandForSame nodes x.1 y.1) first
          (subst (λ (y : Class × NodeId). (one.0 ≡ y.0) × StandForSame nodes one.1 y.1) second (classes, c.same.ensures.0 t)),
      λ h. c.same.ensures.1 (h one two c.in-Some-Some.is-0 c.in-Some-Some.is-1).1,
    )

pub returns-else-same_class : goal.returns-else-same_class
returns-else-same_class c = (
  λ t. absurd (true≢false (sym t ∙ c.if-same_class.false)),
  λ h. c.same_class.ensures.1 (h c.in-Some-Some.one c.in-Some-Some.two c.in-Some-Some.is-0 c.in-Some-Some.is-1).0,
)
