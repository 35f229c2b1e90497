use Rattle.std.proofs.Common.{rules, ◌≡◌, ◌≢◌, true, IsTrue, All, Some, length, sym, subst, ◌∙◌}
use mathlib.Core.Bool.{true≢false}
use Rattle.std.proofs.lemmas.Option.{same_Some}
use Rattle.hm_schema.specs.declared.node.NodeId.{NodeId}
use Rattle.hm_schema.specs.declared.node.Shape.{Shape}
use Rattle.hm_schema.specs.Values.{NodeValue}
use Rattle.hm_schema_lists.specs.Values.{IsValueNode}
use Rattle.hm_types_table.specs.Tables.{seat}
use Rattle.hm_types_views.specs.Values.{bare_shape}
use Rattle.hm_types_table.proofs.Grown.{formed_at}
use Rattle.hm_types_views.proofs.ValueNode.{none_listed, other_inside}
use Rattle.hm_types_views.proofs.values.value_below.Goals.{then-not-is_empty-via-then-not-is_empty, then-not-is_empty-via-else-not-is_empty+then-not-all_bare}
use Rattle.hm_types_views.proofs.values.value_below.Goals as goal

pub returns-then-not-is_empty-clause-values : goal.returns-then-not-is_empty-clause-values
returns-then-not-is_empty-clause-values c n e i v =
    let k = c.at.result.0.now in
    let w = c.at.result.1.now in
    let here = subst (λ (n : NodeValue). IsValueNode c.args.class i n) (same_Some n (seat k w) (sym e ∙ c.at.ensures.node)) v in
    elim c.then-not-is_empty.branch [
      | then-not-is_empty-via-then-not-is_empty b ↦
          let size : length k.names.items ≡ 0 = none_listed k w.next.items c.at.ensures.count here.unlisted in
          let none : c.is_empty.result ≡ true = search rules in
          true≢false (sym none ∙ b.if-not-is_empty.true)
      | then-not-is_empty-via-else-not-is_empty+then-not-all_bare b ↦
          let all : IsTrue b.all_bare.result =
          b.all_bare.ensures.1 (subst (All (λ (a : Shape). a ≡ bare_shape 1)) (sym b.deref.ensures.value) here.shapes) in
          true≢false (sym all ∙ b.if-not-all_bare.true)
    ]

pub returns-clause-in_range : goal.returns-clause-in_range
returns-clause-in_range c =
    let n = seat c.at.result.0.now c.at.result.1.now in
    other_inside (length c.args.table.now) n c.args.class ((i : NodeId) → n.other ≢ Some (c.args.class, i)) c.below_class.result
    (formed_at c.args.table.now c.args.id n c.at.ensures.formed c.at.ensures.node) c.below_class.ensures
