use Rattle.std.proofs.Common.{rules, ◌≡◌, All, Any, length, sym, subst, ◌∙◌}
use Rattle.hm_schema.specs.declared.node.Shape.{Shape}
use Rattle.hm_schema_lists.specs.ListNodes.{empty_shape}
use Rattle.hm_types_views.specs.Lists.{IsPart}
use Rattle.hm_types_table.proofs.Sets.{no_names}
use Rattle.hm_types_views.proofs.listing.is_list.Goals.{then-is_empty, else-is_empty}
use Rattle.hm_types_views.proofs.listing.is_list.Goals as goal

pub returns-then-all_parts : goal.returns-then-all_parts
returns-then-all_parts c = elim c.if-is_empty.branch [
  | then-is_empty w ↦
      let size : length c.args.kind.now.twins.items ≡ 0 = search rules in
      let all = subst (All IsPart) w.deref.ensures.value (w.all_parts.ensures.0 (sym w.value-is ∙ c.if-all_parts.true)) in
      let empty = c.has_empty.ensures in (
        λ t. record {
          plain = no_names c.args.kind.now.twins.items size;
          shapes = all;
          empty = subst (Any (λ (a : Shape). a ≡ empty_shape)) c.deref-then-all_parts.ensures.value (empty.0 t);
        },
        λ k. empty.1 (subst (Any (λ (a : Shape). a ≡ empty_shape)) (sym c.deref-then-all_parts.ensures.value) k.empty),
      )
  | else-is_empty w ↦ let f : ⊥ = cc in absurd f
]
