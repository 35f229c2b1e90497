use Rattle.std.proofs.Common.{rules, ◌≡◌, refl, sym}
use Rattle.hm_schema.proofs.Lists.{all_next, all_done, none_is}
use Rattle.hm_schema.specs.declared.node.Shape.{Shape}
use Rattle.hm_schema_lists.specs.ListNodes.{empty_shape}
use Rattle.hm_types_views.proofs.listing.has_empty.Goals as goal

pub returns-then-is_empty : goal.returns-then-is_empty
returns-then-is_empty c = (
  λ _. (c.loop-shape.shape-index, c.shape-item.result, search rules, sym c.shape-item.is, c.is_empty.ensures.0 (search rules)),
  λ _. refl,
)

pub loop-shape-preserved : goal.loop-shape-preserved
loop-shape-preserved c = all_next (λ (a : Shape). ¬ (a ≡ empty_shape)) c.args.shapes.now _ _ (search rules) c.shape-item.is c.loop-shape.invariant
    (λ e. let t = c.is_empty.ensures.1 e in let f : ⊥ = cc in absurd f)

pub returns : goal.returns
returns c = (
  λ t. let f : ⊥ = cc in absurd f,
  λ any. absurd (none_is (λ (a : Shape). a ≡ empty_shape) c.args.shapes.now
      (all_done (λ (a : Shape). ¬ (a ≡ empty_shape)) c.args.shapes.now _ (search rules) c.loop-shape.invariant) any),
)
