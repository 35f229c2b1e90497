use Rattle.std.proofs.Common.{rules, ◌≡◌, ap, sym}
use Rattle.hm_schema.proofs.Lists.{all_next, all_done, none_is}
use Rattle.hm_schema.specs.declared.node.Shape.{Shape}
use Rattle.hm_schema_lists.specs.ListNodes.{item_shape}
use Rattle.hm_types_views.proofs.ListRead.{part_names}
use Rattle.hm_types_views.proofs.listing.item_in.Goals as goal

pub returns-then-is_item-clause-there : goal.returns-then-is_item-clause-there
returns-then-is_item-clause-there c =
    (c.loop-shape.shape-index, c.shape-item.result, search rules, sym c.shape-item.is, c.is_item.ensures.0 (search rules))

pub returns-then-is_item-clause-names : goal.returns-then-is_item-clause-names
returns-then-is_item-clause-names c =
    let is : c.shape-item.result ≡ item_shape = c.is_item.ensures.0 (search rules) in
    part_names c.names.result.now c.shape-item.result.required c.names.ensures.ascending c.names.ensures.same (ap (λ (a : Shape). a.required) is)

pub loop-shape-preserved : goal.loop-shape-preserved
loop-shape-preserved c = all_next (λ (a : Shape). ¬ (a ≡ item_shape)) c.args.shapes.now _ _ (search rules) c.shape-item.is c.loop-shape.invariant
    (λ e. let t = c.is_item.ensures.1 e in let f : ⊥ = cc in absurd f)

pub returns-clause-there : goal.returns-clause-there
returns-clause-there c = λ any. none_is (λ (a : Shape). a ≡ item_shape) c.args.shapes.now
    (all_done (λ (a : Shape). ¬ (a ≡ item_shape)) c.args.shapes.now _ (search rules) c.loop-shape.invariant) any
