use Rattle.std.proofs.Common.{rules, ◌≡◌, false, refl, sym, ◌∙◌}
use Rattle.hm_schema.proofs.Lists.{all_next, all_done}
use Rattle.hm_schema.specs.declared.node.Shape.{Shape}
use Rattle.hm_schema.specs.Tidied.{has_name}
use Rattle.hm_types_views.proofs.merging.all_lack.Goals as goal

pub loop-shape-preserved : goal.loop-shape-preserved
loop-shape-preserved c = all_next (λ (b : Shape). has_name b c.args.name.now ≡ false) c.args.shapes.now _ _ (search rules) c.shape-item.is
    c.loop-shape.invariant (sym c.has.ensures ∙ c.if-has.false)

pub returns : goal.returns
returns c = (λ _. all_done (λ (b : Shape). has_name b c.args.name.now ≡ false) c.args.shapes.now _ (search rules) c.loop-shape.invariant, λ _. refl)
