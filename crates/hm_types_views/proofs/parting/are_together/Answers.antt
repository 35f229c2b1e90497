use Rattle.std.proofs.Common.{rules, refl, sym, ◌∙◌}
use Rattle.hm_schema.proofs.Lists.{all_next, all_done}
use Rattle.hm_types_views.specs.Conditions.{IsTogether}
use Rattle.hm_types_table.proofs.Sets.{agree}
use Rattle.hm_types_views.proofs.parting.are_together.Goals as goal

pub loop-twin-preserved : goal.loop-twin-preserved
loop-twin-preserved c = all_next (IsTogether c.args.names.now) c.args.twins.now _ _ (search rules) c.twin-item.is c.loop-twin.invariant
    (sym c.has.ensures ∙ agree c.has.result c.has-in-loop-twin.result c.if-has.false ∙ c.has-in-loop-twin.ensures)

pub returns : goal.returns
returns c = (λ _. all_done (IsTogether c.args.names.now) c.args.twins.now _ (search rules) c.loop-twin.invariant, λ _. refl)
