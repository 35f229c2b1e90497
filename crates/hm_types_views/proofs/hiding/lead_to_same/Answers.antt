use Rattle.std.proofs.Common.{◌↔◌, IsTrue, subst}
use Rattle.std.specs.FinMap.{find}
use Rattle.hm_tree.specs.Names.{name_cmp}
use Rattle.hm_types_views.specs.Hiding.{LeadToSame}
use Rattle.hm_types_table.specs.Tables.{seat}
use Rattle.hm_types_views.proofs.OneName.{child_in_range}
use Rattle.hm_types_views.proofs.hiding.lead_to_same.Goals as goal

pub are_alike-requires-clause-one : goal.are_alike-requires-clause-one
are_alike-requires-clause-one c =
    let n = seat c.at.result.0.now c.at.result.1.now in
    child_in_range c.args.table.now c.at.ensures.formed c.args.id n c.at.ensures.node c.args.first.now c.child.result
    (c.child.ensures n c.at.ensures.node)

pub are_alike-requires-clause-two : goal.are_alike-requires-clause-two
are_alike-requires-clause-two c =
    let n = seat c.at.result.0.now c.at.result.1.now in
    child_in_range c.args.table.now c.at.ensures.formed c.args.id n c.at.ensures.node c.args.second.now c.child-2.result
    (c.child-2.ensures n c.at.ensures.node)

pub returns : goal.returns
returns c n e =
    subst (λ x. IsTrue c.are_alike.result ↔ LeadToSame c.args.table.now x (find name_cmp c.args.second.now n.children)) (c.child.ensures n e)
    (subst (λ y. IsTrue c.are_alike.result ↔ LeadToSame c.args.table.now c.child.result y) (c.child-2.ensures n e) c.are_alike.ensures)
