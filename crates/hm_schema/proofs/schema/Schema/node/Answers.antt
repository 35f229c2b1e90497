use Rattle.std.proofs.Common.{subst}
use Rattle.hm_schema.specs.WellFormed.{IsWellFormed}
use Rattle.hm_schema.proofs.References.{node_kept, well_formed_at}
use Rattle.hm_schema.proofs.schema.Schema.node.Goals as goal

pub returns-clause-well_formed : goal.returns-clause-well_formed
returns-clause-well_formed c =
    let at = node_kept _ _ _ c.args.id _ c.self.view_is c.requires c.index.ensures in
    well_formed_at _ _ _ (subst IsWellFormed c.self.view_is c.self.invariant.formed) at
