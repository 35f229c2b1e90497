use Rattle.std.proofs.Common.{◌<◌, length, sym, subst}
use Rattle.hm_types_table.proofs.Rows.{kind_rises}
use Rattle.hm_types_table.proofs.seats.Seats.at.Goals as goal

pub returns-clause-ascending : goal.returns-clause-ascending
returns-clause-ascending c = kind_rises c.self.inside.kinds.items c.self.inside.vertices.items c.args.id c.index.result.now
    c.index-vertex.result.now c.self.invariant (subst (λ nodes. c.args.id.place < length nodes) (sym c.self.view_is) c.requires)
    c.index-vertex.ensures c.index.ensures
