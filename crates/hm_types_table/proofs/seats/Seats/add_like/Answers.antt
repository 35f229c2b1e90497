use Rattle.std.proofs.Common.{refl, sym, ap, subst, ◌∙◌}
use Rattle.hm_types_table.specs.declared.vertex.Vertex.{Vertex}
use Rattle.hm_types_table.specs.Tables.{rows, IsTable}
use Rattle.hm_types_table.proofs.Replaced.{table_replaced, rows_replaced}
use Rattle.hm_types_table.proofs.seats.Seats.add_like.Goals as goal

pub invariant_of-self-2 : goal.invariant_of-self-2
invariant_of-self-2 c =
    let v : Vertex = record { kind = c.index.result.now.kind; next = c.args.next; other = c.args.other } in
    subst (IsTable c.self.inside.kinds.items) (sym c.in_ok-push.ensures.items)
    (table_replaced c.self.inside.kinds.items c.self.inside.vertices.items c.args.self.now c.args.id c.index.result.now v c.self.invariant
    c.self.view_is c.requires c.index.ensures refl)

pub returns-clause-node : goal.returns-clause-node
returns-clause-node c n e =
    let v : Vertex = record { kind = c.index.result.now.kind; next = c.args.next; other = c.args.other } in
    ap (rows c.self.inside.kinds.items) c.in_ok-push.ensures.items
    ∙ rows_replaced c.self.inside.kinds.items c.self.inside.vertices.items c.args.self.now c.args.id c.index.result.now v c.self.invariant
    c.self.view_is c.requires c.index.ensures refl n e

pub returns-clause-formed : goal.returns-clause-formed
returns-clause-formed c = (invariant_of-self-2 c).formed
