use Rattle.std.proofs.Common.{sym}
use Rattle.hm_csv_columns.proofs.SameNames.{differ_edges}
use Rattle.hm_csv_columns.proofs.staying.same_names.Goals as goal

pub returns-then-names-edges : goal.returns-then-names-edges
returns-then-names-edges c = sym (differ_edges c.args.names.now c.args.edges.now c.if-names-edges.true)
