use Rattle.std.proofs.Common.{rules}
use Rattle.hm_schema.proofs.References.{index_kept}
use Rattle.hm_schema.proofs.schema.Schema.index.Goals as goal

pub returns-in-Some : goal.returns-in-Some
returns-in-Some c n here =
    index_kept c.self.inside.nodes.items c.self.inside.root c.self.inside.indexes.items c.args.self.now c.args.id c.index.result.now c.in-Some.index
    c.self.invariant c.self.view_is (search rules) c.index.ensures c.in-Some.is n here
