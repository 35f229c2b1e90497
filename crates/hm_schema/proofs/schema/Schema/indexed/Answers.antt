use Rattle.std.proofs.Common.{List, All, T, sym, subst}
use Rattle.std.specs.FinMap.{is_sorted}
use Rattle.hm_tree.specs.Names.{name_cmp}
use Rattle.hm_schema.specs.declared.node.Node.{Node}
use Rattle.hm_schema.proofs.References.{each_sorted}
use Rattle.hm_schema.proofs.schema.Schema.indexed.Goals as goal

pub indexes_of-requires : goal.indexes_of-requires
indexes_of-requires c =
    subst (λ (l : List Node). All (λ n. T (is_sorted name_cmp n.children.items)) l) (sym c.deref.ensures.value)
    (each_sorted c.self.inside.nodes.items c.self.inside.root c.self.invariant.formed)
