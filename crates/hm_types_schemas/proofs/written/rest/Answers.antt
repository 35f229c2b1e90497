use Rattle.std.proofs.Common.{◌<◌, length, Option, IfSome, sym, subst}
use Rattle.hm_tree.specs.declared.class.Class.{Class}
use Rattle.hm_schema.specs.declared.node.NodeId.{NodeId}
use Rattle.hm_types_table.proofs.Grown.{formed_at}
use Rattle.hm_types_schemas.proofs.Places.{there}
use Rattle.hm_types_schemas.proofs.written.rest.Goals as goal

pub number_of-requires : goal.number_of-requires
number_of-requires c =
    let nodes = c.args.table.now in
    let n = there nodes c.args.id.place c.requires.in_range in
    let w = formed_at nodes c.args.id n.0 c.requires.formed n.1 in
    let lt : c.in-Some.other.1.place < length nodes =
    subst (λ (o : Option (Class × NodeId)). IfSome o (λ o. o.1.place < length nodes)) (sym (c.in-Some.ensures n.0 n.1)) w.other in
    subst (λ k. c.in-Some.other.1.place < k) (sym c.requires.size) lt
