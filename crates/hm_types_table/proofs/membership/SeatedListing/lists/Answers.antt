use Rattle.std.proofs.Common.{sym, subst, ◌∙◌}
use Rattle.std.specs.List.{zip}
use Rattle.std.specs.List.Sorted.{IsStrictlySortedBy}
use Rattle.std.proofs.lemmas.Slice.Zip.{firsts-zip}
use Rattle.hm_tree.specs.Names.{name_cmp}
use Rattle.hm_types_table.proofs.Keys.{rising}
use Rattle.hm_types_table.proofs.membership.SeatedListing.lists.Goals as goal

pub beside-requires-clause-rises : goal.beside-requires-clause-rises
beside-requires-clause-rises c =
    let ks = c.args.self.now.kind.now.names.items in
    let js = c.args.self.now.vertex.now.next.items in
    subst (IsStrictlySortedBy name_cmp) (firsts-zip ks js c.args.self.now.count ∙ sym c.deref.ensures.value) (rising (zip ks js) c.requires)
