use Rattle.std.proofs.Common.{sym, subst}
use Rattle.hm_tree.specs.Names.{Name}
use Rattle.hm_marks.specs.Among.{IsAmong}
use Rattle.hm_marks.specs.FolderTrees.{IsLinkTree}
use Rattle.hm_json_nodes.proofs.seeking.lacks_spelled.Goals as goal

pub returns : goal.returns
returns c = λ lacking t tree among.
    c.lacks_link.ensures lacking t (subst (λ (a : Name). IsLinkTree a t) (sym c.in_ok-address.ensures.value) tree)
    (subst (λ (k : Name). IsAmong k c.args.tree.now t) (sym c.in_ok-key.ensures.value) among)
