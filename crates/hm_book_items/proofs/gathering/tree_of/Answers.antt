use Rattle.std.proofs.Common.{◌≡◌, [], ◌∷◌, ◌++◌, subst, arith}
use Rattle.std.proofs.lemmas.Result.{IfOk-weaker}
use Rattle.hm_tree.specs.Names.{Name}
use Rattle.hm_book_items.specs.Runs.{runs}
use Rattle.hm_book_items.proofs.Lists.{edges_fit, made_lists}
use Rattle.hm_book_items.proofs.Made.{one_made, all_made}
use Rattle.hm_book_items.proofs.gathering.tree_of.Goals as goal

pub loop-name-preserved : goal.loop-name-preserved
loop-name-preserved c =
    one_made c.args.items.items c.loop-name.left.items c.pop.new.self.items (c.in-Some.name, c.in-Some.item) c.loop-name.edges.items c.take_list.new.edges.items
    c.push.new.self.items c.in_ok-list.list c.in_ok-put_first.field-0 c.loop-name.invariant c.in-Some.ensures.items c.in_ok-list.ensures c.in_ok-put_first.ensures
    (subst (λ (n : Name). c.push.new.self.items ≡ c.take_list.new.edges.items ++ (n, c.in_ok-put_first.field-0) ∷ []) c.name.view_is c.in_ok-push.ensures.items)

pub of_edges-requires : goal.of_edges-requires
of_edges-requires c =
    let stand = all_made c.args.items.items c.loop-name.left.items c.loop-name.edges.items c.reverse.new.self.items c.loop-name.invariant
    (omega (arith, c.loop-name.left.ok, c.in_default.ensures.cases.0)) c.reverse.ensures.items in
    edges_fit c.reverse.new.self.items (runs c.args.items.items) stand c.requires

pub returns : goal.returns
returns c =
    let stand = all_made c.args.items.items c.loop-name.left.items c.loop-name.edges.items c.reverse.new.self.items c.loop-name.invariant
    (omega (arith, c.loop-name.left.ok, c.in_default.ensures.cases.0)) c.reverse.ensures.items in
    IfOk-weaker c.of_edges.result _ _ (λ tree is. made_lists c.reverse.new.self.items (runs c.args.items.items) tree is stand c.requires) c.of_edges.ensures
