use Rattle.std.proofs.Common.{◌∙◌, get_or, drop, refl, arith}
use Rattle.hm_book_items.proofs.Plans.{read_at}
use Rattle.hm_book_items.proofs.Taking.{as_many, length-wanted, left_are}
use Rattle.hm_book_items.proofs.new_trees.NewTrees.left.Goals as goal

pub returns : goal.returns
returns c = λ lists keys h.
    let w = c.requires.within in
    let n = as_many c.args.self.now lists keys h in
    let m = length-wanted lists in
    let s = h.counts_are.same in
    let list = get_or c.args.self.now.lists.now c.args.edge c.index-self-edge.result in
    left_are c.args.self.now lists keys h c.args.edge (omega (arith, n, w)) c.index-self-edge.result list refl c.index.result.now c.len.result c.split_at.result.1.now
    (read_at c.args.self.now.counts.items c.args.edge c.index.result.now 0 (omega (arith, w, n, m, s)) c.index.ensures) (c.len.ensures ∙ list.1.ok.0)
    (c.split_at.ensures.back ∙ (λ i. drop (c.min.ensures i) (c.deref.ensures.value i)))
