use Rattle.std.proofs.Common.{◌≡◌, ◌<◌, [], ◌∷◌, ◌++◌, get_or, refl, Some, None, ap, subst, sym, ◌∙◌, arith}
use Rattle.hm_book_items.specs.LentKeys.{lent_counts}
use Rattle.hm_book_items.specs.Plans.{wanted_of, IsPlaceUnder, AreCounts, place_for}
use Rattle.hm_book_items.proofs.Numbers.{none_read}
use Rattle.hm_book_items.proofs.Taking.{sorted_wanted, edge_in, place_in, tree_taken, trees_many, tree_is}
use Rattle.hm_book_items.proofs.new_trees.NewTrees.next.Goals as goal

pub next_place-requires-clause-sorted : goal.next_place-requires-clause-sorted
next_place-requires-clause-sorted c = sorted_wanted c.args.self.now c.requires.0 c.requires.1.0 c.requires.1.1 c.deref.result.now c.deref.ensures.value

pub index-requires : goal.index-requires
index-requires c =
    let lists = c.requires.0 in
    let h = c.requires.1.1 in
    let wanted : lent_counts c.deref.result.now ≡ wanted_of lists = ap lent_counts c.deref.ensures.value ∙ h.wanted_are in
    let there = subst (λ es. IsPlaceUnder es c.args.key.now c.in-Some.edge c.in-Some.place) wanted (rw c.in-Some.is at c.in_ok-edge.ensures.edge) in
    let edge = edge_in lists h.rise c.args.key.now c.in-Some.edge c.in-Some.place there in
    let place = place_in lists h.rise c.args.key.now c.in-Some.edge c.in-Some.place there in
    let many = trees_many c.args.self.now lists c.requires.1.0 h c.in-Some.edge edge c.index-self-edge.result c.index-self-edge.result c.index-self-edge.is in
    let long = c.index-self-edge.result.1.ok.0 in
    subst (λ l. c.in-Some.place < l.1.len) c.index-self-edge.is (omega (arith, place, many, long))

pub returns-in-Some-clause-taken : goal.returns-in-Some-clause-taken
returns-in-Some-clause-taken c = λ lists keys h.
    let wanted : lent_counts c.deref.result.now ≡ wanted_of lists = ap lent_counts c.deref.ensures.value ∙ h.wanted_are in
    record {
      lists_are = h.lists_are;
      rise = h.rise;
      wanted_are = h.wanted_are;
      counts_are = subst (λ es. AreCounts es (keys ++ c.args.key.now ∷ []) c.next_place.new.counts.items) wanted
          (c.in_ok-edge.ensures.counts keys (subst (λ es. AreCounts es keys c.args.self.now.counts.items) (sym wanted) h.counts_are));
    }

pub returns-in-Some-clause-tree : goal.returns-in-Some-clause-tree
returns-in-Some-clause-tree c = λ lists keys h.
    let wanted : lent_counts c.deref.result.now ≡ wanted_of lists = ap lent_counts c.deref.ensures.value ∙ h.wanted_are in
    let there = subst (λ es. IsPlaceUnder es c.args.key.now c.in-Some.edge c.in-Some.place) wanted (rw c.in-Some.is at c.in_ok-edge.ensures.edge) in
    let found : Some c.in-Some.place ≡ place_for (wanted_of lists) keys c.args.key.now =
    subst (λ es. Some c.in-Some.place ≡ place_for es keys c.args.key.now) wanted
    (rw c.in-Some.is at (c.in_ok-edge.ensures.place keys (subst (λ es. AreCounts es keys c.args.self.now.counts.items) (sym wanted) h.counts_are))) in
    let edge = edge_in lists h.rise c.args.key.now c.in-Some.edge c.in-Some.place there in
    let place = place_in lists h.rise c.args.key.now c.in-Some.edge c.in-Some.place there in
    tree_taken lists h.rise c.args.key.now c.in-Some.edge c.in-Some.place there keys found c.index.result.now.now
    (tree_is c.args.self.now lists keys h c.in-Some.edge edge c.index-self-edge.result (get_or c.args.self.now.lists.now c.in-Some.edge c.index-self-edge.result) refl c.in-Some.place c.index.result.now place c.index.ensures)

pub returns-in-None-clause-taken : goal.returns-in-None-clause-taken
returns-in-None-clause-taken c = λ lists keys h.
    let wanted : lent_counts c.deref.result.now ≡ wanted_of lists = ap lent_counts c.deref.ensures.value ∙ h.wanted_are in
    record {
      lists_are = h.lists_are;
      rise = h.rise;
      wanted_are = h.wanted_are;
      counts_are = subst (λ es. AreCounts es (keys ++ c.args.key.now ∷ []) c.next_place.new.counts.items) wanted
          (c.in_ok-edge.ensures.counts keys (subst (λ es. AreCounts es keys c.args.self.now.counts.items) (sym wanted) h.counts_are));
    }

pub returns-in-None-clause-tree : goal.returns-in-None-clause-tree
returns-in-None-clause-tree c = λ lists keys h.
    let wanted : lent_counts c.deref.result.now ≡ wanted_of lists = ap lent_counts c.deref.ensures.value ∙ h.wanted_are in
    sym (none_read c.args.key.now keys lists
    (subst (λ es. None ≡ place_for es keys c.args.key.now) wanted
    (rw c.in-None.is at (c.in_ok-edge.ensures.place keys (subst (λ es. AreCounts es keys c.args.self.now.counts.items) (sym wanted) h.counts_are)))))
