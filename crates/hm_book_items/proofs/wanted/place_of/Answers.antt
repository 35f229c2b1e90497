use Rattle.std.proofs.Common.{rules, ℕ, sym, subst}
use Rattle.std.specs.Borrow.{Bor}
use Rattle.std.specs.List.Sorted.{IsSearchInRange}
use Rattle.std.proofs.lemmas.Fn.{always_returns_same}
use Rattle.hm_tree.specs.Names.{Name, name_cmp}
use Rattle.hm_tree.proofs.Sorted.{searched}
use Rattle.hm_book_items.specs.LentKeys.{lent_counts}
use Rattle.hm_book_items.proofs.LentKeys.{found_among, lent_length}
use Rattle.hm_book_items.proofs.wanted.place_of.Goals as goal

pub returns : goal.returns
returns c =
    let facts = c.binary_search_by.ensures in
    let key = c.args.key.now in
    let by_name = facts.position (λ e. name_cmp e.0.now key) (always_returns_same _ _ _ (λ a r h called. search rules)) in
    let among = found_among (λ (e : Bor Name × ℕ). (e.0.now, e.1)) (λ (e : Name × ℕ). name_cmp e.0 key) c.args.wanted.now c.binary_search_by.result facts.bound by_name in
    searched key (lent_counts c.args.wanted.now) c.requires c.binary_search_by.result
    (subst (IsSearchInRange c.binary_search_by.result) (sym (lent_length c.args.wanted.now)) facts.bound) among
