use Rattle.std.proofs.Common.{◌≡◌, subst, sym, rules}
use Rattle.std.specs.Ordering.{is_lt}
use Rattle.std.specs.List.{dedup}
use Rattle.std.specs.List.Sorted.{IsSorted}
use Rattle.std.proofs.lemmas.Fn.{dedup_same}
use Rattle.std.proofs.lemmas.List.Sorted.{ranks_by, answers_always}
use Rattle.hm_changes_alike.specs.Parents.{lent_paths, AreOnceEach}
use Rattle.hm_changes_alike.proofs.OnceEach.{lent_cmp, lent_total, tied, once_sorted}
use Rattle.hm_changes_alike.proofs.parents.once_each.Goals as goal

pub returns : goal.returns
returns c =
    let sorted : IsSorted lent_cmp c.sort_by.new.self.items =
    c.in_ok-sort_by.ensures.sorted (λ p q. is_lt (lent_cmp p q)) (ranks_by lent_total (λ p. p)) (answers_always _ _ _ (λ f a r f' called. search rules)) in
    let once : c.dedup_by.new.self.items ≡ dedup tied c.sort_by.new.self.items =
    dedup_same _ tied _ (λ x y b f' x' y' called. search rules) _ _ c.dedup_by.ensures.filtered in
    subst (λ l. AreOnceEach (lent_paths c.args.paths.items) (lent_paths l)) (sym once)
    (once_sorted c.args.paths.items c.sort_by.new.self.items c.in_ok-sort_by.ensures.permutation sorted)
