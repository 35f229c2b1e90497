use Rattle.std.proofs.Common.{rules}
use Rattle.std.proofs.lemmas.List.Sorted.{ranks_by, answers_always}
use Rattle.hm_tree.specs.Names.{Name}
use Rattle.hm_tree.proofs.Sorted.{name_total}
use Rattle.hm_book_items.proofs.Sorting.{is_below, of_key_stable}
use Rattle.hm_book_items.proofs.gathering.by_key.Goals as goal

pub returns-clause-rise : goal.returns-clause-rise
returns-clause-rise g c =
    c.in_ok-sort_by.ensures.sorted is_below (ranks_by name_total (λ (x : Name × g.row.D.Denot). x.0)) (answers_always _ _ _ (λ f a r f' called. search rules))

pub returns-clause-each : goal.returns-clause-each
returns-clause-each g c =
    of_key_stable c.args.items.items c.sort_by.new.self.items
    (c.in_ok-sort_by.ensures.stable is_below (ranks_by name_total (λ (x : Name × g.row.D.Denot). x.0))
    (answers_always _ _ _ (λ f a r f' called. search rules)))
