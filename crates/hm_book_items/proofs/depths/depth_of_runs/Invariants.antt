use Rattle.std.proofs.Common.{drop}
use Rattle.hm_book_items.proofs.ListDepths.{AreLookedAt}
use Rattle.hm_book_items.proofs.depths.depth_of_runs.Given as goal

abbrev pub invariant-loop-at : goal.invariant-loop-at
invariant-loop-at g l = AreLookedAt g.D.Deep.deep (drop l.at l.items) l.deepest l.list
