use Rattle.std.proofs.Common.{◌≡◌, map, All}
use Rattle.hm_outcome.specs.Trios.{given, views}
use Rattle.hm_reconcile.specs.Showing.{ShowsWherever}
use Rattle.hm_reconcile.proofs.conflicts.conflicts_of.Given as goal

abbrev pub invariant-loop-path : goal.invariant-loop-path
invariant-loop-path l = record {
  paths : map (λ c. c.path) l.conflicts.items ≡ l.yielded;
  each : All (λ c. ShowsWherever (views (given l.archive l.left l.right)) c.path c.why) l.conflicts.items;
}
