use Rattle.std.proofs.Common.{◌≡◌, ◌++◌, List, map, length, ◌+◌}
use Rattle.hm_changes.specs.declared.change.Change.{Change}
use Rattle.hm_changes.specs.Changes.{from}
use Rattle.hm_changes.proofs.Depths.{height, edges_in}
use Rattle.hm_changes.proofs.Listing.{AreListed}
use Rattle.hm_changes.proofs.walk.+append_changes.Given as goal

abbrev pub decreases-append_changes : goal.decreases-append_changes
decreases-append_changes l = height l.old

abbrev pub decreases-loop-taken : goal.decreases-loop-taken
decreases-loop-taken l = length l.olds + length l.news

abbrev pub invariant-loop-taken : goal.invariant-loop-taken
invariant-loop-taken l = record {
  same_path : l.here.items ≡ l.fn.here.items;
  listed : (found : List Change) × (l.changes.items ≡ l.fn.changes.items ++ map (from (map (λ n. n.now) l.fn.here.items)) found)
      × AreListed (edges_in l.fn.old) (edges_in l.fn.new) l.olds l.news found;
}
