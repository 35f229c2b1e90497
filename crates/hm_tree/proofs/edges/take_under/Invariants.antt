use Rattle.std.proofs.Common.{◌≡◌, T, length}
use Rattle.std.specs.FinMap.{is_sorted, find}
use Rattle.std.specs.declared.cmp.Ordering.TheVariants.{Less}
use Rattle.hm_tree.specs.Names.{Name, name_cmp}
use Rattle.hm_tree.proofs.edges.take_under.Given as goal

abbrev pub invariant-loop-first : goal.invariant-loop-first
invariant-loop-first g l = record {
  sorted : T (is_sorted name_cmp l.rest.items);
  same : find name_cmp l.name l.rest.items ≡ find name_cmp l.name l.initial.rest.items;
  later : (k : Name) → name_cmp l.name k ≡ Less → find name_cmp k l.rest.items ≡ find name_cmp k l.initial.rest.items;
}

abbrev pub decreases-loop-first : goal.decreases-loop-first
decreases-loop-first g l = length l.rest.items
