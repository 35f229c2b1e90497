use Rattle.std.proofs.Common.{◌≡◌, ◌*◌, ◌-◌, length}
use Rattle.hm_terms_cycles.specs.CallSets.{IsSet}
use Rattle.hm_terms_cycles.proofs.Searches.{IsSearch}
use Rattle.hm_terms_cycles.proofs.ways.ways.Given as goal

abbrev pub invariant-loop-at : goal.invariant-loop-at
invariant-loop-at l = record {
  set : IsSet l.found;
  count : length l.found.marks.items ≡ length l.callees;
  search : IsSearch l.callees l.start l.at l.found.calls.items;
}

abbrev pub decreases-loop-at : goal.decreases-loop-at
decreases-loop-at l = 4 * length l.found.marks.items - l.at
