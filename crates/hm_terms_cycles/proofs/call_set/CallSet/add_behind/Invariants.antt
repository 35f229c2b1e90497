use Rattle.std.proofs.Common.{◌≡◌, length, take}
use Rattle.hm_terms_cycles.specs.CallSets.{IsSet, Adds, BehindOne}
use Rattle.hm_terms_cycles.proofs.call_set.CallSet.add_behind.Given as goal

abbrev pub invariant-loop-call : goal.invariant-loop-call
invariant-loop-call l = record {
  set : IsSet l.self;
  adds : Adds (BehindOne l.way (take l.call-index l.calls)) l.initial.self.calls.items l.self.calls.items;
  count : length l.self.marks.items ≡ length l.initial.self.marks.items;
}
