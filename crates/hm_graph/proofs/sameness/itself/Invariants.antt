use Rattle.std.proofs.Common.{◌≡◌, ℕ, length}
use Rattle.hm_graph.specs.Forests.{up}
use Rattle.hm_graph.proofs.sameness.itself.Given as goal

abbrev pub invariant-loop-i : goal.invariant-loop-i
invariant-loop-i l = record {
  length : length l.parents.items ≡ l.i;
  itself : (k : ℕ) → up l.parents.items k ≡ k;
}
