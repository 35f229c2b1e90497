use Rattle.std.proofs.Common.{drop}
use Rattle.hm_tree.specs.Names.{Name}
use Rattle.hm_terms.specs.Lenses.{lens_at}
use Rattle.hm_terms.specs.Programs.{lenses_of}
use Rattle.hm_eval_terms.specs.Children.{AreChildrenBy}
use Rattle.hm_eval_terms.proofs.children.with_named.Given as goal

abbrev pub invariant-loop-at : goal.invariant-loop-at
invariant-loop-at l = AreChildrenBy (λ (n : Name). lens_at n (lenses_of (drop l.at l.terms))) l.fn.tree l.children.items
