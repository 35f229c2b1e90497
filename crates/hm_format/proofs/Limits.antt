-- Trees that are over the limit of depth, and those that aren't.
use Rattle.std.proofs.Common.{◌≡◌, ◌≤◌, nat_lt, Some, None, refl, arith}
use Rattle.std.proofs.lemmas.Bool.{cond_both}
use Rattle.std.proofs.lemmas.Bool.Decides.{nat_tests}
use Rattle.hm_tree.specs.Nodes.{Tree, depth}
use Rattle.hm_format.specs.Formats.{deepest, depth_over}

pub shallow : (t : Tree) → depth_over t ≡ None → depth t ≤ deepest
shallow t = cond_both (nat_lt deepest (depth t)) (Some (depth t)) None (λ o. o ≡ None → depth t ≤ deepest)
    (λ is e. let no : ⊥ = cc in absurd no) (λ not _. grind (arith, nat_tests))

pub not_over : (t : Tree) → depth t ≤ deepest → depth_over t ≡ None
not_over t le = cond_both (nat_lt deepest (depth t)) (Some (depth t)) None (λ o. o ≡ None) (λ is. absurd (grind (arith, nat_tests))) (λ not. refl)
