use Rattle.std.proofs.Common.{◌≡◌, ◌∷◌, ◌++◌, take}
use Rattle.std.specs.Prelude.{flat_map}
use Rattle.hm_tree_spelling.specs.Spelling.{spelled}
use Rattle.hm_tree_spelling.proofs.spelling.append_steps.Given as goal

abbrev pub invariant-loop-name : goal.invariant-loop-name
invariant-loop-name l = l.out.items ≡ l.initial.out.items ++ flat_map (λ n. 47 ∷ spelled n) (take l.name-index l.name-items)
