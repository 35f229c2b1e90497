use Rattle.std.proofs.Common.{◌≡◌, ◌++◌, not, take, map, filter}
use Rattle.std.specs.FinSet.{contains}
use Rattle.hm_tree.specs.Names.{Name}
use Rattle.hm_tree.specs.Nodes.{Tree}
use Rattle.hm_lines_cards.specs.Rewriting.{new_line}
use Rattle.hm_lines_cards.specs.Lent.{all_bytes, plain}
use Rattle.hm_lines_cards.proofs.rewriting.append_others.Given as goal

abbrev pub invariant-loop-text : goal.invariant-loop-text
invariant-loop-text l =
    all_bytes l.new.items ≡ all_bytes l.initial.new.items
    ++ plain (map (new_line l.name) (filter (λ k. not (contains l.old k)) (map (λ (e : Name × Tree). e.0) (take l.text-index l.texts))))
