use Rattle.std.proofs.Common.{◌≡◌, drop, map}
use Rattle.hm_tree.specs.Names.{Name}
use Rattle.hm_tree.specs.Nodes.{Tree}
use Rattle.hm_lines_cards.specs.Lines.{texts_of}
use Rattle.hm_lines_cards.specs.Lent.{lent}
use Rattle.hm_lines_cards.proofs.rewriting.show_just.Given as goal

-- what is left are the texts of all lines if they are those of the lines that are left
abbrev pub invariant-loop-line : goal.invariant-loop-line
invariant-loop-line l =
    texts_of l.name (lent (drop l.line-index l.lines)) ≡ map (λ (e : Name × Tree). e.0) l.left
    → texts_of l.name (lent l.lines) ≡ map (λ (e : Name × Tree). e.0) l.texts
