use Rattle.std.proofs.Common.{None, sym, subst, ◌≡◌, ◌∙◌, slice_get, List}
use Rattle.hm_lines_cards.specs.Lines.{texts_of}
use Rattle.hm_lines_cards.specs.Lent.{lent}
use Rattle.hm_lines_cards.specs.declared.line.Line.{Line}
use Rattle.hm_lines_files.specs.Lent.{component_of}
use Rattle.hm_lines_files.proofs.Pieces.{keyless}
use Rattle.hm_lines_files.proofs.items.item.Goals as goal

pub returns-in-None : goal.returns-in-None
returns-in-None c =
    keyless c.args.key.now (component_of c.args.component.now)
    (subst (λ (ls : List Line). None ≡ slice_get (texts_of c.args.key.now (lent ls)) 0) c.deref.ensures.value (sym c.in-None.is ∙ c.in_ok-key.ensures))
