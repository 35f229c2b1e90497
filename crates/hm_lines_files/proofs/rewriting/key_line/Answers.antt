use Rattle.std.proofs.Common.{◌≡◌, ◌+◌, ℕ, List, length, Option, Some, None, ap, sym, subst}
use Rattle.std.specs.Prelude.{MatchOption}
use Rattle.hm_lines.specs.declared.content.LineParts.{LineParts}
use Rattle.hm_lines.specs.Content.{IsContentLine}
use Rattle.hm_lines.specs.Values.{escaped}
use Rattle.hm_lines.proofs.Laws as lines
use Rattle.hm_lines.proofs.Laws.{parted_once}
use Rattle.hm_lines_files.proofs.rewriting.key_line.Goals as goal

parts_are : (line : List ℕ) (o : Option LineParts) (parts : LineParts) → MatchOption o ((p : LineParts) → ¬ (IsContentLine line p)) (IsContentLine line)
    → IsContentLine line parts → o ≡ Some parts
parts_are line None parts none is = absurd (none parts is)
parts_are line (Some found) parts one is = ap Some (parted_once line found parts one is)

pub returns : goal.returns
returns c = λ name key word is.
    let parts : LineParts = record { name_from = 0; name_to = length name; value_from = length name + 1 } in
    let line = subst (λ (l : List ℕ). IsContentLine l parts) (sym is) (lines.new_line name (escaped key) word) in
    λ i. (is i, parts_are c.args.text.now c.parts.result parts c.parts.ensures.parts line i)
