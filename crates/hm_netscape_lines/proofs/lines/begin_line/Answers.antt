use Rattle.std.proofs.Common.{◌++◌, ◌∷◌, [], ap, ◌∙◌, append_assoc}
use Rattle.hm_marks_tokens.specs.Lines.{indent}
use Rattle.hm_netscape_lines.proofs.Trimmed.{indent_more}
use Rattle.hm_netscape_lines.proofs.lines.begin_line.Goals as goal

pub loop-preserved : goal.loop-preserved
loop-preserved c =
    let spaces = 32 ∷ 32 ∷ 32 ∷ 32 ∷ [] in
    c.in_ok-extend_from_slice.ensures.items ∙ ap (λ l. l ++ spaces) c.loop.invariant ∙ append_assoc c.args.out.now.items (indent c.loop.counter) spaces
    ∙ ap (λ l. c.args.out.now.items ++ l) (indent_more c.loop.counter)
