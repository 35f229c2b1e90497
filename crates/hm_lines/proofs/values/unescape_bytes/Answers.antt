use Rattle.std.proofs.Common.{◌∙◌, ◌++◌, sym, ap}
use Rattle.hm_lines.specs.Values.{backslash}
use Rattle.hm_lines.proofs.Escapes.{no_backslash}
use Rattle.hm_lines.proofs.Found.{none_found}
use Rattle.hm_lines.proofs.values.unescape_bytes.Goals as goal

pub returns : goal.returns
returns c =
    c.in_ok-extend_from_slice.ensures.items
    ∙ ap (λ l. c.loop-at.text.items ++ l) (sym (no_backslash c.loop-at.rest.now (none_found backslash c.loop-at.rest.now c.in_default.ensures)))
    ∙ c.loop-at.invariant
