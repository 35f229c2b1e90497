use Rattle.std.proofs.Common.{◌++◌, sym, ap, ◌∙◌}
use Rattle.std.specs.List.{filter}
use Rattle.std.proofs.lemmas.List.{append-nil, drop_all}
use Rattle.hm_tree.specs.Cleaned.{is_kept}
use Rattle.hm_tree.proofs.LineEnds.{line_ends, cleaned-line_ends}
use Rattle.hm_tree.proofs.cleaning.clean_bytes.Goals as goal

pub returns : goal.returns
returns c =
    sym (append-nil c.loop-byte.kept.items)
    ∙ ap (λ l. c.loop-byte.kept.items ++ filter is_kept (line_ends c.loop-byte.behind_return l))
    (sym (drop_all c.loop-byte.byte-index c.args.bytes.now c.loop-byte-test.false))
    ∙ c.loop-byte.invariant
    ∙ sym (cleaned-line_ends c.args.bytes.now)
