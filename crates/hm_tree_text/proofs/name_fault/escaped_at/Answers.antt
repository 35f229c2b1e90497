use Rattle.std.proofs.Common.{length, ap, sym, ◌∙◌}
use Rattle.hm_tree_text.proofs.Sharing.{shared_whole, spelled_below}
use Rattle.hm_tree_text.proofs.name_fault.escaped_at.Goals as goal

pub returns-then-shared_spelling-length : goal.returns-then-shared_spelling-length
returns-then-shared_spelling-length c =
    let size = c.len-length.ensures.value ∙ ap length c.spell_byte.ensures in
    let whole = shared_whole _ _ (sym c.shared_spelling.ensures ∙ c.if-shared_spelling-length.true ∙ size) in
    (whole.0, size, whole.1)

pub loop-byte-preserved : goal.loop-byte-preserved
loop-byte-preserved c =
    let size = c.len-length.ensures.value ∙ ap length c.spell_byte.ensures in
    spelled_below _ _ c.loop-byte.invariant (λ is. c.if-shared_spelling-length.false (c.shared_spelling.ensures ∙ is ∙ sym size))
