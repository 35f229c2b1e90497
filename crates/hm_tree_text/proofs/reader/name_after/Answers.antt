use Rattle.hm_tree_text.proofs.Reached.{no_name, not_false, after_same}
use Rattle.hm_tree_text.proofs.reader.name_after.Goals as goal

pub returns-else-is_after : goal.returns-else-is_after
returns-else-is_after c =
    let found = rw c.in-Some.is at c.in_ok-name.ensures in
    no_name _ _ c.in-Some.name c.in-Some.length found.2 (λ after. not_false (c.if-is_after.ensures.1 (after_same _ _ _ c.text.ensures.value after)))
