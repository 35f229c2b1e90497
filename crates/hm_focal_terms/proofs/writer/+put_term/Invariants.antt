use Rattle.std.proofs.Common.{◌≡◌, ◌++◌, drop, []}
use Rattle.hm_terms.specs.Programs.{lenses_of}
use Rattle.hm_focal_terms.proofs.Writing.{left_text}
use Rattle.hm_focal_terms.proofs.writer.+put_term.Given as goal

abbrev pub invariant-loop-term : goal.invariant-loop-term
invariant-loop-term l =
    l.text.items ++ left_text l.separator (lenses_of (drop l.term-index l.term-items)) ≡ l.initial.text.items ++ left_text [] (lenses_of l.term-items)
