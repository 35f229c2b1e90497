use Rattle.std.proofs.Common.{length, ap, sym, ◌∙◌, eq-eqb}
use mathlib.Core.Bool.{true≢false}
use Rattle.hm_terms.specs.Programs.{lens_of}
use Rattle.hm_focal_terms.proofs.Terms.{more_text}
use Rattle.hm_focal_terms.proofs.reader.read_term.Goals as goal

pub returns-else-is_empty : goal.returns-else-is_empty
returns-else-is_empty c = (
  (λ over. true≢false (sym (c.is_oversized.ensures.1 over) ∙ c.if-is_oversized.false)),
  more_text _ (lens_of c.in-Some.term) c.in-Some.rest.now (rw c.in-Some.is at c.in_ok-term.ensures)
      (λ none. let t = eq-eqb (length c.in-Some.rest.now) 0 (ap length none) in true≢false (sym t ∙ sym c.is_empty.ensures ∙ c.if-is_empty.false)),
)
