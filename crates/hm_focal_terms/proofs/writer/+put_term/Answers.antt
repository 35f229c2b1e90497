use Rattle.std.proofs.Common.{◌++◌, codes, refl, ap, ◌∙◌}
use Rattle.hm_tree_spelling.specs.Spelling.{spelled}
use Rattle.hm_terms.specs.Programs.{lens_of}
use Rattle.hm_focal_terms.specs.Written.{front_text, term_text}
use Rattle.hm_focal_terms.proofs.Writing.{pair_put, pairs_put}
use Rattle.hm_focal_terms.proofs.writer.+put_term.Goals as goal
use Rattle.hm_facts.proofs.Results.{on_ok}

pub loop-term-init : goal.loop-term-init
loop-term-init t c = refl

pub loop-term-preserved : goal.loop-term-preserved
loop-term-preserved t c =
    pair_put c.loop-term.text.items c.loop-term.separator.now c.put_front.new.text.items c.deref-term-items.result.now c.loop-term.term-index
    c.loop-term-test.true c.term-item.result c.term-item.is c.loop-term.invariant c.put_term-in-loop-term.new.text.items
    (c.in_ok-put_term-in-Each.ensures ∙ ap (λ x. x ++ term_text (lens_of c.term-item.result.1))
    (c.in_ok-put_edge-in-Each.ensures ∙ ap (λ x. x ++ (spelled c.term-item.result.0 ++ codes "=")) c.in_ok-put-in-Each.ensures))

pub returns-after-loop-term : goal.returns-after-loop-term
returns-after-loop-term t c =
    rw c.in-Each.is (on_ok _ _ c.put-in-Each.result
    (λ n. pairs_put c.loop-term.text.items c.loop-term.separator.now c.put_front.new.text.items c.args.text.now.items c.in-Each.terms
    c.deref-term-items.result.now c.loop-term.term-index c.loop-term-test.false c.loop-term.invariant c.deref-term-items.ensures.value
    (c.in_ok-put_front.ensures ∙ ap (λ z. c.args.text.now.items ++ front_text (lens_of z)) c.in-Each.is) c.put-in-Each.new.text.items n) c.put-in-Each.ensures)
