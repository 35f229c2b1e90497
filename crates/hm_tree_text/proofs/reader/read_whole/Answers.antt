use Rattle.std.proofs.Common.{refl}
use Rattle.hm_tree_text.proofs.Reached.{not_false, if_ok, if_err}
use Rattle.hm_tree_text.proofs.Whole.{whole_mark, whole_fails_here, whole_empty, whole_read, whole_fails}
use Rattle.hm_tree_text.proofs.reader.read_whole.Goals as goal

pub returns-in-Some-clause-text : goal.returns-in-Some-clause-text
returns-in-Some-clause-text g c = whole_mark _ _ _ c.in-Some.ensures.0 c.in-Some.ensures.1 c.in-Some.ensures.2

pub returns-then-not-is_at-clause-fault : goal.returns-then-not-is_at-clause-fault
returns-then-not-is_at-clause-fault g c = whole_fails_here _ _ (λ r e. not_false (c.if-not-is_at.ensures.only r e)) c.in_default.ensures

pub returns-then-is_at-clause-text : goal.returns-then-is_at-clause-text
returns-then-is_at-clause-text g c = whole_empty _ _ (c.if-not-is_at.ensures.there refl) _ c.empty.ensures (c.if-is_at.ensures.there refl)

pub returns-clause-text : goal.returns-clause-text
returns-clause-text g c = if_ok _ _ c.read_inside.result (λ read h. whole_read _ _ (c.if-not-is_at.ensures.there refl) _ _ h)
    c.read_inside.ensures.text

pub returns-clause-fault : goal.returns-clause-fault
returns-clause-fault g c = if_err _ _ c.read_inside.result
    (λ fault h. whole_fails _ _ (c.if-not-is_at.ensures.there refl) (λ r e. not_false (c.if-is_at.ensures.only r e)) fault h)
    c.read_inside.ensures.fault
