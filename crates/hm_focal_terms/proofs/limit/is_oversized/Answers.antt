use Rattle.std.proofs.Common.{◌+◌, ◌&&◌, refl, ap, ◌∙◌, arith}
use Rattle.std.proofs.lemmas.Bool.{ltb-true, lt-ltb}
use Rattle.hm_focal_terms.specs.Limits.{is_outside}
use Rattle.hm_focal_terms.proofs.Limits.{one_if, as_bit, too_many, counted_more, all_counted, none_counted}
use Rattle.hm_focal_terms.proofs.limit.is_oversized.Goals as goal

pub loop-byte-init : goal.loop-byte-init
loop-byte-init c = none_counted _

pub returns-then-closed-opened : goal.returns-then-closed-opened
returns-then-closed-opened c =
    let place = c.loop-byte.place in
    let over = too_many c.args.text.now c.loop-byte.byte-index place c.loop-byte.opened c.loop-byte.closed c.loop-byte.semicolons
    c.loop-byte.invariant c.loop-byte-test.true _ _ _
    (ap (λ n. c.loop-byte.opened + n)
    (c.from-opened.ensures ∙ as_bit _ ∙ ap one_if (c.counts.ensures ∙ ap (λ t. is_outside c.loop-byte.place && t) c.is_opening.ensures)))
    (ap (λ n. c.loop-byte.closed + n)
    (c.from-closed.ensures ∙ as_bit _ ∙ ap one_if (c.counts-in-loop-byte.ensures ∙ ap (λ t. is_outside c.loop-byte.place && t) c.is_closing.ensures)))
    (ap (λ n. c.loop-byte.semicolons + n) (c.from-semicolons.ensures ∙ as_bit _ ∙ ap one_if c.counts-in-loop-byte-2.ensures))
    c.if-closed-opened.true in
    ((λ yes. over), (λ d. refl))

pub loop-byte-preserved : goal.loop-byte-preserved
loop-byte-preserved c =
    rw c.behind-place.ensures
    (counted_more c.args.text.now c.loop-byte.byte-index c.loop-byte.place c.loop-byte.opened c.loop-byte.closed c.loop-byte.semicolons
    c.loop-byte.invariant c.loop-byte-test.true _ _ _
    (ap (λ n. c.loop-byte.opened + n)
    (c.from-opened.ensures ∙ as_bit _ ∙ ap one_if (c.counts.ensures ∙ ap (λ t. is_outside c.loop-byte.place && t) c.is_opening.ensures)))
    (ap (λ n. c.loop-byte.closed + n)
    (c.from-closed.ensures ∙ as_bit _ ∙ ap one_if (c.counts-in-loop-byte.ensures ∙ ap (λ t. is_outside c.loop-byte.place && t) c.is_closing.ensures)))
    (ap (λ n. c.loop-byte.semicolons + n) (c.from-semicolons.ensures ∙ as_bit _ ∙ ap one_if c.counts-in-loop-byte-2.ensures))
    (λ more. absurd (omega (arith, c.if-closed-opened.false))))

pub returns : goal.returns
returns c =
    all_counted _ _ _ _ _ _ c.loop-byte.invariant c.loop-byte-test.false _
    ((λ t. ltb-true 1999 c.loop-byte.semicolons t), (λ l. lt-ltb 1999 c.loop-byte.semicolons l))
