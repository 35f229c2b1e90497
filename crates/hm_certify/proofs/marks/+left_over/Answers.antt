use Rattle.std.proofs.Common.{sym, ◌+◌, ◌∙◌, arith}
use Rattle.hm_certify.proofs.MarksCounted.{one_at_mark, passed_more, passed_all, passed_some}
use Rattle.hm_certify.proofs.marks.+left_over.Goals as goal

pub returns-then-number-eq0 : goal.returns-then-number-eq0
returns-then-number-eq0 t c = let one = one_at_mark c.args.archive.now (sym c.root.ensures ∙ c.in-Marked.is) in omega arith

pub returns-else-number-eq0 : goal.returns-else-number-eq0
returns-else-number-eq0 t c = let one = one_at_mark c.args.archive.now (sym c.root.ensures ∙ c.in-Marked.is) in omega arith

pub returns-in-None : goal.returns-in-None
returns-in-None t c =
    let more = passed_more c.args.archive.now c.loop-place.place _ _ c.edge.ensures in
    let some = passed_some c.args.archive.now (c.loop-place.place + 1) (λ m. c.in_default.not-Marked (c.root.ensures ∙ m)) in
    omega (arith, c.loop-place.invariant, c.in-None.ensures)

pub loop-place-preserved : goal.loop-place-preserved
loop-place-preserved t c =
    let more = passed_more c.args.archive.now c.loop-place.place _ _ c.edge.ensures in
    omega (arith, c.loop-place.invariant, c.in-Some.ensures)

pub returns : goal.returns
returns t c =
    let all = passed_all c.args.archive.now c.loop-place.place (omega (arith, c.count-place-end.ensures))
    (λ m. c.in_default.not-Marked (c.root.ensures ∙ m)) in
    omega (arith, c.loop-place.invariant)
