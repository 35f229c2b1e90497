use Rattle.std.proofs.Common.{◌↔◌, false, IsTrue, sym, subst, ◌∙◌}
use Rattle.hm_tree.specs.States.{Path, state}
use Rattle.hm_safety.specs.Safety.{IsTopmostMark}
use Rattle.hm_certify.proofs.MarksAlong.{on_mark, on_down}
use Rattle.hm_certify.proofs.marks.is_topmost.Goals as goal

pub returns-in-Marked : goal.returns-in-Marked
returns-in-Marked c =
    subst (λ (p : Path). IsTrue false ↔ IsTopmostMark (state c.args.archive.now) p) (c.deref-name-items.ensures.value ∙ c.path.view_is)
    (on_mark c.args.archive.now c.loop-name.here.now c.deref-name-items.result.now c.loop-name.name-index c.loop-name.invariant
    c.name-item.result c.loop-name-test.true c.name-item.is (sym c.root.ensures ∙ c.in-Marked.is))

pub loop-name-preserved : goal.loop-name-preserved
loop-name-preserved c =
    on_down c.args.archive.now c.loop-name.here.now c.deref-name-items.result.now c.loop-name.name-index c.loop-name.invariant
    c.name-item.result c.loop-name-test.true c.name-item.is (λ m. c.in_default.not-Marked (c.root.ensures ∙ m)) c.in-Some.child.now
    c.in-Some.ensures.0
