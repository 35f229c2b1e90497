use Rattle.std.proofs.Common.{◌+◌, drop, refl, sym, ap, ◌∙◌}
use Rattle.hm_tree.specs.Archives.{Archive}
use Rattle.hm_tree.specs.States.{at_path}
use Rattle.hm_tree.proofs.Kept.{state_kept}
use Rattle.hm_tree.proofs.Paths.{archive_gone, archive_there, archive_mark, archive_down, archive_off}
use Rattle.hm_tree.proofs.archive.Archive.at.Goals as goal

pub returns-in-Missing : goal.returns-in-Missing
returns-in-Missing c = archive_gone c.args.self.now c.args.path.now (sym (state_kept _ _ _ c.self.view_is) ∙ c.in-Missing.is)

pub returns-in-Marked : goal.returns-in-Marked
returns-in-Marked c = (
  sym (
      ap (λ p. at_path c.args.self.now p) (sym (c.deref-name-items.ensures.value ∙ c.path.view_is))
      ∙ c.loop-name.invariant.0
      ∙ archive_mark c.loop-name.here.now c.deref-name-items.result.now c.loop-name.name-index c.name-item.result c.loop-name-test.true
      c.name-item.is (sym c.root.ensures ∙ c.in-Marked.is)),
  c.loop-name.invariant.1,
)

pub returns-in-None : goal.returns-in-None
returns-in-None c =
    ap (λ p. at_path c.args.self.now p) (sym (c.deref-name-items.ensures.value ∙ c.path.view_is))
    ∙ c.loop-name.invariant.0
    ∙ archive_off c.loop-name.here.now c.deref-name-items.result.now c.loop-name.name-index c.name-item.result c.loop-name-test.true
    c.name-item.is (λ m. c.in_default-root.not-Marked (c.root.ensures ∙ m)) c.in-None.ensures

pub loop-name-init : goal.loop-name-init
loop-name-init c = (refl, archive_there c.args.self.now (λ m. c.in_default.not-Missing (state_kept _ _ _ c.self.view_is ∙ m)))

pub loop-name-preserved : goal.loop-name-preserved
loop-name-preserved c =
    let child = c.in-Some.ensures in (
      c.loop-name.invariant.0
          ∙ archive_down c.loop-name.here.now c.deref-name-items.result.now c.loop-name.name-index c.name-item.result c.loop-name-test.true
          c.name-item.is (λ m. c.in_default-root.not-Marked (c.root.ensures ∙ m))
          ∙ ap (λ (o : Archive). at_path o (drop (c.loop-name.name-index + 1) c.deref-name-items.result.now)) (sym child.0),
      child.1,
    )
