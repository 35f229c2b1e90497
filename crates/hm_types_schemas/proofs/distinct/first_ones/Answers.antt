use Rattle.std.proofs.Common.{rules, ◌≡◌, ◌+◌, ◌<◌, ◌++◌, ◌∷◌, [], List, Vec, length, take, slice_get, Some, refl, sym, ap, subst, ◌∙◌}
use Rattle.std.specs.declared.alloc.Global.{Global}
use Rattle.std.proofs.lemmas.Option.{slice_get_read}
use Rattle.hm_schema.specs.declared.node.Shape.{Shape}
use Rattle.hm_types_rules.specs.Numbering.{IsDistinct, none_left}
use Rattle.hm_types_schemas.proofs.Shapes.{HasShapes, kept_new, kept_old, none_yet}
use Rattle.hm_types_schemas.proofs.distinct.first_ones.Goals.{then-branch+in_ok-copy+in_ok-push, else-branch}
use Rattle.hm_types_schemas.proofs.distinct.first_ones.Goals as goal

pub loop-shape-init : goal.loop-shape-init
loop-shape-init c = record {
  distinct = subst (λ kept. IsDistinct [] [] kept) (sym c.new-kept.ensures.items) none_left;
  seen = subst (HasShapes c.new-seen.result) (sym c.new-kept.ensures.items) (none_yet c.new-seen.result c.new-seen.ensures.empty);
}

abbrev items : Vec Shape Global → List Shape
items v = v.items

pub loop-shape-preserved : goal.loop-shape-preserved
loop-shape-preserved c =
    let shapes = c.args.shapes.now in
    let i = c.loop-shape.shape-index in
    let s = c.shape-item.result in
    let kept = c.loop-shape.kept.items in
    let lt : i < length shapes = search rules in
    let at : slice_get shapes i ≡ Some s = slice_get_read shapes _ i s refl lt c.shape-item.is in
    elim c.if-branch.branch [
      | then-branch+in_ok-copy+in_ok-push w ↦
          let after : c.if-branch.kept.items ≡ kept ++ s ∷ [] = ap items w.kept-is ∙ w.in_ok-push.ensures.items ∙ ap (λ (s : Shape). kept ++ s ∷ []) w.in_ok-copy.ensures in
          let is = kept_new shapes kept i s at c.loop-shape.seen c.loop-shape.invariant.distinct c.loop-shape.invariant.seen
          (sym w.if-branch.true ∙ c.in_ok-insert.ensures.added) c.insert.new.self
          (λ b. c.in_ok-insert.ensures.updates.0 (record { ref_ptr = c.args.shapes.ref_ptr; now = b })) in
          record {
            distinct = subst (λ kept. IsDistinct [] (take (i + 1) shapes) kept) (sym after) is.0;
            seen = subst (HasShapes c.insert.new.self) (sym after) is.1;
          }
      | else-branch w ↦
          let after : c.if-branch.kept.items ≡ kept = ap items w.kept-is in
          let same : c.insert.new.self.keys ≡ c.loop-shape.seen.keys = search rules in
          let is = kept_old shapes kept i s at c.loop-shape.seen c.loop-shape.invariant.distinct c.loop-shape.invariant.seen
          (sym w.if-branch.false ∙ c.in_ok-insert.ensures.added) c.insert.new.self same in
          record {
            distinct = subst (λ kept. IsDistinct [] (take (i + 1) shapes) kept) (sym after) is.0;
            seen = subst (HasShapes c.insert.new.self) (sym after) is.1;
          }
    ]
