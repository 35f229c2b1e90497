use Rattle.std.proofs.Common.{◌+◌, sym, ap, subst, refl, ◌∙◌}
use Rattle.std.specs.Prelude.{All}
use Rattle.hm_lines_files.specs.Components.{components_of, HasKey, items_of}
use Rattle.hm_lines_files.specs.Reading.{IsFirstKeyless}
use Rattle.hm_lines_files.specs.Lent.{component_of, pieces_of, piece_of}
use Rattle.hm_lines_files.proofs.Pieces.{item_more, keyed_more, keyless_here, none_more}
use Rattle.hm_lines_files.proofs.items.items.Goals.{in-Item+in_ok-item+in-Some+in_ok-push-in-Some, in_default}
use Rattle.hm_lines_files.proofs.items.items.Goals as goal

pub returns-in-None-clause-keyless : goal.returns-in-None-clause-keyless
returns-in-None-clause-keyless c =
    let found = rw c.in-None.is at c.in_ok-item.ensures in
    subst (λ n. IsFirstKeyless c.args.key.now (components_of (pieces_of c.args.pieces.now)) (n + 1)) (sym (c.len.ensures ∙ c.loop-place.items.ok.0))
    (keyless_here c.args.pieces.now c.loop-place.place c.index-pieces-place.result c.loop-place-test.true c.index-pieces-place.is
    (component_of c.in-Item.component) (ap piece_of c.in-Item.is) c.args.key.now c.args.shown.now c.loop-place.items.items
    c.loop-place.invariant.are c.loop-place.invariant.keyed found)

pub loop-place-preserved : goal.loop-place-preserved
loop-place-preserved c = elim c.match-pieces-place.branch [
  | in-Item+in_ok-item+in-Some+in_ok-push-in-Some w ↦
      (let piece = c.index-pieces-place.result in
      let component = component_of w.in-Item.component in
      let found = rw w.in-Some.is at w.in_ok-item.ensures in
      record {
        are = ap (λ v. v.items) w.items-is ∙ item_more c.args.pieces.now c.loop-place.place piece c.loop-place-test.true c.index-pieces-place.is component
            (ap piece_of w.in-Item.is) c.args.key.now c.args.shown.now c.loop-place.items.items w.push.new.self.items w.in-Some.item c.loop-place.invariant.are found
            w.in_ok-push-in-Some.ensures.items;
        keyed = keyed_more c.args.pieces.now c.loop-place.place piece c.loop-place-test.true c.index-pieces-place.is component (ap piece_of w.in-Item.is)
            c.args.key.now c.args.shown.now c.loop-place.invariant.keyed found.0;
      })
  | in_default w ↦
      (let piece = c.index-pieces-place.result in
      let same = none_more c.args.pieces.now c.loop-place.place piece c.loop-place-test.true c.index-pieces-place.is
      (piece_of piece) w.in_default.field-0.now (ap piece_of w.in_default.is) refl in
      record {
        are = ap (λ v. v.items) w.items-is ∙ c.loop-place.invariant.are ∙ ap (items_of c.args.key.now c.args.shown.now) (sym same);
        keyed = subst (All (HasKey c.args.key.now)) (sym same) c.loop-place.invariant.keyed;
      })
]
