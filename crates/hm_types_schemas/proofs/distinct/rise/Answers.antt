use Rattle.std.proofs.Common.{rules, ◌≡◌, ◌<◌, ◌≤◌, ◌-◌, length, slice_get, Some, refl, arith}
use Rattle.std.proofs.lemmas.Option.{slice_get_read}
use Rattle.hm_types_schemas.proofs.RisingShapes.{rise_more, rise_all}
use Rattle.hm_types_schemas.proofs.distinct.rise.Goals as goal

pub loop-place-preserved : goal.loop-place-preserved
loop-place-preserved c =
    let shapes = c.args.shapes.now in
    let p = c.loop-place.place in
    let lt : p < length shapes = search rules in
    let one : 1 ≤ p = c.loop-place.invariant.begun in
    let before : p - 1 < length shapes = omega (arith, lt, one) in
    let x = c.index-shapes-place.result in
    let y = c.index-shapes-place-in-loop-place.result in
    let at_x : slice_get shapes (p - 1) ≡ Some x = slice_get_read shapes _ (p - 1) x refl before c.index-shapes-place.is in
    let at_y : slice_get shapes p ≡ Some y = slice_get_read shapes _ p y refl lt c.index-shapes-place-in-loop-place.is in
    record {
      begun = omega (arith, one);
      rise = rise_more shapes p x y at_x at_y one (c.is_less.ensures c.if-not-is_less.false) c.loop-place.invariant.rise;
    }

pub returns : goal.returns
returns c t = rise_all c.args.shapes.now c.loop-place.place (search rules) c.loop-place.invariant.rise
