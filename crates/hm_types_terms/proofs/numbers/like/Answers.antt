use Rattle.std.proofs.Common.{◌<◌, ◌-◌, length, arith}
use Rattle.std.proofs.lemmas.Option.{slice_get_within, slice_get-get_or}
use Rattle.hm_types_terms.specs.Courses.{lenses_in}
use Rattle.hm_types_terms.proofs.Standing.{here}
use Rattle.hm_types_terms.proofs.numbers.like.Goals as goal

pub bounds-course-number : goal.bounds-course-number
bounds-course-number c =
    let all = lenses_in c.args.course.now in
    omega (arith, slice_get_within all _ c.requires.lens (here all c.args.number c.requires.lens c.requires.stand), c.requires.sized.count)

pub returns : goal.returns
returns c l s =
    let all = lenses_in c.args.course.now in
    let lt : c.args.number - 1 < length c.args.course.now.alike.now = omega (arith, slice_get_within all _ c.requires.lens (here all c.args.number c.requires.lens c.requires.stand), c.requires.sized.count) in
    c.requires.sized.alike.each (c.args.number - 1) _ (slice_get-get_or c.args.course.now.alike.now (c.args.number - 1) 0 lt) l (here all c.args.number l s)
