use Rattle.std.proofs.Common.{◌+◌, false, ap, ◌∙◌, arith}
use Rattle.hm_types_rules.specs.Faults.{size_of}
use Rattle.hm_types_terms.specs.declared.part.Part.{Part}
use Rattle.hm_types_terms.specs.Courses.{lenses_in}
use Rattle.hm_types_terms.proofs.Standing.{part_in, part_is, room_in, stand_once}
use Rattle.hm_types_terms.proofs.numbers.behind.Goals as goal

pub bounds-course-number : goal.bounds-course-number
bounds-course-number c =
    part_in (lenses_in c.args.course.now) c.args.number c.requires.lens c.requires.stand c.args.course.now.parts.now c.requires.sized.parts

pub overflow_add-result : goal.overflow_add-result
overflow_add-result c =
    let part = part_is (lenses_in c.args.course.now) c.args.number c.requires.lens c.requires.stand c.args.course.now.parts.now c.requires.sized.parts (record { size = 0; copies = false }) in
    let size = ap (λ (p : Part). p.size) part in
    let room = room_in (lenses_in c.args.course.now) c.args.number c.requires.lens c.requires.stand in
    omega (arith, size, room, c.requires.sized.room)

pub returns : goal.returns
returns c l s =
    let all = lenses_in c.args.course.now in
    let part = part_is all c.args.number c.requires.lens c.requires.stand c.args.course.now.parts.now c.requires.sized.parts (record { size = 0; copies = false }) in
    ap (λ m. c.args.number + m) (ap (λ (p : Part). p.size) part ∙ ap size_of (stand_once all c.args.number c.requires.lens l c.requires.stand s))
