use Rattle.std.proofs.Common.{◌≡◌, ◌+◌, ◌<◌, length, refl, sym, ap, subst, ◌∙◌, arith, All}
use Rattle.std.proofs.lemmas.Option.{slice_get_within}
use Rattle.std.proofs.lemmas.Slice.Zip.{seconds-zip}
use Rattle.hm_schema.specs.declared.node.NodeId.{NodeId}
use Rattle.hm_schema.specs.WellFormed.{IsWellFormedNode}
use Rattle.hm_types_table.specs.Tables.{Nodes, seated}
use Rattle.hm_types_table.specs.Classes.{AreClassed, IsOutline, kind_label}
use Rattle.hm_types_table.proofs.Grown.{well_more}
use Rattle.hm_types_table.proofs.Classed.{seated_label, classes_inside}
use Rattle.hm_types_table.proofs.Added.{keeps_self, next_inside, after_outline, after_class, after_room, after_put}
use Rattle.hm_types_table.proofs.table.Table.add.Goals as goal

pub invariant_of-self : goal.invariant_of-self
invariant_of-self c =
    let new = c.outlined.new.self in
    after_outline c.self.inside.seats c.self.inside.annotations new new new c.self.invariant c.outlined.ensures.keeps (keeps_self new) (keeps_self new)

pub found-requires-clause-seen : goal.found-requires-clause-seen
found-requires-clause-seen c =
    let told = c.in_ok-seen.ensures.outline in
    slice_get_within c.outlined.new.self.outlines.items c.in_ok-seen.seen told.outline told.is

pub found-requires-clause-next : goal.found-requires-clause-next
found-requires-clause-next c =
    let count : length c.args.self.now ≡ length c.outlined.new.self.classes.items =
    sym (ap length c.outlined.ensures.keeps.classes ∙ c.self.invariant.classes_size ∙ ap length c.self.view_is) in
    let inside = next_inside (length c.args.self.now) c.args.kind c.args.next.items c.args.other c.requires.count c.requires.well.children in
    subst (λ l. All (λ (j : NodeId). j.place < length c.outlined.new.self.classes.items) l) (sym c.deref.ensures.value)
    (subst (λ n. All (λ (j : NodeId). j.place < n) c.args.next.items) count inside)

pub found-requires-clause-classes : goal.found-requires-clause-classes
found-requires-clause-classes c =
    let new = c.outlined.new.self in
    classes_inside c.self.inside.seats new
    (after_outline c.self.inside.seats c.self.inside.annotations new new new c.self.invariant c.outlined.ensures.keeps (keeps_self new) (keeps_self new))

pub invariant_of-self-in_err-class : goal.invariant_of-self-in_err-class
invariant_of-self-in_err-class c =
    let new = c.found.new.self in
    after_class c.self.inside.seats c.self.inside.annotations c.outlined.new.self new new c.self.invariant c.outlined.ensures.keeps c.found.ensures.keeps
    (keeps_self new)

pub invariant_of-self-in_err-room : goal.invariant_of-self-in_err-room
invariant_of-self-in_err-room c =
    after_room c.self.inside.seats c.self.inside.annotations c.outlined.new.self c.found.new.self c.room.new.self c.self.invariant
    c.outlined.ensures.keeps c.found.ensures.keeps c.room.ensures.keeps

pub invariant_of-self-in_err-id : goal.invariant_of-self-in_err-id
invariant_of-self-in_err-id c = subst (λ nodes. AreClassed nodes c.room.new.self) (sym c.in_err-id.ensures.err)
    (after_room c.self.inside.seats c.self.inside.annotations c.outlined.new.self c.found.new.self c.room.new.self c.self.invariant
    c.outlined.ensures.keeps c.found.ensures.keeps c.room.ensures.keeps)

pub invariant_of-self-2 : goal.invariant_of-self-2
invariant_of-self-2 c =
    let nodes = c.self.inside.seats in
    let k = c.args.kind in
    let next = c.args.next.items in
    let n = seated k next c.args.other in
    let told = c.in_ok-seen.ensures.outline in
    let label = seated_label k next c.args.other c.requires.count in
    let outline = subst (λ class. IsOutline c.outlined.new.self.numbers (kind_label k class) told.outline) c.class_of.ensures told.told in
    let well = subst (λ (nodes : Nodes). IsWellFormedNode (length nodes + 1) n) (sym c.self.view_is)
    (well_more (length c.args.self.now) (length c.args.self.now + 1) n (omega arith) c.requires.well) in
    let ends = seconds-zip k.names.items next c.requires.count in
    subst (λ nodes. AreClassed nodes c.put.new.self) (sym c.in_ok-id.ensures.node)
    (after_put nodes c.self.inside.annotations c.outlined.new.self c.found.new.self c.room.new.self c.self.invariant c.outlined.ensures.keeps
    c.found.ensures.keeps c.room.ensures.keeps n c.in_ok-seen.seen c.in_ok-class.class told.outline told.is
    (subst (λ l. IsOutline c.outlined.new.self.numbers l told.outline) (sym label) outline) c.put.new.self well c.deref.result.now c.args.other
    c.put.ensures.numbers c.put.ensures.outlines c.put.ensures.reduced c.put.ensures.seen c.put.ensures.classes
    (c.deref.ensures.value ∙ sym ends) refl c.in_ok-class.ensures.class)
