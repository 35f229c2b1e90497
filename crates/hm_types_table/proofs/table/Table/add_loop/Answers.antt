use Rattle.std.proofs.Common.{◌≡◌, ◌+◌, ◌∷◌, [], None, length, refl, sym, ap, subst, ◌∙◌}
use Rattle.std.proofs.lemmas.Option.{slice_get_within}
use Rattle.std.proofs.lemmas.Slice.Zip.{seconds-zip}
use Rattle.hm_schema.specs.declared.node.NodeId.{NodeId}
use Rattle.hm_schema.specs.WellFormed.{IsWellFormedNode}
use Rattle.hm_types_table.specs.Tables.{Nodes, seated}
use Rattle.hm_types_table.specs.Classes.{AreClassed, IsOutline}
use Rattle.hm_types_table.proofs.Classed.{seated_label, classes_inside}
use Rattle.hm_types_table.proofs.Added.{keeps_self, two_stand, after_outline, after_class, after_room, after_put}
use Rattle.hm_types_table.proofs.table.Table.add_loop.Goals as goal

pub invariant_of-self : goal.invariant_of-self
invariant_of-self c =
    let new = c.outlined.new.self in
    after_outline c.self.inside.seats c.self.inside.annotations new new new c.self.invariant c.outlined.ensures.keeps (keeps_self new) (keeps_self new)

pub found_loop-requires-clause-seen : goal.found_loop-requires-clause-seen
found_loop-requires-clause-seen c =
    let told = c.in_ok-seen.ensures.outline in
    slice_get_within c.outlined.new.self.outlines.items c.in_ok-seen.seen told.outline told.is

pub found_loop-requires-clause-classes : goal.found_loop-requires-clause-classes
found_loop-requires-clause-classes c =
    let new = c.outlined.new.self in
    classes_inside c.self.inside.seats new
    (after_outline c.self.inside.seats c.self.inside.annotations new new new c.self.invariant c.outlined.ensures.keeps (keeps_self new) (keeps_self new))

pub invariant_of-self-in_err-class : goal.invariant_of-self-in_err-class
invariant_of-self-in_err-class c =
    let new = c.found_loop.new.self in
    after_class c.self.inside.seats c.self.inside.annotations c.outlined.new.self new new c.self.invariant c.outlined.ensures.keeps
    c.found_loop.ensures.keeps (keeps_self new)

pub invariant_of-self-in_err-room : goal.invariant_of-self-in_err-room
invariant_of-self-in_err-room c =
    after_room c.self.inside.seats c.self.inside.annotations c.outlined.new.self c.found_loop.new.self c.room.new.self c.self.invariant
    c.outlined.ensures.keeps c.found_loop.ensures.keeps c.room.ensures.keeps

pub add-requires-clause-well : goal.add-requires-clause-well
add-requires-clause-well c =
    let j : NodeId = record { place = c.count.result } in
    let at : c.count.result ≡ length c.args.self.now = c.count.ensures.count ∙ ap length c.self.view_is in
    subst (λ l. IsWellFormedNode (length c.self.inside.seats + 1) (seated c.args.kind l None)) (sym c.in_ok-next.ensures.items)
    (subst (λ (nodes : Nodes). IsWellFormedNode (length nodes + 1) (seated c.args.kind (c.args.first ∷ j ∷ []) None)) (sym c.self.view_is)
    (c.requires.well j at))

pub invariant_of-self-in_err-id : goal.invariant_of-self-in_err-id
invariant_of-self-in_err-id c = subst (λ nodes. AreClassed nodes c.room.new.self) (sym c.in_err-id.ensures.err)
    (after_room c.self.inside.seats c.self.inside.annotations c.outlined.new.self c.found_loop.new.self c.room.new.self c.self.invariant
    c.outlined.ensures.keeps c.found_loop.ensures.keeps c.room.ensures.keeps)

pub invariant_of-self-2 : goal.invariant_of-self-2
invariant_of-self-2 c =
    let nodes = c.self.inside.seats in
    let k = c.args.kind in
    let next = c.in_ok-next.next.items in
    let j : NodeId = record { place = c.count.result } in
    let n = seated k next None in
    let told = c.in_ok-seen.ensures.outline in
    let count : length next ≡ length k.names.items = ap length c.in_ok-next.ensures.items ∙ sym c.requires.names in
    let label = seated_label k next None count in
    let at : c.count.result ≡ length c.args.self.now = c.count.ensures.count ∙ ap length c.self.view_is in
    let last : c.count.result ≡ length c.outlined.new.self.classes.items =
    c.count.ensures.count ∙ sym (ap length c.outlined.ensures.keeps.classes ∙ c.self.invariant.classes_size) in
    let well = subst (λ l. IsWellFormedNode (length nodes + 1) (seated k l None)) (sym c.in_ok-next.ensures.items)
    (subst (λ (nodes : Nodes). IsWellFormedNode (length nodes + 1) (seated k (c.args.first ∷ j ∷ []) None)) (sym c.self.view_is)
    (c.requires.well j at)) in
    let stand = two_stand c.outlined.new.self.numbers k None told.outline told.told c.requires.names c.requires.stand in
    subst (λ nodes. AreClassed nodes c.put.new.self) (sym c.in_ok-id.ensures.node)
    (after_put nodes c.self.inside.annotations c.outlined.new.self c.found_loop.new.self c.room.new.self c.self.invariant c.outlined.ensures.keeps
    c.found_loop.ensures.keeps c.room.ensures.keeps n c.in_ok-seen.seen c.in_ok-class.class told.outline told.is
    (subst (λ l. IsOutline c.outlined.new.self.numbers l told.outline) (sym label) told.told) c.put.new.self well (c.args.first ∷ j ∷ []) None
    c.put.ensures.numbers c.put.ensures.outlines c.put.ensures.reduced c.put.ensures.seen c.put.ensures.classes
    (sym c.in_ok-next.ensures.items ∙ sym (seconds-zip k.names.items next count)) refl
    (c.in_ok-class.ensures.class j last told.outline told.is stand))
