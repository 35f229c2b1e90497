use Rattle.std.proofs.Common.{◌+◌, length, slice_get, refl, sym, ap, subst, ◌∙◌, arith}
use Rattle.std.proofs.lemmas.Option.{same_Some, slice_get_within}
use Rattle.std.proofs.lemmas.Slice.Zip.{seconds-zip}
use Rattle.hm_schema.specs.WellFormed.{IsWellFormedNode}
use Rattle.hm_types_table.specs.declared.outline.Outline.{Outline}
use Rattle.hm_types_table.specs.Tables.{Nodes, AreFormed, keys, replaced}
use Rattle.hm_types_table.specs.Classes.{AreClassed, IsOutline}
use Rattle.hm_types_table.proofs.Grown.{well_more, formed_at}
use Rattle.hm_types_table.proofs.Keys.{keys_size}
use Rattle.hm_types_table.proofs.Replaced.{replaced_well}
use Rattle.hm_types_table.proofs.Classed.{standing_size, classes_inside}
use Rattle.hm_types_table.proofs.Added.{keeps_self, outline_there, replaced_label, after_class, after_room, after_put}
use Rattle.hm_types_table.proofs.table.Table.add_like.Goals as goal

pub found-requires-clause-seen : goal.found-requires-clause-seen
found-requires-clause-seen c =
    let s = c.self.inside.annotations in
    let like = ap (λ (nodes : Nodes). slice_get nodes c.args.id.place) c.self.view_is ∙ c.requires.is in
    let told = outline_there c.self.inside.seats s c.args.id.place c.requires.node c.index-seen.result.now _ c.self.invariant like c.index-seen.ensures in
    slice_get_within s.outlines.items c.index-seen.result.now told.outline told.is

pub found-requires-clause-count : goal.found-requires-clause-count
found-requires-clause-count c o at =
    let s = c.self.inside.annotations in
    let like = ap (λ (nodes : Nodes). slice_get nodes c.args.id.place) c.self.view_is ∙ c.requires.is in
    let told = outline_there c.self.inside.seats s c.args.id.place c.requires.node c.index-seen.result.now _ c.self.invariant like c.index-seen.ensures in
    ap (λ (o : Outline). length o.standing.items) (same_Some o told.outline (sym at ∙ told.is))
    ∙ standing_size s.numbers c.requires.node told.outline told.told ∙ sym c.requires.count ∙ sym (ap length c.deref.ensures.value)

pub found-requires-clause-classes : goal.found-requires-clause-classes
found-requires-clause-classes c = classes_inside c.self.inside.seats c.self.inside.annotations c.self.invariant

pub invariant_of-self : goal.invariant_of-self
invariant_of-self c =
    let old = c.self.inside.annotations in
    let new = c.found.new.self in
    after_class c.self.inside.seats old old new new c.self.invariant (keeps_self old) c.found.ensures.keeps (keeps_self new)

pub invariant_of-self-in_err-room : goal.invariant_of-self-in_err-room
invariant_of-self-in_err-room c =
    let old = c.self.inside.annotations in
    after_room c.self.inside.seats old old c.found.new.self c.room.new.self c.self.invariant (keeps_self old) c.found.ensures.keeps c.room.ensures.keeps

pub invariant_of-self-in_err-id : goal.invariant_of-self-in_err-id
invariant_of-self-in_err-id c =
    let old = c.self.inside.annotations in
    subst (λ nodes. AreClassed nodes c.room.new.self) (sym c.in_err-id.ensures.err)
    (after_room c.self.inside.seats old old c.found.new.self c.room.new.self c.self.invariant (keeps_self old) c.found.ensures.keeps c.room.ensures.keeps)

pub invariant_of-self-2 : goal.invariant_of-self-2
invariant_of-self-2 c =
    let nodes = c.self.inside.seats in
    let old = c.self.inside.annotations in
    let next = c.args.next.items in
    let m = c.requires.node in
    let n = replaced m next c.args.other in
    let like = ap (λ (nodes : Nodes). slice_get nodes c.args.id.place) c.self.view_is ∙ c.requires.is in
    let told = outline_there nodes old c.args.id.place m c.index-seen.result.now _ c.self.invariant like c.index-seen.ensures in
    let label = replaced_label c.args.self.now m next c.args.other c.requires.count c.requires.other in
    let formed = subst AreFormed c.self.view_is c.self.invariant.formed in
    let well = replaced_well c.args.self.now m next c.args.other (formed_at c.args.self.now c.args.id m formed c.requires.is) c.requires.count
    c.requires.next c.requires.other in
    let more = subst (λ (nodes : Nodes). IsWellFormedNode (length nodes + 1) n) (sym c.self.view_is)
    (well_more (length c.args.self.now) (length c.args.self.now + 1) n (omega arith) well) in
    let ends = seconds-zip (keys m.children) next (c.requires.count ∙ sym (keys_size m.children)) in
    subst (λ nodes. AreClassed nodes c.put.new.self) (sym (c.in_ok-id.ensures.node m like))
    (after_put nodes old old c.found.new.self c.room.new.self c.self.invariant (keeps_self old) c.found.ensures.keeps c.room.ensures.keeps n
    c.index-seen.result.now c.in_ok-class.class told.outline told.is (subst (λ l. IsOutline old.numbers l told.outline) (sym label) told.told)
    c.put.new.self more c.deref.result.now c.args.other c.put.ensures.numbers c.put.ensures.outlines c.put.ensures.reduced c.put.ensures.seen
    c.put.ensures.classes (c.deref.ensures.value ∙ sym ends) refl c.in_ok-class.ensures.class)
