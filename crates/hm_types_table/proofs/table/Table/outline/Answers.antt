use Rattle.std.proofs.Common.{◌<◌, length, slice_get, ap, ◌∙◌, arith}
use Rattle.std.proofs.lemmas.Option.{slice_get_within, get_or_from_slice_get}
use Rattle.hm_types_table.specs.declared.outline.Outline.{Outline}
use Rattle.hm_types_table.specs.Tables.{Nodes}
use Rattle.hm_types_table.proofs.Places.{there}
use Rattle.hm_types_table.proofs.Classed.{standing_is}
use Rattle.hm_types_table.proofs.Added.{outline_there}
use Rattle.hm_types_table.proofs.table.Table.outline.Goals as goal

pub index-requires-2 : goal.index-requires-2
index-requires-2 c =
    let s = c.self.inside.annotations in
    let n = there c.args.self.now c.args.id.place c.requires in
    let at = ap (λ (nodes : Nodes). slice_get nodes c.args.id.place) c.self.view_is ∙ n.1 in
    let told = outline_there c.self.inside.seats s c.args.id.place n.0 c.index.result.now _ c.self.invariant at c.index.ensures in
    let within : c.index.result.now < length s.outlines.items = slice_get_within s.outlines.items c.index.result.now told.outline told.is in
    omega (arith, within, s.outlines.ok.0)

pub returns-clause-lets_in : goal.returns-clause-lets_in
returns-clause-lets_in c n e =
    let s = c.self.inside.annotations in
    let at = ap (λ (nodes : Nodes). slice_get nodes c.args.id.place) c.self.view_is ∙ e in
    let told = outline_there c.self.inside.seats s c.args.id.place n c.index.result.now _ c.self.invariant at c.index.ensures in
    let is = c.index-2.ensures ∙ get_or_from_slice_get s.outlines.items c.index.result.now told.outline _ told.is in
    ap (λ (o : Outline). o.lets_in) is ∙ told.told.lets_in

pub returns-clause-standing : goal.returns-clause-standing
returns-clause-standing c n e =
    let s = c.self.inside.annotations in
    let at = ap (λ (nodes : Nodes). slice_get nodes c.args.id.place) c.self.view_is ∙ e in
    let told = outline_there c.self.inside.seats s c.args.id.place n c.index.result.now _ c.self.invariant at c.index.ensures in
    let is = c.index-2.ensures ∙ get_or_from_slice_get s.outlines.items c.index.result.now told.outline _ told.is in
    ap (λ (o : Outline). o.standing.items) is ∙ standing_is s.numbers n told.outline told.told
