use Rattle.std.proofs.Common.{rules, ◌≡◌, ◌<◌, length, slice_get, Some, refl, sym, ap, ◌∙◌, arith}
use Rattle.std.specs.Option.{option_map}
use Rattle.std.proofs.lemmas.List.{length-map}
use Rattle.std.proofs.lemmas.Option.{same_Some, slice_get-map, slice_get_read, get_or_from_slice_get}
use Rattle.hm_tree.specs.Names.{Name}
use Rattle.hm_schema.specs.declared.node.NodeId.{NodeId}
use Rattle.hm_schema.specs.Values.{NodeValue}
use Rattle.hm_schema.specs.Tidied.{stands}
use Rattle.hm_types_table.specs.Tables.{seat}
use Rattle.hm_types_table.proofs.BesideNames.{zip_size, zip_at}
use Rattle.hm_types_table.proofs.Places.{there}
use Rattle.hm_types_table.proofs.looks.listed.Goals as goal

pub index-requires : goal.index-requires
index-requires c =
    let lt = c.requires.place (seat c.at.result.0.now c.at.result.1.now) c.at.ensures.node in
    let size = zip_size c.at.result.0.now.names.items c.at.result.1.now.next.items c.at.ensures.count in
    let in_range : c.args.place < length c.at.result.1.now.next.items = omega (arith, lt, size) in
    search rules

pub index-requires-2 : goal.index-requires-2
index-requires-2 c =
    let n = seat c.at.result.0.now c.at.result.1.now in
    let lt = c.requires.place n c.at.ensures.node in
    let size = ap length (c.outline.ensures.standing n c.at.ensures.node) ∙ length-map n.children (λ (e : Name × NodeId). stands n e.0) in
    let in_range : c.args.place < length c.outline.result.now.standing.items = omega (arith, lt, size) in
    search rules

pub returns : goal.returns
returns c n e =
    let names = c.at.result.0.now.names.items in
    let next = c.at.result.1.now.next.items in
    let flag : Name × NodeId → _ = λ e. stands n e.0 in
    let is = same_Some (seat c.at.result.0.now c.at.result.1.now) n (sym c.at.ensures.node ∙ e) in
    let lt = c.requires.place (seat c.at.result.0.now c.at.result.1.now) c.at.ensures.node in
    let size = zip_size names next c.at.ensures.count in
    let k = there names c.args.place (omega (arith, lt, size, c.at.ensures.count)) in
    let node = slice_get_read next _ c.args.place c.index.result.now refl (omega (arith, lt, size)) c.index.ensures in
    let child = ap (λ (n : NodeValue). slice_get n.children c.args.place) (sym is) ∙ zip_at names next c.args.place k.0 c.index.result.now k.1 node in
    let stand : slice_get c.outline.result.now.standing.items c.args.place ≡ Some (stands n k.0) =
    ap (λ l. slice_get l c.args.place) (c.outline.ensures.standing n e) ∙ slice_get-map flag n.children c.args.place ∙ ap (option_map flag) child in (
      k.0,
      (child, c.index-2.ensures ∙ get_or_from_slice_get c.outline.result.now.standing.items c.args.place (stands n k.0) _ stand),
    )
