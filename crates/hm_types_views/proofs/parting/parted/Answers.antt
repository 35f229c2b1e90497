use mathlib.Core.Bool.{true≢false}
use Rattle.std.proofs.Common.{[], ◌∷◌, sym, ap, subst, ◌∙◌}
use Rattle.std.specs.List.{filter}
use Rattle.std.specs.FinSet.{contains}
use Rattle.std.proofs.lemmas.Option.{same_Some}
use Rattle.hm_schema.specs.WellFormed.{IsWellFormedNode}
use Rattle.hm_types_nodes.specs.Parting.{shape_in, shape_out, has_twin}
use Rattle.hm_schema.specs.Shapes.{shaped}
use Rattle.hm_types_forms.specs.Forms.{formed}
use Rattle.hm_types_views.specs.Conditions.{CanPart}
use Rattle.hm_types_table.specs.Tables.{opened, seat}
use Rattle.hm_types_views.proofs.TwoAdded.{shaped_is}
use Rattle.hm_types_views.proofs.PartedNodes.{cannot_part, inside_well, outside_well, fork_source}
use Rattle.hm_types_table.proofs.Places.{read_one}
use Rattle.hm_types_views.proofs.parting.parted.Goals as goal

pub returns-then-not-can_part-clause-parted : goal.returns-then-not-can_part-clause-parted
returns-then-not-can_part-clause-parted c =
    cannot_part c.args.table.now c.at.ensures.formed c.args.id c.at.result.0.now c.at.result.1.now c.at.ensures.node c.at.ensures.count c.args.names.now
    (λ can. true≢false (sym (c.can_part.ensures.1 can) ∙ c.if-not-can_part.true))

pub add_two-requires-clause-first : goal.add_two-requires-clause-first
add_two-requires-clause-first c n e =
    let k = c.at.result.0.now in
    let v = c.at.result.1.now in
    let p = contains c.args.names.now in
    let a = c.index.result.now in
    let can : CanPart c.args.names.now k = c.can_part.ensures.0 c.if-not-can_part.false in
    let one = read_one k.shapes.items a can.one c.index.ensures in
    let is = c.in_ok-vec.ensures.items ∙ ap (λ s. s ∷ []) c.in_ok-inside.ensures.inside in
    let twins = c.in_ok-twins_inside.ensures ∙ (λ i. filter (has_twin (c.in_ok-inside.ensures.inside i)) (c.deref.ensures.value i)) in
    subst (IsWellFormedNode _) (sym (shaped_is n (seat k v) c.in_ok-vec.field-0.items (shape_in p a ∷ []) c.in_ok-twins_inside.twins_inside.items
    (filter (has_twin (shape_in p a)) k.twins.items) (same_Some n (seat k v) (sym e ∙ c.at.ensures.node)) is twins))
    (inside_well c.args.table.now c.at.ensures.formed c.args.id k v c.at.ensures.node c.at.ensures.count c.args.names.now can a one)

pub add_two-requires-clause-second : goal.add_two-requires-clause-second
add_two-requires-clause-second c n e =
    let k = c.at.result.0.now in
    let v = c.at.result.1.now in
    let p = contains c.args.names.now in
    let a = c.index.result.now in
    let can : CanPart c.args.names.now k = c.can_part.ensures.0 c.if-not-can_part.false in
    let one = read_one k.shapes.items a can.one c.index.ensures in
    let is = c.in_ok-vec-2.ensures.items ∙ ap (λ s. s ∷ []) c.in_ok-inside.ensures.outside in
    let twins = c.in_ok-twins_outside.ensures ∙ (λ i. filter (has_twin (c.in_ok-inside.ensures.outside i)) (c.deref-2.ensures.value i)) in
    subst (IsWellFormedNode _) (sym (shaped_is n (seat k v) c.in_ok-vec-2.field-0.items (shape_out p a ∷ []) c.in_ok-twins_outside.twins_outside.items
    (filter (has_twin (shape_out p a)) k.twins.items) (same_Some n (seat k v) (sym e ∙ c.at.ensures.node)) is twins))
    (outside_well c.args.table.now c.at.ensures.formed c.args.id k v c.at.ensures.node c.at.ensures.count c.args.names.now can a one)

pub returns-clause-parted : goal.returns-clause-parted
returns-clause-parted c =
    let k = c.at.result.0.now in
    let v = c.at.result.1.now in
    let n = seat k v in
    let a = c.index.result.now in
    let can : CanPart c.args.names.now k = c.can_part.ensures.0 c.if-not-can_part.false in
    let one = read_one k.shapes.items a can.one c.index.ensures in
    let is = c.in_ok-vec.ensures.items ∙ ap (λ s. s ∷ []) c.in_ok-inside.ensures.inside in
    let twins = c.in_ok-twins_inside.ensures ∙ (λ i. filter (has_twin (c.in_ok-inside.ensures.inside i)) (c.deref.ensures.value i)) in
    let is2 = c.in_ok-vec-2.ensures.items ∙ ap (λ s. s ∷ []) c.in_ok-inside.ensures.outside in
    let twins2 = c.in_ok-twins_outside.ensures ∙ (λ i. filter (has_twin (c.in_ok-inside.ensures.outside i)) (c.deref-2.ensures.value i)) in
    let old = c.args.table.now in
    fork_source old c.at.ensures.formed c.args.id k v c.at.ensures.node c.at.ensures.count c.args.names.now can a one c.add_two.new.table
    c.in_ok-add_two.field-0.0 c.in_ok-add_two.field-0.1
    (c.in_ok-add_two.ensures.first n c.at.ensures.node ∙ (λ i. formed (opened old (shaped n (is i) (twins i)))))
    (c.in_ok-add_two.ensures.second n c.at.ensures.node ∙ (λ i. formed (opened old (shaped n (is2 i) (twins2 i)))))
