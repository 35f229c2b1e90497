use Rattle.std.proofs.Common.{◌≡◌, ℕ, Some, List, map, slice_get, refl, sym, subst}
use Rattle.std.specs.List.{AllZip}
use Rattle.hm_schema.specs.declared.node.Node.{Node}
use Rattle.hm_schema.specs.declared.node.NodeId.{NodeId}
use Rattle.hm_schema.specs.Values.{NodeValue, node_value}
use Rattle.hm_types_forms.specs.Forms.{form}
use Rattle.hm_types_rules.specs.Numbering.{IsNumbered}
use Rattle.hm_types_table.specs.Tables.{Nodes}
use Rattle.hm_types_schemas.specs.Marks.{Marks, number_of}
use Rattle.hm_types_schemas.specs.Writing.{IsWritten}
use Rattle.hm_types_schemas.proofs.Assembled.{zip_values, visit_numbered, visit_well}
use Rattle.hm_types_schemas.proofs.schemas.numbered.Goals as goal

-- what is written of an order by numbers, as the code lends them
abbrev Writes : Nodes → List ℕ → Marks → NodeValue → NodeId → Type 0
Writes nodes classes marks v j = (n : NodeValue) → slice_get nodes j.place ≡ Some n → IsWritten (number_of classes marks) n v

values : (nodes : Nodes) (classes : List ℕ) (marks lent : Marks) (order given : List NodeId) (items : List Node) → lent ≡ marks → given ≡ order
    → AllZip (λ v j. Writes nodes classes lent (node_value v) j) items given → AllZip (Writes nodes classes marks) (map node_value items) order
values nodes classes marks lent order given items e f z =
    subst (λ (marks : Marks). AllZip (Writes nodes classes marks) (map node_value items) order) e
    (subst (AllZip (Writes nodes classes lent) (map node_value items)) f (zip_values (Writes nodes classes lent) node_value items given z))

pub new-requires : goal.new-requires
new-requires c =
    visit_well c.args.table.now c.at.ensures.formed c.classes-classes.result.now c.classes-classes.ensures c.args.root c.requires.sound c.requires.root
    c.in_ok-order.order.items c.in_ok-order.marks.items c.in_ok-order.ensures (map node_value c.in_ok-nodes.nodes.items)
    (values c.args.table.now c.classes-classes.result.now c.in_ok-order.marks.items c.deref.result.now c.in_ok-order.order.items c.deref-2.result.now
    c.in_ok-nodes.nodes.items c.deref.ensures.value c.deref-2.ensures.value c.in_ok-nodes.ensures) (record { place = 0 }) refl

pub returns : goal.returns
returns c =
    subst (IsNumbered (form c.args.table.now c.args.root)) (sym c.new.ensures)
    (visit_numbered c.args.table.now c.at.ensures.formed c.classes-classes.result.now c.classes-classes.ensures c.args.root c.requires.sound c.requires.root
    c.in_ok-order.order.items c.in_ok-order.marks.items c.in_ok-order.ensures (map node_value c.in_ok-nodes.nodes.items)
    (values c.args.table.now c.classes-classes.result.now c.in_ok-order.marks.items c.deref.result.now c.in_ok-order.order.items c.deref-2.result.now
    c.in_ok-nodes.nodes.items c.deref.ensures.value c.deref-2.ensures.value c.in_ok-nodes.ensures) (record { place = 0 }) refl)
