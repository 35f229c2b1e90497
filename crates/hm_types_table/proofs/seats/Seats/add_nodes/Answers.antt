use Rattle.std.proofs.Common.{rules, ◌≡◌, ◌+◌, ◌≤◌, ◌++◌, ◌∷◌, [], length, map, take, All, sym, ap, subst, ◌∙◌, arith}
use Rattle.std.proofs.lemmas.List.{take_all, length-map}
use Rattle.hm_schema.specs.Values.{node_value}
use Rattle.hm_schema.specs.WellFormed.{IsWellFormedNode}
use Rattle.hm_types_table.specs.Tables.{Nodes, rows, IsTable, AreShifted}
use Rattle.hm_types_table.proofs.Rows.{rows_kept, table_kept, rows_length}
use Rattle.hm_types_table.proofs.Shifted.{shifted_more, rows_shifted, table_shifted, room, well_at, values_more}
use Rattle.hm_types_table.proofs.seats.Seats.add_nodes.Goals as goal

pub vertex_of-requires-clause-children : goal.vertex_of-requires-clause-children
vertex_of-requires-clause-children c =
    let nodes = c.args.nodes.now in
    let le : c.len-by.result + length nodes ≤ 18446744073709551616 = omega arith in
    (room c.len-by.result (length nodes) 18446744073709551616 (node_value c.node-item.result) le
    (well_at (length nodes) nodes c.loop-node.node-index c.node-item.result c.requires (search rules) c.node-item.is)).0

pub vertex_of-requires-clause-other : goal.vertex_of-requires-clause-other
vertex_of-requires-clause-other c =
    let nodes = c.args.nodes.now in
    let le : c.len-by.result + length nodes ≤ 18446744073709551616 = omega arith in
    (room c.len-by.result (length nodes) 18446744073709551616 (node_value c.node-item.result) le
    (well_at (length nodes) nodes c.loop-node.node-index c.node-item.result c.requires (search rules) c.node-item.is)).1

pub loop-node-preserved : goal.loop-node-preserved
loop-node-preserved c =
    let nodes = c.args.nodes.now in
    let i = c.loop-node.node-index in
    let n = c.node-item.result in
    let k = c.in_ok-kind_of.field-0 in
    let v = c.in_ok-vertex_of.field-0 in
    let at : v.kind ≡ c.len-first.result + length c.loop-node.kinds.items = search rules in
    let more = shifted_more c.len-first.result c.len-by.result c.loop-node.kinds.items c.loop-node.vertices.items (map node_value (take i nodes)) k v
    (node_value n) c.loop-node.invariant at (record {
      shapes = c.in_ok-kind_of.ensures.shapes;
      names = c.in_ok-kind_of.ensures.names;
      twins = c.in_ok-kind_of.ensures.twins;
      next = c.in_ok-vertex_of.ensures.next;
      other = c.in_ok-vertex_of.ensures.other;
    }) in
    subst (λ kinds. AreShifted c.len-first.result c.len-by.result kinds c.push-in-loop-node.new.self.items (map node_value (take (i + 1) nodes)))
    (sym c.in_ok-push.ensures.items)
    (subst (λ vs. AreShifted c.len-first.result c.len-by.result (c.loop-node.kinds.items ++ k ∷ []) vs (map node_value (take (i + 1) nodes)))
    (sym c.in_ok-push-2.ensures.items)
    (subst (AreShifted c.len-first.result c.len-by.result (c.loop-node.kinds.items ++ k ∷ []) (c.loop-node.vertices.items ++ v ∷ []))
    (sym (values_more nodes i n (search rules) c.node-item.is)) more))

pub invariant_of-self-in_err-append-2 : goal.invariant_of-self-in_err-append-2
invariant_of-self-in_err-append-2 c =
    subst (λ kinds. IsTable kinds c.append-2.new.self.items) (sym c.in_ok-append.ensures.items)
    (subst (IsTable (c.self.inside.kinds.items ++ c.loop-node.kinds.items)) (sym c.in_err-append-2.ensures.items)
    (table_kept c.self.inside.kinds.items c.self.inside.vertices.items c.args.self.now c.self.invariant c.self.view_is c.loop-node.kinds.items))

pub returns-in_err-append-2-clause-err : goal.returns-in_err-append-2-clause-err
returns-in_err-append-2-clause-err c =
    let same : rows c.append.new.self.items c.append-2.new.self.items ≡ c.args.self.now =
    ap (λ kinds. rows kinds c.append-2.new.self.items) c.in_ok-append.ensures.items
    ∙ ap (rows (c.self.inside.kinds.items ++ c.loop-node.kinds.items)) c.in_err-append-2.ensures.items
    ∙ rows_kept c.self.inside.kinds.items c.self.inside.vertices.items c.args.self.now c.self.invariant c.self.view_is c.loop-node.kinds.items in
    search rules

pub returns-in_err-append-2-clause-formed : goal.returns-in_err-append-2-clause-formed
returns-in_err-append-2-clause-formed c = (invariant_of-self-in_err-append-2 c).formed

-- the kinds and vertices of all nodes
all_shifted : (first by : _) (kinds : _) (vs : _) (nodes : Nodes) (one two : _) → one ≡ first → two ≡ by → AreShifted one two kinds vs nodes
    → AreShifted first by kinds vs nodes
all_shifted first by kinds vs nodes one two e f a =
    subst (λ first. AreShifted first by kinds vs nodes) e (subst (λ by. AreShifted one by kinds vs nodes) f a)

pub invariant_of-self-2 : goal.invariant_of-self-2
invariant_of-self-2 c =
    let old = c.args.self.now in
    let kinds = c.self.inside.kinds.items in
    let vs = c.self.inside.vertices.items in
    let ks = c.loop-node.kinds.items in
    let us = c.loop-node.vertices.items in
    let more = map node_value c.args.nodes.now in
    let first : c.len-first.result ≡ length kinds = search rules in
    let by : c.len-by.result ≡ length vs = search rules in
    let done = subst (AreShifted c.len-first.result c.len-by.result ks us) (ap (map node_value) (take_all c.loop-node.node-index c.args.nodes.now (search rules)))
    c.loop-node.invariant in
    subst (λ kinds. IsTable kinds c.append-2.new.self.items) (sym c.in_ok-append.ensures.items)
    (subst (IsTable (kinds ++ ks)) (sym c.in_ok-append-2.ensures.items)
    (table_shifted kinds ks vs us old more c.self.invariant c.self.view_is
    (all_shifted (length kinds) (length old) ks us more c.len-first.result c.len-by.result first
    (by ∙ sym (rows_length kinds vs old c.self.invariant c.self.view_is [])) done)
    (subst (λ count. All (IsWellFormedNode count) more) (sym (length-map c.args.nodes.now node_value)) c.requires)))

pub returns-clause-nodes : goal.returns-clause-nodes
returns-clause-nodes c =
    let old = c.args.self.now in
    let kinds = c.self.inside.kinds.items in
    let vs = c.self.inside.vertices.items in
    let ks = c.loop-node.kinds.items in
    let us = c.loop-node.vertices.items in
    let more = map node_value c.args.nodes.now in
    let first : c.len-first.result ≡ length kinds = search rules in
    let by : c.len-by.result ≡ length vs = search rules in
    let done = subst (AreShifted c.len-first.result c.len-by.result ks us) (ap (map node_value) (take_all c.loop-node.node-index c.args.nodes.now (search rules)))
    c.loop-node.invariant in
    ap (λ kinds. rows kinds c.append-2.new.self.items) c.in_ok-append.ensures.items
    ∙ ap (rows (kinds ++ ks)) c.in_ok-append-2.ensures.items
    ∙ rows_shifted kinds ks vs us old more c.self.invariant c.self.view_is
    (all_shifted (length kinds) (length old) ks us more c.len-first.result c.len-by.result first
    (by ∙ sym (rows_length kinds vs old c.self.invariant c.self.view_is [])) done)

pub returns-clause-formed : goal.returns-clause-formed
returns-clause-formed c = (invariant_of-self-2 c).formed
