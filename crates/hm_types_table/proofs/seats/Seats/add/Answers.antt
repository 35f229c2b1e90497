use Rattle.std.proofs.Common.{rules, ◌≡◌, ◌++◌, ◌∷◌, [], length, sym, ap, subst, ◌∙◌}
use Rattle.hm_types_table.specs.declared.vertex.Vertex.{Vertex}
use Rattle.hm_types_table.specs.Tables.{rows, IsTable}
use Rattle.hm_types_table.proofs.Rows.{rows_kept, table_kept, rows_one, table_one}
use Rattle.hm_types_table.proofs.seats.Seats.add.Goals as goal

pub invariant_of-self-in_err-push-2 : goal.invariant_of-self-in_err-push-2
invariant_of-self-in_err-push-2 c =
    subst (λ kinds. IsTable kinds c.push-2.new.self.items) (sym c.in_ok-push.ensures.items)
    (subst (IsTable (c.self.inside.kinds.items ++ c.args.kind ∷ [])) (sym c.in_err-push-2.ensures.items)
    (table_kept c.self.inside.kinds.items c.self.inside.vertices.items c.args.self.now c.self.invariant c.self.view_is (c.args.kind ∷ [])))

pub returns-in_err-push-2-clause-err : goal.returns-in_err-push-2-clause-err
returns-in_err-push-2-clause-err c =
    let same : rows c.push.new.self.items c.push-2.new.self.items ≡ c.args.self.now =
    ap (λ kinds. rows kinds c.push-2.new.self.items) c.in_ok-push.ensures.items
    ∙ ap (rows (c.self.inside.kinds.items ++ c.args.kind ∷ [])) c.in_err-push-2.ensures.items
    ∙ rows_kept c.self.inside.kinds.items c.self.inside.vertices.items c.args.self.now c.self.invariant c.self.view_is (c.args.kind ∷ []) in
    search rules

pub invariant_of-self-2 : goal.invariant_of-self-2
invariant_of-self-2 c =
    let v : Vertex = record { kind = c.len.result; next = c.args.next; other = c.args.other } in
    let at : c.len.result ≡ length c.self.inside.kinds.items = search rules in
    subst (λ kinds. IsTable kinds c.push-2.new.self.items) (sym c.in_ok-push.ensures.items)
    (subst (IsTable (c.self.inside.kinds.items ++ c.args.kind ∷ [])) (sym c.in_ok-push-2.ensures.items)
    (table_one c.self.inside.kinds.items c.self.inside.vertices.items c.args.self.now c.self.invariant c.self.view_is c.args.kind v at
    c.requires.count c.requires.well))

pub returns-clause-node : goal.returns-clause-node
returns-clause-node c =
    let v : Vertex = record { kind = c.len.result; next = c.args.next; other = c.args.other } in
    let at : c.len.result ≡ length c.self.inside.kinds.items = search rules in
    ap (λ kinds. rows kinds c.push-2.new.self.items) c.in_ok-push.ensures.items
    ∙ ap (rows (c.self.inside.kinds.items ++ c.args.kind ∷ [])) c.in_ok-push-2.ensures.items
    ∙ rows_one c.self.inside.kinds.items c.self.inside.vertices.items c.args.self.now c.self.invariant c.self.view_is c.args.kind v at

pub returns-in_err-push-2-clause-formed : goal.returns-in_err-push-2-clause-formed
returns-in_err-push-2-clause-formed c = (invariant_of-self-in_err-push-2 c).formed

pub returns-clause-formed : goal.returns-clause-formed
returns-clause-formed c = (invariant_of-self-2 c).formed
