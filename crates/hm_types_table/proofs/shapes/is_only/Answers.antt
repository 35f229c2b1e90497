use Rattle.std.proofs.Common.{rules, ◌≡◌, [], ◌∷◌, length, get_or, sym, ap, ◌∙◌}
use Rattle.std.specs.FinSet.{from_list}
use Rattle.hm_tree.specs.Names.{name_cmp}
use Rattle.hm_types_table.proofs.Places.{read_one}
use Rattle.hm_types_table.proofs.Sets.{one_is}
use Rattle.hm_types_table.proofs.shapes.is_only.Goals as goal

pub returns-then-names-eq1 : goal.returns-then-names-eq1
returns-then-names-eq1 c = (
  λ t.
      let e : c.index-names-0.result ≡ c.args.name.now = c.same.ensures.0 t in
      sym c.names-names.ensures.same
      ∙ ap (from_list {R = name_cmp}) (read_one c.names-names.result.now c.index-names-0.result c.if-names-eq1.true c.index-names-0.is)
      ∙ ap (λ k. from_list {R = name_cmp} (k ∷ [])) e,
  λ g.
      let e : c.names-names.result.now ≡ c.args.name.now ∷ [] =
      one_is c.names-names.result.now c.args.names.now c.names-names.ensures.ascending c.names-names.ensures.same c.args.name.now g in
      c.same.ensures.1 (c.index-names-0.is ∙ ap (λ l. get_or l 0 c.index-names-0.result) e),
)

pub returns-else-names-eq1 : goal.returns-else-names-eq1
returns-else-names-eq1 c = (
  λ t. absurd (c.if-names-eq1.false (search rules)),
  λ g.
      let e : c.names-names.result.now ≡ c.args.name.now ∷ [] =
      one_is c.names-names.result.now c.args.names.now c.names-names.ensures.ascending c.names-names.ensures.same c.args.name.now g in
      let l : length c.names-names.result.now ≡ 1 = ap length e in search rules,
)
