use Rattle.std.proofs.Common.{rules, ◌≡◌, [], length, sym, ap, ◌∙◌}
use Rattle.std.specs.FinSet.{from_list}
use Rattle.hm_tree.specs.Names.{name_cmp}
use Rattle.hm_types_table.proofs.Sets.{none_is, no_names}
use Rattle.hm_types_table.proofs.shapes.is_bare.Goals as goal

pub returns : goal.returns
returns c = (
  λ t.
      let e : length c.names.result.now ≡ 0 = search rules in
      sym c.names.ensures.same ∙ ap (from_list {R = name_cmp}) (no_names c.names.result.now e),
  λ g.
      let e : c.names.result.now ≡ [] = none_is c.names.result.now c.args.names.now c.names.ensures.ascending c.names.ensures.same g in
      let l : length c.names.result.now ≡ 0 = ap length e in search rules,
)
