use Rattle.std.proofs.Common.{rules, ◌≡◌, IsTrue, true, refl, sym, ◌∙◌}
use Rattle.std.specs.List.{list_any}
use Rattle.std.specs.Ordering.{eq_by_cmp}
use Rattle.std.proofs.lemmas.Option.{slice_get_read}
use Rattle.hm_tree.specs.Names.{Name, name_cmp}
use Rattle.hm_schema.proofs.Lists.{all_next, all_done}
use Rattle.hm_types_table.proofs.Sets.{all_of, in_set}
use Rattle.hm_types_table.proofs.names.all_listed.Goals as goal

pub returns-then-not-is_in : goal.returns-then-not-is_in
returns-then-not-is_in c = (
  λ f. let g : ⊥ = cc in absurd g,
  λ all.
      let here = slice_get_read c.names-name-items.result.now _ c.loop-name.name-index c.name-item.result refl (search rules) c.name-item.is in
      let there = in_set c.names-name-items.result.now c.args.all.now c.names-name-items.ensures.ascending c.names-name-items.ensures.same
      c.loop-name.name-index c.name-item.result here in
      let in_it : c.is_in.result ≡ true = c.is_in.ensures ∙ all c.name-item.result there in
      let g : ⊥ = cc in absurd g,
)

pub loop-name-preserved : goal.loop-name-preserved
loop-name-preserved c = all_next (λ (k : Name). IsTrue (list_any (eq_by_cmp name_cmp k) c.args.names.now)) c.names-name-items.result.now _ _
    (search rules) c.name-item.is c.loop-name.invariant (sym c.is_in.ensures ∙ c.if-not-is_in.false)

pub returns : goal.returns
returns c = (
  λ t. all_of c.names-name-items.result.now c.args.all.now c.names-name-items.ensures.ascending c.names-name-items.ensures.same
      (λ k. IsTrue (list_any (eq_by_cmp name_cmp k) c.args.names.now))
      (all_done (λ (k : Name). IsTrue (list_any (eq_by_cmp name_cmp k) c.args.names.now)) c.names-name-items.result.now c.loop-name.name-index
      (search rules) c.loop-name.invariant),
  λ all. refl,
)
