use Rattle.std.proofs.Common.{rules, ◌≡◌, refl, sym, ◌∙◌}
use Rattle.std.specs.FinSet.{contains}
use Rattle.std.proofs.lemmas.Option.{slice_get_read}
use Rattle.hm_tree.specs.Names.{Name}
use Rattle.hm_schema.proofs.Lists.{all_next, all_done}
use Rattle.hm_types_table.proofs.Sets.{all_of, in_set, differ, agree}
use Rattle.hm_types_table.proofs.names.all_in.Goals as goal

pub returns-then-has-inside : goal.returns-then-has-inside
returns-then-has-inside c = (
  λ f. let g : ⊥ = cc in absurd g,
  λ all.
      let here = slice_get_read c.names-name-items.result.now _ c.loop-name.name-index c.name-item.result refl (search rules) c.name-item.is in
      let there = in_set c.names-name-items.result.now c.args.all.now c.names-name-items.ensures.ascending c.names-name-items.ensures.same
      c.loop-name.name-index c.name-item.result here in
      let same : c.has.result ≡ c.args.inside = c.has.ensures ∙ all c.name-item.result there in
      absurd (differ c.has.result c.args.inside c.if-has-inside.true same),
)

pub loop-name-preserved : goal.loop-name-preserved
loop-name-preserved c = all_next (λ (k : Name). contains c.args.names.now k ≡ c.args.inside) c.names-name-items.result.now _ _ (search rules)
    c.name-item.is c.loop-name.invariant (sym c.has.ensures ∙ agree c.has.result c.args.inside c.if-has-inside.false)

pub returns : goal.returns
returns c = (
  λ t. all_of c.names-name-items.result.now c.args.all.now c.names-name-items.ensures.ascending c.names-name-items.ensures.same
      (λ k. contains c.args.names.now k ≡ c.args.inside)
      (all_done (λ (k : Name). contains c.args.names.now k ≡ c.args.inside) c.names-name-items.result.now c.loop-name.name-index (search rules)
      c.loop-name.invariant),
  λ all. refl,
)
