use Rattle.std.proofs.Common.{rules, ◌≡◌, true, refl, sym, ◌∙◌}
use Rattle.std.proofs.lemmas.Option.{slice_get_read}
use Rattle.hm_schema.proofs.Lists.{all_next, all_done}
use Rattle.hm_tree.specs.Names.{Name}
use Rattle.hm_types_views.specs.Conditions.{IsIn}
use Rattle.hm_types_views.proofs.MergedNode.{all_in_names, name_at}
use Rattle.hm_types_views.proofs.merging.are_among.Goals as goal

pub returns-then-not-is_in : goal.returns-then-not-is_in
returns-then-not-is_in c = (
  λ f. let g : ⊥ = cc in absurd g,
  λ all.
      let at = slice_get_read c.args.names.now _ c.loop-name.name-index c.name-item.result refl (search rules) c.name-item.is in
      let in_it : c.is_in.result ≡ true = c.is_in.ensures ∙ all c.name-item.result (name_at c.args.names.now c.loop-name.name-index c.name-item.result at) in
      let g : ⊥ = cc in absurd g,
)

pub loop-name-preserved : goal.loop-name-preserved
loop-name-preserved c = all_next (λ (k : Name). IsIn c.args.others.now k) c.args.names.now _ _ (search rules) c.name-item.is c.loop-name.invariant
    (sym c.is_in.ensures ∙ c.if-not-is_in.false)

pub returns : goal.returns
returns c = (
  λ t. all_in_names c.args.names.now (λ k. IsIn c.args.others.now k)
      (all_done (λ (k : Name). IsIn c.args.others.now k) c.args.names.now _ (search rules) c.loop-name.invariant),
  λ all. refl,
)
