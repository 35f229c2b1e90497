use Rattle.std.proofs.Common.{ℕ, List, [], ◌∷◌, ◌++◌, ◌<◌, length, take, refl, sym, ap, ◌∙◌, subst, arith, rules}
use Rattle.std.proofs.lemmas.Map.Text.{text_keys}
use Rattle.std.specs.Prelude.{option_copied}
use Rattle.hm_focal.specs.OwnLines.{OwnValue, own_value, own_values}
use Rattle.hm_focal.proofs.LensNames.{ArePlaced, placed_name, placed_none, one_more, at_most, places_end}
use Rattle.hm_focal.proofs.lenses.declared_lenses.Goals.{in-Some+in_ok-keep_first, in_default}
use Rattle.hm_focal.proofs.lenses.declared_lenses.Goals as goal
use Rattle.hm_schema_lines.specs.Firsts.{FirstPlaces}

pub loop-line-init : goal.loop-line-init
loop-line-init c = record { firsts = λ q. grind (arith, text_keys); behind = refl; bound = omega arith }

pub overflow_add-place : goal.overflow_add-place
overflow_add-place c =
    let bound = c.loop-line.invariant.bound in
    let few = at_most c.args.own.now c.loop-line.line-index in
    let below : c.loop-line.place < length c.args.own.now = omega (arith, c.loop-line-test.true) in
    search rules

pub loop-line-preserved : goal.loop-line-preserved
loop-line-preserved c =
    subst (λ (z : List OwnValue × FirstPlaces × ℕ). ArePlaced z.0 z.1 z.2)
    (λ i. (
      sym (one_more own_value c.args.own.now c.loop-line.line-index c.line-item.result c.loop-line-test.true c.line-item.is) i,
      c.match-lens_name.firsts,
      c.match-lens_name.place,
    ))
    (elim c.match-lens_name.branch [
      | in-Some+in_ok-keep_first w ↦
          subst (λ (z : FirstPlaces × ℕ). ArePlaced (before ++ read ∷ []) z.0 z.1)
          (λ i. (sym w.firsts-is i, sym w.place-is i))
          (placed_name before read c.loop-line.firsts c.loop-line.place c.loop-line.invariant w.in-Some.name.now
          (sym c.lens_name.ensures ∙ ap option_copied w.in-Some.is)
          w.keep_first.new.firsts
          w.in_ok-keep_first.ensures)
      | in_default w ↦
          subst (λ (z : FirstPlaces × ℕ). ArePlaced (before ++ read ∷ []) z.0 z.1)
          (λ i. (sym w.firsts-is i, sym w.place-is i))
          (placed_none before read c.loop-line.firsts c.loop-line.place c.loop-line.invariant
          (sym c.lens_name.ensures ∙ ap option_copied w.in_default.is))
    ])
  where
    before : List OwnValue
    before = own_values (take c.loop-line.line-index c.args.own.now)

    read : OwnValue
    read = own_value c.line-item.result

pub returns : goal.returns
returns c = places_end c.args.own.now c.loop-line.line-index c.loop-line.firsts c.loop-line.place c.loop-line.invariant (search rules)
