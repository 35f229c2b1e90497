use Rattle.std.proofs.Common.{ℕ, List, [], ◌∷◌, ◌++◌, ◌<◌, length, take, refl, sym, ap, ◌∙◌, subst, arith, rules}
use Rattle.std.proofs.lemmas.Map.Text.{text_keys}
use Rattle.std.specs.Prelude.{option_copied}
use Rattle.hm_schema_lines.specs.Firsts.{FirstPlaces}
use Rattle.hm_schema_lines.specs.Entries.{EntryValue, entry_value, entry_values}
use Rattle.hm_schema_lines.proofs.Places.{ArePlaced, placed_name, placed_none, one_more, at_most, places_end}
use Rattle.hm_schema_lines.proofs.firsts.first_places.Goals.{in-Some+in_ok-keep_first, in_default}
use Rattle.hm_schema_lines.proofs.firsts.first_places.Goals as goal

pub loop-entry-init : goal.loop-entry-init
loop-entry-init c = record { firsts = λ q. grind (arith, text_keys); behind = refl; bound = omega arith }

pub overflow_add-place : goal.overflow_add-place
overflow_add-place c =
    let bound = c.loop-entry.invariant.bound in
    let few = at_most c.args.entries.now c.loop-entry.entry-index in
    let below : c.loop-entry.place < length c.args.entries.now = omega (arith, c.loop-entry-test.true) in
    search rules

pub loop-entry-preserved : goal.loop-entry-preserved
loop-entry-preserved c =
    subst (λ (z : List EntryValue × FirstPlaces × ℕ). ArePlaced c.args.naming z.0 z.1 z.2)
    (λ i. (
      sym (one_more c.args.entries.now c.loop-entry.entry-index c.entry-item.result c.loop-entry-test.true c.entry-item.is) i,
      c.match-name.firsts,
      c.match-name.place,
    ))
    (elim c.match-name.branch [
      | in-Some+in_ok-keep_first w ↦
          subst (λ (z : FirstPlaces × ℕ). ArePlaced c.args.naming (before ++ read ∷ []) z.0 z.1)
          (λ i. (sym w.firsts-is i, sym w.place-is i))
          (placed_name c.args.naming before read c.loop-entry.firsts c.loop-entry.place c.loop-entry.invariant w.in-Some.name.now
          (sym c.name.ensures ∙ ap option_copied w.in-Some.is)
          w.keep_first.new.firsts
          w.in_ok-keep_first.ensures)
      | in_default w ↦
          subst (λ (z : FirstPlaces × ℕ). ArePlaced c.args.naming (before ++ read ∷ []) z.0 z.1)
          (λ i. (sym w.firsts-is i, sym w.place-is i))
          (placed_none c.args.naming before read c.loop-entry.firsts c.loop-entry.place c.loop-entry.invariant
          (sym c.name.ensures ∙ ap option_copied w.in_default.is))
    ])
  where
    before : List EntryValue
    before = entry_values (take c.loop-entry.entry-index c.args.entries.now)

    read : EntryValue
    read = entry_value c.entry-item.result

pub returns : goal.returns
returns c = places_end c.args.naming c.args.entries.now c.loop-entry.entry-index c.loop-entry.firsts c.loop-entry.place c.loop-entry.invariant
    (search rules)
