-- For each place which of the columns is there, from the last column to the first.
use Rattle.std.proofs.Common.{◌≡◌, ℕ, suc, ◌+◌, ◌<◌, Bool, true, false, cond, List, length, drop, get_or, set, slice_get, Option, Some, None, refl, sym, ap, ◌∙◌, arith}
use Rattle.std.specs.Prelude.{option_and_then}
use Rattle.std.specs.Bool.{◌==◌}
use Rattle.std.proofs.lemmas.Bool.Decides.{nat_tests}
use Rattle.std.proofs.Math.Seq.{drop-cons}
use Rattle.std.proofs.lemmas.Option.{slice_get-get_or}
use Rattle.std.proofs.lemmas.List.{get_or-set_same, get_or-set_other, length-set}
use Rattle.hm_csv_columns.specs.declared.column.Column.{Column}
use Rattle.hm_csv_columns.specs.Records.{column_at}

-- the same for the columns from a number on
abbrev pub AreLateSigns : List Column → ℕ → List (Option ℕ) → ℕ → Type 0
AreLateSigns columns at signs count =
    (length signs ≡ count) × ((place : ℕ) → place < count → option_and_then (slice_get columns) (get_or signs place None) ≡ column_at (drop at columns) place)

-- one column before others
module _ (columns : List Column) (at later count : ℕ) (signs : List (Option ℕ)) (here : Column) (next : later ≡ at + 1) (lt : at < length columns) (is : get_or columns at here ≡ here)
    (within : here.place < count) (late : AreLateSigns columns later signs count) where
  split : (place : ℕ) → column_at (drop at columns) place ≡ cond (here.place == place) (Some here) (column_at (drop later columns) place)
  split place =
      let one : later ≡ suc at = omega (arith, next) in
      ap (λ cs. column_at cs place) (drop-cons columns at here lt)
      ∙ ap (λ (c : Column). cond (c.place == place) (Some c) (column_at (drop (suc at) columns) place)) is
      ∙ ap (λ n. cond (here.place == place) (Some here) (column_at (drop n columns) place)) (sym one)

  more : (place : ℕ) → place < count → (same : Bool) → (here.place == place) ≡ same
      → option_and_then (slice_get columns) (get_or (set signs here.place (Some at)) place None) ≡ column_at (drop at columns) place
  more place under true e =
      let long = late.0 in
      let same : here.place ≡ place = grind (arith, nat_tests) in
      let put : get_or (set signs here.place (Some at)) place None ≡ Some at =
      ap (λ p. get_or (set signs here.place (Some at)) p None) (sym same)
      ∙ get_or-set_same signs here.place (Some at) None (omega (arith, within, long)) in
      ap (option_and_then (slice_get columns)) put ∙ slice_get-get_or columns at here lt ∙ ap Some is
      ∙ sym (split place ∙ ap (λ b. cond b (Some here) (column_at (drop later columns) place)) e)
  more place under false e =
      let other : place ≡ here.place → ⊥ = λ same. grind (arith, nat_tests) in
      ap (option_and_then (slice_get columns)) (get_or-set_other signs here.place place (Some at) None other) ∙ late.1 place under
      ∙ sym (split place ∙ ap (λ b. cond b (Some here) (column_at (drop later columns) place)) e)

  pub sign_more : AreLateSigns columns at (set signs here.place (Some at)) count
  sign_more = (length-set signs here.place (Some at) ∙ late.0, λ place under. more place under (here.place == place) refl)
