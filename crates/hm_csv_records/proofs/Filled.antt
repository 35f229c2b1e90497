-- A record that is read has a field.
use Rattle.std.proofs.Common.{◌≡◌, ◌≢◌, ℕ, true, List, [], ◌∷◌, ◌++◌, Option, sym, subst, inl, inr}
use Rattle.std.specs.Prelude.{All, IfSome}
use Rattle.std.proofs.lemmas.Bool.{cases_Bool}
use Rattle.std.proofs.lemmas.List.Elements.{All-nil, All-cons}
use Rattle.csv.specs.Machine.{Read, next_record, step, is_end, ends_at_end, fields_after, field_after}
use Rattle.csv.specs.Reading.{Reached, default_config}
use Rattle.csv.specs.declared.parser.State.{State}
use Rattle.csv.specs.declared.parser.Action.{Action}
use Rattle.csv.specs.declared.parser.Action.TheVariants as act
use Rattle.hm_csv_records.specs.Rows.{Fields}

abbrev IsFilled : Read → Type 0
IsFilled p = p.0 ≢ []

pushed : (fields : Fields) (field : List ℕ) → fields ++ field ∷ [] ≢ []
pushed [] field = λ e. cc
pushed (first ∷ fields) field = λ e. cc

ended : (a : Action) (fields : Fields) (field : List ℕ) → is_end a ≡ true → fields_after a fields field ≢ []
ended act.EndRecord fields field e = pushed fields field
ended act.EndField fields field e = pushed fields field
ended act.Skip fields field e = let bad : ⊥ = cc in absurd bad
ended act.Copy fields field e = let bad : ⊥ = cc in absurd bad

filled : (xs : List ℕ) (s : State) (fields : Fields) (field : List ℕ) → IfSome (next_record default_config s fields field xs) IsFilled
unfolding next_record
filled [] s fields field = elim (cases_Bool (ends_at_end s)) [
  | inl e ↦ rw e (pushed fields field)
  | inr e ↦ rw e tt
]
filled (c ∷ xs) s fields field = elim (cases_Bool (is_end (step default_config s c).1)) [
  | inl e ↦ rw e (ended (step default_config s c).1 fields field e)
  | inr e ↦ rw e (filled xs (step default_config s c).0 (fields_after (step default_config s c).1 fields field) (field_after (step default_config s c).1 c field))
]

pub reached_filled : (s : State) (xs : List ℕ) (rows : List Fields) (s2 : State) (ys : List ℕ) → Reached default_config s xs rows s2 ys → All (λ row. row ≢ []) rows
unfolding Reached
reached_filled s xs [] s2 ys h = All-nil (λ (row : Fields). row ≢ [])
reached_filled s xs (row ∷ rows) s2 ys h =
    let t : IsFilled h.0 = subst (λ (o : Option Read). IfSome o IsFilled) h.1 (filled xs s [] []) in
    All-cons (λ (r : Fields). r ≢ []) row rows (subst (λ (r : Fields). r ≢ []) (sym h.2) t) (reached_filled h.0.1 h.0.2 rows s2 ys h.3)
