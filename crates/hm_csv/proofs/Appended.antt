-- A record that was written behind others, and whether it stands at a place.
use Rattle.std.proofs.Common.{◌≡◌, ℕ, Bool, true, ◌+◌, ◌<◌, ◌&&◌, List, [], ◌∷◌, length, get_or, take, slice_get, Some, refl, sym, ap, ◌∙◌, subst}
use Rattle.std.specs.Prelude.{IfOk, IsTrue, ◌↔◌, Result}
use Rattle.std.proofs.lemmas.Option.{slice_get-get_or}
use Rattle.hm_book_items.specs.declared.planned.NewItem.{NewItem}
use Rattle.hm_csv_records.specs.Rows.{Fields}
use Rattle.hm_csv_records.specs.Written.{HasWritten}
use Rattle.hm_csv_records.specs.declared.writer.RecordsWriter.{RecordsWriter}
use Rattle.hm_csv.specs.declared.opening.Opened.{Opened}
use Rattle.hm_csv.specs.Rewriting.{Lists, rows_in, header_in, others_in, row_in, slot_in, slot_rows, IsAppended}
use Rattle.hm_csv.proofs.Slots.{rows_more, rows_so_many}
use Rattle.hm_csv.proofs.Prefixes.{same_on}

-- it's told of the same record among the same ones
pub appended_same : {E : Type 0} (rows others : List Fields) (at : ℕ) (old new : RecordsWriter) (row other : Fields) (result : Result Bool E)
    → rows ≡ others → row ≡ other → IfOk result (IsAppended rows at old new row) → IfOk result (IsAppended others at old new other)
appended_same rows others at old new row other result all one h =
    subst (λ (r : Fields). IfOk result (IsAppended others at old new r)) one
    (subst (λ (rs : List Fields). IfOk result (IsAppended rs at old new row)) all h)

-- a record stands at its own place
pub stands_there : (rows : List Fields) (from at : ℕ) → from < length rows → from ≡ at → IsTrue true ↔ (slice_get rows at ≡ Some (get_or rows from []))
stands_there rows from at lt e = ((λ t. ap (slice_get rows) (sym e) ∙ slice_get-get_or rows from [] lt), (λ h. refl))

-- the record of one slot more
module _ (w : Opened) (lists : Lists) (slots : List NewItem) (at : ℕ) (lt : at < length slots) (d : NewItem) where
  abbrev so_far : List Fields
  so_far = slot_rows w lists (take at slots)

  pub slot_more : (old new : RecordsWriter) (same stands : Bool) → HasWritten old w.mark (header_in w ∷ so_far) → IsTrue same ↔ (so_far ≡ take at (others_in w))
      → IsAppended (rows_in w) (at + 1) old new (row_in w (slot_in w lists (get_or slots at d))) stands
      → HasWritten new w.mark (header_in w ∷ slot_rows w lists (take (at + 1) slots))
      × (IsTrue (same && stands) ↔ (slot_rows w lists (take (at + 1) slots) ≡ take (at + 1) (others_in w)))
  slot_more old new same stands before tells h =
      let row : Fields = row_in w (slot_in w lists (get_or slots at d)) in
      let more = rows_more w lists slots at lt d row refl in
      let many = rows_so_many w lists slots at lt d row refl in
      let on = same_on same stands so_far (rows_in w) row at many tells (λ e. h.told) in (
        subst (λ (rows : List Fields). HasWritten new w.mark (header_in w ∷ rows)) (sym more) (h.written_is w.mark (header_in w ∷ so_far) before),
        ((λ t. more ∙ on.0 t), (λ e. on.1 (sym more ∙ e))),
      )
