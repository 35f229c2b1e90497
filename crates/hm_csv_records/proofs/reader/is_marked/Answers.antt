use Rattle.csv.specs.Records.{fields_of}
use Rattle.hm_csv_records.proofs.Rows.{marked_some, marked_none}
use Rattle.hm_csv_records.proofs.reader.is_marked.Goals as goal

pub returns-in-Some : goal.returns-in-Some
returns-in-Some c =
    let at = rw c.in-Some.is at c.get.ensures.value in
    let same = marked_some (fields_of c.args.row.now) c.in-Some.field.now at in
    ((λ t. same.0 (c.begins_with_mark.ensures.0 t)), (λ m. c.begins_with_mark.ensures.1 (same.1 m)))

pub returns-in-None : goal.returns-in-None
returns-in-None c =
    let at = rw c.in-None.is at c.get.ensures.value in
    ((λ t. let bad : ⊥ = cc in absurd bad), (λ m. absurd (marked_none (fields_of c.args.row.now) at m)))
