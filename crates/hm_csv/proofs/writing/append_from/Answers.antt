use Rattle.std.proofs.Common.{◌∷◌, ◌++◌, [], sym, subst}
use Rattle.hm_csv_records.specs.Rows.{Fields}
use Rattle.hm_csv_records.specs.Written.{HasWritten}
use Rattle.hm_csv.proofs.Slots.{row_at}
use Rattle.hm_csv.proofs.writing.append_from.Goals as goal

pub returns : goal.returns
returns c = record {
  written_is = λ mark before h.
      subst (λ (r : Fields). HasWritten c.append_record.new.self mark (before ++ r ∷ []))
      (sym (row_at c.args.rows.now c.args.from c.index-rows-from.result c.index-rows-from.result c.requires c.index-rows-from.is))
      (c.in_ok-append_record.ensures mark before h);
  told = c.stands.ensures;
}
