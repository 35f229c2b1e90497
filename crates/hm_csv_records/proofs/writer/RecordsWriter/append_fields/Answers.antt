use Rattle.std.proofs.Common.{◌∙◌, sym, map}
use Rattle.csv.proofs.ReadFacts.{on-ok}
use Rattle.hm_csv_records.proofs.Writing.{appended}
use Rattle.hm_csv_records.proofs.writer.RecordsWriter.append_fields.Goals as goal

pub returns : goal.returns
returns c =
    let e = c.write_fields.ensures in
    let ok = sym c.is_err.ensures.value ∙ c.if-is_err.false in
    appended c.args.self.now (record { writer = c.write_fields.new.self }) (map (λ f. f.now) c.args.fields.now)
    (on-ok _ ok e.bytes) (on-ok _ ok e.ended) (on-ok _ ok e.clean) (on-ok _ ok e.setup)
