use Rattle.hm_csv_records.proofs.Laws.{rows_text}
use Rattle.hm_csv_records.proofs.reader.read_records.Goals as goal

pub returns-clause-text : goal.returns-clause-text
returns-clause-text c = rows_text c.args.names.now c.args.bytes.now c.in_ok-rows.rows.items c.in_default.ensures c.in_ok-rows.ensures.rows
