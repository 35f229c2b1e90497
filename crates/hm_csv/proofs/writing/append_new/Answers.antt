use Rattle.std.proofs.Common.{List, ap, map, None}
use Rattle.csv.specs.Records.{Row, fields_of}
use Rattle.hm_csv.specs.Rewriting.{rows_in, row_in}
use Rattle.hm_csv.proofs.Appended.{appended_same}
use Rattle.hm_csv.proofs.writing.append_new.Goals as goal

pub returns : goal.returns
returns c =
    let w = c.args.opened.now in
    appended_same (map fields_of c.deref.result.now) (rows_in w) c.args.at c.args.writer.now c.append.new.writer (fields_of c.in_ok-new.new)
    (row_in w (c.args.key.now, None, c.args.card.now)) c.append.result (ap (λ (rows : List Row). map fields_of rows) c.deref.ensures.value) c.in_ok-new.ensures c.append.ensures
