use Rattle.std.proofs.Common.{◌≡◌, ◌∙◌, [], List, get_or, map, sym, ap}
use Rattle.csv.specs.Records.{Row, fields_of}
use Rattle.hm_csv_columns.specs.Records.{rewritten}
use Rattle.hm_csv.specs.Rewriting.{rows_in}
use Rattle.hm_csv.proofs.Slots.{text_at, row_at}
use Rattle.hm_csv.proofs.Appended.{appended_same}
use Rattle.hm_csv.proofs.writing.append_rewritten.Goals as goal

pub rewrite-requires-clause-text : goal.rewrite-requires-clause-text
rewrite-requires-clause-text c =
    text_at c.args.opened.now.rows.items c.requires.even.text c.args.from c.index.result.now c.index.result.now c.requires.inside c.index.ensures

pub returns-in-Some : goal.returns-in-Some
returns-in-Some c =
    let w = c.args.opened.now in
    let columns = w.table.columns.items in
    let row : get_or (rows_in w) c.args.from [] ≡ fields_of c.index.result.now =
    row_at w.rows.items c.args.from c.index.result.now c.index.result.now c.requires.inside c.index.ensures in
    let new = rw c.in-Some.is at c.in_ok-new.ensures in
    appended_same (map fields_of c.deref.result.now) (rows_in w) c.args.at c.args.writer.now c.append.new.writer (fields_of c.in-Some.new)
    (rewritten columns c.args.card.now (get_or (rows_in w) c.args.from [])) c.append.result
    (ap (λ (rows : List Row). map fields_of rows) c.deref.ensures.value) (new ∙ ap (rewritten columns c.args.card.now) (sym row)) c.append.ensures

pub returns-in-None : goal.returns-in-None
returns-in-None c =
    let w = c.args.opened.now in
    let columns = w.table.columns.items in
    let row : get_or (rows_in w) c.args.from [] ≡ fields_of c.index.result.now =
    row_at w.rows.items c.args.from c.index.result.now c.index.result.now c.requires.inside c.index.ensures in
    let stays = rw c.in-None.is at c.in_ok-new.ensures in
    let all = c.deref-in-None.ensures.value in
    appended_same (map fields_of c.deref-in-None.result.now) (rows_in w) c.args.at c.args.writer.now c.append_from.new.writer (get_or (map fields_of c.deref-in-None.result.now) c.args.from [])
    (rewritten columns c.args.card.now (get_or (rows_in w) c.args.from [])) c.append_from.result (ap (λ (rows : List Row). map fields_of rows) all)
    (ap (λ (rows : List Row). get_or (map fields_of rows) c.args.from []) all ∙ row ∙ sym stays ∙ ap (rewritten columns c.args.card.now) (sym row)) c.append_from.ensures
