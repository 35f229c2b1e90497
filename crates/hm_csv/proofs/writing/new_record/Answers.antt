use Rattle.std.proofs.Common.{◌∙◌, ap, sym, subst, length}
use Rattle.std.specs.Prelude.{All, IsUtf8}
use Rattle.csv.specs.Records.{fields_of}
use Rattle.hm_csv.proofs.RowLaws.{blank_long, blank_text}
use Rattle.hm_csv.proofs.Slots.{header_is, signs_for, new_is}
use Rattle.hm_csv.proofs.writing.new_record.Goals as goal

pub rewrite-requires-clause-signs : goal.rewrite-requires-clause-signs
rewrite-requires-clause-signs c =
    signs_for c.args.opened.now.table.columns.items c.args.opened.now.table.signs.items _ _
    (ap length (header_is c.args.opened.now c.index.result.now c.index.result.now c.requires.some c.index.ensures) ∙ sym c.len-count.ensures
    ∙ sym (ap length c.in_ok-blank.ensures ∙ blank_long c.args.opened.now.key c.args.key.now c.len-count.result)) c.requires.signs

pub rewrite-requires-clause-text : goal.rewrite-requires-clause-text
rewrite-requires-clause-text c =
    subst (All IsUtf8) (sym c.in_ok-blank.ensures)
    (blank_text c.args.opened.now.key c.args.key.now c.len-count.result (subst IsUtf8 c.text-text.ensures.value c.text-text.utf8))

pub returns-in-Some : goal.returns-in-Some
returns-in-Some c =
    let new = rw c.in-Some.is at c.in_ok-new.ensures in
    new_is c.args.opened.now c.args.key.now c.args.card.now c.index.result.now c.index.result.now (fields_of c.in_ok-blank.blank) (fields_of c.in-Some.new) c.len-count.result
    c.requires.some c.index.ensures c.len-count.ensures c.in_ok-blank.ensures new

pub returns-in-None : goal.returns-in-None
returns-in-None c =
    let stays = rw c.in-None.is at c.in_ok-new.ensures in
    new_is c.args.opened.now c.args.key.now c.args.card.now c.index.result.now c.index.result.now (fields_of c.in_ok-blank.blank) (fields_of c.in_ok-blank.blank) c.len-count.result
    c.requires.some c.index.ensures c.len-count.ensures c.in_ok-blank.ensures (sym stays)
