use Rattle.std.proofs.Common.{◌≡◌, ◌∙◌, true, sym, subst}
use Rattle.std.specs.Prelude.{IfOk}
use Rattle.std.specs.FinSet.{FinSet}
use Rattle.hm_tree.specs.Names.{name_cmp}
use Rattle.hm_csv_columns.specs.Fields.{texts_shown}
use Rattle.hm_csv_columns.proofs.OnePiece.{one_piece_texts, many_here}
use Rattle.hm_csv_columns.proofs.field.texts_shown.Goals as goal

pub returns-then-is_one_piece : goal.returns-then-is_one_piece
returns-then-is_one_piece c =
    subst (λ (texts : FinSet name_cmp). IfOk c.one_text.result (λ set. set ≡ texts))
    (one_piece_texts c.args.many c.args.field.now (sym c.is_one_piece.ensures ∙ c.if-is_one_piece.true)) c.one_text.ensures

pub returns : goal.returns
returns c =
    let many : c.args.many ≡ true = many_here c.args.many _ (sym c.is_one_piece.ensures ∙ c.if-is_one_piece.false) in
    subst (λ b. IfOk c.texts_of_pieces.result (λ set. set ≡ texts_shown b c.args.field.now)) (sym many) c.texts_of_pieces.ensures
