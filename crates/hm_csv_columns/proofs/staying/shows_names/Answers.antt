use Rattle.std.proofs.Common.{◌≡◌, ◌∙◌, sym, subst}
use Rattle.std.specs.Prelude.{IfOk}
use Rattle.std.specs.FinSet.{FinSet}
use Rattle.hm_tree.specs.Names.{name_cmp}
use Rattle.hm_tree.specs.Sets.{ascending}
use Rattle.hm_csv_columns.specs.Fields.{same_names}
use Rattle.hm_csv_columns.proofs.OnePiece.{one_piece_texts}
use Rattle.hm_csv_columns.proofs.SameNames.{names_in}
use Rattle.hm_csv_columns.proofs.staying.shows_names.Goals as goal

pub returns-then-is_one_piece : goal.returns-then-is_one_piece
returns-then-is_one_piece c =
    subst (λ (texts : FinSet name_cmp). IfOk c.shows_one.result (λ same. same ≡ same_names (ascending texts) (names_in c.args.edges.now)))
    (one_piece_texts c.args.many c.args.field.now (sym c.is_one_piece.ensures ∙ c.if-is_one_piece.true)) c.shows_one.ensures
