use Rattle.std.proofs.Common.{List, [], ◌∷◌, ◌++◌, ◌∙◌, ap, subst, take}
use Rattle.std.specs.List.{flat_map}
use Rattle.std.proofs.lemmas.List.{take_all}
use Rattle.hm_book_items.specs.Plans.{keys_of}
use Rattle.hm_lines_files.specs.Components.{Piece, piece_lines, components_of}
use Rattle.hm_lines_files.specs.Rewriting.{keyed, remaining}
use Rattle.hm_lines_files.specs.Lent.{template_of, piece_of, pieces_of}
use Rattle.hm_lines_files.specs.declared.component.Piece.{Piece as LentPiece}
use Rattle.hm_book_items.specs.Taken.{HasTaken}
use Rattle.hm_lines_files.specs.WrittenLines.{Extends}
use Rattle.hm_lines_files.proofs.WrittenLines.{extends_as, extends_more}
use Rattle.hm_lines_files.proofs.Passes.{piece_keyed, pieces_taken, components_more, remaining_more}
use Rattle.hm_lines_files.proofs.rewriting.append_old.Goals as goal

pub append_piece-requires-clause-keyed : goal.append_piece-requires-clause-keyed
append_piece-requires-clause-keyed c =
    piece_keyed c.args.pieces.now c.loop-place.place c.index-pieces-place.result c.loop-place-test.true c.index-pieces-place.is c.args.template.now.key c.requires.keyed

pub loop-place-preserved : goal.loop-place-preserved
loop-place-preserved c =
    let K = template_of c.args.template.now in
    let so_far = pieces_of (take c.loop-place.place c.args.pieces.now) in
    let piece = piece_of c.index-pieces-place.result in
    let taken = pieces_taken c.args.pieces.now c.loop-place.place c.index-pieces-place.result c.loop-place-test.true c.index-pieces-place.is in (
      λ lists h.
          subst (HasTaken c.append_piece.new.trees lists)
          (ap (λ cs. keys_of (keyed c.args.template.now.key cs)) (components_more so_far piece ∙ ap components_of taken))
          (c.in_ok-append_piece.ensures.taken lists (components_of so_far) (c.loop-place.invariant.0 lists h)),
      λ lists h.
          extends_as c.args.writer.now c.append_piece.new.writer
          (flat_map piece_lines (remaining K c.args.shown.now lists [] so_far) ++ flat_map piece_lines (remaining K c.args.shown.now lists (components_of so_far) (piece ∷ []))) _
          (remaining_more K c.args.shown.now lists so_far piece ∙ ap (λ (ps : List Piece). flat_map piece_lines (remaining K c.args.shown.now lists [] ps)) taken)
          (extends_more c.args.writer.now c.loop-place.writer c.append_piece.new.writer (flat_map piece_lines (remaining K c.args.shown.now lists [] so_far))
          (flat_map piece_lines (remaining K c.args.shown.now lists (components_of so_far) (piece ∷ []))) (c.loop-place.invariant.1 lists h)
          (c.in_ok-append_piece.ensures.lines lists (components_of so_far) (c.loop-place.invariant.0 lists h))),
    )

pub returns-clause-lines : goal.returns-clause-lines
returns-clause-lines c = λ lists h.
    subst (λ (ps : List LentPiece). Extends c.args.writer.now c.loop-place.writer (flat_map piece_lines (remaining (template_of c.args.template.now) c.args.shown.now lists [] (pieces_of ps))))
    (take_all c.loop-place.place c.args.pieces.now c.loop-place-test.false) (c.loop-place.invariant.1 lists h)
