use Rattle.std.proofs.Common.{◌≡◌, ◌≢◌, List, [], ◌++◌, ap, sym, subst, ◌∙◌}
use Rattle.std.specs.Prelude.{MatchOption}
use Rattle.std.specs.Borrow.{Bor}
use Rattle.std.specs.List.{flat_map}
use Rattle.std.proofs.lemmas.List.Concat.{flat_map-append}
use Rattle.hm_tree.specs.Names.{name_cmp}
use Rattle.hm_book_items.specs.Items.{added}
use Rattle.hm_book_items.specs.Lent.{lent_lists}
use Rattle.hm_lines.specs.Folding.{AreFolded}
use Rattle.hm_lines_files.specs.Components.{Bytes, piece_lines, all_lines, components_of}
use Rattle.hm_lines_files.specs.Rewriting.{keyed, remaining, items_for, rewritten_layout}
use Rattle.hm_lines_files.specs.Lent.{texts, template_of, layout_of, pieces_of}
use Rattle.hm_lines_files.specs.declared.component.Piece.{Piece as LentPiece}
use Rattle.hm_lines_files.specs.WrittenLines.{HasWritten, Extends}
use Rattle.hm_lines_files.proofs.WrittenLines.{extends_more}
use Rattle.hm_lines_files.proofs.rewriting.rewrite.Goals as goal

pub returns : goal.returns
returns c =
    let K = template_of c.args.template.now in
    let shown = c.args.shown.now in
    let lists = lent_lists c.args.lists.now in
    let old = layout_of c.args.layout.now in
    let new = all_lines (rewritten_layout K shown lists old) in
    let ps = pieces_of c.deref.result.now in
    let cs = components_of ps in
    let kept = flat_map piece_lines (remaining K shown lists [] ps) in
    let more = flat_map piece_lines (items_for K shown (added name_cmp (keyed K.key cs) lists)) in
    let w = c.in_ok-writer.writer in
    let same : (kept ++ more) ++ old.end ≡ new =
    ap (λ ls. ls ++ old.end) (sym (flat_map-append piece_lines (remaining K shown lists [] ps) (items_for K shown (added name_cmp (keyed K.key cs) lists))))
    ∙ ap (λ (qs : List LentPiece). all_lines (rewritten_layout K shown lists (record { pieces = pieces_of qs; end = old.end }))) c.deref.ensures.value in
    let one : Extends w c.append_old.new.writer kept = c.in_ok-append_old.ensures.lines lists c.in_ok-trees.ensures in
    let two : Extends c.append_old.new.writer c.append_new.new.writer more =
    c.in_ok-append_new.ensures lists cs (c.in_ok-append_old.ensures.taken lists c.in_ok-trees.ensures) in
    let three : Extends c.append_new.new.writer c.append_all.new.self old.end =
    subst (λ (ls : List (Bor Bytes)). Extends c.append_new.new.writer c.append_all.new.self (texts ls)) c.deref-2.ensures.value c.in_ok-append_all.ensures in
    let all = extends_more w c.append_new.new.writer c.append_all.new.self (kept ++ more) old.end (extends_more w c.append_old.new.writer c.append_new.new.writer kept more one two) three in
    let h : HasWritten c.append_all.new.self (texts c.args.lines.now) new =
    subst (HasWritten c.append_all.new.self (texts c.args.lines.now)) same (all (texts c.args.lines.now) [] c.in_ok-writer.ensures) in
    subst (λ (before : List Bytes). MatchOption c.finish.result (new ≡ before) (λ text. (new ≢ before) × AreFolded new text.items)) c.requires.old
    (c.finish.ensures (texts c.args.lines.now) new h)
