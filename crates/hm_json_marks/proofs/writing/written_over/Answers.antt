use Rattle.std.proofs.Common.{sym, subst}
use Rattle.std.proofs.lemmas.Result.{IfOk-weaker}
use Rattle.serde_json.specs.View.{view}
use Rattle.hm_json_documents.proofs.Sound.{sound_no_float}
use Rattle.hm_json_marks.specs.Writing.{IsWrittenAnew}
use Rattle.hm_json_marks.proofs.WrittenRoots.{both_roots, written_file, written_fine}
use Rattle.hm_json_marks.proofs.writing.written_over.Goals as goal

pub roots_anew-requires-clause-roots : goal.roots_anew-requires-clause-roots
roots_anew-requires-clause-roots c = both_roots c.args.text.now (view c.args.file) c.requires.file c.requires.document

pub write_document-requires-clause-no_float : goal.write_document-requires-clause-no_float
write_document-requires-clause-no_float c =
    let w = c.in_ok-new.ensures (both_roots c.args.text.now (view c.args.file) c.requires.file c.requires.document) in
    sound_no_float (view c.in_ok-new.new)
    (written_fine c.args.text.now c.utf8.text c.requires.file c.args.tree.now _ _ (view c.args.file) (view c.in_ok-new.new) c.requires.document c.requires.within c.folders_of.ensures w).0

pub write_document-requires-clause-nests : goal.write_document-requires-clause-nests
write_document-requires-clause-nests c =
    let w = c.in_ok-new.ensures (both_roots c.args.text.now (view c.args.file) c.requires.file c.requires.document) in
    (written_fine c.args.text.now c.utf8.text c.requires.file c.args.tree.now _ _ (view c.args.file) (view c.in_ok-new.new) c.requires.document c.requires.within c.folders_of.ensures w).1

pub returns : goal.returns
returns c =
    let w = c.in_ok-new.ensures (both_roots c.args.text.now (view c.args.file) c.requires.file c.requires.document) in
    IfOk-weaker c.write_document.result _ _ (λ bytes h. subst (IsWrittenAnew c.args.tree.now c.args.text.now) (sym h)
    (written_file c.args.text.now c.requires.file c.args.tree.now _ _ (view c.args.file) (view c.in_ok-new.new) c.requires.document c.folders_of.ensures w)) c.write_document.ensures.text
