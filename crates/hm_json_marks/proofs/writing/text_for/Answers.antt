use Rattle.std.proofs.Common.{true≢false, sym, ◌∙◌, subst}
use Rattle.std.proofs.lemmas.Result.{IfOk-weaker}
use Rattle.hm_json_marks.specs.Writing.{JsonWrites, stays, anew}
use Rattle.hm_json_marks.proofs.writing.text_for.Goals as goal

pub is_read_as-requires-clause-read : goal.is_read_as-requires-clause-read
is_read_as-requires-clause-read c = (c.args.text.now, c.requires.read.0, rw c.in-Some.is at c.in_ok-file.ensures.document, c.requires.read.1)

pub returns-then-branch : goal.returns-then-branch
returns-then-branch c =
    let document = rw c.in-Some.is at c.in_ok-file.ensures.document in
    IfOk-weaker c.copied.result _ _ (λ copy h. subst (JsonWrites c.args.tree.now c.args.text.now) (sym (h ∙ c.as_bytes.ensures.value))
    (stays ((c.in_ok-is_read_as-in-Some.ensures c.args.text.now c.utf8.text document).0 c.if-branch.true))) c.copied.ensures

pub returns-else-branch : goal.returns-else-branch
returns-else-branch c =
    let document = rw c.in-Some.is at c.in_ok-file.ensures.document in
    IfOk-weaker c.written_over.result _ _ (λ bytes h.
    anew (λ read. true≢false (sym ((c.in_ok-is_read_as-in-Some.ensures c.args.text.now c.utf8.text document).1 read) ∙ c.if-branch.false)) h) c.written_over.ensures
