use Rattle.std.proofs.Common.{true≢false, sym, ◌∙◌, subst}
use Rattle.hm_netscape_files.specs.Writing.{NetscapeWrites, stays, anew}
use Rattle.hm_netscape_marks.proofs.writing.write_file.Goals as goal

pub returns-then-branch : goal.returns-then-branch
returns-then-branch c = (
  sym c.over_limits.ensures ∙ c.in_default.is,
  subst (NetscapeWrites c.args.tree.now c.args.before.now) (sym c.in_ok-copied.ensures) (stays (c.in_ok-is_read_as.ensures.0 c.if-branch.true)),
)

pub returns : goal.returns
returns c = (
  sym c.over_limits.ensures ∙ c.in_default.is,
  anew (λ read. true≢false (sym (c.in_ok-is_read_as.ensures.1 read) ∙ c.if-branch.false)) c.in_ok-written_anew.ensures,
)
