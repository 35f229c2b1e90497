use Rattle.std.proofs.Common.{sym, ◌∙◌, arith}
use Rattle.hm_tree_spelling.proofs.Spelled.{plain_more}
use Rattle.hm_tree_spelling.proofs.plain.plain_len.Goals as goal

pub loop-at-preserved : goal.loop-at-preserved
loop-at-preserved c = record {
  within = omega arith;
  plain = plain_more c.args.bytes.now c.loop-at.at c.loop-at-test.true (sym c.is_plain.ensures ∙ c.if-is_plain.true) c.loop-at.invariant.plain;
}
