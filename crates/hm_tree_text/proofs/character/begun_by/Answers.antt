use Rattle.std.proofs.Common.{inl, inr, arith}
use Rattle.hm_tree_text.proofs.Utf8.{begun_complete, begun_none}
use Rattle.hm_tree_text.proofs.Completing.{complete_open, begun}
use Rattle.hm_tree_text.proofs.character.begun_by.Goals as goal

pub returns-then-byte-lt128 : goal.returns-then-byte-lt128
returns-then-byte-lt128 c = (complete_open, begun_complete c.args.byte c.if-byte-lt128.true)

pub returns-then-byte-lt194 : goal.returns-then-byte-lt194
returns-then-byte-lt194 c = begun_none c.args.byte c.if-byte-lt128.false (inl c.if-byte-lt194.true)

pub returns-then-byte-gt244 : goal.returns-then-byte-gt244
returns-then-byte-gt244 c = begun_none c.args.byte c.if-byte-lt128.false (inr (omega arith))

pub returns : goal.returns
returns c = begun c.args.byte _ _ _ c.missing_behind.ensures c.second_low.ensures c.second_high.ensures c.if-byte-lt194.false (omega arith)
