use Rattle.std.proofs.Common.{◌∙◌, refl}
use Rattle.hm_tree_spelling.specs.Spelling.{spelled}
use Rattle.hm_tree_spelling.proofs.Spelled.{first_piece, next_piece, last_piece}
use Rattle.hm_tree_spelling.proofs.spelling.append_pieces.Goals as goal

pub loop-byte-init : goal.loop-byte-init
loop-byte-init c = c.in_ok-extend_from_slice.ensures.items ∙ rw c.in_ok-push.ensures.items (first_piece _ _ c.plain_len-plain.ensures.plain)

pub returns-in_err-append_byte-clause-kept : goal.returns-in_err-append_byte-clause-kept
returns-in_err-append_byte-clause-kept c = (_, c.in_err-append_byte.ensures ∙ c.loop-byte.invariant)

pub loop-byte-preserved : goal.loop-byte-preserved
loop-byte-preserved c = c.in_ok-append_byte.ensures ∙ next_piece _ _ _ _ _ _ c.loop-byte-test.true refl c.loop-byte.invariant

pub returns-in_err-push-2-clause-kept : goal.returns-in_err-push-2-clause-kept
returns-in_err-push-2-clause-kept c = (_, c.in_err-push-2.ensures.items ∙ c.loop-byte.invariant)

pub returns-clause-ok : goal.returns-clause-ok
returns-clause-ok c = c.in_ok-push-2.ensures.items ∙ last_piece _ _ _ _ _ c.loop-byte-test.false c.loop-byte.invariant

pub returns-clause-kept : goal.returns-clause-kept
returns-clause-kept c = (spelled c.args.bytes.now, c.in_ok-push-2.ensures.items ∙ last_piece _ _ _ _ _ c.loop-byte-test.false c.loop-byte.invariant)
