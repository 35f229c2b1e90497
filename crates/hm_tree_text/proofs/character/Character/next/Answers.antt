use Rattle.std.proofs.Common.{inl, inr}
use Rattle.hm_tree_text.proofs.Utf8.{continues_next, continues_not}
use Rattle.hm_tree_text.proofs.Completing.{next_begun, next_open}
use Rattle.hm_tree_text.proofs.character.Character.next.Goals as goal

pub returns-then-self-eq0 : goal.returns-then-self-eq0
returns-then-self-eq0 c = next_begun c.args.self c.args.byte _ c.if-self-eq0.true c.begun_by.ensures

pub returns-then-byte-self : goal.returns-then-byte-self
returns-then-byte-self c = continues_not _ _ _ _ c.if-self-eq0.false (inl c.if-byte-self.true)

pub returns-then-self-byte : goal.returns-then-self-byte
returns-then-self-byte c = continues_not _ _ _ _ c.if-self-eq0.false (inr c.if-self-byte.true)

pub returns : goal.returns
returns c = (next_open _, continues_next _ _ _ _ c.if-self-eq0.false c.if-byte-self.false c.if-self-byte.false)
