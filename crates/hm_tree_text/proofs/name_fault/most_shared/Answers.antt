use Rattle.std.proofs.Common.{◌≡◌, ◌+◌, refl, sym, subst, ◌∙◌, arith}
use Rattle.hm_tree_text.proofs.Reached.{not_false}
use Rattle.hm_tree_text.proofs.Walking.{MostBelow, most_next, most_skipped, most_all, most_within, max_is}
use Rattle.hm_tree_text.proofs.name_fault.most_shared.Goals as goal
use Rattle.hm_tree_text.proofs.name_fault.most_shared.Goals.{then-is_next, else-is_next}

pub loop-byte-preserved : goal.loop-byte-preserved
loop-byte-preserved c = elim c.if-is_next.branch [
  | then-is_next w ↦ subst (MostBelow c.args.character c.args.left.now c.args.bytes.now (c.loop-byte.byte + 1))
      (sym (w.most-is ∙ max_is _ _ _ w.max-most.ensures))
      (most_next _ _ _ c.loop-byte.byte c.loop-byte.most c.loop-byte.invariant _ w.shared_spelling.ensures (w.if-is_next.ensures.yes refl))
  | else-is_next w ↦ subst (MostBelow c.args.character c.args.left.now c.args.bytes.now (c.loop-byte.byte + 1)) (sym w.most-is)
      (most_skipped _ _ _ c.loop-byte.byte c.loop-byte.most c.loop-byte.invariant (λ next. not_false (w.if-is_next.ensures.no next)))
]

pub returns-clause-most : goal.returns-clause-most
returns-clause-most c =
    let ended : c.loop-byte.byte ≡ 245 = omega arith in
    most_all _ _ _ _ c.requires (subst (λ b. MostBelow c.args.character c.args.left.now c.args.bytes.now b c.loop-byte.most) ended
    c.loop-byte.invariant)

pub returns-clause-within : goal.returns-clause-within
returns-clause-within c = most_within _ _ _ _ _ c.loop-byte.invariant
