use Rattle.hm_generator.proofs.Digits.{five_digits, seven_digits}
use Rattle.hm_generator.proofs.contacts.put_row.Goals as goal

pub returns : goal.returns
returns c =
    rw (← c.is_deleted_left.ensures, c.if-is_deleted_left.false)
    (simp (c.left_prefix-prefix.ensures, c.laid_out.ensures, c.laid_out-2.ensures, five_digits, seven_digits) at c.in_ok-write.ensures.bytes)
