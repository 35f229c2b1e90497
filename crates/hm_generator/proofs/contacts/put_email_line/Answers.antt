use Rattle.hm_generator.proofs.Digits.{five_digits}
use Rattle.hm_generator.proofs.contacts.put_email_line.Goals as goal

pub returns-in_ok-write : goal.returns-in_ok-write
returns-in_ok-write c =
    rw (← c.has_email_right.ensures, c.if-has_email_right.true) (simp (c.laid_out.ensures, five_digits) at c.in_ok-write.ensures.bytes)
