use Rattle.std.proofs.Common.{append_assoc}
use Rattle.hm_generator.proofs.Digits.{five_digits, seven_digits}
use Rattle.hm_generator.proofs.contacts.put_card.Goals as goal

pub returns : goal.returns
returns c =
    let begun = simp (c.laid_out.ensures, five_digits) at c.in_ok-write.ensures.bytes in
    let ended = simp (c.right_prefix-prefix.ensures, c.laid_out-2.ensures, seven_digits) at c.in_ok-write-2.ensures.bytes in
    rw (ended, c.in_ok-put_email_line.ensures, begun) (simp append_assoc)
