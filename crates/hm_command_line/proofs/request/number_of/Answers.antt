use Rattle.std.proofs.Common.{◌∙◌, sym, arith}
use Rattle.hm_command_line.proofs.Numbers.{Begins, begins_so, number_read, number_bad}
use Rattle.hm_command_line.proofs.request.number_of.Goals as goal

pub returns-in-Ok : goal.returns-in-Ok
returns-in-Ok c =
    let begins : Begins c.text.result.now =
    begins_so c.text.result.now c.bytes.result.now (c.bytes.ensures.value ∙ sym c.text.ensures.value) (omega arith) (omega arith) (omega arith) in
    let parsed = c.in-Ok.ensures.value in
    rw (← c.text.ensures.value) (number_read c.text.result.now begins c.in-Ok.number parsed.0.0.0 parsed.0.1 c.if-number-le-MOST_CONTACTS.true)

pub returns-in_default-parse-2 : goal.returns-in_default-parse-2
returns-in_default-parse-2 c =
    let begins : Begins c.text.result.now =
    begins_so c.text.result.now c.bytes.result.now (c.bytes.ensures.value ∙ sym c.text.ensures.value) (omega arith) (omega arith) (omega arith) in
    rw (← c.text.ensures.value) (number_bad c.text.result.now begins c.in_default-parse.ensures.value.0)
