use Rattle.std.proofs.Common.{◌≡◌, arith}
use Rattle.std.specs.Str.Parse.{without_leading_plus}
use Rattle.std.proofs.lemmas.Bool.Decides.{nat_tests}
use Rattle.hm_changes_words.proofs.Numbers.{plain_if_empty, plain_if_other, number_read, no_number}
use Rattle.hm_changes_words.proofs.asked.number_of.Goals as goal
use Rattle.hm_changes_words.proofs.asked.number_of.Goals.{then-as_bytes-lt1, else-as_bytes-lt1+in_default-1}

pub returns-in-Ok : goal.returns-in-Ok
returns-in-Ok c =
    let plain : without_leading_plus c.args.word.now ≡ c.args.word.now = elim c.if-as_bytes-lt1.branch [
      | then-as_bytes-lt1 w ↦ plain_if_empty c.args.word.now c.as_bytes.result.now c.as_bytes.ensures.value (grind (arith, nat_tests))
      | else-as_bytes-lt1+in_default-1 w ↦ plain_if_other c.args.word.now c.as_bytes.result.now c.as_bytes.ensures.value (omega arith)
    ] in
    let parsed = c.in-Ok.ensures.value in
    number_read c.args.word.now plain c.in-Ok.number parsed.0.0 parsed.0.1

pub returns-in-Err : goal.returns-in-Err
returns-in-Err c =
    let plain : without_leading_plus c.args.word.now ≡ c.args.word.now = elim c.if-as_bytes-lt1.branch [
      | then-as_bytes-lt1 w ↦ plain_if_empty c.args.word.now c.as_bytes.result.now c.as_bytes.ensures.value (grind (arith, nat_tests))
      | else-as_bytes-lt1+in_default-1 w ↦ plain_if_other c.args.word.now c.as_bytes.result.now c.as_bytes.ensures.value (omega arith)
    ] in
    no_number c.args.word.now plain c.in-Err.ensures.value.0
