use Rattle.std.proofs.Common.{◌+◌, drop, sym, subst, arith}
use Rattle.std.proofs.lemmas.List.{take_rest}
use Rattle.hm_lines_files.specs.Components.{Bytes}
use Rattle.hm_lines_files.proofs.Numbers.{IsCounted, left_empty, left_full}
use Rattle.hm_lines_files.proofs.opening.number_of.Goals as goal
use Rattle.hm_lines_files.proofs.opening.number_of.Goals.{then-line-gt0+else-left-eq0, else-line-gt0}

pub loop-rest-preserved : goal.loop-rest-preserved
loop-rest-preserved c =
    let bytes = c.args.text.now in
    let rest = c.loop-rest.rest.now in
    let line = c.first_line-line.result in
    let is = c.first_line-line.ensures.line in
    subst (λ (r : Bytes). IsCounted bytes r c.args.place (c.loop-rest.number + 1) c.if-line-gt0.left) (sym (take_rest rest line.next))
    (elim c.if-line-gt0.branch [
      | then-line-gt0+else-left-eq0 w ↦
          left_full bytes rest c.args.place c.loop-rest.number c.loop-rest.left c.loop-rest.invariant line is w.if-line-gt0.true c.if-line-gt0.left
          (let is = w.left-is in let some = w.if-left-eq0.false in omega (arith, is, some))
      | else-line-gt0 w ↦
          let none = w.if-line-gt0.false in
          subst (IsCounted bytes (drop line.next rest) c.args.place (c.loop-rest.number + 1)) (sym w.left-is)
          (left_empty bytes rest c.args.place c.loop-rest.number c.loop-rest.left c.loop-rest.invariant line is (omega (arith, none)))
    ])
