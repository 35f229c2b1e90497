use Rattle.std.proofs.Common.{List, ap, sym}
use Rattle.std.specs.Borrow.{Bor}
use Rattle.std.proofs.lemmas.Slice.Eq.{bytes_eq-Decides}
use Rattle.hm_lines_files.specs.Components.{Bytes}
use Rattle.hm_lines_files.specs.Lent.{texts}
use Rattle.hm_lines_files.proofs.WrittenLines.{same_next, other_next}
use Rattle.hm_lines_files.proofs.writer.behind.Goals as goal

pub returns-then-eq : goal.returns-then-eq
returns-then-eq c = λ before lines is.
    let h = rw c.in_ok-rest.was at is in
    same_next before lines c.args.line.now (texts c.in_ok-rest.field-0.now) c.in_ok-first.first.now.now (texts c.in_ok-first.others.now)
    (ap (λ (ls : List (Bor Bytes)). texts ls) c.in_ok-first.ensures.cases.0)
    ((bytes_eq-Decides c.in_ok-first.first.now.now c.args.line.now).0 (sym c.if-eq.ensures)) h

pub returns-else-eq : goal.returns-else-eq
returns-else-eq c = λ before lines is.
    let h = rw c.in_ok-rest.was at is in
    other_next before lines c.args.line.now (texts c.in_ok-rest.field-0.now) c.in_ok-first.first.now.now (texts c.in_ok-first.others.now)
    (ap (λ (ls : List (Bor Bytes)). texts ls) c.in_ok-first.ensures.cases.0)
    (λ same.
    let found = (bytes_eq-Decides c.in_ok-first.first.now.now c.args.line.now).1 same in let none = c.if-eq.ensures in let bad : ⊥ = cc in bad) h
