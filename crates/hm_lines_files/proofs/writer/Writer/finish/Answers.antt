use Rattle.std.proofs.Common.{◌≡◌, ℕ, ◌<◌, false, [], length, sym, ◌∙◌, arith}
use Rattle.std.specs.Bool.{◌==◌}
use Rattle.std.proofs.lemmas.List.{append-nil, length-map}
use Rattle.std.proofs.lemmas.Bool.Decides.{nat_tests}
use Rattle.std.specs.Borrow.{Bor}
use Rattle.hm_lines_files.specs.Components.{Bytes}
use Rattle.hm_lines_files.specs.Lent.{texts}
use Rattle.hm_lines_files.proofs.WrittenLines.{some_left}
use Rattle.hm_lines_files.proofs.writer.Writer.finish.Goals as goal
use Rattle.hm_lines_files.proofs.writer.Writer.finish.Goals.{in_default-via-in-Some+else-is_empty, in_default-via-in_default}

full : (n : ℕ) → false ≡ (n == 0) → 0 < n
full n e = grind (arith, nat_tests)

pub returns-in_default : goal.returns-in_default
returns-in_default c = λ before lines h.
    elim c.in_default.branch [
      | in_default-via-in-Some+else-is_empty w ↦
          let some = full (length w.in-Some.rest.now) w.if-is_empty.ensures in
          let many = length-map w.in-Some.rest.now (λ (l : Bor Bytes). l.now) in
          let is = rw w.in-Some.is at h.rest in
          (some_left before lines (texts w.in-Some.rest.now) is (omega (arith, some, many)), h.text)
      | in_default-via-in_default w ↦
          let differ = rw w.in_default.is at h.rest in
          (λ same. differ [] (sym same ∙ sym (append-nil lines)), h.text)
    ]
