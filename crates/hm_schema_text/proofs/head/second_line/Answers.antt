use Rattle.std.proofs.Common.{◌+◌, sym, ap, ◌∙◌}
use Rattle.std.specs.Int.{from_bool}
use Rattle.hm_schema_lines.specs.Entries.{entry_value, entry_values}
use Rattle.hm_schema_lines.specs.BadLines.{lines_before}
use Rattle.hm_schema_lines.proofs.Laws.{entry_at}
use Rattle.hm_schema_text.proofs.Judging.{lines_next, few_next}
use Rattle.hm_schema_text.proofs.head.second_line.Goals.{else-counted-via-then-counted+else-lines-eq1, else-counted-via-else-counted}
use Rattle.hm_schema_text.proofs.head.second_line.Goals as goal

pub loop-place-preserved : goal.loop-place-preserved
loop-place-preserved c =
    let at = entry_at c.args.entries.now c.loop-place.place c.index-entries-place.result c.loop-place-test.true c.index-entries-place.is in
    record {
      lines =
          ap (λ n. n + c.from-lines.result) c.loop-place.invariant.lines
          ∙ ap (λ n. lines_before (entry_values c.args.entries.now) c.loop-place.place + n)
          (c.from-lines.ensures ∙ ap from_bool c.is_counted-counted.ensures)
          ∙ lines_next (entry_values c.args.entries.now) c.loop-place.place (entry_value c.index-entries-place.result) at;
      few = few_next _ _ c.is_counted-counted.result c.from-lines.ensures c.loop-place.invariant.few (λ yes one. elim c.else-counted.branch [
        | else-counted-via-then-counted+else-lines-eq1 w ↦ w.if-lines-eq1.false one
        | else-counted-via-else-counted w ↦ (let both = sym yes ∙ w.if-counted.false in let f : ⊥ = cc in f)
      ]);
    }
