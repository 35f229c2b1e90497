use Rattle.std.proofs.Common.{eqb-true, ◌≡◌, inl, inr, suc, List, sym, ◌∙◌}
use Rattle.std.specs.Prelude.{◌==◌}
use Rattle.hm_schema_lines.specs.Entries.{EntryValue}
use Rattle.hm_schema_lines.specs.Judging.{lines_of, MayCount}
use Rattle.hm_schema_lines.specs.BadLines.{around}
use Rattle.hm_schema_lines.proofs.Counted.{has_others}
use Rattle.hm_schema_lines.proofs.Judging.{turned, equals}
use Rattle.hm_schema_lines.proofs.judge.may_count.Goals as goal
use Rattle.hm_facts.proofs.Booleans.{refuted}

pub returns : goal.returns
returns c = turned (c.args.line.now.section.now.others == 0) (λ zero. not_spoken (eqb-true _ 0 zero))
    (λ some. inr ((has_others lines).1 (λ none. some (equals _ 0 (c.requires.section.others ∙ none)))))
  where
    lines : List EntryValue
    lines = around (lines_of c.args.line.now) (suc c.args.line.now.place)

    not_spoken : c.args.line.now.section.now.others ≡ 0 → ¬ (MayCount (lines_of c.args.line.now) c.args.line.now.place c.args.count)
    not_spoken none (inl counted) = refuted (c.if-is_none_counted.ensures.1 counted)
    not_spoken none (inr spoken) = (has_others lines).0 spoken (sym c.requires.section.others ∙ none)
