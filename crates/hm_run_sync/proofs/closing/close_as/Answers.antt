use Rattle.std.proofs.Common.{Ok, refl, rules, ◌∙◌}
use Rattle.hm_run_files.proofs.Steps.{then_go}
use Rattle.hm_run_files.specs.Steps.{goes_on}
use Rattle.hm_run_sync.specs.Verdict.{ClosesAs, one_sided_texts}
use Rattle.hm_run_sync.proofs.Making.{view_text}
use Rattle.hm_run_sides.proofs.Laws.{stopped_seen}
use Rattle.hm_run_sync.proofs.closing.close_as.Goals as goal

pub returns-in_err-made-clause-closes : goal.returns-in_err-made-clause-closes
unfolding ClosesAs
returns-in_err-made-clause-closes g c =
    stopped_seen _ _ one_sided_texts c.in_err-made.field-0.0 c.from_residual-in_err-made.result (search rules) c.in_err-made.ensures

pub returns-in_err-fits-clause-closes : goal.returns-in_err-fits-clause-closes
unfolding ClosesAs
returns-in_err-fits-clause-closes g c = then_go _ _ _ _ c.in_ok-made.ensures.0
    (stopped_seen _ _ one_sided_texts c.in_err-fits.field-0.0 c.from_residual-in_err-fits.result (search rules) c.in_err-fits.ensures)

pub returns-clause-closes : goal.returns-clause-closes
unfolding ClosesAs
returns-clause-closes g c = (
  goes_on c.in_ok-made.ensures.0 (goes_on c.in_ok-fits.ensures.0 (λ i. Ok (record {
    archive = (c.in_ok-archive.ensures.value ∙ view_text c.args.other.view) i;
    made = c.in_ok-made.made.items;
    kept = c.args.other.bytes.items;
  }))),
  refl,
)
