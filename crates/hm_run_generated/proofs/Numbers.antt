-- The numbers of a run of made-up files, step behind step.
use Rattle.std.proofs.Common.{◌≡◌, ◌∙◌, ℕ, List, [], length, Result, Ok, Err, ap, subst}
use Rattle.hm_run_files.specs.declared.stop.Refusal.{Refusal}
use Rattle.hm_run_files.specs.declared.stop.Stop.{Stop}
use Rattle.hm_run_files.specs.Steps.{Stopped, Computes, stops, goes_on}
use Rattle.hm_run_files.specs.Files.{New, loads}
use Rattle.hm_run_files.proofs.Steps.{then_stop, computes_stop}
use Rattle.hm_run_words.specs.declared.ending.Output.{Output}
use Rattle.hm_run_effects.specs.Effects.{Effect, output_value, says}
use Rattle.hm_run_handed.specs.Handed.{Handed}
use Rattle.hm_run_sides.specs.Sides.{seen}
use Rattle.hm_run_sync.specs.declared.closing.Summary.{Summary}
use Rattle.hm_run_sync.specs.Verdict.{NewNames, PlansFrom, IsPlanned, count_of}
use Rattle.hm_run_generated.specs.Stored.{store_names, files_named, new_names, generated_contents}
use Rattle.hm_run_generated.specs.Generating.{Generates, numbers_line}

module _ (h : Handed) (number : ℕ) (r : Result Output Stop) where
  stopped : (stop : Stop) → r ≡ Err stop → ◌≡◌ {A = Result Effect Stop} (seen output_value r) (Err stop)
  stopped stop is = ap (seen output_value) is

  pub loads_stopped : (stop : Stop) → r ≡ Err stop
      → Computes {A = List (List ℕ)} (λ found. found ≡ loads (generated_contents number) (files_named store_names)) (Err stop)
      → Computes (Generates h number) (seen output_value r)
  unfolding Generates
  loads_stopped stop is k = then_stop _ _ stop (seen output_value r) (stopped stop is) k

  module _ (all : List (List ℕ)) (loaded : Ok all ≡ loads (generated_contents number) (files_named store_names))
      (names : NewNames) (named : names ≡ new_names store_names) where
    pub plan_stopped : (stop : Stop) → r ≡ Err stop → Stopped (λ refusal. PlansFrom h names all (Err refusal)) (λ kind at. ⊥) [] [] stop
        → Computes (Generates h number) (seen output_value r)
    unfolding Generates
    plan_stopped stop is k =
        computes_stop (Generates h number) (λ refusal. PlansFrom h names all (Err refusal)) stop (seen output_value r) (stopped stop is) k
        (λ refusal p. goes_on loaded (stops (subst (λ (n : NewNames). PlansFrom h n all (Err refusal)) named p)))

    pub told : (news : List New) (summary : Summary) → IsPlanned h names all news summary → (effect : Effect)
        → effect ≡ says (numbers_line number summary.left summary.right (length summary.conflicts.items)) → Generates h number (Ok effect)
    unfolding Generates
    told news summary p effect is =
        let counts : ◌≡◌ {A = Result Effect Refusal} (Ok (says (numbers_line number summary.left summary.right (length summary.conflicts.items))))
        (Ok (says (numbers_line number (count_of p.plan.after.left) (count_of p.plan.after.right) (length summary.conflicts.items)))) =
        λ i. Ok (says (numbers_line number (p.sums.left i) (p.sums.right i) (length summary.conflicts.items))) in
        goes_on loaded (goes_on (subst (λ (n : NewNames). PlansFrom h n all (Ok p.plan)) named p.planned)
        (summary.conflicts.items, p.sums.remain, ap Ok is ∙ counts))
