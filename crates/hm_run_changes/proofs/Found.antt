-- What is told of the bytes of six files, for which a plan is made.
use Rattle.std.proofs.Common.{◌≡◌, ℕ, List, [], Result, Ok, Err, sym, ap, subst}
use Rattle.std.specs.Prelude.{Option}
use Rattle.hm_tree.specs.Names.{Name}
use Rattle.hm_run_files.specs.declared.stop.Refusal.{Refusal}
use Rattle.hm_run_files.specs.declared.stop.Stop.{Stop}
use Rattle.hm_run_files.specs.Steps.{Stopped, Computes, stops, goes_on}
use Rattle.hm_run_files.proofs.Steps.{computes_stop}
use Rattle.hm_run_words.specs.declared.ending.Output.{Output}
use Rattle.hm_run_effects.specs.Effects.{Effect, output_value}
use Rattle.hm_run_sides.specs.Sides.{seen}
use Rattle.hm_run_handed.specs.Handed.{Handed}
use Rattle.hm_run_sync.specs.declared.closing.Summary.{Summary}
use Rattle.hm_run_sync.specs.Reads.{Before, ReadsAll}
use Rattle.hm_run_sync.specs.Verdict.{Synced, NewNames, Plans, PlansFrom, Becomes, IsPlannedOf}
use Rattle.hm_run_sync.proofs.Planned.{reads_first, plan_becomes}
use Rattle.hm_run_sync.proofs.Once.{becomes_once}
use Rattle.hm_run.specs.Commands.{new_names}
use Rattle.hm_run_files.specs.Files.{New}
use Rattle.hm_run_changes.specs.Changing.{AreToldOf, IsTold, FindsChanges}

pub seen_stop : (finds : Result Effect Refusal → Type 0) (refuses : Refusal → Type 0) (stop : Stop) (r : Result Output Stop) → r ≡ Err stop
    → Stopped refuses (λ kind at. ⊥) [] [] stop → ((refusal : Refusal) → refuses refusal → finds (Err refusal)) → Computes finds (seen output_value r)
seen_stop finds refuses stop r is h f =
    let e : ◌≡◌ {A = Result Effect Stop} (seen output_value r) (Err stop) = ap (seen output_value) is in
    computes_stop finds refuses stop (seen output_value r) e h f

module _ (h : Handed) (most : Option ℕ) (files : List Name) (all : List (List ℕ)) (names : NewNames) (named : names ≡ new_names files) where
  pub refused_first : (refusal : Refusal) → ReadsAll h all (Err refusal) → FindsChanges h most files all (Err refusal)
  unfolding FindsChanges
  refused_first refusal r = stops (reads_first h (new_names files) all refusal r)

  module _ (before : Before) (reads : ReadsAll h all (Ok before)) where
    pub refused_then : (refusal : Refusal) → Plans h names before (Err refusal) → FindsChanges h most files all (Err refusal)
    unfolding FindsChanges PlansFrom
    refused_then refusal p = stops (goes_on reads (subst (λ (n : NewNames). Plans h n before (Err refusal)) named p))

    pub told_so : (news : List New) (summary : Summary) → IsPlannedOf h names before news summary → (effect : Effect) → IsTold most before effect
        → FindsChanges h most files all (Ok effect)
    unfolding FindsChanges PlansFrom
    told_so news summary p effect t =
        let becomes : Becomes before p.plan.after = subst (λ (b : Before). Becomes b p.plan.after) p.of_what (plan_becomes h names before p.plan p.planned) in
        let same : t.after ≡ p.plan.after = becomes_once before t.after p.plan.after t.becomes becomes in
        let are : AreToldOf p.plan.before p.plan.after t.changes =
        subst (λ (b : Before). AreToldOf b p.plan.after t.changes) (sym p.of_what) (subst (λ (a : Synced). AreToldOf before a t.changes) same t.are) in
        goes_on (goes_on reads (subst (λ (n : NewNames). Plans h n before (Ok p.plan)) named p.planned)) (t.changes, are, (λ i. Ok (t.is i)))
