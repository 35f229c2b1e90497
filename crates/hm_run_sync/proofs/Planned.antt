-- A plan, step behind step.
use Rattle.std.proofs.Common.{◌≡◌, ℕ, List, Result, Ok, Err, refl, sym, ap, subst, ◌∙◌}
use Rattle.hm_run_files.specs.declared.slot.NewFile.{NewFile}
use Rattle.hm_run_files.specs.declared.stop.Refusal.{Refusal}
use Rattle.hm_run_files.specs.Steps.{stops, goes_on}
use Rattle.hm_run_files.specs.Files.{New, measures}
use Rattle.hm_run_files.proofs.Steps.{ok_is, then_ok}
use Rattle.hm_run_handed.specs.Handed.{Handed}
use Rattle.hm_run_sync.specs.declared.closing.Summary.{Summary}
use Rattle.hm_run_sync.specs.Reads.{Before, ReadsAll}
use Rattle.hm_run_sync.specs.Verdict.{NewNames, Synced, Texts, Plan, Plans, PlansFrom, Becomes, Closes, IsSummary, news_of, IsUnwritable, IsPlannedOf, MakesOf, Makes}

module _ (h : Handed) (files : NewNames) (before : Before) where
  pub unwritable : (refusal : Refusal) → IsUnwritable h before refusal → Plans h files before (Err refusal)
  unfolding Plans
  unwritable refusal u = goes_on u.becomes (stops u.closes)

  module _ (after : Synced) (becomes : Becomes before after) (texts : Texts) (closes : Closes h before.sides before.replicas after (Ok texts))
      (news : List New) (are : news ≡ news_of files texts) where
    pub measures_first : (refusal : Refusal) → measures news ≡ Err refusal → Plans h files before (Err refusal)
    unfolding Plans
    measures_first refusal m = goes_on becomes (goes_on closes (stops (sym m ∙ ap measures are)))

    pub planned : (summary : Summary) → measures news ≡ Ok tt → IsSummary before after summary → IsPlannedOf h files before news summary
    unfolding Plans
    planned summary sizes sums = record {
      plan = record { files = files; before = before; after = after; texts = texts };
      planned = goes_on becomes (goes_on closes (goes_on (sym sizes ∙ ap measures are) refl));
      of = refl;
      of_what = refl;
      are = are;
      sums = sums;
    }

module _ (h : Handed) (files : NewNames) (all : List (List ℕ)) where
  pub reads_first : (refusal : Refusal) → ReadsAll h all (Err refusal) → PlansFrom h files all (Err refusal)
  unfolding PlansFrom
  reads_first refusal r = stops r

  -- behind what was read comes what is made of it
  pub made_from : (before : Before) → ReadsAll h all (Ok before) → (r : Result (List NewFile × Summary) Refusal) → MakesOf h files before r → Makes h files all r
  unfolding PlansFrom
  made_from before reads (Ok made) m =
      record { plan = m.plan; planned = goes_on reads m.planned; of = m.of; are = m.are; sums = m.sums }
  made_from before reads (Err refusal) m = goes_on reads m

-- a plan goes by what was read becomes
pub plan_becomes : (h : Handed) (files : NewNames) (before : Before) (plan : Plan) → Plans h files before (Ok plan) → Becomes plan.before plan.after
unfolding Plans
plan_becomes h files before plan p =
    let after = then_ok p in
    let texts = then_ok after.2 in
    subst (λ (q : Plan). Becomes q.before q.after) (sym (ok_is _ _ (then_ok texts.2).2)) after.1
