-- What a user relies on, from how a run ended.
use Rattle.std.proofs.Common.{◌≡◌, ◌⊎◌, inl, inr, ⊎_elim, ℕ, ◌≤◌, Bool, true, false, List, ◌++◌, Some, Result, Ok, Err, IsUtf8, refl, sym, ◌∙◌, ap, subst, arith}
use Rattle.hm_tree.specs.Names.{Name}
use Rattle.hm_tree_text.specs.Text.{archive_text}
use Rattle.hm_tree_text.specs.Reads.{ReadsArchive}
use Rattle.hm_tree_text.proofs.TextUtf8.{archive_text_utf8}
use Rattle.hm_outcome.proofs.Apart.{marks_differ}
use Rattle.hm_outcome.proofs.Best.{outcome_maximal, outcome_only}
use Rattle.hm_report.specs.declared.conflict.Conflict.{Conflict}
use Rattle.hm_report.proofs.Explained.{explained}
use Rattle.hm_outside.specs.Contents.{Contents}
use Rattle.hm_outside.specs.Answers.{PutsAfter}
use Rattle.hm_outside.specs.declared.outside.Put.{Put}
use Rattle.hm_outside.specs.declared.outside.Put.TheVariants as put
use Rattle.hm_command_line.specs.declared.request.Command.{Command}
use Rattle.hm_command_line.specs.declared.request.Command.TheVariants.{Sync, Plan}
use Rattle.hm_command_line.specs.Requests.{RequestValue}
use Rattle.hm_run_files.specs.declared.slot.Slot.TheVariants.{A as ASlot, B as BSlot}
use Rattle.hm_run_files.specs.declared.stop.Refusal.{Refusal}
use Rattle.hm_run_files.specs.declared.stop.Refusal.TheVariants.{Usage}
use Rattle.hm_run_files.specs.declared.stop.Stop.{Stop}
use Rattle.hm_run_files.specs.declared.stop.Stop.TheVariants.{Refused, Fault, Memory}
use Rattle.hm_run_files.specs.Steps.{WhereTold, goes_on}
use Rattle.hm_run_files.specs.Files.{loads, written}
use Rattle.hm_run_files.proofs.Steps.{ok_is, then_ok}
use Rattle.hm_run_words.specs.declared.ending.Ending.{Ending}
use Rattle.hm_run_words.specs.declared.ending.Output.{Output}
use Rattle.hm_run_words.specs.Lines.{put_status, status_of, refusal_status}
use Rattle.hm_run_words.specs.Slots.{files_of}
use Rattle.hm_run_words.specs.Words.{meaning}
use Rattle.hm_run_effects.specs.Effects.{Effect, EffectOf}
use Rattle.hm_run_handed.specs.Handed.{Handed}
use Rattle.hm_run_sides.specs.SideReplicas.{ClosesOn}
use Rattle.hm_run_sync.specs.Reads.{AreOpened}
use Rattle.hm_run_sync.specs.Verdict.{NewNames, Texts, Becomes, Closes, Plan as PlanOf, Plans, PlansFrom, HasConflicts, TellsConflicts, old_trio, new_trio}
use Rattle.hm_run_sync.proofs.ArchiveDepths.{fits_shallow}
use Rattle.hm_run_sync.proofs.Opened.{all_opened}
use Rattle.hm_run_sync.proofs.Once.{plan_once}
use Rattle.hm_run.specs.Commands.{Reconciles, effect_by, finding_by, finding_of, new_names}
use Rattle.hm_run.specs.Endings.{AsksFor, Verdict, Works, Outside, HasPut, EndsAs, AreWritten, IsPlan, IsSynchronised, IsReported, IsShown, IsCarriedOut, IsComplete}
use Rattle.hm_run.proofs.Once.{verdict_once}
use Rattle.hm_run.proofs.Written.{status_low}
use Rattle.hm_run.proofs.Worked.{IsDoneFor, worked_output, worked_refusal, worked_fault, kept}

-- ---- what a plan begins with, and comes to

record IsFounded (h : Handed) (plan : PlanOf) : Type 0 where
  opened : AreOpened h plan.before
  becomes : Becomes plan.before plan.after
  closes : Closes h plan.before.sides plan.before.replicas plan.after (Ok plan.texts)

founded : (h : Handed) (names : NewNames) (all : List (List ℕ)) (plan : PlanOf) → PlansFrom h names all (Ok plan) → IsFounded h plan
unfolding PlansFrom Plans
founded h names all plan p =
    let before = then_ok p in
    let after = then_ok before.2 in
    let texts = then_ok after.2 in
    subst (IsFounded h) (sym (ok_is _ _ (then_ok texts.2).2))
    (record { opened = all_opened h all before.0 before.1; becomes = after.1; closes = texts.1 })

-- ---- the new files are read

new_written : (h : Handed) (plan : PlanOf) → Closes h plan.before.sides plan.before.replicas plan.after (Ok plan.texts) → AreWritten h plan
unfolding Closes
new_written h plan closes =
    let left = then_ok closes in
    let right = then_ok left.2 in
    let fits = then_ok right.2 in
    let are : plan.texts ≡ record { archive = archive_text plan.after.archive; left = left.0; right = right.0 } = ok_is _ _ fits.2 in record {
      archive = subst (λ (t : Texts). IsUtf8 t.archive × ReadsArchive t.archive (Ok plan.after.archive)) (sym are)
          (archive_text_utf8 plan.after.archive, record { spelled = refl; shallow = fits_shallow plan.after.archive fits.1 });
      left = subst (λ (t : Texts). ClosesOn h plan.before.sides.left plan.before.replicas.left plan.after.left ASlot (Ok t.left)) (sym are) left.1;
      right = subst (λ (t : Texts). ClosesOn h plan.before.sides.right plan.before.replicas.right plan.after.right BSlot (Ok t.right)) (sym are) right.1;
    }

-- ---- the plan of a request that reconciles

record HasPlan (h : Handed) (writes : Bool) (asked : RequestValue) (c : Contents) (effect : Effect) : Type 0 where
  all : List (List ℕ)
  loaded : loads c (files_of asked) ≡ Ok all
  plan : PlanOf
  planned : PlansFrom h (new_names asked.files) all (Ok plan)
  conflicts : List Conflict
  remain : HasConflicts plan.before plan.after conflicts
  is : effect ≡ effect_by writes asked.quiet plan conflicts

module _ (h : Handed) (writes : Bool) (command : Command) (asked : RequestValue) (for : asked.command ≡ command)
    (by : (all : List (List ℕ)) (effect : Effect) → finding_by h command asked.quiet asked.files all (Ok effect) → Reconciles h writes asked.quiet asked.files all (Ok effect))
    (c : Contents) (effect : Effect) where
  has_plan : EffectOf (finding_of h asked) (files_of asked) c (Ok effect) → HasPlan h writes asked c effect
  unfolding EffectOf Reconciles
  has_plan e =
      let all = then_ok e in
      let plan = then_ok (by all.0 effect (subst (λ (k : Command). finding_by h k asked.quiet asked.files all.0 (Ok effect)) for all.2)) in record {
        all = all.0;
        loaded = sym all.1;
        plan = plan.0;
        planned = plan.1;
        conflicts = plan.2.0;
        remain = plan.2.1;
        is = ok_is _ _ plan.2.2;
      }

-- ---- what a user relies on after a run that ended with a status

pub record IsRelied (h : Handed) (words : List Name) (before after : Outside) (status : ℕ) : Type 0 where
  pub synchronised : AsksFor words Sync → (status ≡ 0) ⊎ (status ≡ 1) → WhereTold before.contents (λ c. IsSynchronised h words c status after.contents)
  pub reported : AsksFor words Sync ⊎ AsksFor words Plan → (status ≡ 0) ⊎ (status ≡ 1)
      → WhereTold before.contents (λ c. WhereTold before.written (λ w. IsReported h words c w status after.written))
  pub shown : (status ≡ 0) ⊎ (status ≡ 1) → WhereTold before.contents (λ c. WhereTold before.written (λ w. IsShown h words c w status after.written))
  pub refused : (status ≡ 2) ⊎ (status ≡ 3) → WhereTold before.contents (λ c. after.contents ≡ Some c)
  pub complete : after.failed ≡ before.failed → after.faults ≡ before.faults
      → WhereTold before.contents (λ c. IsComplete h words c status after.contents)

refusal_high : (refusal : Refusal) → 2 ≤ refusal_status refusal
refusal_high Usage = omega arith
refusal_high _ = omega arith

module _ (h : Handed) (words : List Name) (before after : Outside) where
  carried_out : (c : Contents) (status : ℕ) (r : Result Effect Refusal) → Verdict h c words r → IsCarriedOut c status after.contents r
      → IsComplete h words c status after.contents
  carried_out c status r is done = inr (record { verdict = r; is = is; only = λ other k. verdict_once h c words other r k is; done = done })

  module _ (output : Output) (c : Contents) (d : IsDoneFor h words c output after.contents) where
    is_verdict : Verdict h c words (Ok d.done.effect)
    unfolding Verdict
    is_verdict = goes_on (sym d.means) d.done.planned

    -- the request is the one that the words ask for
    commanded : (command : Command) → AsksFor words command → d.asked.command ≡ command
    commanded command asks =
        let same : d.asked ≡ asks.0 = ok_is _ _ (sym d.means ∙ asks.1) in ap (λ (a : RequestValue). a.command) same ∙ asks.2

    module _ (writes : Bool) (p : HasPlan h writes d.asked c d.done.effect) where
      is_plan : IsPlan h words c p.plan
      is_plan = record {
        asked = d.asked;
        means = d.means;
        all = p.all;
        loaded = p.loaded;
        planned = p.planned;
        only = λ r k. plan_once h (new_names d.asked.files) p.all r (Ok p.plan) k p.planned;
      }

      tells : TellsConflicts p.plan.before p.plan.after output.status
      tells = record { conflicts = p.conflicts; remain = p.remain; told = d.done.tells.status ∙ ap (λ (e : Effect). e.status) p.is }

      is_reported : (w : List ℕ) → PutsAfter w output.text.items put.Done after.written → IsReported h words c w output.status after.written
      unfolding is_plan tells
      is_reported w puts =
          let begun = founded h (new_names d.asked.files) p.all p.plan p.planned in
          let root = p.plan.before.schema.root in record {
            plan = p.plan;
            planned = is_plan;
            tells = tells;
            put = puts ∙ ap (λ t. Some (w ++ t)) (d.done.tells.text ∙ ap (λ (e : Effect). e.text) p.is);
            explained = explained p.plan.before.schema root (old_trio p.plan.before) (new_trio p.plan.after) p.conflicts begun.becomes p.remain;
            apart = marks_differ p.plan.before.schema root (old_trio p.plan.before) (new_trio p.plan.after)
                (record { left = begun.opened.member_left; right = begun.opened.member_right }) begun.becomes;
          }

    synced : AsksFor words Sync → HasPlan h true d.asked c d.done.effect
    synced asks = has_plan h true Sync d.asked (commanded Sync asks) (λ all effect k. k) c d.done.effect d.done.planned

    planned_only : AsksFor words Plan → HasPlan h false d.asked c d.done.effect
    planned_only asks = has_plan h false Plan d.asked (commanded Plan asks) (λ all effect k. k) c d.done.effect d.done.planned

    is_synchronised : AsksFor words Sync → IsSynchronised h words c output.status after.contents
    is_synchronised asks =
        let p = synced asks in
        let begun = founded h (new_names d.asked.files) p.all p.plan p.planned in
        let outcome = begun.becomes in
        let root = p.plan.before.schema.root in record {
          plan = p.plan;
          planned = is_plan true p;
          new = d.done.is ∙ ap (λ (e : Effect). Some (written c e.news)) p.is;
          written = new_written h p.plan begun.closes;
          safe = outcome.safe.safe;
          member_left = outcome.safe.members.left;
          member_right = outcome.safe.members.right;
          outcome = outcome;
          best = outcome_maximal p.plan.before.schema root (old_trio p.plan.before) (new_trio p.plan.after) outcome;
          only = outcome_only p.plan.before.schema root (old_trio p.plan.before) (new_trio p.plan.after) outcome;
          tells = tells true p;
        }

    is_shown : (w : List ℕ) → PutsAfter w output.text.items put.Done after.written → IsShown h words c w output.status after.written
    is_shown w puts = record {
      effect = d.done.effect;
      one = record { is = is_verdict; only = λ r k. verdict_once h c words r (Ok d.done.effect) k is_verdict };
      told = d.done.tells.status;
      put = puts ∙ ap (λ t. Some (w ++ t)) d.done.tells.text;
    }

    low : output.status ≤ 1
    unfolding EffectOf
    low =
        let all = then_ok d.done.planned in
        subst (λ s. s ≤ 1) (sym d.done.tells.status) (status_low h d.asked.quiet d.asked.files all.0 d.done.effect d.asked.command all.2)

    is_complete : IsComplete h words c output.status after.contents
    is_complete = carried_out c output.status (Ok d.done.effect) is_verdict (d.done.tells.status, d.done.is)

  by_output : (output : Output) → WhereTold before.contents (λ c. IsDoneFor h words c output after.contents)
      → WhereTold before.written (λ w. PutsAfter w output.text.items put.Done after.written) → IsRelied h words before after output.status
  by_output output done puts = record {
    synchronised = λ asks s c told. is_synchronised output c (done c told) asks;
    reported = λ asks s c told w is.
        let d = done c told in
        ⊎_elim (λ sync. is_reported output c d true (synced output c d sync) w (puts w is))
        (λ plan. is_reported output c d false (planned_only output c d plan) w (puts w is)) asks;
    shown = λ s c told w is. is_shown output c (done c told) w (puts w is);
    refused = λ s c told. absurd (omega (arith, low output c (done c told)));
    complete = λ same calm c told. is_complete output c (done c told);
  }

  by_refusal : (refusal : Refusal) → WhereTold before.contents (λ c. Verdict h c words (Err refusal) × (after.contents ≡ Some c))
      → IsRelied h words before after (refusal_status refusal)
  by_refusal refusal k = record {
    synchronised = λ asks s. absurd (omega (arith, refusal_high refusal));
    reported = λ asks s. absurd (omega (arith, refusal_high refusal));
    shown = λ s. absurd (omega (arith, refusal_high refusal));
    refused = λ s c told. (k c told).1;
    complete = λ same calm c told. carried_out c (refusal_status refusal) (Err refusal) (k c told).0 (refl, (k c told).1);
  }

  by_fault : (status : ℕ) → 4 ≤ status → (after.failed ≡ before.failed → after.faults ≡ before.faults → status ≡ 5)
      → IsRelied h words before after status
  by_fault status high five = record {
    synchronised = λ asks s. absurd (omega arith);
    reported = λ asks s. absurd (omega arith);
    shown = λ s. absurd (omega arith);
    refused = λ s. absurd (omega arith);
    complete = λ same calm c told. inl (five same calm);
  }

  by_work : (work : Result Output Stop) (answer : Put) → Works h (meaning words) before.contents after.contents before.failed after.failed work
      → HasPut work answer before.written after.written before.faults after.faults → IsRelied h words before after (put_status work answer)
  by_work work put.Memory w p = by_fault 5 (omega arith) (λ same calm. refl)
  by_work (Ok output) put.Done w p = by_output output (worked_output h words _ _ _ _ output w) p.written
  by_work (Ok output) put.Failed w p = by_fault 6 (omega arith) (λ same calm. absurd (let risen = p.faults in omega arith))
  by_work (Err (Refused refusal)) answer w p = by_refusal refusal (worked_refusal h words _ _ _ _ refusal w)
  by_work (Err (Fault kind at)) answer w p = by_fault 4 (omega arith) (λ same calm. absurd (worked_fault h words _ _ _ _ kind at same w))
  by_work (Err Memory) answer w p = by_fault 5 (omega arith) (λ same calm. refl)

pub relied : (h : Handed) (ending : Ending) (words : List Name) (before after : Outside) (status : ℕ)
    → status ≡ status_of ending → EndsAs h ending words before after → IsRelied h words before after status
relied h ending words before after status is k =
    subst (IsRelied h words before after) (sym is) (by_work h words before after ending.work ending.put k.works k.puts)

-- no command but a synchronisation changes a file
pub relied_untouched : (h : Handed) (ending : Ending) (words : List Name) (before after : Outside) → EndsAs h ending words before after
    → ¬ (AsksFor words Sync) → WhereTold before.contents (λ c. after.contents ≡ Some c)
relied_untouched h ending words before after k = kept h words _ _ _ _ ending.work k.works
