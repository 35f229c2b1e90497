-- What a user relies on, from how a run ended.
use Rattle.std.proofs.Common.{◌≡◌, ◌⊎◌, inl, inr, ⊎_elim, ℕ, ◌≤◌, List, ◌++◌, Option, Some, Result, Ok, Err, refl, sym, ◌∙◌, ap, subst, arith}
use Rattle.hm_tree.specs.Names.{Name}
use Rattle.hm_outside.specs.Contents.{Contents}
use Rattle.hm_outside.specs.Answers.{PutsAfter}
use Rattle.hm_outside.specs.declared.outside.Failure.{Failure}
use Rattle.hm_outside.specs.declared.outside.Kind.{Kind}
use Rattle.hm_outside.specs.declared.outside.Put.{Put}
use Rattle.hm_outside.specs.declared.outside.Put.TheVariants as put
use Rattle.hm_outside.proofs.Risen.{not_risen}
use Rattle.hm_changes_words.specs.Asked.{AskedValue}
use Rattle.hm_changes_report.specs.Text.{ChangesValue}
use Rattle.hm_run_files.specs.declared.slot.Slot.{Slot}
use Rattle.hm_run_files.specs.declared.stop.Refusal.{Refusal}
use Rattle.hm_run_files.specs.declared.stop.Refusal.TheVariants.{Usage, SameName, At}
use Rattle.hm_run_files.specs.declared.stop.Stop.{Stop}
use Rattle.hm_run_files.specs.declared.stop.Stop.TheVariants.{Refused, Fault, Memory}
use Rattle.hm_run_files.specs.Steps.{WhereTold, stops, goes_on}
use Rattle.hm_run_files.specs.Files.{loads}
use Rattle.hm_run_files.proofs.Steps.{ok_is, then_ok}
use Rattle.hm_run_words.specs.declared.ending.Ending.{Ending}
use Rattle.hm_run_words.specs.declared.ending.Output.{Output}
use Rattle.hm_run_words.specs.Lines.{put_status, status_of, refusal_status}
use Rattle.hm_run_effects.specs.Effects.{Effect, EffectOf, IsDone, WritesNothing}
use Rattle.hm_run_effects.proofs.Acting.{untouched}
use Rattle.hm_run_handed.specs.Handed.{Handed}
use Rattle.hm_run_sync.specs.Verdict.{Plan, PlansFrom}
use Rattle.hm_run_sync.proofs.Once.{plan_once}
use Rattle.hm_run.specs.Commands.{new_names}
use Rattle.hm_run.specs.Endings.{Outside}
use Rattle.hm_run_changes.specs.Changing.{AreToldOf, FindsChanges, told_effect}
use Rattle.hm_run_changes.specs.Endings.{meaning, plan_files, Verdict, Works, HasPut, EndsAs, IsTold, HasStatus, IsComplete}
use Rattle.hm_run_changes.proofs.Once.{told_once, verdict_once}

-- ---- the plan of what was asked for, and what is told of it

record HasPlan (h : Handed) (asked : AskedValue) (c : Contents) (effect : Effect) : Type 0 where
  all : List (List ℕ)
  loaded : loads c (plan_files asked) ≡ Ok all
  plan : Plan
  planned : PlansFrom h (new_names asked.files) all (Ok plan)
  changes : ChangesValue
  are : AreToldOf plan.before plan.after changes
  is : effect ≡ told_effect asked.most changes

has_plan : (h : Handed) (asked : AskedValue) (c : Contents) (effect : Effect) → EffectOf (FindsChanges h asked.most asked.files) (plan_files asked) c (Ok effect) → HasPlan h asked c effect
unfolding EffectOf FindsChanges
has_plan h asked c effect e =
    let all = then_ok e in
    let plan = then_ok all.2 in record {
      all = all.0;
      loaded = sym all.1;
      plan = plan.0;
      planned = plan.1;
      changes = plan.2.0;
      are = plan.2.1;
      is = ok_is _ _ plan.2.2;
    }

-- nothing is written
finds_nothing_to_write : (h : Handed) (asked : AskedValue) → WritesNothing (FindsChanges h asked.most asked.files)
unfolding FindsChanges
finds_nothing_to_write h asked all effect k = ap (λ (e : Effect). e.news) (ok_is _ _ (then_ok k).2.2)

-- ---- what the work left

record IsDoneFor (h : Handed) (words : List Name) (c : Contents) (output : Output) (left : Option Contents) : Type 0 where
  asked : AskedValue
  means : meaning words ≡ Ok asked
  done : IsDone (FindsChanges h asked.most asked.files) (plan_files asked) c output left

module _ (h : Handed) (words : List Name) (told left : Option Contents) (before after : List Failure) where
  abbrev Left : Result AskedValue Refusal → Result Output Stop → Type 0
  Left meant work = Works h meant told left before after work

  worked_output : (output : Output) → Left (meaning words) (Ok output) → WhereTold told (λ c. IsDoneFor h words c output left)
  worked_output output = go (meaning words) refl
    where
      go : (meant : Result AskedValue Refusal) → meaning words ≡ meant → Left meant (Ok output) → WhereTold told (λ c. IsDoneFor h words c output left)
      go (Ok asked) means w = λ c is_told. record { asked = asked; means = means; done = w.0.0 c is_told }
      go (Err refusal) means w = absurd (⊎_elim (λ e. let no : ⊥ = cc in no) (λ e. let no : ⊥ = cc in no) w.0)

  worked_refusal : (refusal : Refusal) → Left (meaning words) (Err (Refused refusal)) → WhereTold told (λ c. Verdict h c words (Err refusal))
  unfolding Verdict
  worked_refusal refusal = go (meaning words) refl refusal
    where
      go : (meant : Result AskedValue Refusal) → meaning words ≡ meant → (refusal : Refusal) → Left meant (Err (Refused refusal))
          → WhereTold told (λ c. Verdict h c words (Err refusal))
      go (Ok asked) means (At at fault) w = λ c is_told. goes_on (sym means) (w.0.0 c is_told).0
      go (Ok asked) means Usage w = absurd w.0
      go (Ok asked) means (SameName one two) w = absurd w.0
      go (Err other) means refusal w = λ c is_told.
          let same : refusal ≡ other = ⊎_elim (λ e. cc) (λ e. absurd (let no : ⊥ = cc in no)) w.0 in
          stops (ap (λ (z : Refusal). Err z) same ∙ sym means)

  -- a fault of the store has left its call in the list
  worked_fault : (kind : Kind) (at : Slot) → after ≡ before → Left (meaning words) (Err (Fault kind at)) → ⊥
  worked_fault kind at same = go (meaning words)
    where
      go : (meant : Result AskedValue Refusal) → Left meant (Err (Fault kind at)) → ⊥
      go (Ok asked) w = ⊎_elim (λ k. not_risen same k.0.unread.risen) (λ k. not_risen same k.unwritten.failed.risen) w.0.0
      go (Err refusal) w = ⊎_elim (λ e. let no : ⊥ = cc in no) (λ e. let no : ⊥ = cc in no) w.0

  kept : (work : Result Output Stop) → Left (meaning words) work → WhereTold told (λ c. left ≡ Some c)
  kept work w = go (meaning words) w
    where
      go : (meant : Result AskedValue Refusal) → Left meant work → WhereTold told (λ c. left ≡ Some c)
      go (Ok asked) w = untouched (FindsChanges h asked.most asked.files) (plan_files asked) (finds_nothing_to_write h asked) told left before after work w
      go (Err refusal) w = λ c is_told. w.1 ∙ is_told

-- ---- what a user relies on after a run that ended with a status

abbrev Tells : ℕ → Type 0
Tells status = ((status ≡ 0) ⊎ (status ≡ 1)) ⊎ (status ≡ 7)

pub record IsRelied (h : Handed) (words : List Name) (before after : Outside) (status : ℕ) : Type 0 where
  pub told : Tells status → WhereTold before.contents (λ c. WhereTold before.written (λ w. IsTold h words c w status after.written))
  pub complete : after.failed ≡ before.failed → after.faults ≡ before.faults → WhereTold before.contents (λ c. IsComplete h words c status)

-- the status of a run that told nothing
abbrev IsOther : ℕ → Type 0
IsOther status = (2 ≤ status) × (status ≤ 6)

refusal_other : (refusal : Refusal) → IsOther (refusal_status refusal)
refusal_other Usage = (omega arith, omega arith)
refusal_other _ = (omega arith, omega arith)

no_tale : (status : ℕ) → IsOther status → Tells status → ⊥
no_tale status other tells = ⊎_elim (λ low. ⊎_elim (λ e. omega (arith, other.0)) (λ e. omega (arith, other.0)) low) (λ e. omega (arith, other.1)) tells

module _ (h : Handed) (words : List Name) (before after : Outside) where
  verdict_of : (c : Contents) (status : ℕ) (r : Result Effect Refusal) → Verdict h c words r → HasStatus status r → IsComplete h words c status
  verdict_of c status r is has = inr (record { verdict = r; is = is; only = λ other k. verdict_once h c words other r k is; has = has })

  module _ (output : Output) (c : Contents) (d : IsDoneFor h words c output after.contents) where
    is_verdict : Verdict h c words (Ok d.done.effect)
    unfolding Verdict
    is_verdict = goes_on (sym d.means) d.done.planned

    is_told : (w : List ℕ) → PutsAfter w output.text.items put.Done after.written → IsTold h words c w output.status after.written
    is_told w puts =
        let p = has_plan h d.asked c d.done.effect d.done.planned in record {
          plan = p.plan;
          planned = record {
            asked = d.asked;
            means = d.means;
            all = p.all;
            loaded = p.loaded;
            planned = p.planned;
            only = λ r k. plan_once h (new_names d.asked.files) p.all r (Ok p.plan) k p.planned;
          };
          changes = p.changes;
          are = p.are;
          only = λ others k. told_once p.plan.before p.plan.after others p.changes k p.are;
          tells = d.done.tells.status ∙ ap (λ (e : Effect). e.status) p.is;
          put = puts ∙ ap (λ t. Some (w ++ t)) (d.done.tells.text ∙ ap (λ (e : Effect). e.text) p.is);
        }

  by_output : (output : Output) → WhereTold before.contents (λ c. IsDoneFor h words c output after.contents)
      → WhereTold before.written (λ w. PutsAfter w output.text.items put.Done after.written) → IsRelied h words before after output.status
  by_output output done puts = record {
    told = λ s c told w is. is_told output c (done c told) w (puts w is);
    complete = λ same calm c told. let d = done c told in verdict_of c output.status (Ok d.done.effect) (is_verdict output c d) d.done.tells.status;
  }

  by_refusal : (refusal : Refusal) → WhereTold before.contents (λ c. Verdict h c words (Err refusal)) → IsRelied h words before after (refusal_status refusal)
  by_refusal refusal k = record {
    told = λ s. absurd (no_tale (refusal_status refusal) (refusal_other refusal) s);
    complete = λ same calm c told. verdict_of c (refusal_status refusal) (Err refusal) (k c told) refl;
  }

  by_fault : (status : ℕ) → IsOther status → (after.failed ≡ before.failed → after.faults ≡ before.faults → status ≡ 5)
      → IsRelied h words before after status
  by_fault status other five = record {
    told = λ s. absurd (no_tale status other s);
    complete = λ same calm c told. inl (five same calm);
  }

  by_work : (work : Result Output Stop) (answer : Put) → Works h (meaning words) before.contents after.contents before.failed after.failed work
      → HasPut work answer before.written after.written before.faults after.faults → IsRelied h words before after (put_status work answer)
  by_work work put.Memory w p = by_fault 5 (omega arith, omega arith) (λ same calm. refl)
  by_work (Ok output) put.Done w p = by_output output (worked_output h words _ _ _ _ output w) p.written
  by_work (Ok output) put.Failed w p = by_fault 6 (omega arith, omega arith) (λ same calm. absurd (let risen = p.faults in omega arith))
  by_work (Err (Refused refusal)) answer w p = by_refusal refusal (worked_refusal h words _ _ _ _ refusal w)
  by_work (Err (Fault kind at)) answer w p = by_fault 4 (omega arith, omega arith) (λ same calm. absurd (worked_fault h words _ _ _ _ kind at same w))
  by_work (Err Memory) answer w p = by_fault 5 (omega arith, omega arith) (λ same calm. refl)

pub relied : (h : Handed) (ending : Ending) (words : List Name) (before after : Outside) (status : ℕ)
    → status ≡ status_of ending → EndsAs h ending words before after → IsRelied h words before after status
relied h ending words before after status is k =
    subst (IsRelied h words before after) (sym is) (by_work h words before after ending.work ending.put k.works k.puts)

pub relied_untouched : (h : Handed) (ending : Ending) (words : List Name) (before after : Outside) → EndsAs h ending words before after
    → WhereTold before.contents (λ c. after.contents ≡ Some c)
relied_untouched h ending words before after k = kept h words _ _ _ _ ending.work k.works
