-- What the work of a run left, by what it came to.
use Rattle.std.proofs.Common.{◌≡◌, inl, inr, ⊎_elim, List, Option, Some, Result, Ok, Err, refl, sym, ap, subst, ◌∙◌}
use Rattle.hm_tree.specs.Names.{Name}
use Rattle.hm_outside.specs.Contents.{Contents}
use Rattle.hm_outside.specs.declared.outside.Failure.{Failure}
use Rattle.hm_outside.specs.declared.outside.Kind.{Kind}
use Rattle.hm_outside.proofs.Risen.{not_risen}
use Rattle.hm_command_line.specs.declared.request.Command.TheVariants.{Sync}
use Rattle.hm_command_line.specs.declared.request.Request.{Request}
use Rattle.hm_command_line.specs.Requests.{RequestValue, request_value}
use Rattle.hm_run_files.specs.declared.slot.Slot.{Slot}
use Rattle.hm_run_files.specs.declared.stop.Refusal.{Refusal}
use Rattle.hm_run_files.specs.declared.stop.Refusal.TheVariants.{Usage, SameName, At}
use Rattle.hm_run_files.specs.declared.stop.Stop.{Stop}
use Rattle.hm_run_files.specs.declared.stop.Stop.TheVariants.{Refused, Fault, Memory}
use Rattle.hm_run_files.specs.Steps.{WhereTold, stops, goes_on}
use Rattle.hm_run_words.specs.declared.ending.Output.{Output}
use Rattle.hm_run_words.specs.Slots.{files_of}
use Rattle.hm_run_words.specs.Words.{meaning, AnswersOrStops}
use Rattle.hm_run_effects.specs.Effects.{IsDone}
use Rattle.hm_run_effects.proofs.Acting.{none_begun, untouched}
use Rattle.hm_run_handed.specs.Handed.{Handed}
use Rattle.hm_run.specs.Commands.{finding_of}
use Rattle.hm_run.specs.Endings.{AsksFor, Verdict, Works}
use Rattle.hm_run.proofs.Written.{only_sync_writes}

-- words that were refused, or whose meaning found no memory
pub stopped_early : (h : Handed) (meant : Result RequestValue Refusal) (told : Option Contents) (old : List Failure) (stop : Stop)
    → AnswersOrStops {A = Request} request_value meant (Err stop) → (work : Result Output Stop) → work ≡ Err stop → Works h meant told told old old work
stopped_early h meant told old (Refused refusal) a work is =
    subst (λ (m : Result RequestValue Refusal). Works h m told told old old work) (sym a) (inl is, refl, refl)
stopped_early h meant told old (Fault kind at) a work is = absurd a
stopped_early h (Ok asked) told old Memory a work is =
    subst (λ (w : Result Output Stop). Works h (Ok asked) told told old old w) (sym is) (none_begun (finding_of h asked) (files_of asked) refl old)
stopped_early h (Err refusal) told old Memory a work is = (inr is, refl, refl)

-- the request that words mean is done
pub record IsDoneFor (h : Handed) (words : List Name) (c : Contents) (output : Output) (left : Option Contents) : Type 0 where
  pub asked : RequestValue
  pub means : meaning words ≡ Ok asked
  pub done : IsDone (finding_of h asked) (files_of asked) c output left

module _ (h : Handed) (words : List Name) (told left : Option Contents) (before after : List Failure) where
  abbrev Left : Result RequestValue Refusal → Result Output Stop → Type 0
  Left meant work = Works h meant told left before after work

  pub worked_output : (output : Output) → Left (meaning words) (Ok output) → WhereTold told (λ c. IsDoneFor h words c output left)
  worked_output output = go (meaning words) refl
    where
      go : (meant : Result RequestValue Refusal) → meaning words ≡ meant → Left meant (Ok output) → WhereTold told (λ c. IsDoneFor h words c output left)
      go (Ok asked) means w = λ c is_told. record { asked = asked; means = means; done = w.0.0 c is_told }
      go (Err refusal) means w = absurd (⊎_elim (λ e. let no : ⊥ = cc in no) (λ e. let no : ⊥ = cc in no) w.0)

  pub worked_refusal : (refusal : Refusal) → Left (meaning words) (Err (Refused refusal))
      → WhereTold told (λ c. Verdict h c words (Err refusal) × (left ≡ Some c))
  unfolding Verdict
  worked_refusal refusal = go (meaning words) refl refusal
    where
      go : (meant : Result RequestValue Refusal) → meaning words ≡ meant → (refusal : Refusal) → Left meant (Err (Refused refusal))
          → WhereTold told (λ c. Verdict h c words (Err refusal) × (left ≡ Some c))
      go (Ok asked) means (At at fault) w = λ c is_told. let so = w.0.0 c is_told in (goes_on (sym means) so.0, so.1)
      go (Ok asked) means Usage w = absurd w.0
      go (Ok asked) means (SameName one two) w = absurd w.0
      go (Err other) means refusal w = λ c is_told.
          let same : refusal ≡ other = ⊎_elim (λ e. cc) (λ e. absurd (let no : ⊥ = cc in no)) w.0 in
          (stops (ap (λ (z : Refusal). Err z) same ∙ sym means), w.1 ∙ is_told)

  -- a fault of the store has left its call in the list
  pub worked_fault : (kind : Kind) (at : Slot) → after ≡ before → Left (meaning words) (Err (Fault kind at)) → ⊥
  worked_fault kind at same = go (meaning words)
    where
      go : (meant : Result RequestValue Refusal) → Left meant (Err (Fault kind at)) → ⊥
      go (Ok asked) w = ⊎_elim (λ k. not_risen same k.0.unread.risen) (λ k. not_risen same k.unwritten.failed.risen) w.0.0
      go (Err refusal) w = ⊎_elim (λ e. let no : ⊥ = cc in no) (λ e. let no : ⊥ = cc in no) w.0

  -- no command but a synchronisation changes a file
  pub kept : (work : Result Output Stop) → Left (meaning words) work → ¬ (AsksFor words Sync) → WhereTold told (λ c. left ≡ Some c)
  kept work w other = go (meaning words) refl w
    where
      go : (meant : Result RequestValue Refusal) → meaning words ≡ meant → Left meant work → WhereTold told (λ c. left ≡ Some c)
      go (Ok asked) means w =
          untouched (finding_of h asked) (files_of asked) (only_sync_writes h asked (λ is. other (asked, means, is))) told left before after work w
      go (Err refusal) means w = λ c is_told. w.1 ∙ is_told
