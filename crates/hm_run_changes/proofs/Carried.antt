-- The work of a run that finds an output and writes nothing.
use Rattle.std.proofs.Common.{◌≡◌, ℕ, suc, List, [], ◌∷◌, length, Option, Result, Ok, Err, refl, sym, ap, subst, inl, inr, arith}
use Rattle.hm_tree.specs.Names.{Name}
use Rattle.hm_outside.specs.Contents.{Contents}
use Rattle.hm_outside.specs.declared.outside.Failure.{Failure}
use Rattle.hm_command_line.specs.declared.request.Command.{Command}
use Rattle.hm_command_line.specs.Requests.{request_value}
use Rattle.hm_run_files.specs.declared.slot.Slot.{Slot}
use Rattle.hm_run_files.specs.declared.stop.Stop.{Stop}
use Rattle.hm_run_files.specs.declared.stop.Stop.TheVariants.{Refused, Fault, Memory}
use Rattle.hm_run_files.specs.declared.stop.Refusal.{Refusal}
use Rattle.hm_run_files.specs.Steps.{WhereTold, Computes}
use Rattle.hm_run_files.specs.Files.{File, loads, written}
use Rattle.hm_run_words.specs.declared.ending.Output.{Output}
use Rattle.hm_run_words.specs.Slots.{six_slots, slots_of, paired, files_of}
use Rattle.hm_run_words.specs.Words.{AnswersOrStops}
use Rattle.hm_run_effects.specs.Effects.{Finding, Acts, output_value}
use Rattle.hm_run_effects.proofs.Acting.{none_begun, effect_stop, done}
use Rattle.hm_run_handed.specs.Handed.{Handed}
use Rattle.hm_run_sides.specs.Sides.{seen}
use Rattle.hm_changes_words.specs.Asked.{AskedValue}
use Rattle.hm_run_changes.specs.declared.meaning.Question.{Question}
use Rattle.hm_run_changes.specs.Changing.{FindsChanges}
use Rattle.hm_run_changes.specs.Endings.{IsForPlan, plan_files, question_value, Works}

pub acts_found : (finds : Finding) (files : List File) (told left : Option Contents) → left ≡ told → (old mid : List Failure) → mid ≡ old → (all : List (List ℕ))
    → WhereTold told (λ c. loads c files ≡ Ok all) → (r : Result Output Stop) → Computes (finds all) (seen output_value r) → Acts finds files told left old mid r
unfolding written
acts_found finds files told left same old mid calm all found (Ok output) h = (
  (done finds files same calm all found (output_value output) h.0 left output (record { status = refl; text = refl }) (λ c is. is), calm),
  λ spent. absurd (let no : ⊥ = cc in no),
)
acts_found finds files told left same old mid calm all found (Err stop) h = effect_stop finds files same calm all found stop h

-- six names in six slots
pub six_files : (names : List Name) → length names ≡ 6 → length (paired six_slots names) ≡ 6
six_files names six = go six_slots names six
  where
    go : (slots : List Slot) (names : List Name) → length names ≡ length slots → length (paired slots names) ≡ length slots
    go [] names e = refl
    go (s ∷ ss) [] e = absurd (omega arith)
    go (s ∷ ss) (n ∷ ns) e = ap suc (go ss ns (omega arith))

-- the files of a request for a plan
pub files_planned : (q : Question) → IsForPlan q.request → files_of (request_value q.request) ≡ plan_files (question_value q)
files_planned q for = ap (λ (k : Command). paired (slots_of k) q.request.files.items) for.is_plan

-- words that were refused, or whose meaning found no memory
pub stopped_early : (h : Handed) (meant : Result AskedValue Refusal) (told : Option Contents) (old : List Failure) (stop : Stop)
    → AnswersOrStops {A = Question} question_value meant (Err stop) → (work : Result Output Stop) → work ≡ Err stop → Works h meant told told old old work
stopped_early h meant told old (Refused refusal) a work is =
    subst (λ (m : Result AskedValue Refusal). Works h m told told old old work) (sym a) (inl is, refl, refl)
stopped_early h meant told old (Fault kind at) a work is = absurd a
stopped_early h (Ok asked) told old Memory a work is =
    subst (λ (w : Result Output Stop). Works h (Ok asked) told told old old w) (sym is) (none_begun (FindsChanges h asked.most asked.files) (plan_files asked) refl old)
stopped_early h (Err refusal) told old Memory a work is = (inr is, refl, refl)
