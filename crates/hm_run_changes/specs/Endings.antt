-- How a run that tells changes ends, and what a user relies on.
use Rattle.std.specs.Prelude.{◌≡◌, ◌⊎◌, ℕ, false, List, ◌++◌, length, codes, Option, Some, None, Result, Ok, Err}
use Rattle.hm_tree.specs.Names.{Name}
use Rattle.hm_outside.specs.Contents.{Contents}
use Rattle.hm_outside.specs.Answers.{PutsAfter}
use Rattle.hm_outside.specs.declared.outside.Failure.{Failure}
use Rattle.hm_outside.specs.declared.outside.Put.{Put}
use Rattle.hm_outside.specs.declared.outside.Put.TheVariants as put
use Rattle.hm_command_line.specs.declared.request.Command.TheVariants.{Plan as PlanCommand}
use Rattle.hm_command_line.specs.declared.request.Request.{Request}
use Rattle.hm_command_line.specs.Requests.{RequestValue}
use Rattle.hm_changes_words.specs.Asked.{AskedValue, asked_of}
use Rattle.hm_changes_report.specs.Text.{ChangesValue, changes_text}
use Rattle.hm_run_files.specs.declared.stop.Refusal.{Refusal}
use Rattle.hm_run_files.specs.declared.stop.Refusal.TheVariants.{Usage}
use Rattle.hm_run_files.specs.declared.stop.Stop.{Stop}
use Rattle.hm_run_files.specs.declared.stop.Stop.TheVariants.{Refused, Memory}
use Rattle.hm_run_files.specs.Steps.{Then, WhereTold}
use Rattle.hm_run_files.specs.Files.{File, loads}
use Rattle.hm_run_words.specs.declared.ending.Output.{Output}
use Rattle.hm_run_words.specs.declared.ending.Ending.{Ending}
use Rattle.hm_run_words.specs.Lines.{refusal_status}
use Rattle.hm_run_words.specs.Lines as plan
use Rattle.hm_run_words.specs.Slots.{files_of}
use Rattle.hm_run_words.specs.Words.{checked}
use Rattle.hm_run_effects.specs.Effects.{Effect, EffectOf, Acts}
use Rattle.hm_run_handed.specs.Handed.{Handed}
use Rattle.hm_run_sync.specs.Verdict.{Plan, PlansFrom}
use Rattle.hm_run.specs.Commands.{new_names}
use Rattle.hm_run.specs.Endings.{Outside, TellsFaults}
use Rattle.hm_run_changes.specs.declared.meaning.Question.{Question}
use Rattle.hm_run_changes.specs.Changing.{AreToldOf, FindsChanges, changes_status}

-- ---- what the words ask for

-- the request for a plan of these files
abbrev pub plan_request : AskedValue → RequestValue
plan_request asked = record { quiet = false; command = PlanCommand; files = asked.files }

-- a request for a plan of six files
pub record IsForPlan (r : Request) : Type 0 where
  pub is_plan : r.command ≡ PlanCommand
  pub six : length r.files.items ≡ 6

abbrev pub question_value : Question → AskedValue
question_value q = record { most = q.most; files = q.request.files.items }

-- where the names of a request may stand beside one another
abbrev pub if_apart : AskedValue → Result RequestValue Refusal → Result AskedValue Refusal
if_apart asked (Ok request) = Ok asked
if_apart asked (Err refusal) = Err refusal

abbrev pub asked_apart : Option AskedValue → Result AskedValue Refusal
asked_apart None = Err Usage
asked_apart (Some asked) = if_apart asked (checked (Some (plan_request asked)))

-- what the words ask for, with names that may stand beside one another in a plan
unfoldable pub meaning : List Name → Result AskedValue Refusal
meaning words = asked_apart (asked_of words)

abbrev pub plan_files : AskedValue → List File
plan_files asked = files_of (plan_request asked)

-- what is to be told over some contents: the first refusal in the order of the checks, or an effect that writes nothing
unfoldable pub Verdict : Handed → Contents → List Name → Result Effect Refusal → Type 0
Verdict h c words = Then (λ r. r ≡ meaning words) (λ asked. EffectOf (FindsChanges h asked.most asked.files) (plan_files asked) c)

-- ---- how the run ends

-- what was asked for is done
abbrev pub Asks : Handed → AskedValue → Option Contents → Option Contents → List Failure → List Failure → Result Output Stop → Type 0
Asks h asked told left before after work = Acts (FindsChanges h asked.most asked.files) (plan_files asked) told left before after work

-- what the words mean is done, or the refusal of words that mean nothing
abbrev pub Works : Handed → Result AskedValue Refusal → Option Contents → Option Contents → List Failure → List Failure → Result Output Stop → Type 0
Works h (Ok asked) told left before after work = Asks h asked told left before after work
Works h (Err refusal) told left before after work = ((work ≡ Err (Refused refusal)) ⊎ (work ≡ Err Memory)) × (left ≡ told) × (after ≡ before)

-- the line of a run that stopped so is that of a plan, but for the usage line
abbrev pub line_of : Stop → List ℕ
line_of (Refused Usage) = codes "usage: harmony-changes [--most N] SCHEMA LENS_A LENS_B ARCHIVE A B\n"
line_of stop = plan.line_of stop

-- what a run whose work came to this has to say
abbrev pub output_of : Result Output Stop → List ℕ
output_of (Ok output) = output.text.items
output_of (Err stop) = line_of stop

-- how it was put out; for want of memory there is nothing to say
pub record HasPut (work : Result Output Stop) (answer : Put) (before after : Option (List ℕ)) (old new : ℕ) : Type 0 where
  pub written : WhereTold before (λ w. PutsAfter w (output_of work) answer after)
  pub faults : TellsFaults answer old new
  pub silent : work ≡ Err Memory → answer ≡ put.Memory

-- a run of these words ends so
pub record EndsAs (h : Handed) (ending : Ending) (words : List Name) (before after : Outside) : Type 0 where
  pub works : Works h (meaning words) before.contents after.contents before.failed after.failed ending.work
  pub puts : HasPut ending.work ending.put before.written after.written before.faults after.faults

-- ---- what a user relies on

-- the plan of the six files that the words name, over these contents: there is no other
pub record IsPlanOf (h : Handed) (words : List Name) (c : Contents) (plan : Plan) : Type 0 where
  pub asked : AskedValue
  pub means : meaning words ≡ Ok asked
  pub all : List (List ℕ)
  pub loaded : loads c (plan_files asked) ≡ Ok all
  pub planned : PlansFrom h (new_names asked.files) all (Ok plan)
  pub only : (r : Result Plan Refusal) → PlansFrom h (new_names asked.files) all r → r ≡ Ok plan

-- the changes of both views of the plan and the conflicts that remain, of which there is one account, are put behind the bytes
-- that were written before, and the status is theirs
pub record IsTold (h : Handed) (words : List Name) (c : Contents) (w : List ℕ) (status : ℕ) (out : Option (List ℕ)) : Type 0 where
  pub plan : Plan
  pub planned : IsPlanOf h words c plan
  pub changes : ChangesValue
  pub are : AreToldOf plan.before plan.after changes
  pub only : (others : ChangesValue) → AreToldOf plan.before plan.after others → others ≡ changes
  pub tells : status ≡ changes_status planned.asked.most changes
  pub put : out ≡ Some (w ++ changes_text changes)

-- the status of what was to be told, or of the refusal
abbrev pub HasStatus : ℕ → Result Effect Refusal → Type 0
HasStatus status (Ok effect) = status ≡ effect.status
HasStatus status (Err refusal) = status ≡ refusal_status refusal

-- there is one verdict on these words and contents, and the status is its own
pub record HasOneVerdict (h : Handed) (words : List Name) (c : Contents) (status : ℕ) : Type 0 where
  pub verdict : Result Effect Refusal
  pub is : Verdict h c words verdict
  pub only : (r : Result Effect Refusal) → Verdict h c words r → r ≡ verdict
  pub has : HasStatus status verdict

-- where nothing outside fails, what can be told is, unless memory runs out
abbrev pub IsComplete : Handed → List Name → Contents → ℕ → Type 0
IsComplete h words c status = (status ≡ 5) ⊎ HasOneVerdict h words c status
