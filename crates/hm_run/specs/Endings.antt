-- How a run ends: what its work came to and left, how that was put out, and what a user relies on.
use Rattle.std.specs.Prelude.{◌≡◌, ◌⊎◌, ℕ, ◌<◌, List, ◌++◌, take, Option, Some, Result, Ok, Err, IsUtf8}
use Rattle.hm_tree.specs.Names.{Name}
use Rattle.hm_tree.specs.Nodes.{Tree}
use Rattle.hm_tree.specs.States.{Path, state}
use Rattle.hm_tree_text.specs.Reads.{ReadsArchive}
use Rattle.hm_schema.specs.Membership.{IsMember}
use Rattle.hm_safety.specs.Safety.{IsTopmostMark, IsSafe}
use Rattle.hm_outcome.specs.Trios.{views, Differ}
use Rattle.hm_outcome.specs.Outcomes.{IsOutcome, IsMaximal, IsOnlyOne}
use Rattle.hm_report.specs.Conflicts.{AreExplained}
use Rattle.hm_replica.specs.Replicas.{ReplicaValue, IsClosed}
use Rattle.hm_outside.specs.Contents.{Contents}
use Rattle.hm_outside.specs.Answers.{PutsAfter}
use Rattle.hm_outside.specs.declared.outside.Failure.{Failure}
use Rattle.hm_outside.specs.declared.outside.Put.{Put}
use Rattle.hm_outside.specs.declared.outside.Put.TheVariants as put
use Rattle.hm_command_line.specs.declared.request.Command.{Command}
use Rattle.hm_command_line.specs.Requests.{RequestValue}
use Rattle.hm_run_files.specs.declared.stop.Refusal.{Refusal}
use Rattle.hm_run_files.specs.declared.stop.Stop.{Stop}
use Rattle.hm_run_files.specs.declared.stop.Stop.TheVariants.{Refused, Memory}
use Rattle.hm_run_files.specs.Steps.{Then, WhereTold}
use Rattle.hm_run_files.specs.Files.{loads, written}
use Rattle.hm_run_words.specs.declared.ending.Output.{Output}
use Rattle.hm_run_words.specs.declared.ending.Ending.{Ending}
use Rattle.hm_run_words.specs.Lines.{output_of, refusal_status}
use Rattle.hm_run_words.specs.Slots.{files_of}
use Rattle.hm_run_words.specs.Words.{meaning}
use Rattle.hm_run_effects.specs.Effects.{Effect, EffectOf, Acts}
use Rattle.hm_run_sides.specs.Formats.{HasFormat}
use Rattle.hm_run_handed.specs.Handed.{Handed}
use Rattle.hm_run_sides.specs.Sides.{SideValue}
use Rattle.hm_run_sync.specs.Verdict.{Plan, PlansFrom, TellsConflicts, news_of, said, old_trio, new_trio}
use Rattle.hm_run.specs.Commands.{new_names, finding_of}

-- ---- what the words ask for

abbrev pub AsksFor : List Name → Command → Type 0
AsksFor words command = (asked : RequestValue) × (meaning words ≡ Ok asked) × (asked.command ≡ command)

-- what is to be done over some contents: the first refusal in the order of the checks, or an effect
unfoldable pub Verdict : Handed → Contents → List Name → Result Effect Refusal → Type 0
Verdict h c words = Then (λ r. r ≡ meaning words) (λ asked. EffectOf (finding_of h asked) (files_of asked) c)

-- ---- what the work came to before its output is put

-- that of the request that the words mean, or the refusal of words that mean none
abbrev pub Works : Handed → Result RequestValue Refusal → Option Contents → Option Contents → List Failure → List Failure → Result Output Stop → Type 0
Works h (Ok asked) told left before after work = Acts (finding_of h asked) (files_of asked) told left before after work
Works h (Err refusal) told left before after work = ((work ≡ Err (Refused refusal)) ⊎ (work ≡ Err Memory)) × (left ≡ told) × (after ≡ before)

-- ---- how the run ends

-- what is known of the store and the sink at one moment
pub record Outside : Type 0 where
  pub contents : Option Contents
  pub failed : List Failure
  pub written : Option (List ℕ)
  pub faults : ℕ

-- the sink's faults have risen where it failed, and only there
abbrev pub TellsFaults : Put → ℕ → ℕ → Type 0
TellsFaults put.Done before after = after ≡ before
TellsFaults put.Failed before after = before < after
TellsFaults put.Memory before after = after ≡ before

-- how what the work had to say was put out; for want of memory it has nothing to say
pub record HasPut (work : Result Output Stop) (answer : Put) (before after : Option (List ℕ)) (old new : ℕ) : Type 0 where
  pub written : WhereTold before (λ w. PutsAfter w (output_of work) answer after)
  pub faults : TellsFaults answer old new
  pub silent : work ≡ Err Memory → answer ≡ put.Memory

-- a run of these words ends so
pub record EndsAs (h : Handed) (ending : Ending) (words : List Name) (before after : Outside) : Type 0 where
  pub works : Works h (meaning words) before.contents after.contents before.failed after.failed ending.work
  pub puts : HasPut ending.work ending.put before.written after.written before.faults after.faults

-- ---- what a user relies on

-- the plan of the synchronisation that these words ask for, over these contents: there is no other
pub record IsPlan (h : Handed) (words : List Name) (c : Contents) (plan : Plan) : Type 0 where
  pub asked : RequestValue
  pub means : meaning words ≡ Ok asked
  pub all : List (List ℕ)
  pub loaded : loads c (files_of asked) ≡ Ok all
  pub planned : PlansFrom h (new_names asked.files) all (Ok plan)
  pub only : (r : Result Plan Refusal) → PlansFrom h (new_names asked.files) all r → r ≡ Ok plan

-- the contents with the plan carried out as far as its first n files
abbrev pub stop_state : Contents → Plan → ℕ → Contents
stop_state c plan n = written c (take n (news_of plan.files plan.texts))

-- bytes are written of a new view behind those of a replica: through the side's format and program they are read as it, what
-- these don't show is kept, and where the view hasn't changed, neither have the bytes
abbrev pub IsWritten : Handed → SideValue → ReplicaValue → Tree → List ℕ → Type 0
IsWritten h side old shown bytes = HasFormat h.means_of h.formats side.place (λ m. IsClosed m h.texts side.typed old shown bytes)

-- the new texts are read as the new archive and as the new views
pub record AreWritten (h : Handed) (plan : Plan) : Type 0 where
  pub archive : IsUtf8 plan.texts.archive × ReadsArchive plan.texts.archive (Ok plan.after.archive)
  pub left : IsWritten h plan.before.sides.left plan.before.replicas.left plan.after.left plan.texts.left
  pub right : IsWritten h plan.before.sides.right plan.before.replicas.right plan.after.right plan.texts.right

-- the store has the three new texts, which are read as what they hold; that is a safe result of what was read, both new
-- views are members, they agree wherever those of any safe result do, and no other safe result agrees wherever they do
pub record IsSynchronised (h : Handed) (words : List Name) (c : Contents) (status : ℕ) (left : Option Contents) : Type 0 where
  pub plan : Plan
  pub planned : IsPlan h words c plan
  pub new : left ≡ Some (stop_state c plan 3)
  pub written : AreWritten h plan
  pub safe : IsSafe (views (old_trio plan.before)) (views (new_trio plan.after))
  pub member_left : IsMember plan.before.schema plan.before.schema.root (state (Some plan.after.left))
  pub member_right : IsMember plan.before.schema plan.before.schema.root (state (Some plan.after.right))
  pub outcome : IsOutcome plan.before.schema plan.before.schema.root (old_trio plan.before) (new_trio plan.after)
  pub best : IsMaximal plan.before.schema plan.before.schema.root (old_trio plan.before) (new_trio plan.after)
  pub only : IsOnlyOne plan.before.schema plan.before.schema.root (old_trio plan.before) (new_trio plan.after)
  pub tells : TellsConflicts plan.before plan.after status

-- the conflicts that remain are put behind the bytes that were written before, or of a quiet run their number alone; wherever
-- the new views don't agree, one of them alone stands there or above, and it shows why; and at each of them the new views
-- differ
pub record IsReported (h : Handed) (words : List Name) (c : Contents) (w : List ℕ) (status : ℕ) (out : Option (List ℕ)) : Type 0 where
  pub plan : Plan
  pub planned : IsPlan h words c plan
  pub tells : TellsConflicts plan.before plan.after status
  pub put : out ≡ Some (w ++ said planned.asked.quiet tells.conflicts)
  pub explained : AreExplained plan.before.schema plan.before.schema.root (views (old_trio plan.before)) (views (new_trio plan.after)) tells.conflicts
  pub apart : (p : Path) → IsTopmostMark (state plan.after.archive) p → Differ (views (new_trio plan.after)) p

-- the effect of these words over these contents: there is no other verdict
pub record IsEffect (h : Handed) (words : List Name) (c : Contents) (effect : Effect) : Type 0 where
  pub is : Verdict h c words (Ok effect)
  pub only : (r : Result Effect Refusal) → Verdict h c words r → r ≡ Ok effect

-- the status is that of the effect, and its text is put behind the bytes that were written before
pub record IsShown (h : Handed) (words : List Name) (c : Contents) (w : List ℕ) (status : ℕ) (out : Option (List ℕ)) : Type 0 where
  pub effect : Effect
  pub one : IsEffect h words c effect
  pub told : status ≡ effect.status
  pub put : out ≡ Some (w ++ effect.text)

-- what was to be done is done: the files of the effect are written, or nothing has changed after the refusal
abbrev pub IsCarriedOut : Contents → ℕ → Option Contents → Result Effect Refusal → Type 0
IsCarriedOut c status left (Ok effect) = (status ≡ effect.status) × (left ≡ Some (written c effect.news))
IsCarriedOut c status left (Err refusal) = (status ≡ refusal_status refusal) × (left ≡ Some c)

-- there is one verdict on these words and contents, and it is carried out
pub record HasOneVerdict (h : Handed) (words : List Name) (c : Contents) (status : ℕ) (left : Option Contents) : Type 0 where
  pub verdict : Result Effect Refusal
  pub is : Verdict h c words verdict
  pub only : (r : Result Effect Refusal) → Verdict h c words r → r ≡ verdict
  pub done : IsCarriedOut c status left verdict

-- where nothing outside fails, what was to be done is done, unless memory runs out
abbrev pub IsComplete : Handed → List Name → Contents → ℕ → Option Contents → Type 0
IsComplete h words c status left = (status ≡ 5) ⊎ HasOneVerdict h words c status left
