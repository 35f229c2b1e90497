-- What each command comes to, by the bytes of its files: the table of all of them.
use Rattle.std.specs.Prelude.{◌≡◌, Bool, true, false, List, [], length, get_or, Result, Ok, ℕ}
use Rattle.hm_tree.specs.Names.{Name}
use Rattle.hm_report.specs.declared.conflict.Conflict.{Conflict}
use Rattle.hm_command_line.specs.declared.request.Command.{Command}
use Rattle.hm_command_line.specs.declared.request.Command.TheVariants.{Sync, Plan, Check, View, Generate}
use Rattle.hm_command_line.specs.Requests.{RequestValue}
use Rattle.hm_run_files.specs.declared.stop.Refusal.{Refusal}
use Rattle.hm_run_files.specs.Steps.{Then}
use Rattle.hm_run_files.specs.Files.{New}
use Rattle.hm_run_effects.specs.Effects.{Effect, Finding}
use Rattle.hm_run_generated.specs.Generating.{Generates}
use Rattle.hm_run_handed.specs.Handed.{Handed}
use Rattle.hm_run_sync.specs.Verdict.{NewNames, Plan as PlanOf, PlansFrom, HasConflicts, conflicts_status, said, news_of}
use Rattle.hm_run_views.specs.Viewing.{ChecksLens, ViewsFile}

-- the names of the files that a synchronisation writes, among its six
abbrev pub new_names : List Name → NewNames
new_names files = record { archive = get_or files 3 []; left = get_or files 4 []; right = get_or files 5 [] }

-- the new files of a plan, for a command that writes them
abbrev pub news_if : Bool → List New → List New
news_if true news = news
news_if false news = []

-- a plan, of which these conflicts remain, and what is told of them
abbrev pub effect_by : Bool → Bool → PlanOf → List Conflict → Effect
effect_by writes quiet plan conflicts = record {
  news = news_if writes (news_of plan.files plan.texts);
  status = conflicts_status (length conflicts);
  text = said quiet conflicts;
}

-- the plan of six files, and the conflicts that remain
unfoldable pub Reconciles : Handed → Bool → Bool → List Name → List (List ℕ) → Result Effect Refusal → Type 0
Reconciles h writes quiet files all =
    Then (PlansFrom h (new_names files) all) (λ plan r. (conflicts : List Conflict) × HasConflicts plan.before plan.after conflicts
    × (r ≡ Ok (effect_by writes quiet plan conflicts)))

-- the table of commands: `sync` and `plan` differ in whether they write
abbrev pub finding_by : Handed → Command → Bool → List Name → Finding
finding_by h Sync quiet files all = Reconciles h true quiet files all
finding_by h Plan quiet files all = Reconciles h false quiet files all
finding_by h Check quiet files all = ChecksLens h (get_or all 0 [])
finding_by h View quiet files all = ViewsFile h (get_or all 0 []) (get_or all 1 [])
finding_by h (Generate number) quiet files all = Generates h number

abbrev pub finding_of : Handed → RequestValue → Finding
finding_of h asked all = finding_by h asked.command asked.quiet asked.files all
