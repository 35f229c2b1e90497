-- What a synchronisation of six files is to do: the first refusal in the order of the checks, or a plan.
use Rattle.std.specs.Prelude.{◌≡◌, ℕ, zero, suc, Bool, true, false, nat_lt, cond, List, [], ◌∷◌, length, Some, Result, Ok, Err, map}
use Rattle.hm_tree.specs.Names.{Name}
use Rattle.hm_tree.specs.Nodes.{Tree, edges}
use Rattle.hm_tree.specs.Archives.{Archive, depth_here, recorded}
use Rattle.hm_tree.specs.States.{state}
use Rattle.hm_tree_text.specs.Text.{archive_text}
use Rattle.hm_outcome.specs.Trios.{Trio, given, views}
use Rattle.hm_outcome.specs.Outcomes.{IsOutcome}
use Rattle.hm_report.specs.declared.conflict.Conflict.{Conflict}
use Rattle.hm_report.specs.declared.outcome.Outcome.{Outcome}
use Rattle.hm_report.specs.Conflicts.{AreConflicts}
use Rattle.hm_report.specs.Text.{report_text, number_line}
use Rattle.hm_replica.specs.Replicas.{ReplicaValue}
use Rattle.hm_run_files.specs.declared.slot.NewFile.{NewFile}
use Rattle.hm_run_files.specs.declared.slot.Slot.{Slot}
use Rattle.hm_run_files.specs.declared.slot.Slot.TheVariants as slot
use Rattle.hm_run_files.specs.declared.stop.FileFault.TheVariants.{Unwritable}
use Rattle.hm_run_files.specs.declared.stop.Refusal.{Refusal}
use Rattle.hm_run_files.specs.declared.stop.Refusal.TheVariants.{At}
use Rattle.hm_run_files.specs.Steps.{Then}
use Rattle.hm_run_files.specs.Files.{New, measures, new_of}
use Rattle.hm_run_sides.specs.Sides.{SideValue}
use Rattle.hm_run_sides.specs.SideReplicas.{ClosesOn}
use Rattle.hm_run_sync.specs.declared.closing.NewTexts.{NewTexts}
use Rattle.hm_run_sync.specs.declared.closing.OneSided.{OneSided}
use Rattle.hm_run_sync.specs.declared.closing.Summary.{Summary}
use Rattle.hm_run_sync.specs.declared.make.WrittenFiles.{WrittenFiles}
use Rattle.hm_run_handed.specs.Handed.{Handed}
use Rattle.hm_run_sync.specs.Reads.{Sides, Replicas, Before, ReadsAll}

-- ---- reconciling

-- an archive and two views
pub record Synced : Type 0 where
  pub archive : Archive
  pub left : Tree
  pub right : Tree

-- the archive and the views that were read, and those that they become
abbrev pub old_trio : Before → Trio
old_trio before = given before.archive before.replicas.left.view before.replicas.right.view

abbrev pub new_trio : Synced → Trio
new_trio after = given after.archive after.left after.right

-- all three become as one view
abbrev pub all_as : Tree → Synced
all_as t = record { archive = Some (recorded t); left = t; right = t }

-- what was read becomes this: the outcome under the schema at its root
abbrev pub Becomes : Before → Synced → Type 0
Becomes before after = IsOutcome before.schema before.schema.root (old_trio before) (new_trio after)

abbrev pub Reconciles : Before → Result Synced Refusal → Type 0
Reconciles before (Ok after) = Becomes before after
Reconciles before (Err refusal) = ⊥

-- what was read, what it becomes, and the conflicts that remain: in the order of paths, one at each topmost mark of the
-- new archive and no other, each of which shows why
abbrev pub HasConflicts : Before → Synced → List Conflict → Type 0
HasConflicts before after conflicts =
    AreConflicts before.schema before.schema.root (views (old_trio before)) (state after.archive) conflicts

-- ---- what a run has to say

-- whether conflicts remain, by their number
abbrev pub conflicts_status : ℕ → ℕ
conflicts_status zero = 0
conflicts_status (suc n) = 1

-- the conflicts that remain, each in its line and their number in the last; the last line alone for a quiet run
abbrev pub said : Bool → List Conflict → List ℕ
said true conflicts = number_line (length conflicts)
said false conflicts = report_text conflicts

-- a status tells whether conflicts remain
pub record TellsConflicts (before : Before) (after : Synced) (status : ℕ) : Type 0 where
  pub conflicts : List Conflict
  pub remain : HasConflicts before after conflicts
  pub told : status ≡ conflicts_status (length conflicts)

abbrev pub count_of : Tree → ℕ
count_of t = length (edges t)

-- the conflicts that remain, and the numbers of edges of the two new views
pub record IsSummary (before : Before) (after : Synced) (summary : Summary) : Type 0 where
  pub remain : HasConflicts before after summary.conflicts.items
  pub left : summary.left ≡ count_of after.left
  pub right : summary.right ≡ count_of after.right

-- ---- the new files

-- the bytes of an archive and two replicas
pub record Texts : Type 0 where
  pub archive : List ℕ
  pub left : List ℕ
  pub right : List ℕ

-- an archive that is deeper than 1,000 isn't written
abbrev pub archive_fits : Archive → Result (Unit {0}) Refusal
archive_fits o = cond (nat_lt 1000 (depth_here o)) (Err (At slot.Archive (Unwritable (depth_here o)))) (Ok tt)

-- each side's bytes of its new view behind those of its replica, the left one's first, and then the text of the archive
unfoldable pub Closes : Handed → Sides → Replicas → Synced → Result Texts Refusal → Type 0
Closes h sides replicas after =
    Then (ClosesOn h sides.left replicas.left after.left slot.A) (λ left.
    Then (ClosesOn h sides.right replicas.right after.right slot.B) (λ right.
    Then (λ r. r ≡ archive_fits after.archive) (λ fits r.
    r ≡ Ok (record { archive = archive_text after.archive; left = left; right = right }))))

-- the bytes of the archive and of a replica that become as the view of the other one, and the bytes of that, which stay
pub record OneSidedTexts : Type 0 where
  pub archive : List ℕ
  pub made : List ℕ
  pub kept : List ℕ

-- a side's bytes of the view of the other replica behind those of its own, and then the text of the archive
unfoldable pub ClosesAs : Handed → Slot → SideValue → ReplicaValue → ReplicaValue → Result OneSidedTexts Refusal → Type 0
ClosesAs h at side replica other =
    Then (ClosesOn h side replica other.view at) (λ made.
    Then (λ r. r ≡ archive_fits (Some (recorded other.view))) (λ fits r.
    r ≡ Ok (record { archive = archive_text (Some (recorded other.view)); made = made; kept = other.bytes })))

-- the names of the files that are written
pub record NewNames : Type 0 where
  pub archive : Name
  pub left : Name
  pub right : Name

abbrev pub names_in : WrittenFiles → NewNames
names_in f = record { archive = f.archive.now; left = f.left.now; right = f.right.now }

-- in the order in which they are measured and written
abbrev pub news_of : NewNames → Texts → List New
news_of f t =
    record { slot = slot.A; name = f.left; bytes = t.left } ∷ record { slot = slot.B; name = f.right; bytes = t.right }
    ∷ record { slot = slot.Archive; name = f.archive; bytes = t.archive } ∷ []

-- ---- the plan

-- the names of the files that are written, what was read, what that becomes, and the bytes that they are to have
pub record Plan : Type 0 where
  pub files : NewNames
  pub before : Before
  pub after : Synced
  pub texts : Texts

-- the three new files are made before the first of them is measured
unfoldable pub Plans : Handed → NewNames → Before → Result Plan Refusal → Type 0
Plans h files before =
    Then (Reconciles before) (λ after.
    Then (Closes h before.sides before.replicas after) (λ texts.
    Then (λ r. r ≡ measures (news_of files texts)) (λ sizes r.
    r ≡ Ok (record { files = files; before = before; after = after; texts = texts }))))

-- what is to be done with files of these names and bytes
unfoldable pub PlansFrom : Handed → NewNames → List (List ℕ) → Result Plan Refusal → Type 0
PlansFrom h files all = Then (ReadsAll h all) (Plans h files)

-- ---- what is made, against what was read

abbrev pub outcome_of : Outcome → Synced
outcome_of o = record { archive = o.archive; left = o.left; right = o.right }

abbrev pub new_texts : NewTexts → Texts
new_texts t = record { archive = t.archive.items; left = t.left.items; right = t.right.items }

abbrev pub one_sided_texts : OneSided → OneSidedTexts
one_sided_texts t = record { archive = t.archive.items; made = t.made.items; kept = t.kept.items }

-- a summary of what comes with these conflicts
pub record Sums (after : Synced) (conflicts : List Conflict) (summary : Summary) : Type 0 where
  pub are : summary.conflicts.items ≡ conflicts
  pub left : summary.left ≡ count_of after.left
  pub right : summary.right ≡ count_of after.right

-- the texts are those of what was read becomes, with its summary
pub record IsMade (h : Handed) (before : Before) (made : NewTexts) : Type 0 where
  pub after : Synced
  pub becomes : Becomes before after
  pub closes : Closes h before.sides before.replicas after (Ok (new_texts made))
  pub sums : IsSummary before after made.summary

-- what was read becomes what is refused to be written
pub record IsUnwritable (h : Handed) (before : Before) (refusal : Refusal) : Type 0 where
  pub after : Synced
  pub becomes : Becomes before after
  pub closes : Closes h before.sides before.replicas after (Err refusal)

abbrev pub MakesTexts : Handed → Before → Result NewTexts Refusal → Type 0
MakesTexts h before (Ok made) = IsMade h before made
MakesTexts h before (Err refusal) = IsUnwritable h before refusal

-- the new files are those of a plan of what was read, with its summary
pub record IsPlannedOf (h : Handed) (files : NewNames) (before : Before) (news : List New) (summary : Summary) : Type 0 where
  pub plan : Plan
  pub planned : Plans h files before (Ok plan)
  pub of : plan.files ≡ files
  pub of_what : plan.before ≡ before
  pub are : news ≡ news_of files plan.texts
  pub sums : IsSummary plan.before plan.after summary

-- what was read comes to a plan, or is refused
abbrev pub MakesOf : Handed → NewNames → Before → Result (List NewFile × Summary) Refusal → Type 0
MakesOf h files before (Ok made) = IsPlannedOf h files before (map new_of made.0) made.1
MakesOf h files before (Err refusal) = Plans h files before (Err refusal)

-- the new files are those of a plan of some files, with its summary
pub record IsPlanned (h : Handed) (files : NewNames) (all : List (List ℕ)) (news : List New) (summary : Summary) : Type 0 where
  pub plan : Plan
  pub planned : PlansFrom h files all (Ok plan)
  pub of : plan.files ≡ files
  pub are : news ≡ news_of files plan.texts
  pub sums : IsSummary plan.before plan.after summary

-- files of these names and bytes come to a plan, or are refused
abbrev pub Makes : Handed → NewNames → List (List ℕ) → Result (List NewFile × Summary) Refusal → Type 0
Makes h files all (Ok made) = IsPlanned h files all (map new_of made.0) made.1
Makes h files all (Err refusal) = PlansFrom h files all (Err refusal)
