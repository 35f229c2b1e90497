-- The line and the exit status of each ending.
use Rattle.std.specs.Prelude.{ℕ, List, [], ◌∷◌, ◌++◌, codes, Result, Ok, Err}
use Rattle.std.specs.Fmt.{decimal}
use Rattle.hm_tree.specs.Names.{Name}
use Rattle.hm_tree_spelling.specs.Spelling.{spelled, path_text}
use Rattle.hm_outside.specs.declared.outside.Kind.{Kind}
use Rattle.hm_outside.specs.declared.outside.Kind.TheVariants.{Load, Replace}
use Rattle.hm_outside.specs.declared.outside.Put.{Put}
use Rattle.hm_outside.specs.declared.outside.Put.TheVariants as put
use Rattle.hm_run_files.specs.declared.slot.Slot.{Slot}
use Rattle.hm_run_files.specs.declared.slot.Slot.TheVariants.{Schema, LensA, LensB, Archive, A, B}
use Rattle.hm_run_files.specs.declared.stop.ArchiveFault.{ArchiveFault}
use Rattle.hm_run_files.specs.declared.stop.ArchiveFault.TheVariants.{At as Begins, Deep}
use Rattle.hm_run_files.specs.declared.stop.ReplicaFault.{ReplicaFault}
use Rattle.hm_run_files.specs.declared.stop.ReplicaFault.TheVariants.{NotUtf8, BadItem, NoKey, TooDeep, Outside}
use Rattle.hm_run_files.specs.declared.stop.FileFault.{FileFault}
use Rattle.hm_run_files.specs.declared.stop.FileFault.TheVariants.{Missing, TooLarge, BadSchema, BadLens, UnknownFormat, BadOption, UnknownLens, Unguarded, Mistyped, TwinLeft, WrongView, BadArchive, BadReplica, Unwritable, Overgrown}
use Rattle.hm_run_files.specs.declared.stop.Refusal.{Refusal}
use Rattle.hm_run_files.specs.declared.stop.Refusal.TheVariants.{Usage, SameName, At}
use Rattle.hm_run_files.specs.declared.stop.Stop.{Stop}
use Rattle.hm_run_files.specs.declared.stop.Stop.TheVariants.{Refused, Fault, Memory}
use Rattle.hm_run_words.specs.declared.ending.Output.{Output}
use Rattle.hm_run_words.specs.declared.ending.Ending.{Ending}

abbrev pub slot_name : Slot → List ℕ
slot_name Schema = codes "schema"
slot_name LensA = codes "lensA"
slot_name LensB = codes "lensB"
slot_name Archive = codes "archive"
slot_name A = codes "A"
slot_name B = codes "B"

abbrev pub archive_fault_text : ArchiveFault → List ℕ
archive_fault_text (Begins at) = codes "at " ++ decimal at
archive_fault_text Deep = codes "deep"

abbrev pub replica_fault_text : ReplicaFault → List ℕ
replica_fault_text (NotUtf8 at) = codes "NotUtf8 " ++ decimal at
replica_fault_text (BadItem at) = codes "BadItem " ++ decimal at
replica_fault_text (NoKey at) = codes "NoKey " ++ decimal at
replica_fault_text (TooDeep depth) = codes "TooDeep " ++ decimal depth
replica_fault_text (Outside path) = codes "Outside " ++ path_text path

-- a slot with a name behind it, or with numbers
abbrev pub slot_and_name : List ℕ → Slot → Name → List ℕ
slot_and_name what at name = what ++ slot_name at ++ codes " " ++ spelled name

abbrev pub slot_and_number : List ℕ → Slot → ℕ → List ℕ
slot_and_number what at number = what ++ slot_name at ++ codes " " ++ decimal number

-- the slot is told where more than one could be meant
abbrev pub fault_text : Slot → FileFault → List ℕ
fault_text at Missing = codes "Missing " ++ slot_name at
fault_text at TooLarge = codes "TooLarge " ++ slot_name at
fault_text at (BadSchema line) = codes "BadSchema " ++ decimal line
fault_text at (BadLens line) = slot_and_number (codes "BadLens ") at line
fault_text at (UnknownFormat name) = slot_and_name (codes "UnknownFormat ") at name
fault_text at (BadOption key) = slot_and_name (codes "BadOption ") at key
fault_text at (UnknownLens name) = slot_and_name (codes "UnknownLens ") at name
fault_text at (Unguarded name) = slot_and_name (codes "Unguarded ") at name
fault_text at (Mistyped definition term rule) =
    slot_and_number (codes "Mistyped ") at definition ++ codes " " ++ decimal term ++ codes " " ++ decimal rule
fault_text at (TwinLeft definition term) = slot_and_number (codes "TwinLeft ") at definition ++ codes " " ++ decimal term
fault_text at WrongView = codes "WrongView " ++ slot_name at
fault_text at (BadArchive fault) = codes "BadArchive " ++ archive_fault_text fault
fault_text at (BadReplica fault) = codes "BadReplica " ++ slot_name at ++ codes " " ++ replica_fault_text fault
fault_text at (Unwritable depth) = slot_and_number (codes "Unwritable ") at depth
fault_text at (Overgrown size) = slot_and_number (codes "Overgrown ") at size

abbrev pub refusal_text : Refusal → List ℕ
refusal_text Usage = codes "usage: harmony [--quiet] sync|plan SCHEMA LENS_A LENS_B ARCHIVE A B, check LENS, view LENS FILE, gen N"
refusal_text (SameName one two) = codes "harmony: SameName " ++ slot_name one ++ codes " " ++ slot_name two
refusal_text (At at fault) = codes "harmony: " ++ fault_text at fault

abbrev pub call_name : Kind → List ℕ
call_name Load = codes "ReadFault "
call_name Replace = codes "WriteFault "

abbrev pub stop_text : Stop → List ℕ
stop_text (Refused refusal) = refusal_text refusal
stop_text (Fault kind at) = codes "harmony: " ++ (call_name kind ++ slot_name at)
stop_text Memory = []

-- the line of a run that stopped so, with a line feed behind it; none for want of memory
abbrev pub line_of : Stop → List ℕ
line_of Memory = []
line_of stop = stop_text stop ++ 10 ∷ []

-- what a run whose work came to this has to say
abbrev pub output_of : Result Output Stop → List ℕ
output_of (Ok output) = output.text.items
output_of (Err stop) = line_of stop

-- ---- statuses

abbrev pub refusal_status : Refusal → ℕ
refusal_status Usage = 2
refusal_status _ = 3

-- of a run whose work came to this, where all that it had to say was put out
abbrev pub work_status : Result Output Stop → ℕ
work_status (Ok output) = output.status
work_status (Err (Refused refusal)) = refusal_status refusal
work_status (Err (Fault kind at)) = 4
work_status (Err Memory) = 5

-- a fault of the sink while an output was put has a status of its own; while a line was put it has none
abbrev pub put_status : Result Output Stop → Put → ℕ
put_status work put.Memory = 5
put_status (Ok output) put.Failed = 6
put_status work answer = work_status work

abbrev pub status_of : Ending → ℕ
status_of ending = put_status ending.work ending.put
