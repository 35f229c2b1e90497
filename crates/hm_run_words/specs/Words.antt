-- What the words behind the program's name mean: a request, or the usage line, or two files of one name.
use Rattle.std.specs.Prelude.{◌≡◌, Bool, true, false, ◌&&◌, ◌||◌, List, [], ◌∷◌, find, Option, Some, None, Result, Ok, Err}
use Rattle.std.specs.Option.{option_map, option_or}
use Rattle.std.specs.Str.{bytes_eq}
use Rattle.hm_tree.specs.Names.{Name}
use Rattle.hm_command_line.specs.declared.request.Command.{Command}
use Rattle.hm_command_line.specs.declared.request.Command.TheVariants.{Sync, Plan, Check, View, Generate}
use Rattle.hm_command_line.specs.Requests.{RequestValue, request_of}
use Rattle.hm_run_files.specs.declared.slot.Slot.{Slot}
use Rattle.hm_run_files.specs.declared.slot.Slot.TheVariants.{Archive, A, B}
use Rattle.hm_run_files.specs.declared.stop.Refusal.{Refusal}
use Rattle.hm_run_files.specs.declared.stop.Refusal.TheVariants.{Usage, SameName}
use Rattle.hm_run_files.specs.declared.stop.Stop.{Stop}
use Rattle.hm_run_files.specs.declared.stop.Stop.TheVariants.{Refused, Fault, Memory}
use Rattle.hm_run_files.specs.Files.{File}
use Rattle.hm_run_words.specs.Slots.{files_of}

-- ---- files of one name

-- the archive and the replicas are written, the other files are only read
abbrev pub is_written : Slot → Bool
is_written Archive = true
is_written A = true
is_written B = true
is_written _ = false

-- two files with equal names, of which one is written
abbrev pub clash : File → File → Bool
clash f g = bytes_eq f.name g.name && (is_written f.slot || is_written g.slot)

-- the first two files that may not have one name, and have: the first such that has it in common with a later one, and the
-- first of these
unfoldable pub first_pair : List File → Option (File × File)
first_pair [] = None
first_pair (f ∷ fs) = option_or (option_map (λ g. (f, g)) (find (clash f) fs)) (first_pair fs)

-- a command that writes files, or would, has them under different names; one that only reads may be given one name twice
abbrev pub names_differ : Command → Bool
names_differ Sync = true
names_differ Plan = true
names_differ Check = false
names_differ View = false
names_differ (Generate n) = false

abbrev pub same_pair : Bool → List File → Option (File × File)
same_pair true files = first_pair files
same_pair false files = None

-- ---- the meaning

-- the request, or its first pair of equal names
abbrev pub apart : RequestValue → Option (File × File) → Result RequestValue Refusal
apart asked None = Ok asked
apart asked (Some pair) = Err (SameName pair.0.slot pair.1.slot)

abbrev pub checked : Option RequestValue → Result RequestValue Refusal
checked None = Err Usage
checked (Some asked) = apart asked (same_pair (names_differ asked.command) (files_of asked))

-- what the words ask for, with names that may stand beside one another
unfoldable pub meaning : List Name → Result RequestValue Refusal
meaning words = checked (request_of words)

-- ---- answers

-- the answer is what it should be, seen so, or the refusal; want of memory is free
abbrev pub AnswersOrStops : {A B : Type 0} → (A → B) → Result B Refusal → Result A Stop → Type 0
AnswersOrStops seen wanted (Ok x) = wanted ≡ Ok (seen x)
AnswersOrStops seen wanted (Err (Refused refusal)) = wanted ≡ Err refusal
AnswersOrStops seen wanted (Err (Fault kind at)) = ⊥
AnswersOrStops seen wanted (Err Memory) = Unit {0}

abbrev pub slot_pair : Option (File × File) → Option (Slot × Slot)
slot_pair pair = option_map (λ (p : File × File). (p.0.slot, p.1.slot)) pair

abbrev pub slot_of : Option File → Option Slot
slot_of found = option_map (λ (f : File). f.slot) found
