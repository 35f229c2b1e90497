-- The slots of each command, and the files of a request: each of its names in a slot.
use Rattle.std.specs.Prelude.{List, [], ◌∷◌, map, zip}
use Rattle.hm_tree.specs.Names.{Name}
use Rattle.hm_command_line.specs.declared.request.Command.{Command}
use Rattle.hm_command_line.specs.declared.request.Command.TheVariants.{Sync, Plan, Check, View, Generate}
use Rattle.hm_command_line.specs.Requests.{RequestValue}
use Rattle.hm_run_files.specs.declared.slot.Slot.{Slot}
use Rattle.hm_run_files.specs.declared.slot.Slot.TheVariants.{Schema, LensA, LensB, Archive, A, B}
use Rattle.hm_run_files.specs.Files.{File}

abbrev pub six_slots : List Slot
six_slots = Schema ∷ LensA ∷ LensB ∷ Archive ∷ A ∷ B ∷ []

-- in the order in which their files are named and loaded
abbrev pub slots_of : Command → List Slot
slots_of Sync = six_slots
slots_of Plan = six_slots
slots_of Check = LensA ∷ []
slots_of View = LensA ∷ A ∷ []
slots_of (Generate n) = []

abbrev pub file_at : Slot × Name → File
file_at p = record { slot = p.0; name = p.1 }

-- each slot with its name
abbrev pub paired : List Slot → List Name → List File
paired slots names = map file_at (zip slots names)

abbrev pub files_of : RequestValue → List File
files_of asked = paired (slots_of asked.command) asked.files
