-- What bytes are read as: the value that they are the text of, or why they are that of none.
use Rattle.std.specs.Prelude.{ℕ, List, Result, Ok, Err}
use Rattle.hm_tree.specs.Nodes.{Tree}
use Rattle.hm_tree.specs.Archives.{Archive}
use Rattle.hm_tree_text.specs.declared.fault.TextFault.{TextFault}
use Rattle.hm_tree_text.specs.declared.fault.TextFault.TheVariants.{BadTree, TooDeep, Memory}
use Rattle.hm_tree_text.specs.Files.{IsTreeText, IsArchiveText}
use Rattle.hm_tree_text.specs.Faults.{TreeFaults, ArchiveFaults}

-- want of memory is nothing that bytes are read as
abbrev pub Reads : {A : Type 0} → (A → List ℕ → Type 0) → (List ℕ → TextFault → Type 0) → List ℕ → Result A TextFault → Type 0
Reads IsText FaultsOf bytes (Ok x) = IsText x bytes
Reads IsText FaultsOf bytes (Err (BadTree at)) = FaultsOf bytes (BadTree at)
Reads IsText FaultsOf bytes (Err TooDeep) = FaultsOf bytes TooDeep
Reads IsText FaultsOf bytes (Err Memory) = ⊥

abbrev pub ReadsTree : List ℕ → Result Tree TextFault → Type 0
ReadsTree = Reads IsTreeText TreeFaults

abbrev pub ReadsArchive : List ℕ → Result Archive TextFault → Type 0
ReadsArchive = Reads IsArchiveText ArchiveFaults

-- a result is such, unless there was no memory
abbrev pub UnlessMemory : {A : Type 0} → (Result A TextFault → Type 0) → Result A TextFault → Type 0
UnlessMemory Such (Ok x) = Such (Ok x)
UnlessMemory Such (Err (BadTree at)) = Such (Err (BadTree at))
UnlessMemory Such (Err TooDeep) = Such (Err TooDeep)
UnlessMemory Such (Err Memory) = Unit {0}
