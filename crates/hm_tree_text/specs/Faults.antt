-- Why bytes aren't read.
use Rattle.std.specs.Prelude.{ℕ, Bool, true, false, List}
use Rattle.hm_tree_text.specs.declared.fault.TextFault.{TextFault}
use Rattle.hm_tree_text.specs.declared.fault.TextFault.TheVariants.{BadTree, TooDeep, Memory}
use Rattle.hm_tree_text.specs.Begun.{IsLongestBegun}
use Rattle.hm_tree_text.specs.Files.{IsTreeFile, IsArchiveFile}
use Rattle.hm_tree_text.specs.Opening.{IsTooDeep}

-- the bytes aren't too deep, and are no file: up to this place some file begins so, and no further
pub record IsBad (m : Bool) (File : List ℕ → Type 0) (bytes : List ℕ) (at : ℕ) : Type 0 where
  pub not_deep : ¬ (IsTooDeep m bytes)
  pub no_file : ¬ (File bytes)
  pub place : IsLongestBegun File bytes at

-- the cause of each fault; that of want of memory is none of the bytes
abbrev pub Faults : Bool → (List ℕ → Type 0) → List ℕ → TextFault → Type 0
Faults m File bytes (BadTree at) = IsBad m File bytes at
Faults m File bytes TooDeep = IsTooDeep m bytes
Faults m File bytes Memory = Unit {0}

abbrev pub TreeFaults : List ℕ → TextFault → Type 0
TreeFaults = Faults false IsTreeFile

abbrev pub ArchiveFaults : List ℕ → TextFault → Type 0
ArchiveFaults = Faults true IsArchiveFile
