-- What was seen of the files that were loaded.
use Rattle.std.specs.Prelude.{◌≡◌, ◌≢◌, Option}
use Rattle.std.specs.Option.{IsSomeAnd}
use Rattle.hm_tree.specs.Names.{Name}
use Rattle.hm_outside.specs.declared.seen.Stamp.{Stamp}
use Rattle.hm_outside.specs.declared.seen.Seen.{Seen}

-- two stamps of one file, maybe in two states
pub record AreOfOne (one other : Stamp) : Type 0 where
  pub device : one.device ≡ other.device
  pub inode : one.inode ≡ other.inode

-- a file was loaded
abbrev pub WasLoaded : Stamp → Seen → Type 0
WasLoaded stamp seen = IsSomeAnd seen.stamp (λ s. AreOfOne s stamp)

-- a file was loaded under another name
pub record WasAnother (name : Name) (stamp : Stamp) (seen : Seen) : Type 0 where
  pub other : seen.name ≢ name
  pub loaded : WasLoaded stamp seen

-- the file of a name isn't any more as it was loaded
pub record WasOther (name : Name) (stamp : Option Stamp) (seen : Seen) : Type 0 where
  pub same : seen.name ≡ name
  pub changed : seen.stamp ≢ stamp

-- what was seen last of the file of a name
pub record IsSeen (name : Name) (stamp : Option Stamp) (seen : Seen) : Type 0 where
  pub of : seen.name ≡ name
  pub state : seen.stamp ≡ stamp
