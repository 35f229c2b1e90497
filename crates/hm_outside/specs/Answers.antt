-- What the answers of a store and of a sink say of what is in them.
use Rattle.std.specs.Prelude.{◌≡◌, ◌⊎◌, ℕ, ◌<◌, ◌≤◌, List, ◌++◌, length, take, Option, Some, None}
use Rattle.std.specs.Option.{IsSomeAnd}
use Rattle.hm_tree.specs.Names.{Name}
use Rattle.hm_outside.specs.declared.outside.Loaded.{Loaded}
use Rattle.hm_outside.specs.declared.outside.Loaded.TheVariants as loaded
use Rattle.hm_outside.specs.declared.outside.Stored.{Stored}
use Rattle.hm_outside.specs.declared.outside.Stored.TheVariants as stored
use Rattle.hm_outside.specs.declared.outside.Put.{Put}
use Rattle.hm_outside.specs.declared.outside.Put.TheVariants as put
use Rattle.hm_outside.specs.Contents.{Contents, replaced}

-- no more bytes than the limit
abbrev pub IsWithin : ℕ → Loaded → Type 0
IsWithin limit (loaded.Bytes bytes) = length bytes.items ≤ limit
IsWithin limit loaded.Large = Unit {0}
IsWithin limit loaded.Absent = Unit {0}
IsWithin limit loaded.Failed = Unit {0}
IsWithin limit loaded.Memory = Unit {0}

-- what a load says of the bytes of its name: they are these, they are too many, there are none, or nothing
abbrev pub LoadsFrom : Option (List ℕ) → ℕ → Loaded → Type 0
LoadsFrom there limit (loaded.Bytes bytes) = there ≡ Some bytes.items
LoadsFrom there limit loaded.Large = IsSomeAnd there (λ bytes. limit < length bytes)
LoadsFrom there limit loaded.Absent = there ≡ None
LoadsFrom there limit loaded.Failed = Unit {0}
LoadsFrom there limit loaded.Memory = Unit {0}

-- what a store holds after a replace: the new bytes at the name, those or what was there, or what was there
abbrev pub ReplacesIn : Contents → Name → List ℕ → Stored → Option Contents → Type 0
ReplacesIn old name bytes stored.Done new = new ≡ Some (replaced old name bytes)
ReplacesIn old name bytes stored.Failed new = (new ≡ Some old) ⊎ (new ≡ Some (replaced old name bytes))
ReplacesIn old name bytes stored.Memory new = new ≡ Some old

-- what is written after a put: the piece behind the rest, a first part of the piece, or no more than before
abbrev pub PutsAfter : List ℕ → List ℕ → Put → Option (List ℕ) → Type 0
PutsAfter old piece put.Done new = new ≡ Some (old ++ piece)
PutsAfter old piece put.Failed new = (count : ℕ) × (new ≡ Some (old ++ take count piece))
PutsAfter old piece put.Memory new = new ≡ Some old
