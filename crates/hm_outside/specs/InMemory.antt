-- A store and a sink in memory: what they hold, and what their calls answer, by what was said of those that are to fail.
use Rattle.std.specs.Prelude.{◌≡◌, ℕ, ◌+◌, Bool, false, cond, List, [], ◌∷◌, ◌++◌, length, Option, Some, None}
use Rattle.hm_tree.specs.Names.{Name}
use Rattle.hm_outside.specs.declared.memory.MemStore.{MemStore}
use Rattle.hm_outside.specs.declared.memory.MemSink.{MemSink}
use Rattle.hm_outside.specs.declared.outside.Kind.{Kind}
use Rattle.hm_outside.specs.declared.outside.Kind.TheVariants.{Load, Replace}
use Rattle.hm_outside.specs.declared.outside.Failure.{Failure}
use Rattle.hm_outside.specs.declared.outside.Loaded.{Loaded}
use Rattle.hm_outside.specs.declared.outside.Loaded.TheVariants as loaded
use Rattle.hm_outside.specs.declared.outside.Stored.{Stored}
use Rattle.hm_outside.specs.declared.outside.Stored.TheVariants as stored
use Rattle.hm_outside.specs.declared.outside.Put.{Put}
use Rattle.hm_outside.specs.declared.outside.Put.TheVariants as put
use Rattle.hm_outside.specs.Contents.{Contents, nothing_held, held, replaced}
use Rattle.hm_outside.specs.Room.{contents_of, room_sizes, HasRoom, RoomsStay}
use Rattle.hm_outside.specs.Answers.{LoadsFrom}
use Rattle.hm_outside.specs.Numbered.{Calls, numbered, no_calls, next_naming, counted, failing}

-- ---- a store

-- what it holds, the room of each name that has some, the calls that failed, and the calls of each kind
pub record StoreValue : Type 0 where
  pub contents : Contents
  pub rooms : Name → Option ℕ
  pub failed : List Failure
  pub loads : Calls
  pub replaces : Calls

abbrev pub mem_store : MemStore → StoreValue
mem_store s = record {
  contents = contents_of s.rooms;
  rooms = room_sizes s.rooms;
  failed = s.failed.items;
  loads = numbered s.loads;
  replaces = numbered s.replaces;
}

abbrev pub empty_store : StoreValue
empty_store = record { contents = nothing_held; rooms = λ _. None; failed = []; loads = no_calls; replaces = no_calls }

-- the load of a number is to fail
abbrev pub with_failing_load : ℕ → StoreValue → StoreValue
with_failing_load number s = record { contents = s.contents; rooms = s.rooms; failed = s.failed; loads = failing number false s.loads; replaces = s.replaces }

-- the replace of a number is to fail, and the new bytes stand then, or don't
abbrev pub with_failing_replace : ℕ → Bool → StoreValue → StoreValue
with_failing_replace number written s =
    record { contents = s.contents; rooms = s.rooms; failed = s.failed; loads = s.loads; replaces = failing number written s.replaces }

abbrev pub noted : Kind → Name → List Failure → List Failure
noted kind name failed = failed ++ record { kind = kind; name = name } ∷ []

-- what a load answers, and what the store is then: it fails where it is to, and else tells the bytes; it is counted but for want
-- of memory
abbrev pub LoadsAs : Name → ℕ → StoreValue → Loaded → StoreValue → Type 0
LoadsAs name limit s loaded.Memory t = t ≡ s
LoadsAs name limit s loaded.Failed t =
    (done : Bool) × ((next_naming s.loads ≡ Some done)
    × (t ≡ record { contents = s.contents; rooms = s.rooms; failed = noted Load name s.failed; loads = counted s.loads; replaces = s.replaces }))
LoadsAs name limit s loaded.Absent t =
    (next_naming s.loads ≡ None) × LoadsFrom (held s.contents name) limit loaded.Absent
    × (t ≡ record { contents = s.contents; rooms = s.rooms; failed = s.failed; loads = counted s.loads; replaces = s.replaces })
LoadsAs name limit s loaded.Large t =
    (next_naming s.loads ≡ None) × LoadsFrom (held s.contents name) limit loaded.Large
    × (t ≡ record { contents = s.contents; rooms = s.rooms; failed = s.failed; loads = counted s.loads; replaces = s.replaces })
LoadsAs name limit s (loaded.Bytes bytes) t =
    (next_naming s.loads ≡ None) × LoadsFrom (held s.contents name) limit (loaded.Bytes bytes)
    × (t ≡ record { contents = s.contents; rooms = s.rooms; failed = s.failed; loads = counted s.loads; replaces = s.replaces })

-- room is given, and nothing else changes
pub record Reserves (s t : StoreValue) : Type 0 where
  pub stay : RoomsStay s.rooms t.rooms
  pub is : t ≡ record { contents = s.contents; rooms = t.rooms; failed = s.failed; loads = s.loads; replaces = s.replaces }

-- the same of a replace; where it fails, the new bytes stand if that was said. A call that isn't to fail never runs out of memory
-- where the name has room for the bytes
abbrev pub ReplacesAs : Name → List ℕ → StoreValue → Stored → StoreValue → Type 0
ReplacesAs name bytes s stored.Memory t = (t ≡ s) × (next_naming s.replaces ≡ None → ¬ (HasRoom s.rooms name (length bytes)))
ReplacesAs name bytes s stored.Failed t =
    RoomsStay s.rooms t.rooms
    × ((written : Bool) × ((next_naming s.replaces ≡ Some written)
    × (t ≡ record {
      contents = cond written (replaced s.contents name bytes) s.contents;
      rooms = t.rooms;
      failed = noted Replace name s.failed;
      loads = s.loads;
      replaces = counted s.replaces;
    })))
ReplacesAs name bytes s stored.Done t =
    RoomsStay s.rooms t.rooms
    × (next_naming s.replaces ≡ None)
    × (t ≡ record {
      contents = replaced s.contents name bytes;
      rooms = t.rooms;
      failed = s.failed;
      loads = s.loads;
      replaces = counted s.replaces;
    })

-- ---- a sink

-- what was written, how many puts failed, and all puts
pub record SinkValue : Type 0 where
  pub written : List ℕ
  pub faults : ℕ
  pub puts : Calls

abbrev pub mem_sink : MemSink → SinkValue
mem_sink s = record { written = s.bytes.items; faults = length s.faults.items; puts = numbered s.puts }

abbrev pub empty_sink : SinkValue
empty_sink = record { written = []; faults = 0; puts = no_calls }

-- the put of a number is to fail
abbrev pub with_failing_put : ℕ → SinkValue → SinkValue
with_failing_put number s = record { written = s.written; faults = s.faults; puts = failing number false s.puts }

-- what a put answers, and what the sink is then: where it fails, nothing is written
abbrev pub PutsAs : List ℕ → SinkValue → Put → SinkValue → Type 0
PutsAs piece s put.Memory t = t ≡ s
PutsAs piece s put.Failed t =
    (done : Bool) × ((next_naming s.puts ≡ Some done) × (t ≡ record { written = s.written; faults = s.faults + 1; puts = counted s.puts }))
PutsAs piece s put.Done t =
    (next_naming s.puts ≡ None) × (t ≡ record { written = s.written ++ piece; faults = s.faults; puts = counted s.puts })
