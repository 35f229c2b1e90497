-- What the stores and sinks of this crate show of themselves.
use Rattle.std.specs.Prelude.{ℕ, List, length}
use Rattle.hm_outside.specs.Contents.{Contents}
use Rattle.hm_outside.specs.Room.{contents_of}
use Rattle.hm_outside.specs.declared.memory.MemStore.{MemStore}
use Rattle.hm_outside.specs.declared.outside.Failure.{Failure}
use Rattle.hm_outside.specs.declared.file.FileStore.{FileStore}
use Rattle.hm_outside.specs.declared.output.StdSink.{StdSink}

-- what a store in memory holds
abbrev pub stored_in : MemStore → Contents
stored_in store = contents_of store.rooms

-- the calls of a store of real files that failed
abbrev pub failed_calls : {R File Dir : Type 0} → FileStore R File Dir → List Failure
failed_calls store = store.failed.items

-- how many calls of a sink over a writer failed
abbrev pub fault_count : {W : Type 0} → StdSink W → ℕ
fault_count sink = length sink.faults.items
