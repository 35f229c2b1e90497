-- Steps over a store of which no call is to fail.
use Rattle.std.specs.Prelude.{Result, Ok, Err}
use Rattle.hm_run_files.specs.declared.stop.Stop.{Stop}
use Rattle.hm_run_files.specs.declared.stop.Stop.TheVariants.{Refused, Fault, Memory}

-- what a step made; want of memory in place of a fault
abbrev pub calmed : {X : Type 0} → Result X Stop → Result X Stop
calmed (Ok made) = Ok made
calmed (Err (Refused refusal)) = Err (Refused refusal)
calmed (Err (Fault kind at)) = Err Memory
calmed (Err Memory) = Err Memory
