-- What contracts see of what is read.
use Rattle.std.specs.Prelude.{Result, Ok, Err}
use Rattle.hm_terms.specs.declared.term.Program.{Program}
use Rattle.hm_terms.specs.Programs.{ProgramValue, program_value}
use Rattle.hm_focal.specs.declared.fault.LensFault.{LensFault}

abbrev pub read_value : Result Program LensFault → Result ProgramValue LensFault
read_value (Ok p) = Ok (program_value p)
read_value (Err e) = Err e
