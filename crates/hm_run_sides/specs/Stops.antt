-- The faults of lens files and of replicas, as what stops a run.
use Rattle.hm_focal.specs.declared.fault.LensFault.{LensFault}
use Rattle.hm_focal.specs.declared.fault.LensFault.TheVariants as lens
use Rattle.hm_types_terms.specs.declared.fault.TypeFault.{TypeFault}
use Rattle.hm_types_terms.specs.declared.fault.TypeFault.TheVariants as types
use Rattle.hm_format.specs.declared.fault.FormatFault.{FormatFault}
use Rattle.hm_format.specs.declared.fault.FormatFault.TheVariants as format
use Rattle.hm_run_files.specs.declared.slot.Slot.{Slot}
use Rattle.hm_run_files.specs.declared.stop.ReplicaFault.TheVariants.{NotUtf8, BadItem, NoKey, TooDeep, Outside}
use Rattle.hm_run_files.specs.declared.stop.FileFault.TheVariants.{BadLens, BadOption, UnknownLens, Unguarded, Mistyped, TwinLeft, BadReplica, Unwritable}
use Rattle.hm_run_files.specs.declared.stop.Refusal.TheVariants.{At}
use Rattle.hm_run_files.specs.declared.stop.Stop.{Stop}
use Rattle.hm_run_files.specs.declared.stop.Stop.TheVariants.{Refused, Memory}

abbrev pub lens_stop : Slot → LensFault → Stop
lens_stop at (lens.BadLens line) = Refused (At at (BadLens line))
lens_stop at lens.Memory = Memory

abbrev pub type_stop : Slot → TypeFault → Stop
type_stop at (types.UnknownLens name) = Refused (At at (UnknownLens name))
type_stop at (types.Unguarded name) = Refused (At at (Unguarded name))
type_stop at (types.Mistyped definition term rule) = Refused (At at (Mistyped definition term rule))
type_stop at (types.TwinLeft definition term) = Refused (At at (TwinLeft definition term))
type_stop at types.Memory = Memory

-- of options, and of the bytes of a replica
abbrev pub format_stop : Slot → FormatFault → Stop
format_stop at (format.BadOption key) = Refused (At at (BadOption key))
format_stop at (format.NotUtf8 place) = Refused (At at (BadReplica (NotUtf8 place)))
format_stop at (format.BadItem number) = Refused (At at (BadReplica (BadItem number)))
format_stop at (format.NoKey number) = Refused (At at (BadReplica (NoKey number)))
format_stop at (format.TooDeep depth) = Refused (At at (BadReplica (TooDeep depth)))
format_stop at (format.Outside path) = Refused (At at (BadReplica (Outside path)))
format_stop at format.Memory = Memory

-- of what is to be written, which may be too deep
abbrev pub write_stop : Slot → FormatFault → Stop
write_stop at (format.TooDeep depth) = Refused (At at (Unwritable depth))
write_stop at (format.BadOption key) = format_stop at (format.BadOption key)
write_stop at (format.NotUtf8 place) = format_stop at (format.NotUtf8 place)
write_stop at (format.BadItem number) = format_stop at (format.BadItem number)
write_stop at (format.NoKey number) = format_stop at (format.NoKey number)
write_stop at (format.Outside path) = format_stop at (format.Outside path)
write_stop at format.Memory = Memory
