use Rattle.std.proofs.Common.{◌≡◌, ◌+◌}
use Rattle.hm_terms.specs.Programs.{program_value}
use Rattle.hm_types_terms.specs.Courses.{classes_of}
use Rattle.hm_types.proofs.CheckSteps.{IsBegun, IsChecked}
use Rattle.hm_types.proofs.checking.checked.Given as goal

-- the first definitions are typed
abbrev pub invariant-loop-definition : goal.invariant-loop-definition
invariant-loop-definition l = record {
  begun : IsBegun (program_value l.fn.program) l.source l.by l.declared.items;
  checked : IsChecked (classes_of l.texts) (program_value l.fn.program) l.source l.table l.definition-index;
  number : l.number ≡ l.definition-index + 1;
}
