use Rattle.std.proofs.Common.{◌≡◌, drop}
use Rattle.hm_types_terms.specs.Courses.{classes_of}
use Rattle.hm_types_terms.proofs.texts.classes_named.Given as goal

abbrev pub invariant-loop-text : goal.invariant-loop-text
invariant-loop-text l = classes_of (drop l.text-index l.types) l.name ≡ classes_of l.types l.name
