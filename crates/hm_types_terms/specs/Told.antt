-- Which fault is told of a lens of a definition.
use Rattle.std.specs.Prelude.{◌≡◌, ℕ}
use Rattle.hm_types_rules.specs.Faults.{At, at}
use Rattle.hm_types_terms.specs.declared.fault.TypeFault.{TypeFault}
use Rattle.hm_types_terms.specs.declared.fault.TypeFault.TheVariants.{Mistyped, UnknownLens, Unguarded, TwinLeft, Memory}

-- want of memory, or the place and the rule of the definition of this number
abbrev pub IsTold : ℕ → (At → Type 0) → TypeFault → Type 0
IsTold number F (Mistyped definition term rule) = (definition ≡ number) × F (at term rule)
IsTold number F (UnknownLens name) = ⊥
IsTold number F (Unguarded name) = ⊥
IsTold number F (TwinLeft definition term) = ⊥
IsTold number F Memory = Unit {0}
