-- What is told of a program other than want of memory is never told of a typed one.
use Rattle.std.proofs.Common.{◌≡◌, ℕ, refl, subst}
use Rattle.hm_schema.specs.Values.{SchemaValue}
use Rattle.hm_terms.specs.Lenses.{DefinitionValue}
use Rattle.hm_terms.specs.Programs.{ProgramValue}
use Rattle.hm_terms.specs.WellFormedPrograms.{IsWellFormed}
use Rattle.hm_types_forms.specs.Forms.{Form, form}
use Rattle.hm_types_forms.specs.SameForms.{IsSame, HasNoTwins}
use Rattle.hm_types_rules.specs.Faults.{At, at}
use Rattle.hm_types_rules.specs.Programs.{types_of, IsTypedDefinition, IsTyped}
use Rattle.hm_types_rules.specs.TextNames.{program_text_names}
use Rattle.hm_types_rules.specs.Typing.{Classes}
use Rattle.hm_types_rules.proofs.Once.{goes_once}
use Rattle.hm_types_rules.proofs.NeverBoth.{never_both}
use Rattle.hm_types_terms.specs.declared.fault.TypeFault.{TypeFault}
use Rattle.hm_types_terms.specs.declared.fault.TypeFault.TheVariants.{Mistyped, UnknownLens, Unguarded, TwinLeft, Memory}
use Rattle.hm_types.specs.Checks.{IsFault, IsMistyped, in_definition, in_main, IsMistypedDefinition, no_view, other_view}
use Rattle.hm_types_terms.proofs.Entries.{found_once}
use Rattle.hm_types_terms.proofs.TextTypes.{known_names}

module _ (texts : Classes) (p : ProgramValue) where
  pub mistyped_definition : (d : DefinitionValue) (a : At) → IsTypedDefinition texts p d → IsMistypedDefinition texts p d a → ⊥
  mistyped_definition d a t (no_view f) = never_both (types_of texts p) d.body 1 (form p.options.types d.source) t.view a t.goes f
  mistyped_definition d a t (other_view g f) = f (subst (λ v. IsSame v (form p.options.types d.view)) (goes_once (types_of texts p) t.goes g) t.same)

module _ (texts : Classes) (p : ProgramValue) (s : SchemaValue) (well : IsWellFormed p) (shown : Form) (typed : IsTyped texts p (form s.nodes s.root) shown) where
  mistyped : (number : ℕ) (a : At) → IsMistyped texts p s number a → ⊥
  mistyped number a (in_definition {i = i} {n = n} {d = d} before at m) =
      mistyped_definition texts p d a (typed.definitions n d (found_once p.definitions well.definition_names i n d at)) m
  mistyped number a (in_main before f) = never_both (types_of texts p) p.main 1 (form s.nodes s.root) shown a typed.main f

  pub told_of_none : (e : TypeFault) → IsFault texts p s e → e ≡ Memory
  told_of_none Memory f = refl
  told_of_none (UnknownLens name) f = absurd (known_names texts (program_text_names p) name typed.known f)
  told_of_none (Unguarded name) f = absurd (typed.guarded f.1.first.name f.1.first.bad)
  told_of_none (Mistyped definition term rule) f = absurd (mistyped definition (at term rule) f.1)
  told_of_none (TwinLeft definition term) f = absurd (f.1.0.twins (subst HasNoTwins (goes_once (types_of texts p) typed.main f.1.0.main) typed.plain))
