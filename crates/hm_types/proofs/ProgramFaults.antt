-- What is told of the parts of a program is told of the program.
use Rattle.std.proofs.Common.{◌≡◌, ◌+◌, ℕ, length, sym, subst, ◌∙◌}
use Rattle.hm_types_rules.specs.Faults.{At, at}
use Rattle.hm_types_rules.specs.TextNames.{program_text_names, AreKnown}
use Rattle.hm_types_rules.specs.Typing.{Classes}
use Rattle.hm_types.specs.Checks.{IsMistyped, HasTwinsLeft, IsTextTold, IsCycleTold, AreTwinsTold, IsGuarded, IsFault}
use Rattle.hm_schema.specs.Values.{SchemaValue}
use Rattle.hm_terms.specs.Programs.{ProgramValue}
use Rattle.hm_types_terms.specs.declared.fault.TypeFault.{TypeFault}
use Rattle.hm_types_terms.specs.declared.fault.TypeFault.TheVariants.{Mistyped, UnknownLens, Unguarded, TwinLeft, Memory}
use Rattle.hm_types_terms.specs.Told.{IsTold}

module _ (texts : Classes) (p : ProgramValue) (s : SchemaValue) (guarded : IsGuarded texts p) where
  pub mistyped_fault : (number : ℕ) (F : At → Type 0) → ((a : At) → F a → IsMistyped texts p s number a) → (e : TypeFault) → IsTold number F e
      → IsFault texts p s e
  mistyped_fault number F f (Mistyped definition term rule) t =
      (guarded, subst (λ n. IsMistyped texts p s n (at term rule)) (sym t.0) (f (at term rule) t.1))
  mistyped_fault number F f (UnknownLens name) t = absurd t
  mistyped_fault number F f (Unguarded name) t = absurd t
  mistyped_fault number F f (TwinLeft definition term) t = absurd t
  mistyped_fault number F f Memory t = tt

  pub twins_fault : (number : ℕ) → number ≡ length p.definitions + 1 → HasTwinsLeft texts p s → (e : TypeFault) → AreTwinsTold p.main number e
      → IsFault texts p s e
  twins_fault number is left (TwinLeft definition term) t = (guarded, (left, (t.0 ∙ is, t.1)))
  twins_fault number is left (Mistyped definition term rule) t = absurd t
  twins_fault number is left (UnknownLens name) t = absurd t
  twins_fault number is left (Unguarded name) t = absurd t
  twins_fault number is left Memory t = absurd t

module _ (texts : Classes) (p : ProgramValue) (s : SchemaValue) where
  pub text_fault : (e : TypeFault) → IsTextTold texts p e → IsFault texts p s e
  text_fault (UnknownLens name) t = t
  text_fault (Unguarded name) t = absurd t
  text_fault (Mistyped definition term rule) t = absurd t
  text_fault (TwinLeft definition term) t = absurd t
  text_fault Memory t = tt

  pub cycle_fault : AreKnown texts (program_text_names p) → (e : TypeFault) → IsCycleTold p e → IsFault texts p s e
  cycle_fault known (Unguarded name) t = (known, t)
  cycle_fault known (UnknownLens name) t = absurd t
  cycle_fault known (Mistyped definition term rule) t = absurd t
  cycle_fault known (TwinLeft definition term) t = absurd t
  cycle_fault known Memory t = tt
