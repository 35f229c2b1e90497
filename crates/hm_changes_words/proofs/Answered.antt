-- What a parse answers, against what the words ask for.
use Rattle.std.proofs.Common.{◌≡◌, ◌∙◌, inl, inr, ◌≢◌, true, refl, sym, ap, ap₂, subst, List, [], ◌∷◌, Option, None}
use Rattle.clap.specs.Walk.{Row, Text}
use Rattle.clap.specs.Values.{kind_of}
use Rattle.clap.specs.Kinds.{HasKind, Kinds}
use Rattle.clap.specs.Simple.{App, is_simple, matches_of}
use Rattle.clap.specs.Faults.{fault_of, is_simple_and_free}
use Rattle.clap.specs.declared.error.Error.{Error}
use Rattle.clap.specs.declared.error.kind.ErrorKind.TheVariants.{OutOfMemory}
use Rattle.hm_changes_words.specs.Parse.{command}
use Rattle.hm_changes_words.specs.Asked.{AskedValue, asked_in, if_right, asked_of}

simple : is_simple command ≡ true
simple = refl

simple_and_free : is_simple_and_free command ≡ true
simple_and_free = refl

none_asked : (kinds : Kinds) (asked : Option AskedValue) (e : Error) → HasKind kinds e → kind_of e ≢ OutOfMemory → None ≡ if_right kinds asked
none_asked [] asked e (inl memory) other = absurd (other memory)
none_asked [] asked e (inr among) other = absurd among
none_asked (kind ∷ kinds) asked e h other = refl

module _ (app : App) (taken words : List Text) (is : app ≡ command) (are : taken ≡ words) where
  pub accepted : (is_simple_and_free app ≡ true → fault_of app taken ≡ []) → (rows : List Row) {X : Type 0} → (is_simple app ≡ true → (rows ≡ matches_of app taken) × X)
      → (asked : Option AskedValue) → asked ≡ asked_in rows → asked ≡ asked_of words
  unfolding asked_of
  accepted kinds rows matches asked so =
      let right : fault_of command words ≡ [] = sym (ap₂ fault_of is are) ∙ kinds (ap is_simple_and_free is ∙ simple_and_free) in
      let found : rows ≡ matches_of command words = (matches (ap is_simple is ∙ simple)).0 ∙ ap₂ matches_of is are in
      so ∙ sym (ap₂ if_right right (ap asked_in (sym found)))

  pub refused : (e : Error) → (is_simple_and_free app ≡ true → HasKind (fault_of app taken) e) → kind_of e ≢ OutOfMemory → None ≡ asked_of words
  unfolding asked_of
  refused e kinds other = none_asked (fault_of command words) (asked_in (matches_of command words)) e
      (subst (λ (k : Kinds). HasKind k e) (ap₂ fault_of is are) (kinds (ap is_simple_and_free is ∙ simple_and_free))) other
