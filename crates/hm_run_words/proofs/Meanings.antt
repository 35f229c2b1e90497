-- What words mean, by what they ask for, and what a request comes to, by the first pair of equal names.
use Rattle.std.proofs.Common.{◌≡◌, refl, sym, ap, subst, Option, Some, None, Result, Ok, Err, List}
use Rattle.hm_tree.specs.Names.{Name}
use Rattle.hm_run_files.specs.declared.slot.Slot.{Slot}
use Rattle.hm_run_files.specs.declared.stop.Refusal.{Refusal}
use Rattle.hm_run_files.specs.declared.stop.Refusal.TheVariants.{Usage, SameName}
use Rattle.hm_run_files.specs.declared.stop.Stop.{Stop}
use Rattle.hm_run_files.specs.Files.{File}
use Rattle.hm_run_words.specs.Slots.{files_of}
use Rattle.hm_command_line.specs.Requests.{RequestValue, request_of}
use Rattle.hm_run_words.specs.Words.{same_pair, names_differ, apart, checked, meaning, slot_pair, AnswersOrStops}

pub no_meaning : (words : List Name) → None ≡ request_of words → meaning words ≡ Err Usage
unfolding meaning
no_meaning words none = ap checked (sym none)

pub meant : {R : Type 0} (seen : R → RequestValue) (words : List Name) (r : RequestValue) → Some r ≡ request_of words → (answer : Result R Stop)
    → AnswersOrStops seen (checked (Some r)) answer → AnswersOrStops seen (meaning words) answer
unfolding meaning
meant seen words r is answer a = subst (λ (m : Result RequestValue Refusal). AnswersOrStops seen m answer) (ap checked is) a

module _ (r : RequestValue) where
  same_so : (found : Option (File × File)) (one two : Slot) → Some (one, two) ≡ slot_pair found → apart r found ≡ Err (SameName one two)
  same_so None one two e = let no : ⊥ = cc in absurd no
  same_so (Some p) one two e =
      let q : ◌≡◌ {A = Slot × Slot} (p.0.slot, p.1.slot) (one, two) = cc in ap (λ (x : Slot × Slot). Err (SameName x.0 x.1)) q

  other_so : (found : Option (File × File)) → None ≡ slot_pair found → apart r found ≡ Ok r
  other_so None e = refl
  other_so (Some p) e = let no : ⊥ = cc in absurd no

  abbrev pair : Option (File × File)
  pair = same_pair (names_differ r.command) (files_of r)

  pub same_names : (one two : Slot) → Some (one, two) ≡ slot_pair pair → checked (Some r) ≡ Err (SameName one two)
  same_names one two e = same_so pair one two e

  pub other_names : None ≡ slot_pair pair → checked (Some r) ≡ Ok r
  other_names e = other_so pair e
