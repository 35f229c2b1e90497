-- The first two files with one name.
use Rattle.std.proofs.Common.{◌≡◌, List, ◌∷◌, find, Option, Some, None, refl, ap}
use Rattle.std.specs.Option.{option_map, option_or}
use Rattle.hm_run_files.specs.declared.slot.Slot.{Slot}
use Rattle.hm_run_files.specs.Files.{File}
use Rattle.hm_run_words.specs.Words.{clash, first_pair, slot_of, slot_pair}

module _ (f : File) (fs : List File) where
  here : (found : Option File) (rest : Option (File × File)) (s : Slot) → slot_of found ≡ Some s
      → slot_pair (option_or (option_map (λ g. (f, g)) found) rest) ≡ Some (f.slot, s)
  here None rest s e = let no : ⊥ = cc in absurd no
  here (Some g) rest s e = let same : g.slot ≡ s = cc in ap (λ t. Some (f.slot, t)) same

  later : (found : Option File) (rest : Option (File × File)) → slot_of found ≡ None → option_or (option_map (λ g. (f, g)) found) rest ≡ rest
  later None rest e = refl
  later (Some g) rest e = let no : ⊥ = cc in absurd no

  pub pair_found : (s : Slot) → slot_of (find (clash f) fs) ≡ Some s → slot_pair (first_pair (f ∷ fs)) ≡ Some (f.slot, s)
  unfolding first_pair
  pair_found s e = here (find (clash f) fs) (first_pair fs) s e

  pub pair_later : slot_of (find (clash f) fs) ≡ None → first_pair (f ∷ fs) ≡ first_pair fs
  unfolding first_pair
  pair_later e = later (find (clash f) fs) (first_pair fs) e
