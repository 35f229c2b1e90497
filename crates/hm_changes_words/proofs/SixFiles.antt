-- What words ask for has six files.
use Rattle.std.proofs.Common.{◌≡◌, ◌∙◌, ◌==◌, ℕ, Bool, true, false, if◌then◌else◌, List, [], ◌∷◌, length, codes, Option, Some, None, refl, ap, arith}
use Rattle.std.specs.Option.{option_and_then}
use Rattle.std.proofs.lemmas.Bool.Decides.{nat_tests}
use Rattle.std.proofs.lemmas.Option.{same_Some}
use Rattle.clap.specs.Walk.{Row, all_of, first_of}
use Rattle.clap.specs.Kinds.{Kinds}
use Rattle.clap.specs.Simple.{matches_of}
use Rattle.clap.specs.Faults.{fault_of}
use Rattle.hm_tree.specs.Names.{Name}
use Rattle.hm_changes_words.specs.Parse.{command}
use Rattle.hm_changes_words.specs.Asked.{AskedValue, most_said, files_said, asked_with, asked_in, if_right, asked_of}

six_if : (kinds : Kinds) (rows : List Row) (asked : AskedValue) → Some asked ≡ if_right kinds (asked_in rows) → length asked.files ≡ 6
six_if (k ∷ kinds) rows asked e = absurd (let no : ⊥ = cc in no)
six_if [] rows asked e = by_most (most_said (first_of (codes "most") rows)) e
  where
    counted : (words : List Name) (b : Bool) → (length words == 6) ≡ b → (most : Option ℕ) → Some asked ≡ asked_with (if b then Some words else None) most → length asked.files ≡ 6
    counted words true t most e =
        let same : asked.files ≡ words = ap (λ (a : AskedValue). a.files) (same_Some asked (record { most = most; files = words }) e) in
        ap length same ∙ grind (arith, nat_tests)
    counted words false t most e = absurd (let no : ⊥ = cc in no)

    by_files : (files : Option (List Name)) (most : Option ℕ) → Some asked ≡ asked_with (files_said files) most → length asked.files ≡ 6
    by_files None most e = absurd (let no : ⊥ = cc in no)
    by_files (Some words) most e = counted words (length words == 6) refl most e

    by_most : (most : Option (Option ℕ)) → Some asked ≡ option_and_then (asked_with (files_said (all_of (codes "words") rows))) most → length asked.files ≡ 6
    by_most None e = absurd (let no : ⊥ = cc in no)
    by_most (Some most) e = by_files (all_of (codes "words") rows) most e

pub six_asked : (words : List Name) (asked : AskedValue) → Some asked ≡ asked_of words → length asked.files ≡ 6
unfolding asked_of
six_asked words asked e = six_if (fault_of command words) (matches_of command words) asked e
