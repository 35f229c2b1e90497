-- What the getters of the matches give, by what the rows say.
use Rattle.std.proofs.Common.{◌≡◌, ◌∙◌, ◌==◌, ◌≢◌, Bool, true, false, sym, ap, arith, codes, List, length, map, Option, Some, None, if◌then◌else◌}
use Rattle.std.specs.Option.{option_map}
use Rattle.std.specs.Borrow.{Bor}
use Rattle.std.proofs.lemmas.Bool.Decides.{nat_tests}
use Rattle.std.proofs.lemmas.List.{length-map}
use Rattle.clap.specs.Walk.{Text, all_of, first_of, rows_of}
use Rattle.clap.specs.Matches.{first_value, matched_of, raw_values}
use Rattle.clap.specs.declared.parser.matches.Found.{Found}
use Rattle.clap.proofs.WalkLemmas.{first_value-rows, raw_values-rows}
use Rattle.hm_changes_words.specs.Asked.{files_said, most_said}

pub most_so : (f : Found) (word : Option Text) → word ≡ first_value f (codes "most") → most_said word ≡ most_said (first_of (codes "most") (rows_of f))
most_so f word e = ap most_said (e ∙ first_value-rows f (codes "most"))

pub files_so : (f : Found) (words : Option (List Text)) → words ≡ option_map raw_values (matched_of f (codes "words"))
    → files_said words ≡ files_said (all_of (codes "words") (rows_of f))
files_so f words e = ap files_said (e ∙ raw_values-rows f (codes "words"))

abbrev texts : List (Bor Text) → List Text
texts = map (λ text. text.now)

abbrev six_if : List Text → Bool → Option (List Text)
six_if words six = if six then Some words else None

pub six_names : (words : List (Bor Text)) → length words ≡ 6 → Some (texts words) ≡ files_said (Some (texts words))
six_names words six =
    let test : (length (texts words) == 6) ≡ true = rw length-map (grind (arith, nat_tests)) in
    sym (ap (six_if (texts words)) test)

pub not_six_names : (words : List (Bor Text)) → length words ≢ 6 → None ≡ files_said (Some (texts words))
not_six_names words other =
    let test : (length (texts words) == 6) ≡ false = rw length-map (grind (arith, nat_tests)) in
    sym (ap (six_if (texts words)) test)
