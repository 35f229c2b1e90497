-- The head and the list of a file are UTF-8, since the list begins with `<`.
use Rattle.std.proofs.Common.{◌≡◌, ℕ, ◌<◌, true, List, [], ◌∷◌, take, drop, codes, sym, subst, arith}
use Rattle.std.specs.Bool.{◌==◌}
use Rattle.std.specs.Char.{to_ascii_lowercase}
use Rattle.std.specs.Str.{IsUtf8, bytes_eq, str_to_ascii_lowercase}
use Rattle.std.proofs.lemmas.Bool.{and_parts, eqb-true}
use Rattle.std.proofs.lemmas.Bool.Decides.{nat_tests}
use Rattle.std.proofs.lemmas.List.{take-append-drop}
use Rattle.hm_netscape_entries.proofs.Cut.{IsSeam, AreUtf8, parts}
use Rattle.hm_netscape_files.specs.Heads.{begins_with, ends_name, begins_list, IsHead}

-- a byte that is `<` in any case is one of ASCII
less_low : (b : ℕ) → to_ascii_lowercase b ≡ 60 → b < 128
less_low b e = grind (arith, nat_tests)

list_seam : (bytes : List ℕ) → begins_list bytes ≡ true → IsSeam bytes
unfolding IsSeam
list_seam [] begins = let bad : ⊥ = cc in absurd bad
list_seam (b ∷ bytes) begins =
    let begun = (and_parts (begins_with (codes "<dl") (b ∷ bytes)) (ends_name (drop 3 (b ∷ bytes))) begins).0 in
    let first = (and_parts (to_ascii_lowercase b == 60) (bytes_eq (str_to_ascii_lowercase (take 2 bytes)) (codes "dl")) begun).0 in
    less_low b (eqb-true (to_ascii_lowercase b) 60 first)

both_texts : (bytes : List ℕ) (head : ℕ) → IsUtf8 bytes → IsHead bytes head → AreUtf8 (take head bytes) (drop head bytes)
both_texts bytes head utf8 is =
    parts (take head bytes) (drop head bytes) (list_seam (drop head bytes) is.list) (subst IsUtf8 (sym (take-append-drop head bytes)) utf8)

pub head_text : (bytes : List ℕ) (head : ℕ) → IsUtf8 bytes → IsHead bytes head → IsUtf8 (take head bytes)
head_text bytes head utf8 is = (both_texts bytes head utf8 is).0

pub list_text : (bytes : List ℕ) (head : ℕ) → IsUtf8 bytes → IsHead bytes head → IsUtf8 (drop head bytes)
list_text bytes head utf8 is = (both_texts bytes head utf8 is).1
