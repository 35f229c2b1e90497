-- Texts that are UTF-8 stay so: of ASCII, of other texts of a choice, and where case is folded.
use Rattle.std.proofs.Common.{◌≡◌, ℕ, ◌<◌, true, T, List, [], ◌∷◌, ◌++◌, All, refl}
use Rattle.std.specs.Str.{is_utf8, all_scalars, chars}
use Rattle.std.proofs.lemmas.Bool.{and_parts, and_from}
use Rattle.std.proofs.lemmas.Str.{IsUtf8-from_ascii, scalars-chars}
use Rattle.std.proofs.lemmas.Str.Ascii.{IsAscii-from_all}
use Rattle.caseless.specs.Caseless.{default_case_fold}
use Rattle.ucd_case.specs.CaseFolding.{full_folding, or_itself, full_fold}
use Rattle.ucd_case.proofs.CaseFoldingLemmas.{full_folding_stepped}
use Rattle.ucd_table.proofs.Computing.{tables}
use Rattle.ucd_table.proofs.RangedFacts.{values_ok, Stepped-at_values}
use Rattle.hm_tree.specs.Names.{Name}
use Rattle.hm_tree.specs.Classes.{folding}
use Rattle.hm_tree.proofs.Texts.{text_test, text_tested}

abbrev pub IsText : Name → Type 0
IsText t = T (is_utf8 t)

abbrev pub Low : ℕ → Type 0
Low b = b < 128

pub low_text : (t : Name) → All Low t → IsText t
low_text t all = text_test t (IsUtf8-from_ascii t (IsAscii-from_all t all))

-- ---- folding

scalars_append : (xs ys : List ℕ) → all_scalars xs ≡ true → all_scalars ys ≡ true → all_scalars (xs ++ ys) ≡ true
scalars_append [] ys h k = k
scalars_append (x ∷ xs) ys h k = let p = and_parts _ (all_scalars xs) h in and_from _ _ p.0 (scalars_append xs ys p.1 k)

table_scalars : (c : ℕ) → all_scalars (full_folding c) ≡ true
unfolding tables values_ok full_folding_stepped
table_scalars c = Stepped-at_values full_folding full_folding_stepped all_scalars refl c

or_itself_scalars : (c : ℕ) (xs : List ℕ) → all_scalars (c ∷ []) ≡ true → all_scalars xs ≡ true → all_scalars (or_itself c xs) ≡ true
or_itself_scalars c [] h k = h
or_itself_scalars c (x ∷ xs) h k = k

folded_scalars : (cs : List ℕ) → all_scalars cs ≡ true → all_scalars (default_case_fold cs) ≡ true
unfolding default_case_fold
folded_scalars [] h = refl
folded_scalars (c ∷ cs) h =
    let p = and_parts _ (all_scalars cs) h in
    scalars_append (full_fold c) (default_case_fold cs) (or_itself_scalars c (full_folding c) (and_from _ true p.0 refl) (table_scalars c)) (folded_scalars cs p.1)

pub folding_text : (v : Name) → IsText v → IsText (folding v)
folding_text v text = text_test (folding v) (default_case_fold (chars v), (folded_scalars (chars v) (scalars-chars v (text_tested v text)), refl))
