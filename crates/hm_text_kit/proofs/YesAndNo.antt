-- The words of yes and no are a table of words.
use Rattle.std.proofs.Common.{◌≡◌, ◌≢◌, false, [], ◌∷◌, refl, sym, ◌∙◌, arith}
use Rattle.std.specs.Prelude.{AllPairs, codes}
use Rattle.std.proofs.lemmas.Bool.{true≢false}
use Rattle.std.proofs.lemmas.List.Elements.{All-from_recursion}
use Rattle.std.proofs.lemmas.List.Kept.{AllPairs-cons}
use Rattle.hm_tree.specs.Names.{Name, name_cmp}
use Rattle.hm_tree.specs.Cleaned.{cleaned}
use Rattle.hm_tree.specs.Classes.{IsFilled}
use Rattle.hm_text_kit.specs.TestLaws.{filled_from}
use Rattle.hm_text_kit.specs.Tests.{is_filled}
use Rattle.hm_text_kit.specs.WordLaws.{is_word-Decides}
use Rattle.hm_text_kit.specs.YesAndNo.{yes_and_no}
use Rattle.hm_text_kit.specs.WordTables.{IsTable, is_word, words_of}

abbrev Apart : Name → Name → Type 0
Apart a b = a ≢ b

apart : (a b : Name) → is_word a b ≡ false → Apart a b
apart a b isnt e = true≢false (sym ((is_word-Decides a b).1 e) ∙ isnt)

none_apart : AllPairs Apart []
none_apart = λ i j d lt within. absurd (omega arith)

pub is_table : IsTable yes_and_no
unfolding name_cmp is_filled cleaned
is_table = record {
  distinct =
      AllPairs-cons Apart (codes "Y") (codes "yes" ∷ codes "N" ∷ codes "no" ∷ [])
      (All-from_recursion (Apart (codes "Y")) (codes "yes" ∷ codes "N" ∷ codes "no" ∷ []) (apart _ _ refl, (apart _ _ refl, (apart _ _ refl, tt))))
      (AllPairs-cons Apart (codes "yes") (codes "N" ∷ codes "no" ∷ [])
      (All-from_recursion (Apart (codes "yes")) (codes "N" ∷ codes "no" ∷ []) (apart _ _ refl, (apart _ _ refl, tt)))
      (AllPairs-cons Apart (codes "N") (codes "no" ∷ [])
      (All-from_recursion (Apart (codes "N")) (codes "no" ∷ []) (apart _ _ refl, tt))
      (AllPairs-cons Apart (codes "no") [] (All-from_recursion (Apart (codes "no")) [] tt) none_apart)));
  filled = All-from_recursion IsFilled (words_of yes_and_no) (filled_from (codes "Y") refl, (filled_from (codes "yes") refl, (filled_from (codes "N") refl, (filled_from (codes "no") refl, tt))));
}
