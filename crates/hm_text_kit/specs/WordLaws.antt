-- The exchange of words by a table is its own inverse, and stays within the class Filled.
use Rattle.std.proofs.Common.{◌≡◌, ◌≢◌, suc, Bool, true, false, cond, List, [], ◌∷◌, Option, Some, None, IfSome, refl, sym, ap, ◌∙◌, subst, arith, inl, inr}
use Rattle.std.specs.Prelude.{All, AllPairs, unwrap_or}
use Rattle.std.specs.Bool.{Decides}
use Rattle.std.specs.BTreeMap.{BTreeMap, get}
use Rattle.std.specs.Cmp.{Equal-is}
use Rattle.std.specs.Ordering.{is_eq}
use Rattle.std.proofs.lemmas.Bool.{cases_Bool, cond_both}
use Rattle.std.proofs.lemmas.Cmp.{tied_itself}
use Rattle.hm_tree.specs.declared.class.Class.TheVariants.{Filled}
use Rattle.hm_tree.specs.Names.{Name, name_cmp}
use Rattle.hm_tree.specs.NameLaws.{name_total, name_one}
use Rattle.hm_tree.specs.Classes.{IsFilled}
use Rattle.hm_text_lens.specs.Meanings.{IsLawful}
use Rattle.hm_text_kit.specs.KindLaws.{exchange_lawful}
use Rattle.hm_text_kit.specs.Kinds.{exchange}
use Rattle.hm_text_kit.specs.TestLaws.{filled_from, to_filled}
use Rattle.hm_text_kit.specs.TextLaws.{IsText}
use Rattle.hm_text_kit.specs.WordTables.{words_of, IsTable, is_word, partner, swapped, HasPartners, HasTexts, swapped_in, IsSwap}

-- ---- words that tie are equal

one_word : (a w : Name) → is_word a w ≡ true → a ≡ w
one_word a w e = name_one a w ((Equal-is (name_cmp a w)).0 e)

same_word : (a : Name) → is_word a a ≡ true
same_word a = ap is_eq (tied_itself name_total a)

pub is_word-Decides : (a w : Name) → Decides (is_word a w) (a ≡ w)
is_word-Decides a w = (one_word a w, λ e. ap (is_word a) (sym e) ∙ same_word a)

other_word : (a w : Name) → a ≢ w → is_word a w ≡ false
other_word a w apart = elim (cases_Bool (is_word a w)) [
  | inl is ↦ absurd (apart (one_word a w is))
  | inr isnt ↦ isnt
]

-- ---- the parts of a table

module _ (p : Name × Name) (ps : List (Name × Name)) (distinct : AllPairs (λ a b. a ≢ b) (words_of (p ∷ ps))) where
  pair_apart : p.0 ≢ p.1
  pair_apart = distinct 0 1 [] (omega arith) (omega arith)

  first_apart : All (λ w. is_word p.0 w ≡ false) (words_of ps)
  first_apart = λ k d lt. other_word p.0 _ (distinct 0 (suc (suc k)) d (omega arith) (omega arith))

  second_apart : All (λ w. is_word p.1 w ≡ false) (words_of ps)
  second_apart = λ k d lt. other_word p.1 _ (distinct 1 (suc (suc k)) d (omega arith) (omega arith))

  rest_apart : AllPairs (λ a b. a ≢ b) (words_of ps)
  rest_apart = λ i j d lt within. distinct (suc (suc i)) (suc (suc j)) d (omega arith) (omega arith)

-- what holds of a text and of each word of a table holds of what the text becomes
swapped_has : (Q : Name → Type 0) (ps : List (Name × Name)) (w : Name) → Q w → All Q (words_of ps) → Q (swapped ps w)
swapped_has Q [] w has all = has
swapped_has Q (p ∷ ps) w has all =
    cond_both (is_word p.0 w) (Some p.1) (cond (is_word p.1 w) (Some p.0) (partner ps w)) (λ o. Q (unwrap_or o w)) (λ _. all 1 [] (omega arith))
    (λ _. cond_both (is_word p.1 w) (Some p.0) (partner ps w) (λ o. Q (unwrap_or o w)) (λ _. all 0 [] (omega arith))
    (λ _. swapped_has Q ps w has (λ k d lt. all (suc (suc k)) d (omega arith))))

-- ---- a text that becomes another one becomes itself again

swapped_twice : (ps : List (Name × Name)) → AllPairs (λ a b. a ≢ b) (words_of ps) → (w : Name) → swapped ps (swapped ps w) ≡ w
swapped_twice [] distinct w = refl
swapped_twice (p ∷ ps) distinct w = go (swapped_twice ps (rest_apart p ps distinct) w) (is_word p.0 w) refl (is_word p.1 w) refl
  where
    at : Bool → Bool → Name → Name
    at one two v = unwrap_or (cond one (Some p.1) (cond two (Some p.0) (partner ps v))) v

    go : swapped ps (swapped ps w) ≡ w → (one : Bool) → is_word p.0 w ≡ one → (two : Bool) → is_word p.1 w ≡ two → swapped (p ∷ ps) (at one two w) ≡ w
    go rest true is two _ = (λ i. at (other_word p.0 p.1 (pair_apart p ps distinct) i) (same_word p.1 i) p.1) ∙ one_word p.0 w is
    go rest false _ true is = ap (λ one. at one (is_word p.1 p.0) p.0) (same_word p.0) ∙ one_word p.1 w is
    go rest false isnt false neither =
        let v = swapped ps w in
        (λ i. at (swapped_has (λ x. is_word p.0 x ≡ false) ps w isnt (first_apart p ps distinct) i) (swapped_has (λ x. is_word p.1 x ≡ false) ps w neither (second_apart p ps distinct) i) v)
        ∙ rest

-- what a map of words has is UTF-8
swapped_text : (o : Option Name) (w : Name) → IfSome o IsText → IsText w → IsText (unwrap_or o w)
swapped_text None w h text = text
swapped_text (Some v) w h text = h

-- a map of the partners of a table exchanges as the table does
pub same_swap : (ps : List (Name × Name)) (m : BTreeMap Name Name) → HasPartners ps m → swapped ps ≡ swapped_in m
same_swap ps m has = λ i w. unwrap_or (sym (has w) i) w

pub swapped_in-IsSwap : (ps : List (Name × Name)) (m : BTreeMap Name Name) → IsTable ps → HasPartners ps m → HasTexts m → IsSwap (swapped_in m)
swapped_in-IsSwap ps m table has texts =
    let same = same_swap ps m has in
    record {
      stays = λ w h. to_filled (swapped_in m w) (subst (λ (f : Name → Name). IsFilled (f w)) same (swapped_has IsFilled ps w (filled_from w h) table.filled));
      texts = λ w text. swapped_text (get name_cmp m w) w (texts w) text;
      twice = subst (λ (f : Name → Name). (w : Name) → f (f w) ≡ w) same (swapped_twice ps table.distinct);
    }

pub swap_lawful : (name : Name) (other : Name → Name) → IsSwap other → IsLawful (exchange name Filled other)
swap_lawful name other swap = exchange_lawful name Filled other
    (λ v h. record { text = swap.texts v h.text; in_class = filled_from (other v) (swap.stays v (to_filled v h.in_class)) }) (λ v h. swap.twice v)
