-- A map of partners grows from the last pair of a table to the first.
use Rattle.std.proofs.Common.{◌≡◌, Bool, true, false, cond, List, [], ◌∷◌, ◌++◌, length, Option, Some, None, IfSome, refl, sym, ap, ◌∙◌, subst, arith}
use Rattle.std.specs.BTreeMap.{BTreeMap, get}
use Rattle.std.specs.Option.{option_or}
use Rattle.std.specs.Str.{IsUtf8}
use Rattle.std.proofs.lemmas.Bool.{cond_both}
use Rattle.hm_tree.specs.declared.class.Class.TheVariants.{Filled}
use Rattle.hm_tree.specs.Names.{Name, name_cmp}
use Rattle.hm_tree.proofs.Texts.{text_test}
use Rattle.hm_text_kit.specs.Kinds.{exchange}
use Rattle.hm_text_kit.specs.TextLaws.{IsText}
use Rattle.hm_text_kit.specs.WordLaws.{same_swap}
use Rattle.hm_text_kit.specs.WordTables.{HasPartners, HasTexts, PutsPartner, is_word, partner, swapped_in, swapping_words}

partner-push : (ps : List (Name × Name)) (p : Name × Name) (q : Name) → partner (ps ++ p ∷ []) q ≡ option_or (partner ps q) (partner (p ∷ []) q)
partner-push [] p q = refl
partner-push (r ∷ ps) p q = go (partner-push ps p q) (is_word r.0 q) (is_word r.1 q)
  where
    go : partner (ps ++ p ∷ []) q ≡ option_or (partner ps q) (partner (p ∷ []) q)
        → (one two : Bool) → cond one (Some r.1) (cond two (Some r.0) (partner (ps ++ p ∷ []) q)) ≡ option_or (cond one (Some r.1) (cond two (Some r.0) (partner ps q))) (partner (p ∷ []) q)
    go rest true two = refl
    go rest false true = refl
    go rest false false = rest

option_or-option_or : (a b c : Option Name) → option_or (option_or a b) c ≡ option_or a (option_or b c)
option_or-option_or None b c = refl
option_or-option_or (Some x) b c = refl

-- a map that has the partners of a table but for its first pairs, and gets those of the last of them
pub one_pair_more : (ps : List (Name × Name)) (p : Name × Name) (q : Name) (old middle new : Option Name)
    → middle ≡ cond (is_word p.1 q) (Some p.0) old → new ≡ cond (is_word p.0 q) (Some p.1) middle
    → option_or (partner ps q) new ≡ option_or (partner (ps ++ p ∷ []) q) old
one_pair_more ps p q old middle new e f =
    ap (option_or (partner ps q)) (f ∙ ap (cond (is_word p.0 q) (Some p.1)) e ∙ go (is_word p.0 q) (is_word p.1 q))
    ∙ sym (option_or-option_or (partner ps q) (partner (p ∷ []) q) old)
    ∙ ap (λ o. option_or o old) (sym (partner-push ps p q))
  where
    go : (one two : Bool) → cond one (Some p.1) (cond two (Some p.0) old) ≡ option_or (cond one (Some p.1) (cond two (Some p.0) None)) old
    go true two = refl
    go false true = refl
    go false false = refl

-- at the end no pair is left
pub no_pair_left : (ps : List (Name × Name)) (q : Name) (found all : Option Name) → length ps ≡ 0 → option_or (partner ps q) found ≡ all → found ≡ all
no_pair_left [] q found all none e = e
no_pair_left (p ∷ ps) q found all none e = absurd (omega arith)

-- a map to which a word is put stays one of texts
pub one_text_more : (old new : BTreeMap Name Name) (word other : Name) → PutsPartner old new word other → IsUtf8 other → HasTexts old → HasTexts new
one_text_more old new word other puts text has = λ q.
    subst (λ o. IfSome o IsText) (sym (puts q)) (cond_both (is_word word q) (Some other) (get name_cmp old q) (λ o. IfSome o IsText) (λ _. text_test other text) (λ _. has q))

pub same_meaning : (name : Name) (ps : List (Name × Name)) (m : BTreeMap Name Name) → HasPartners ps m → exchange name Filled (swapped_in m) ≡ swapping_words name ps
same_meaning name ps m has = ap (exchange name Filled) (sym (same_swap ps m has))
