-- What is written of a lens is read as it.
use Rattle.std.proofs.Common.{◌≡◌, ◌≢◌, ℕ, Bool, true, false, List, [], ◌∷◌, ◌++◌, refl, sym, ap, subst, ◌∙◌, append_assoc, arith}
use Rattle.std.specs.Prelude.{codes, IsUtf8}
use Rattle.std.proofs.lemmas.List.{append-nil}
use Rattle.hm_tree.specs.Names.{Name}
use Rattle.hm_schema.specs.Values.{Names}
use Rattle.hm_tree_spelling.specs.Spelling.{spelled}
use Rattle.hm_schema_lines.specs.declared.token.Token.TheVariants.{Word}
use Rattle.hm_schema_lines.specs.Tokens.{begins_word, IsToken}
use Rattle.hm_terms.specs.Lenses.{Lens, Lenses, identity, sequence, constant, hoist, plunge, fork, each, among, items, copy, merge, on_concrete, on_view, text, call, none, also}
use Rattle.hm_focal_terms.specs.declared.keyword.Keyword.{Keyword}
use Rattle.hm_focal_terms.specs.declared.keyword.Keyword.TheVariants.{Id, Const, Hoist, Plunge, Fork, Map, Each, List as Items, Copy, Merge, ByConcrete, ByView, Text, Call, Filter, Prune, Focus, Add, Rename}
use Rattle.hm_focal_terms.specs.Keywords.{keyword_text}
use Rattle.hm_focal_terms.specs.Fronts.{IsSign, IsWord, IsEdge, IsTree, IsSet, Behind}
use Rattle.hm_focal_terms.specs.TermText.{IsTerm, one_part, more_parts, IsPart, in_parentheses, by_keyword, IsForm, id_form, const_form, hoist_form, plunge_form, fork_form, map_form, each_form, list_form, copy_form, merge_form, concrete_form, view_form, text_form, call_form, BehindSign, behind_sign, InParentheses, parentheses, TwoTerms, two_terms, ArePairs, last_pair, more_pairs, IsTermText}
use Rattle.hm_focal_terms.specs.Written.{set_text, is_sequence, opening, closing, term_text, pairs_text, more_pairs_text}
use Rattle.hm_focal_terms.specs.Writable.{AreTexts, IsWritable, AreWritable}
use Rattle.hm_focal_terms.proofs.WrittenFronts.{IsText, edge_read, word_read, tree_read, set_read, one_read, two_read}
use Rattle.hm_focal_terms.proofs.WritableTerms.{term_writable}

-- ---- what may stand behind a term

-- no word goes on there, and no semicolon stands there
record IsEnd (rest : List ℕ) : Type 0 where
  word : begins_word rest ≡ false
  last : (more : List ℕ) → ¬ (IsSign 59 rest more)

end_nothing : IsEnd []
end_nothing = record { word = refl; last = λ more e. cc }

end_comma : (rest : List ℕ) → IsEnd (44 ∷ rest)
end_comma rest = record { word = refl; last = λ more e. let byte : ◌≡◌ {A = ℕ} 44 59 = cc in omega arith }

end_parenthesis : (rest : List ℕ) → IsEnd (41 ∷ rest)
end_parenthesis rest = record { word = refl; last = λ more e. let byte : ◌≡◌ {A = ℕ} 41 59 = cc in omega arith }

-- ---- keywords

keyword_token : (k : Keyword) → IsToken (Word (keyword_text k))
keyword_token Id = (omega arith, tt)
keyword_token Const = (omega arith, tt)
keyword_token Hoist = (omega arith, tt)
keyword_token Plunge = (omega arith, tt)
keyword_token Fork = (omega arith, tt)
keyword_token Map = (omega arith, tt)
keyword_token Each = (omega arith, tt)
keyword_token Items = (omega arith, tt)
keyword_token Copy = (omega arith, tt)
keyword_token Merge = (omega arith, tt)
keyword_token ByConcrete = (omega arith, tt)
keyword_token ByView = (omega arith, tt)
keyword_token Text = (omega arith, tt)
keyword_token Call = (omega arith, tt)
keyword_token Filter = (omega arith, tt)
keyword_token Prune = (omega arith, tt)
keyword_token Focus = (omega arith, tt)
keyword_token Add = (omega arith, tt)
keyword_token Rename = (omega arith, tt)

-- a keyword, and what stands behind it
keyword_stands : (k : Keyword) (behind : List ℕ) → begins_word behind ≡ false → IsWord (keyword_text k ++ behind) (keyword_text k) behind
keyword_stands k behind ends = word_read (keyword_text k) (keyword_token k) behind ends

keyword_read : (k : Keyword) {l : Lens} {bytes behind rest : List ℕ} → begins_word behind ≡ false → keyword_text k ++ behind ≡ bytes
    → IsForm k behind l rest → IsPart bytes l rest
keyword_read k {l} {bytes} {behind} {rest} ends is form =
    subst (λ z. IsPart z l rest) is (by_keyword k (keyword_stands k behind ends) form)

-- ---- a term and a part

abbrev part_text : Lens → List ℕ
part_text l = opening (is_sequence l) ++ term_text l ++ closing (is_sequence l)

-- the text of a lens is read as a term, and as a part, in parentheses where it is a sequence
record IsReadBack (l : Lens) : Type 0 where
  term : (rest : List ℕ) → IsEnd rest → IsTerm (term_text l ++ rest) l rest
  part : IsText IsPart (part_text l) l

plain_read : (l : Lens) → is_sequence l ≡ false → IsText IsPart (term_text l) l → IsReadBack l
plain_read l plain reads = record {
  term = λ rest end. one_part (reads rest end.word) end.last;
  part = λ rest word.
      subst (λ b. IsPart ((opening b ++ term_text l ++ closing b) ++ rest) l rest) (sym plain)
      (subst (λ z. IsPart (z ++ rest) l rest) (sym (append-nil (term_text l))) (reads rest word));
}

inside : (l : Lens) → IsReadBack l → (rest : List ℕ) → InParentheses (40 ∷ ((term_text l ++ 41 ∷ []) ++ rest)) l rest
inside l reads rest =
    subst (λ z. InParentheses (40 ∷ z) l rest) (sym (append_assoc (term_text l) (41 ∷ []) rest))
    (parentheses (behind_sign refl (reads.term (41 ∷ rest) (end_parenthesis rest))) refl)

sequence_read : (l k : Lens) → IsReadBack l → IsReadBack k → IsReadBack (sequence l k)
sequence_read l k first second = record {
  term = as_term;
  part = λ rest word.
      in_parentheses (subst (λ z. InParentheses (40 ∷ z) (sequence l k) rest) (sym (append_assoc (term_text (sequence l k)) (41 ∷ []) rest))
      (parentheses (behind_sign refl (as_term (41 ∷ rest) (end_parenthesis rest))) refl));
}
  where
    flat : (a b c d rest : List ℕ) → ((((a ++ b) ++ c) ++ 59 ∷ []) ++ d) ++ rest ≡ ((a ++ b) ++ c) ++ 59 ∷ (d ++ rest)
    flat a b c d rest = simp append_assoc

    as_term : (rest : List ℕ) → IsEnd rest → IsTerm (term_text (sequence l k) ++ rest) (sequence l k) rest
    as_term rest end =
        subst (λ z. IsTerm z (sequence l k) rest)
        (sym (flat (opening (is_sequence l)) (term_text l) (closing (is_sequence l)) (term_text k) rest))
        (more_parts (first.part (59 ∷ (term_text k ++ rest)) refl) refl (second.term rest end))

-- ---- what stands behind a keyword

behind : {X : Type 0} (F : List ℕ → X → List ℕ → Type 0) (front : List ℕ) (x : X) → IsText F front x → {sign : ℕ} {bytes : List ℕ} (rest : List ℕ)
    → begins_word rest ≡ false → IsSign sign bytes (front ++ rest) → Behind sign F bytes x rest
behind F front x reads rest ends begins = record { inner = front ++ rest; begins = begins; form = reads rest ends }

abbrev two_texts : Lens → Lens → List ℕ → List ℕ
two_texts l k rest = 44 ∷ (term_text l ++ 44 ∷ (term_text k ++ 41 ∷ rest))

flat_three : (a c d rest : List ℕ) → (((((a ++ 44 ∷ []) ++ c) ++ 44 ∷ []) ++ d) ++ 41 ∷ []) ++ rest ≡ a ++ 44 ∷ (c ++ 44 ∷ (d ++ 41 ∷ rest))
flat_three a c d rest = simp append_assoc

flat_four : (a b c d rest : List ℕ)
    → (((((((a ++ 44 ∷ []) ++ b) ++ 44 ∷ []) ++ c) ++ 44 ∷ []) ++ d) ++ 41 ∷ []) ++ rest ≡ a ++ 44 ∷ (b ++ 44 ∷ (c ++ 44 ∷ (d ++ 41 ∷ rest)))
flat_four a b c d rest = simp append_assoc

module _ (l k : Lens) (first : IsReadBack l) (second : IsReadBack k) (rest : List ℕ) where
  terms_read : TwoTerms (two_texts l k rest) l k rest
  terms_read =
      two_terms (behind_sign refl (first.term (44 ∷ (term_text k ++ 41 ∷ rest)) (end_comma (term_text k ++ 41 ∷ rest))))
      (behind_sign refl (second.term (41 ∷ rest) (end_parenthesis rest))) refl

  fork_read : (P Q : Names) → AreTexts P → AreTexts Q → IsPart (term_text (fork P Q l k) ++ rest) (fork P Q l k) rest
  fork_read P Q one two =
      keyword_read Fork refl (sym (ap (λ z. codes "xfork(" ++ z) (flat_four (set_text P) (set_text Q) (term_text l) (term_text k) rest)))
      (fork_form (behind IsSet (set_text P) P (set_read P one) _ refl refl) (behind IsSet (set_text Q) Q (set_read Q two) _ refl refl)
      terms_read)

  concrete_read : (n : Name) → IsUtf8 n → IsPart (term_text (on_concrete n l k) ++ rest) (on_concrete n l k) rest
  concrete_read n utf8 =
      keyword_read ByConcrete refl (sym (ap (λ z. codes "ccond(" ++ z) (flat_three (spelled n) (term_text l) (term_text k) rest)))
      (concrete_form (behind IsEdge (spelled n) n (edge_read n utf8) _ refl refl) terms_read)

  view_read : (n m : Name) → IsUtf8 n → IsUtf8 m → IsPart (term_text (on_view n m l k) ++ rest) (on_view n m l k) rest
  view_read n m one two =
      keyword_read ByView refl (sym (ap (λ z. codes "acond(" ++ z) (flat_four (spelled n) (spelled m) (term_text l) (term_text k) rest)))
      (view_form (behind IsEdge (spelled n) n (edge_read n one) _ refl refl) (behind IsEdge (spelled m) m (edge_read m two) _ refl refl) terms_read)

-- ---- a lens for each name

-- what stands behind the lens of a name
end_pairs : (ls : Lenses) (rest : List ℕ) → IsEnd (more_pairs_text ls ++ 41 ∷ rest)
end_pairs none rest = end_parenthesis rest
end_pairs (also n l ls) rest = end_comma _

flat_pair : (a b c rest : List ℕ) → (((a ++ 61 ∷ []) ++ b) ++ c) ++ 41 ∷ rest ≡ a ++ 61 ∷ (b ++ (c ++ 41 ∷ rest))
flat_pair a b c rest = simp append_assoc

module _ (n : Name) (l : Lens) (ls : Lenses) (rest : List ℕ) where
  name_read : (sign : ℕ) (bytes : List ℕ) → IsUtf8 n → IsSign sign bytes (pairs_text (also n l ls) ++ 41 ∷ rest)
      → Behind sign IsEdge bytes n (61 ∷ (term_text l ++ (more_pairs_text ls ++ 41 ∷ rest)))
  name_read sign bytes utf8 begins =
      behind IsEdge (spelled n) n (edge_read n utf8) _ refl
      (begins ∙ ap (λ z. sign ∷ z) (flat_pair (spelled n) (term_text l) (more_pairs_text ls) rest))

  its_lens_read : IsReadBack l → BehindSign 61 (61 ∷ (term_text l ++ (more_pairs_text ls ++ 41 ∷ rest))) l (more_pairs_text ls ++ 41 ∷ rest)
  its_lens_read reads = behind_sign refl (reads.term (more_pairs_text ls ++ 41 ∷ rest) (end_pairs ls rest))

-- ---- all lenses

mutual
  lens_read : (l : Lens) → IsWritable l → IsReadBack l
  lens_read identity h = plain_read identity refl (λ rest word. by_keyword Id (keyword_stands Id rest word) id_form)
  lens_read (sequence l k) h = sequence_read l k (lens_read l h.0) (lens_read k h.1)
  lens_read (constant t d) h =
      plain_read (constant t d) refl (λ rest word. keyword_read Const refl refl
      (const_form (two_read IsTree _ t (tree_read t h.0) IsTree _ d (tree_read d h.1) rest)))
  lens_read (hoist n) h = plain_read (hoist n) refl (λ rest word. keyword_read Hoist refl refl (hoist_form (one_read IsEdge _ n (edge_read n h) rest)))
  lens_read (plunge n) h =
      plain_read (plunge n) refl (λ rest word. keyword_read Plunge refl refl (plunge_form (one_read IsEdge _ n (edge_read n h) rest)))
  lens_read (fork P Q l k) h =
      plain_read (fork P Q l k) refl (λ rest word. fork_read l k (lens_read l h.2) (lens_read k h.3) rest P Q h.0 h.1)
  lens_read (each l) h = plain_read (each l) refl (λ rest word. keyword_read Map refl refl (map_form (inside l (lens_read l h) rest)))
  lens_read (among ls) h = plain_read (among ls) refl (λ rest word. keyword_read Each refl refl
      (each_form (pairs_read ls h.2 40 _ rest h.0 (ap (λ z. 40 ∷ z) (append_assoc (pairs_text ls) (41 ∷ []) rest))) h.1))
  lens_read (items l) h = plain_read (items l) refl (λ rest word. keyword_read Items refl refl (list_form (inside l (lens_read l h) rest)))
  lens_read (copy m n) h =
      plain_read (copy m n) refl (λ rest word. keyword_read Copy refl refl
      (copy_form (two_read IsEdge _ m (edge_read m h.0) IsEdge _ n (edge_read n h.1) rest)))
  lens_read (merge m n) h =
      plain_read (merge m n) refl (λ rest word. keyword_read Merge refl refl
      (merge_form (two_read IsEdge _ m (edge_read m h.0) IsEdge _ n (edge_read n h.1) rest)))
  lens_read (on_concrete n l k) h =
      plain_read (on_concrete n l k) refl (λ rest word. concrete_read l k (lens_read l h.1) (lens_read k h.2) rest n h.0)
  lens_read (on_view n m l k) h =
      plain_read (on_view n m l k) refl (λ rest word. view_read l k (lens_read l h.2) (lens_read k h.3) rest n m h.0 h.1)
  lens_read (text n) h = plain_read (text n) refl (λ rest word. keyword_read Text refl refl (text_form (one_read IsWord _ n (word_read n h) rest)))
  lens_read (call n) h = plain_read (call n) refl (λ rest word. keyword_read Call refl refl (call_form (one_read IsWord _ n (word_read n h) rest)))

  pairs_read : (ls : Lenses) → AreWritable ls → (sign : ℕ) (bytes rest : List ℕ) → ls ≢ none
      → IsSign sign bytes (pairs_text ls ++ 41 ∷ rest) → ArePairs sign bytes ls rest
  pairs_read none h sign bytes rest some begins = absurd (some refl)
  pairs_read (also n l none) h sign bytes rest some begins =
      last_pair (name_read n l none rest sign bytes h.0 begins) (its_lens_read n l none rest (lens_read l h.1)) refl
  pairs_read (also n l (also m k ls)) h sign bytes rest some begins =
      more_pairs (name_read n l (also m k ls) rest sign bytes h.0 begins) (its_lens_read n l (also m k ls) rest (lens_read l h.1))
      (pairs_read (also m k ls) h.2 44 _ rest (λ e. cc) refl)

-- ---- the first byte

no_space : (b : ℕ) (x rest : List ℕ) → (b ≡ 32 → ⊥) → b ∷ x ≢ 32 ∷ rest
no_space b x rest other e = let byte : b ≡ 32 = cc in other byte

flush : (l : Lens) (x rest : List ℕ) → term_text l ++ x ≢ 32 ∷ rest
flush identity x rest = no_space 105 _ rest (λ e. omega arith)
flush (sequence l k) x rest = go (is_sequence l) (λ y. flush l y rest)
  where
    go : (b : Bool) → ((y : List ℕ) → term_text l ++ y ≢ 32 ∷ rest)
        → ((((opening b ++ term_text l) ++ closing b) ++ 59 ∷ []) ++ term_text k) ++ x ≢ 32 ∷ rest
    go true first e = no_space 40 _ rest (λ e. omega arith) e
    go false first e = first (59 ∷ (term_text k ++ x)) (sym (flat (term_text l) (term_text k) x) ∙ e)
      where
        flat : (a b x : List ℕ) → (((a ++ []) ++ 59 ∷ []) ++ b) ++ x ≡ a ++ 59 ∷ (b ++ x)
        flat a b x = simp (append_assoc, append-nil)
flush (constant t d) x rest = no_space 99 _ rest (λ e. omega arith)
flush (hoist n) x rest = no_space 104 _ rest (λ e. omega arith)
flush (plunge n) x rest = no_space 112 _ rest (λ e. omega arith)
flush (fork P Q l k) x rest = no_space 120 _ rest (λ e. omega arith)
flush (each l) x rest = no_space 109 _ rest (λ e. omega arith)
flush (among ls) x rest = no_space 119 _ rest (λ e. omega arith)
flush (items l) x rest = no_space 108 _ rest (λ e. omega arith)
flush (copy m n) x rest = no_space 99 _ rest (λ e. omega arith)
flush (merge m n) x rest = no_space 109 _ rest (λ e. omega arith)
flush (on_concrete n l k) x rest = no_space 99 _ rest (λ e. omega arith)
flush (on_view n m l k) x rest = no_space 97 _ rest (λ e. omega arith)
flush (text n) x rest = no_space 116 _ rest (λ e. omega arith)
flush (call n) x rest = no_space 99 _ rest (λ e. omega arith)

-- ---- the law

-- the text of a lens that has one is read as it
pub writable_reads : (l : Lens) → IsWritable l → IsTermText (term_text l) l
writable_reads l h = record {
  flush = λ rest e. flush l [] rest (append-nil (term_text l) ∙ e);
  term = subst (λ z. IsTerm z l []) (append-nil (term_text l)) ((lens_read l h).term [] end_nothing);
}

-- so where some bytes are the text of a lens, what is written of it is read as it
pub written_reads : {bytes : List ℕ} {l : Lens} → IsTermText bytes l → IsTermText (term_text l) l
written_reads {l} h = writable_reads l (term_writable h.term)
