-- Names with a lens for each, as they are read.
use Rattle.std.proofs.Common.{◌≡◌, ℕ, List, [], ◌∷◌, ◌++◌, map, Vec, refl, sym, ap, subst, ◌∙◌}
use Rattle.std.specs.declared.alloc.Global.{Global}
use Rattle.hm_tree.specs.Names.{Name}
use Rattle.hm_schema_lines.specs.BadLines.{HasDouble}
use Rattle.hm_terms.specs.Lenses.{Lens, Lenses, none, also}
use Rattle.hm_terms.specs.declared.term.Term.{Term, Each as EachTerm}
use Rattle.hm_terms.specs.Programs.{lens_of, lenses_of}
use Rattle.hm_terms.proofs.Rows.{each_items}
use Rattle.hm_focal_terms.specs.declared.keyword.Keyword.TheVariants.{Each}
use Rattle.hm_focal_terms.specs.Fronts.{IsSign, IsEdge, Behind}
use Rattle.hm_focal_terms.specs.FrontLaws.{one_edge}
use Rattle.hm_focal_terms.specs.TermText.{names_of, IsForm, each_form, BehindSign, ArePairs, last_pair, more_pairs}
use Rattle.hm_focal_terms.proofs.Arguments.{behind_once}
use Rattle.hm_focal_terms.proofs.TermsOnce.{behind_term_once, begins_pairs, close_comma}

-- the lenses of terms, and then others
pub joined : List (Name × Term) → Lenses → Lenses
joined [] ls = ls
joined (e ∷ es) ls = also e.0 (lens_of e.1) (joined es ls)

joined_more : (es : List (Name × Term)) (n : Name) (t : Term) (ls : Lenses) → joined (es ++ (n, t) ∷ []) ls ≡ joined es (also n (lens_of t) ls)
unfolding joined
joined_more [] n t ls = refl
joined_more (e ∷ es) n t ls = ap (also e.0 (lens_of e.1)) (joined_more es n t ls)

joined_none : (es : List (Name × Term)) → joined es none ≡ lenses_of es
unfolding joined
joined_none [] = refl
joined_none (e ∷ es) = ap (also e.0 (lens_of e.1)) (joined_none es)

names_are : (es : List (Name × Term)) → names_of (lenses_of es) ≡ map (λ (e : Name × Term). e.0) es
names_are [] = refl
names_are (e ∷ es) = ap (λ l. e.0 ∷ l) (names_are es)

names_more : (es : List (Name × Term)) (n : Name) (t : Term)
    → map (λ (e : Name × Term). e.0) (es ++ (n, t) ∷ []) ≡ map (λ (e : Name × Term). e.0) es ++ n ∷ []
names_more [] n t = refl
names_more (e ∷ es) n t = ap (λ l. e.0 ∷ l) (names_more es n t)

-- the pairs of a text are those that were read and then those of what is left, both ways
pub record ArePairsRead (text : List ℕ) (read : List (Name × Term)) (names : List Name) (sign : ℕ) (left : List ℕ) : Type 0 where
  pub whole : (ls : Lenses) (end : List ℕ) → ArePairs sign left ls end → ArePairs 40 text (joined read ls) end
  pub rest : (ls : Lenses) (end : List ℕ) → ArePairs 40 text ls end → (more : Lenses) × (ls ≡ joined read more) × ArePairs sign left more end
  pub named : names ≡ map (λ (e : Name × Term). e.0) read

pub no_pairs_yet : (text : List ℕ) (read : List (Name × Term)) (names : List Name) → read ≡ [] → names ≡ [] → ArePairsRead text read names 40 text
unfolding joined
no_pairs_yet text read names e f = rw (e, f) (record { whole = λ ls end h. h; rest = λ ls end h. (ls, refl, h); named = refl })

module _ (text : List ℕ) (read : List (Name × Term)) (names : List Name) (sign : ℕ) (left : List ℕ) (h : ArePairsRead text read names sign left) where
  -- where no pair stands there are none
  pub no_name : ((n : Name) (r : List ℕ) → Behind sign IsEdge left n r → ⊥) → (l : Lens) (r : List ℕ) → IsForm Each text l r → ⊥
  no_name gone _ r (each_form {ls} p d) = let m = h.rest ls r p in nothing m.0 r m.2
    where
      nothing : (ls : Lenses) (r : List ℕ) → ArePairs sign left ls r → ⊥
      nothing _ r (last_pair p q t) = gone _ _ p
      nothing _ r (more_pairs p q m) = gone _ _ p

  module _ (n : Name) (one : List ℕ) (name : Behind sign IsEdge left n one) where
    pub no_lens : ((l : Lens) (r : List ℕ) → BehindSign 61 one l r → ⊥) → (l : Lens) (r : List ℕ) → IsForm Each text l r → ⊥
    no_lens gone _ r (each_form {ls} p d) = let m = h.rest ls r p in nothing m.0 r m.2
      where
        nothing : (ls : Lenses) (r : List ℕ) → ArePairs sign left ls r → ⊥
        nothing _ r (last_pair {one = i} {two} {n = k} {l} p q t) =
            gone l two (subst (λ z. BehindSign 61 z l two) (sym (behind_once IsEdge one_edge sign left left n k one i refl name p).1) q)
        nothing _ r (more_pairs {one = i} {two} {n = k} {l} p q m) =
            gone l two (subst (λ z. BehindSign 61 z l two) (sym (behind_once IsEdge one_edge sign left left n k one i refl name p).1) q)

    module _ (t : Term) (two : List ℕ) (lens : BehindSign 61 one (lens_of t) two) (more : List (Name × Term)) (is : more ≡ read ++ (n, t) ∷ [])
        (all : List Name) (are : all ≡ names ++ n ∷ []) where
      named_more : all ≡ map (λ (e : Name × Term). e.0) more
      named_more = are ∙ ap (λ l. l ++ n ∷ []) h.named ∙ sym (names_more read n t) ∙ ap (map (λ (e : Name × Term). e.0)) (sym is)

      pub pair_read : ((r : List ℕ) → IsSign 41 two r → ⊥) → ArePairsRead text more all 44 two
      pair_read open_end = record {
        whole = λ ls end m.
            subst (λ z. ArePairs 40 text z end) (sym (ap (λ l. joined l ls) is ∙ joined_more read n t ls))
            (h.whole (also n (lens_of t) ls) end (more_pairs name lens m));
        rest = λ ls end p.
            let m = h.rest ls end p in
            let f = first m.0 end m.2 in
            (f.0, m.1 ∙ ap (joined read) f.1 ∙ sym (joined_more read n t f.0) ∙ ap (λ l. joined l f.0) (sym is), f.2);
        named = named_more;
      }
        where
          first : (ls : Lenses) (end : List ℕ) → ArePairs sign left ls end → (ms : Lenses) × (ls ≡ also n (lens_of t) ms) × ArePairs 44 two ms end
          first _ end (last_pair {one = i} {two = j} {n = k} {l} p q u) =
              let o = behind_once IsEdge one_edge sign left left n k one i refl name p in
              absurd (open_end end (subst (λ z. IsSign 41 z end) (sym (behind_term_once o.1 lens q).1) u))
          first _ end (more_pairs {one = i} {two = j} {n = k} {l} {ls} p q m) =
              let o = behind_once IsEdge one_edge sign left left n k one i refl name p in
              let w = behind_term_once o.1 lens q in
              (ls, (λ i. also (sym o.0 i) (sym w.0 i) ls), subst (λ z. ArePairs 44 z ls end) (sym w.1) m)

      module _ (rest : List ℕ) (closes : IsSign 41 two rest) where
        pub all_read : (HasDouble all → ⊥) → (terms : Vec (Name × Term) Global) → terms.items ≡ more → IsForm Each text (lens_of (EachTerm terms)) rest
        all_read single terms e =
            let pairs : ArePairs 40 text (lenses_of terms.items) rest =
            subst (λ z. ArePairs 40 text z rest)
            (sym (joined_more read n t none) ∙ ap (λ l. joined l none) (sym is) ∙ joined_none more ∙ ap lenses_of (sym e))
            (h.whole (also n (lens_of t) none) rest (last_pair name lens closes)) in
            let same : names_of (lenses_of terms.items) ≡ all =
            names_are terms.items ∙ ap (map (λ (e : Name × Term). e.0)) e ∙ sym named_more in
            subst (λ z. IsForm Each text z rest) (sym (each_items terms))
            (each_form pairs (λ d. single (subst HasDouble same d)))

        -- a name stands twice
        pub name_twice : HasDouble all → (l : Lens) (r : List ℕ) → IsForm Each text l r → ⊥
        name_twice double _ r (each_form {ls} p d) =
            let m = h.rest ls r p in
            let e : ls ≡ lenses_of more =
            m.1 ∙ ap (joined read) (last m.0 r m.2) ∙ sym (joined_more read n t none) ∙ ap (λ l. joined l none) (sym is) ∙ joined_none more in
            d (subst HasDouble (named_more ∙ sym (names_are more) ∙ ap names_of (sym e)) double)
          where
            last : (ls : Lenses) (end : List ℕ) → ArePairs sign left ls end → ls ≡ also n (lens_of t) none
            last _ end (last_pair {one = i} {two = j} {n = k} {l} p q u) =
                let o = behind_once IsEdge one_edge sign left left n k one i refl name p in
                let w = behind_term_once o.1 lens q in
                (λ i. also (sym o.0 i) (sym w.0 i) none)
            last _ end (more_pairs {one = i} {two = j} {n = k} {l} {ls} p q m) =
                let o = behind_once IsEdge one_edge sign left left n k one i refl name p in
                absurd (close_comma _ _ _ _ (behind_term_once o.1 lens q).1 closes (begins_pairs m).1)
