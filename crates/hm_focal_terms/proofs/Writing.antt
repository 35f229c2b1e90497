-- How what is written grows.
use Rattle.std.proofs.Common.{◌≡◌, ℕ, suc, ◌+◌, ◌<◌, List, [], ◌∷◌, ◌++◌, Vec, length, get_or, drop, ◌≤◌, refl, sym, ap, ◌∙◌, append_assoc, add-one}
use Rattle.hm_tree.specs.Sets.{ascending}
use Rattle.hm_schema.specs.Values.{Names}
use Rattle.hm_focal_terms.proofs.Limits.{nothing_left}
use Rattle.std.proofs.Math.Seq.{drop-cons}
use Rattle.std.proofs.lemmas.List.{append-nil}
use Rattle.std.specs.Prelude.{codes, flat_map}
use Rattle.std.specs.declared.alloc.Global.{Global}
use Rattle.hm_tree.specs.Names.{Name}
use Rattle.hm_tree_spelling.specs.Spelling.{spelled}
use Rattle.hm_terms.specs.Lenses.{Lenses, none, also}
use Rattle.hm_terms.specs.declared.term.Term.{Term, Each}
use Rattle.hm_terms.specs.Programs.{lens_of, lenses_of}
use Rattle.hm_terms.proofs.Rows.{each_items}
use Rattle.hm_focal_terms.specs.Written.{set_text, term_text, pairs_text, more_pairs_text}

-- the text of pairs with these bytes in front of the first, and commas in front of the others
abbrev pub left_text : List ℕ → Lenses → List ℕ
left_text separator none = []
left_text separator (also n l ls) = separator ++ (spelled n ++ (codes "=" ++ (term_text l ++ more_pairs_text ls)))

more_left : (ls : Lenses) → left_text (codes ",") ls ≡ more_pairs_text ls
more_left none = refl
more_left (also n l ls) = sym (simp append_assoc)

all_left : (ls : Lenses) → left_text [] ls ≡ pairs_text ls
all_left none = refl
all_left (also n l ls) = sym (simp append_assoc)

regroup : (text separator name term more : List ℕ) → (((text ++ separator) ++ (name ++ codes "=")) ++ term) ++ more
    ≡ text ++ (separator ++ (name ++ (codes "=" ++ (term ++ more))))
regroup text separator name term more = simp append_assoc

module _ (text separator start : List ℕ) (es : List (Name × Term)) (i : ℕ) (below : i < length es) (e : Name × Term) (is : e ≡ get_or es i e)
    (whole : text ++ left_text separator (lenses_of (drop i es)) ≡ start ++ left_text [] (lenses_of es)) where
  pub pair_put : (new : List ℕ) → new ≡ ((text ++ separator) ++ (spelled e.0 ++ codes "=")) ++ term_text (lens_of e.1)
      → new ++ left_text (codes ",") (lenses_of (drop (i + 1) es)) ≡ start ++ left_text [] (lenses_of es)
  pair_put new n =
      let cut : drop i es ≡ e ∷ drop (suc i) es = drop-cons es i e below ∙ ap (λ x. x ∷ drop (suc i) es) (sym is) in
      rw (n, add-one)
      (ap (λ x. (((text ++ separator) ++ (spelled e.0 ++ codes "=")) ++ term_text (lens_of e.1)) ++ x) (more_left (lenses_of (drop (suc i) es)))
      ∙ regroup text separator (spelled e.0) (term_text (lens_of e.1)) (more_pairs_text (lenses_of (drop (suc i) es)))
      ∙ ap (λ l. text ++ left_text separator (lenses_of l)) (sym cut) ∙ whole)

pub pairs_put : (text separator start old : List ℕ) (terms : Vec (Name × Term) Global) (items : List (Name × Term)) (i : ℕ) → length items ≤ i
    → text ++ left_text separator (lenses_of (drop i items)) ≡ start ++ left_text [] (lenses_of items) → items ≡ terms.items
    → start ≡ old ++ codes "wmap(" → (new : List ℕ) → new ≡ text ++ codes ")" → new ≡ old ++ term_text (lens_of (Each terms))
pairs_put text separator start old terms items i end whole same begun new n =
    let all : text ≡ (old ++ codes "wmap(") ++ pairs_text (lenses_of items) =
    sym (append-nil text) ∙ ap (λ l. text ++ left_text separator (lenses_of l)) (sym (nothing_left i items end)) ∙ whole
    ∙ ap (λ x. start ++ x) (all_left (lenses_of items)) ∙ ap (λ x. x ++ pairs_text (lenses_of items)) begun in
    let flat : ((old ++ codes "wmap(") ++ pairs_text (lenses_of items)) ++ codes ")" ≡ old ++ (codes "wmap(" ++ pairs_text (lenses_of items) ++ codes ")") =
    simp append_assoc in
    n ∙ ap (λ x. x ++ codes ")") all ∙ flat ∙ ap (λ (l : List (Name × Term)). old ++ (codes "wmap(" ++ pairs_text (lenses_of l) ++ codes ")")) same
    ∙ ap (λ l. old ++ term_text l) (sym (each_items terms))

pub set_put : (old a b d last : List ℕ) (names : List Name) (P : Names) → a ≡ old ++ 123 ∷ [] → b ≡ a ++ flat_map spelled names → d ≡ b ++ 125 ∷ []
    → ascending P ≡ names → (new : List ℕ) → new ≡ d ++ last → new ≡ old ++ (set_text P ++ last)
set_put old a b d last names P ea eb ed asc new n =
    let flat : (((old ++ 123 ∷ []) ++ flat_map spelled (ascending P)) ++ 125 ∷ []) ++ last ≡ old ++ (set_text P ++ last) = simp append_assoc in
    n ∙ ap (λ x. x ++ last) (ed ∙ ap (λ x. x ++ 125 ∷ []) (eb ∙ ap (λ x. x ++ flat_map spelled names) ea
    ∙ ap (λ z. (old ++ 123 ∷ []) ++ flat_map spelled z) (sym asc))) ∙ flat
