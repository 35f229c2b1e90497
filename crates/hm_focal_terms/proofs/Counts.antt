-- A lens has a term.
use Rattle.std.proofs.Common.{◌≡◌, ℕ, suc, ◌+◌, ◌<◌, ◌≤◌, List, ◌∷◌, Vec, length, get_or, drop, sym, ap, ◌∙◌, add-one, arith}
use Rattle.std.proofs.Math.Seq.{drop-cons}
use Rattle.std.specs.declared.alloc.Global.{Global}
use Rattle.hm_tree.specs.Names.{Name}
use Rattle.hm_terms.specs.declared.term.Term.{Term, Each}
use Rattle.hm_terms.specs.Programs.{lens_of, lenses_of}
use Rattle.hm_terms.proofs.Rows.{each_items}
use Rattle.hm_focal_terms.proofs.Limits.{nothing_left}
use Rattle.hm_terms.specs.Lenses.{Lens, identity, sequence, constant, hoist, plunge, fork, each, among, items, copy, merge, on_concrete, on_view, text, call}
use Rattle.hm_focal_terms.specs.Limits.{terms_of, terms_in}

pub some_term : (l : Lens) → 0 < terms_of l
some_term identity = omega arith
some_term (sequence l k) = omega arith
some_term (constant t d) = omega arith
some_term (hoist n) = omega arith
some_term (plunge n) = omega arith
some_term (fork P Q l k) = omega arith
some_term (each l) = omega arith
some_term (among ls) = omega arith
some_term (items l) = omega arith
some_term (copy m n) = omega arith
some_term (merge m n) = omega arith
some_term (on_concrete n l k) = omega arith
some_term (on_view n m l k) = omega arith
some_term (text n) = omega arith
some_term (call n) = omega arith

pub terms_of_each : (terms : Vec (Name × Term) Global) (es : List (Name × Term)) → es ≡ terms.items
    → terms_of (lens_of (Each terms)) ≡ 1 + terms_in (lenses_of es)
terms_of_each terms es e = ap terms_of (each_items terms) ∙ ap (λ l. 1 + terms_in (lenses_of l)) (sym e)

module _ (es : List (Name × Term)) (i room left : ℕ) (so_far : left + terms_in (lenses_of es) ≡ room + terms_in (lenses_of (drop i es))) where
  pub room_left : length es ≤ i → left + terms_in (lenses_of es) ≡ room
  room_left end = let e = ap (λ l. terms_in (lenses_of l)) (nothing_left i es end) in omega arith

  module _ (below : i < length es) (e : Name × Term) (is : e ≡ get_or es i e) where
    first_left : terms_in (lenses_of (drop i es)) ≡ terms_of (lens_of e.1) + terms_in (lenses_of (drop (suc i) es))
    first_left = ap (λ l. terms_in (lenses_of l)) (drop-cons es i e below ∙ ap (λ x. x ∷ drop (suc i) es) (sym is))

    pub no_room : left < terms_of (lens_of e.1) → room < terms_in (lenses_of es)
    no_room small = let f = first_left in omega arith

    pub room_next : (rest : ℕ) → terms_of (lens_of e.1) + rest ≡ left
        → rest + terms_in (lenses_of es) ≡ room + terms_in (lenses_of (drop (i + 1) es))
    room_next rest r = rw add-one (let f = first_left in omega arith)
