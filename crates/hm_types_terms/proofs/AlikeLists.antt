-- Places of equal lenses, one after the other.
use Rattle.std.proofs.Common.{◌≡◌, ℕ, List, [], ◌∷◌, ◌++◌, length, map, slice_get, Some, Bor, inl, inr, sym, ap, subst, ◌∙◌, append_assoc}
use Rattle.std.proofs.lemmas.List.{map-append}
use Rattle.hm_terms.specs.declared.term.Term.{Term}
use Rattle.hm_terms.specs.Lenses.{Lens}
use Rattle.hm_terms.specs.Programs.{lens_of}
use Rattle.hm_types_terms.specs.Alike.{IsLike, AreAlike}
use Rattle.hm_types_terms.specs.Numbers.{parts_of}
use Rattle.hm_types_terms.specs.Parts.{parts_inside}
use Rattle.hm_types_terms.proofs.Entries.{pushed_at}
use Rattle.hm_types_terms.proofs.PartLists.{head_inside}

pub alike_pushed : (all : List Lens) (places : List ℕ) (x p : ℕ) → length places ≡ p → AreAlike all places → IsLike all p x → AreAlike all (places ++ x ∷ [])
alike_pushed all places x p count alike like = record {
  each = λ k q e l at. elim (pushed_at places x q k e) [
    | inl f ↦ alike.each k q f l at
    | inr f ↦ subst (λ q. slice_get all q ≡ Some l) f.1 (like l (sym (ap (slice_get all) (f.0 ∙ count)) ∙ at))
  ];
}

-- a lens is put behind others, and then those inside it
pub lens_pushed : (old mid new : List (Bor Term)) (t : Bor Term) → mid ≡ old ++ t ∷ []
    → map (λ t. lens_of t.now) new ≡ map (λ t. lens_of t.now) mid ++ parts_inside (lens_of t.now)
    → map (λ t. lens_of t.now) new ≡ map (λ t. lens_of t.now) old ++ parts_of (lens_of t.now)
lens_pushed old mid new t e f =
    let lens : Bor Term → Lens = λ t. lens_of t.now in
    let l = lens_of t.now in
    f ∙ ap (λ (ts : List (Bor Term)). map lens ts ++ parts_inside l) e ∙ ap (λ xs. xs ++ parts_inside l) (map-append lens old (t ∷ []))
    ∙ append_assoc (map lens old) (l ∷ []) (parts_inside l) ∙ ap (λ xs. map lens old ++ xs) (sym (head_inside l))
