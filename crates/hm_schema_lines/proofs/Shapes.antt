-- The parts of a shape are those that are found one behind another.
use Rattle.std.proofs.Common.{◌≡◌, List, [], ◌∷◌, ◌++◌, refl, sym, ap, subst, ◌∙◌}
use Rattle.hm_tree.specs.Names.{Name}
use Rattle.hm_schema_lines.specs.declared.count.Count.{Count}
use Rattle.hm_schema_lines.specs.declared.token.Token.{Token}
use Rattle.hm_schema_lines.specs.declared.token.Token.TheVariants.{Word, Quoted, Question, Plus}
use Rattle.hm_schema_lines.specs.NodeLines.{ShapeValue, AreNames, AreOptional, IsTail, IsShape}
use Rattle.hm_schema_lines.specs.Reading.{Read, and_name, names_at, optional_at}

-- ---- what is found are the parts

named : (ts : List Token) → (front : List Token) × (ts ≡ front ++ (names_at ts).1) × AreNames front (names_at ts).0
named [] = ([], refl, tt)
named (Word w ∷ ts) = let n = named ts in (Word w ∷ n.0, ap (λ (z : List Token). Word w ∷ z) n.1, (refl, n.2))
named (Quoted k ∷ ts) = let n = named ts in (Quoted k ∷ n.0, ap (λ (z : List Token). Quoted k ∷ z) n.1, (refl, n.2))
named (Question ∷ ts) = ([], refl, tt)
named (Plus ∷ ts) = ([], refl, tt)

optionally : (ts : List Token) → (middle : List Token) × (ts ≡ middle ++ (optional_at ts).1) × AreOptional middle (optional_at ts).0
optionally [] = ([], refl, refl)
optionally (Word w ∷ ts) = ([], refl, refl)
optionally (Quoted k ∷ ts) = ([], refl, refl)
optionally (Question ∷ ts) = let n = named ts in (Question ∷ n.0, ap (λ (z : List Token). Question ∷ z) n.1, (refl, n.2))
optionally (Plus ∷ ts) = ([], refl, refl)

-- ---- the parts are what is found

found_names : (front : List Token) (ks : List Name) (rest : List Token) → AreNames front ks → names_at rest ≡ ([], rest)
    → names_at (front ++ rest) ≡ (ks, rest)
found_names [] [] rest n ends = ends
found_names [] (k ∷ ks) rest n ends = absurd n
found_names (t ∷ front) [] rest n ends = absurd n
found_names (Word w ∷ front) (k ∷ ks) rest n ends = let same : w ≡ k = cc in
    ap (and_name w) (found_names front ks rest n.1 ends) ∙ ap (λ (z : Name). (z ∷ ks, rest)) same
found_names (Quoted w ∷ front) (k ∷ ks) rest n ends = let same : w ≡ k = cc in
    ap (and_name w) (found_names front ks rest n.1 ends) ∙ ap (λ (z : Name). (z ∷ ks, rest)) same
found_names (Question ∷ front) (k ∷ ks) rest n ends = let no : ⊥ = cc in absurd no
found_names (Plus ∷ front) (k ∷ ks) rest n ends = let no : ⊥ = cc in absurd no

ends_names : (ts : List Token) (c : Count) → IsTail ts c → names_at ts ≡ ([], ts)
ends_names [] c h = refl
ends_names (t ∷ ts) c h = let plus : t ≡ Plus = cc in subst (λ (z : Token). names_at (z ∷ ts) ≡ ([], z ∷ ts)) (sym plus) refl

no_optional : (ts : List Token) (c : Count) → IsTail ts c → optional_at ts ≡ ([], ts)
no_optional [] c h = refl
no_optional (t ∷ ts) c h = let plus : t ≡ Plus = cc in subst (λ (z : Token). optional_at (z ∷ ts) ≡ ([], z ∷ ts)) (sym plus) refl

module _ (tail : List Token) (c : Count) (count : IsTail tail c) where
  found_optional : (middle : List Token) (ks : List Name) → AreOptional middle ks → optional_at (middle ++ tail) ≡ (ks, tail)
  found_optional [] ks o = no_optional tail c count ∙ ap (λ (z : List Name). (z, tail)) (sym o)
  found_optional (t ∷ middle) ks o = ap (λ (z : Token). optional_at (z ∷ (middle ++ tail))) o.0
      ∙ found_names middle ks tail o.1 (ends_names tail c count)

  ends_required : (middle : List Token) (ks : List Name) → AreOptional middle ks → names_at (middle ++ tail) ≡ ([], middle ++ tail)
  ends_required [] ks o = ends_names tail c count
  ends_required (t ∷ middle) ks o = subst (λ (z : Token). names_at (z ∷ (middle ++ tail)) ≡ ([], z ∷ (middle ++ tail))) (sym o.0) refl

-- ---- both

-- the parts, as they are found one behind another
pub record HasParts (ts : List Token) (s : ShapeValue) : Type 0 where
  pub required : s.required ≡ (names_at ts).0
  pub optional : s.optional ≡ (optional_at (names_at ts).1).0
  pub count : IsTail (optional_at (names_at ts).1).1 s.count

pub is_shape : (ts : List Token) (s : ShapeValue) → HasParts ts s → IsShape ts s
is_shape ts s h =
    let n = named ts in
    let o = optionally (names_at ts).1 in
    record {
      front = n.0;
      middle = o.0;
      tail = (optional_at (names_at ts).1).1;
      is = n.1 ∙ ap (λ (z : List Token). n.0 ++ z) o.1;
      required = subst (AreNames n.0) (sym h.required) n.2;
      optional = subst (AreOptional o.0) (sym h.optional) o.2;
      count = h.count;
    }

pub has_parts : (ts : List Token) (s : ShapeValue) → IsShape ts s → HasParts ts s
has_parts ts s h =
    let n : names_at ts ≡ (s.required, h.middle ++ h.tail) = ap names_at h.is
    ∙ found_names h.front s.required (h.middle ++ h.tail) h.required (ends_required h.tail s.count h.count h.middle s.optional h.optional) in
    let o : optional_at (names_at ts).1 ≡ (s.optional, h.tail) = ap (λ (z : Read). optional_at z.1) n
    ∙ found_optional h.tail s.count h.count h.middle s.optional h.optional in
    record {
      required = ap (λ (z : Read). z.0) (sym n);
      optional = ap (λ (z : Read). z.0) (sym o);
      count = subst (λ (z : Read). IsTail z.1 s.count) (sym o) h.count;
    }
