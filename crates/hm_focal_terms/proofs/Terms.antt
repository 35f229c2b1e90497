-- Where there is a term at the front of bytes, and where there is none.
use Rattle.std.proofs.Common.{◌≡◌, ℕ, List, [], Option, Some, None, Result, Ok, Err, IfOk, refl, sym, subst}
use Rattle.std.specs.Borrow.{Bor}
use Rattle.hm_tree.specs.Names.{Name}
use Rattle.hm_schema.specs.Values.{Names}
use Rattle.hm_schema_lines.specs.declared.token.Token.TheVariants.{Word}
use Rattle.hm_terms.specs.Lenses.{Lens}
use Rattle.hm_terms.specs.declared.term.Term.{Term}
use Rattle.hm_focal_terms.specs.declared.keyword.Keyword.{Keyword}
use Rattle.hm_focal_terms.specs.declared.keyword.Keyword.TheVariants.{Fork, Map, List as Items, ByConcrete, ByView}
use Rattle.hm_focal_terms.specs.Keywords.{keyword_text}
use Rattle.hm_focal_terms.specs.Fronts.{IsSign, IsWord, IsEdge, IsSet, Behind}
use Rattle.hm_focal_terms.specs.FrontLaws.{sign_once, front_once, one_edge, one_set}
use Rattle.hm_focal_terms.specs.TermText.{IsTerm, one_part, more_parts, IsPart, in_parentheses, by_keyword, IsForm, fork_form, map_form, list_form, concrete_form, view_form, BehindSign, behind_sign, InParentheses, parentheses, TwoTerms, two_terms, IsTermText}
use Rattle.hm_focal_terms.specs.Reading.{IsTermFound}
use Rattle.hm_focal_terms.proofs.Arguments.{behind_once}
use Rattle.hm_focal_terms.proofs.TermsOnce.{part_once, term_once, behind_term_once, same_keyword, word_no_sign, begins_parentheses}

-- ---- sequences

pub no_part : (bytes : List ℕ) → ((l : Lens) (r : List ℕ) → IsPart bytes l r → ⊥) → (l : Lens) (r : List ℕ) → IsTerm bytes l r → ⊥
no_part bytes none l r (one_part p n) = none _ _ p
no_part bytes none _ r (more_parts p t q) = none _ _ p

module _ (bytes : List ℕ) (l : Lens) (behind : List ℕ) (part : IsPart bytes l behind) where
  pub no_more : (inner : List ℕ) → IsSign 59 behind inner → ((k : Lens) (r : List ℕ) → IsTerm inner k r → ⊥) → (m : Lens) (r : List ℕ)
      → IsTerm bytes m r → ⊥
  no_more inner t none m r (one_part q n) = n inner (subst (λ z. IsSign 59 z inner) (part_once refl part q).1 t)
  no_more inner t none _ r (more_parts {inner = i} {k} q u x) =
      none k r (subst (λ z. IsTerm z k r) (sign_once 59 _ _ _ _ (sym (part_once refl part q).1) u t) x)

-- ---- parts

pub parentheses_part : {E : Type 0} (bytes : List ℕ) → ((w : Name) (r : List ℕ) → IsWord bytes w r → ⊥) → (r : Result (Option (Term × Bor (List ℕ))) E)
    → IfOk r (IsTermFound InParentheses bytes) → IfOk r (IsTermFound IsPart bytes)
parentheses_part bytes none (Ok None) h = λ l r. no_paren l r
  where
    no_paren : (l : Lens) (r : List ℕ) → IsPart bytes l r → ⊥
    no_paren l r (in_parentheses p) = h l r p
    no_paren l r (by_keyword k w f) = none _ _ w
parentheses_part bytes none (Ok (Some found)) h = in_parentheses h
parentheses_part bytes none (Err x) h = tt

word_no_parentheses : (bytes : List ℕ) (w : Name) (behind : List ℕ) → IsWord bytes w behind → (l : Lens) (r : List ℕ) → InParentheses bytes l r → ⊥
word_no_parentheses bytes w behind p l r h = word_no_sign bytes bytes w behind _ refl p (begins_parentheses h).1

module _ (bytes : List ℕ) (w : Name) (behind : List ℕ) (word : IsWord bytes w behind) where
  pub no_keyword : ((k : Keyword) → w ≡ keyword_text k → ⊥) → (l : Lens) (r : List ℕ) → IsPart bytes l r → ⊥
  no_keyword none l r (in_parentheses p) = word_no_parentheses bytes w behind word l r p
  no_keyword none l r (by_keyword k v f) =
      let o = front_once bytes bytes (Word w) (Word (keyword_text k)) behind _ refl word v in
      let f : Word w ≡ Word (keyword_text k) = o.0 in
      let same : w ≡ keyword_text k = cc in
      none k same

  pub keyword_part : {E : Type 0} (k : Keyword) → w ≡ keyword_text k → (r : Result (Option (Term × Bor (List ℕ))) E)
      → IfOk r (IsTermFound (IsForm k) behind) → IfOk r (IsTermFound IsPart bytes)
  keyword_part k e (Ok None) h = λ l r. no_form l r
    where
      no_form : (l : Lens) (r : List ℕ) → IsPart bytes l r → ⊥
      no_form l r (in_parentheses p) = word_no_parentheses bytes w behind word l r p
      no_form l r (by_keyword m v f) =
          let o = same_keyword k m refl (subst (λ z. IsWord bytes z behind) e word) v in
          h l r (subst (λ (z : Keyword × List ℕ). IsForm z.0 z.1 l r) (λ i. (o.0 i, sym o.1 i)) f)
  keyword_part k e (Ok (Some found)) h = by_keyword k (subst (λ z. IsWord bytes z behind) e word) h
  keyword_part k e (Err x) h = tt

-- ---- terms behind signs

pub nothing_behind : (sign : ℕ) (bytes : List ℕ) → ((rest : List ℕ) → IsSign sign bytes rest → ⊥) → (l : Lens) (r : List ℕ) → BehindSign sign bytes l r → ⊥
nothing_behind sign bytes none l r (behind_sign t p) = none _ t

pub term_behind : {E : Type 0} (sign : ℕ) (bytes inner : List ℕ) → IsSign sign bytes inner → (r : Result (Option (Term × Bor (List ℕ))) E)
    → IfOk r (IsTermFound IsTerm inner) → IfOk r (IsTermFound (BehindSign sign) bytes)
term_behind sign bytes inner t (Ok None) h = λ l r. no_term l r
  where
    no_term : (l : Lens) (r : List ℕ) → BehindSign sign bytes l r → ⊥
    no_term l r (behind_sign u p) = h l r (subst (λ z. IsTerm z l r) (sign_once sign bytes bytes _ _ refl u t) p)
term_behind sign bytes inner t (Ok (Some found)) h = behind_sign t h
term_behind sign bytes inner t (Err x) h = tt

pub no_first : (bytes : List ℕ) → ((l : Lens) (r : List ℕ) → BehindSign 40 bytes l r → ⊥) → (l : Lens) (r : List ℕ) → InParentheses bytes l r → ⊥
no_first bytes none l r (parentheses p t) = none _ _ p

pub no_close : (bytes : List ℕ) (l : Lens) (inner : List ℕ) → BehindSign 40 bytes l inner → ((rest : List ℕ) → IsSign 41 inner rest → ⊥) → (k : Lens)
    (r : List ℕ) → InParentheses bytes k r → ⊥
no_close bytes l inner p none k r (parentheses q t) = none r (subst (λ z. IsSign 41 z r) (sym (behind_term_once refl p q).1) t)

-- ---- two terms

pub no_terms : (bytes : List ℕ) → ((l : Lens) (r : List ℕ) → BehindSign 44 bytes l r → ⊥) → (l k : Lens) (r : List ℕ) → TwoTerms bytes l k r → ⊥
no_terms bytes none l k r (two_terms p q t) = none _ _ p

module _ (bytes : List ℕ) (l : Lens) (middle : List ℕ) (first : BehindSign 44 bytes l middle) where
  pub no_second_term : ((k : Lens) (r : List ℕ) → BehindSign 44 middle k r → ⊥) → (m n : Lens) (r : List ℕ) → TwoTerms bytes m n r → ⊥
  no_second_term none m n r (two_terms {inner = i} p q t) =
      none n i (subst (λ z. BehindSign 44 z n i) (sym (behind_term_once refl first p).1) q)

  pub no_end : (k : Lens) (inner : List ℕ) → BehindSign 44 middle k inner → ((rest : List ℕ) → IsSign 41 inner rest → ⊥) → (m n : Lens) (r : List ℕ)
      → TwoTerms bytes m n r → ⊥
  no_end k inner second none m n r (two_terms p q t) =
      none r (subst (λ z. IsSign 41 z r) (sym (behind_term_once (behind_term_once refl first p).1 second q).1) t)

-- ---- forms with two terms

module _ (bytes : List ℕ) where
  pub no_fork : ((P : Names) (r : List ℕ) → Behind 40 IsSet bytes P r → ⊥) → (l : Lens) (r : List ℕ) → IsForm Fork bytes l r → ⊥
  no_fork none _ r (fork_form p q t) = none _ _ p

  pub no_concrete : ((n : Name) (r : List ℕ) → Behind 40 IsEdge bytes n r → ⊥) → (l : Lens) (r : List ℕ) → IsForm ByConcrete bytes l r → ⊥
  no_concrete none _ r (concrete_form p t) = none _ _ p

  pub no_view : ((n : Name) (r : List ℕ) → Behind 40 IsEdge bytes n r → ⊥) → (l : Lens) (r : List ℕ) → IsForm ByView bytes l r → ⊥
  no_view none _ r (view_form p q t) = none _ _ p

  pub map_none : ((l : Lens) (r : List ℕ) → InParentheses bytes l r → ⊥) → (l : Lens) (r : List ℕ) → IsForm Map bytes l r → ⊥
  map_none none _ r (map_form p) = none _ _ p

  pub list_none : ((l : Lens) (r : List ℕ) → InParentheses bytes l r → ⊥) → (l : Lens) (r : List ℕ) → IsForm Items bytes l r → ⊥
  list_none none _ r (list_form p) = none _ _ p

  module _ (P : Names) (one : List ℕ) (first : Behind 40 IsSet bytes P one) where
    pub no_fork_second : ((Q : Names) (r : List ℕ) → Behind 44 IsSet one Q r → ⊥) → (l : Lens) (r : List ℕ) → IsForm Fork bytes l r → ⊥
    no_fork_second none _ r (fork_form {one = i} {two = j} {P = p0} {Q} p q t) =
        none Q j (subst (λ z. Behind 44 IsSet z Q j) (sym (behind_once IsSet one_set 40 bytes bytes P p0 one i refl first p).1) q)

    pub no_fork_terms : (Q : Names) (two : List ℕ) → Behind 44 IsSet one Q two → ((l k : Lens) (r : List ℕ) → TwoTerms two l k r → ⊥) → (l : Lens)
        (r : List ℕ) → IsForm Fork bytes l r → ⊥
    no_fork_terms Q two second none _ r (fork_form {one = i} {two = j} {P = p0} {Q = q0} {l} {k} p q t) =
        let o = behind_once IsSet one_set 40 bytes bytes P p0 one i refl first p in
        let w = behind_once IsSet one_set 44 one i Q q0 two j o.1 second q in
        none l k r (subst (λ z. TwoTerms z l k r) (sym w.1) t)

  module _ (n : Name) (one : List ℕ) (first : Behind 40 IsEdge bytes n one) where
    pub no_concrete_terms : ((l k : Lens) (r : List ℕ) → TwoTerms one l k r → ⊥) → (l : Lens) (r : List ℕ) → IsForm ByConcrete bytes l r → ⊥
    no_concrete_terms none _ r (concrete_form {one = i} {n = m} {l} {k} p t) =
        none l k r (subst (λ z. TwoTerms z l k r) (sym (behind_once IsEdge one_edge 40 bytes bytes n m one i refl first p).1) t)

    pub no_view_second : ((m : Name) (r : List ℕ) → Behind 44 IsEdge one m r → ⊥) → (l : Lens) (r : List ℕ) → IsForm ByView bytes l r → ⊥
    no_view_second none _ r (view_form {one = i} {two = j} {n = k} {m} p q t) =
        none m j (subst (λ z. Behind 44 IsEdge z m j) (sym (behind_once IsEdge one_edge 40 bytes bytes n k one i refl first p).1) q)

    pub no_view_terms : (m : Name) (two : List ℕ) → Behind 44 IsEdge one m two → ((l k : Lens) (r : List ℕ) → TwoTerms two l k r → ⊥) → (l : Lens)
        (r : List ℕ) → IsForm ByView bytes l r → ⊥
    no_view_terms m two second none _ r (view_form {one = i} {two = j} {n = n0} {m = m0} {l} {k} p q t) =
        let o = behind_once IsEdge one_edge 40 bytes bytes n n0 one i refl first p in
        let w = behind_once IsEdge one_edge 44 one i m m0 two j o.1 second q in
        none l k r (subst (λ z. TwoTerms z l k r) (sym w.1) t)

-- ---- whole texts

pub no_term_text : (bytes : List ℕ) → ((l : Lens) (r : List ℕ) → IsTerm bytes l r → ⊥) → (l : Lens) → IsTermText bytes l → ⊥
no_term_text bytes none l h = none l [] h.term

pub more_text : (bytes : List ℕ) (l : Lens) (rest : List ℕ) → IsTerm bytes l rest → (rest ≡ [] → ⊥) → (k : Lens) → IsTermText bytes k → ⊥
more_text bytes l rest p some k h = some (term_once refl p h.term).1
