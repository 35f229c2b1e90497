-- Bytes are the text of one lens at the most.
use Rattle.std.proofs.Common.{◌≡◌, ℕ, ◌+◌, ◌*◌, cond, List, [], ◌∷◌, refl, sym, ap, subst, ◌∙◌, arith}
use Rattle.std.specs.Prelude.{◌==◌}
use Rattle.hm_tree.specs.Names.{Name}
use Rattle.hm_schema_lines.specs.declared.token.Token.TheVariants.{Word}
use Rattle.hm_schema_lines.proofs.Laws.{not_word}
use Rattle.hm_terms.specs.Lenses.{Lens, Lenses, sequence, constant, hoist, plunge, fork, each, among, items, copy, merge, on_concrete, on_view, text, call, none, also}
use Rattle.hm_focal_terms.specs.declared.keyword.Keyword.{Keyword}
use Rattle.hm_focal_terms.specs.declared.keyword.Keyword.TheVariants.{Id, Const, Hoist, Plunge, Fork, Map, Each, List as Items, Copy, Merge, ByConcrete, ByView, Text, Call, Filter, Prune, Focus, Add, Rename}
use Rattle.hm_focal_terms.specs.Keywords.{keyword_text}
use Rattle.hm_focal_terms.specs.Fronts.{unspaced, IsSign, IsWord, IsEdge, IsTree, IsSet}
use Rattle.hm_focal_terms.specs.FrontLaws.{sign_once, front_once, one_edge, one_set, one_tree}
use Rattle.hm_focal_terms.specs.Derived.{filter_lens, prune_lens, focus_lens, add_lens, rename_lens}
use Rattle.hm_focal_terms.specs.TermText.{IsTerm, one_part, more_parts, IsPart, in_parentheses, by_keyword, IsForm, id_form, const_form, hoist_form, plunge_form, fork_form, map_form, each_form, list_form, copy_form, merge_form, concrete_form, view_form, text_form, call_form, filter_form, prune_form, focus_form, add_form, rename_form, BehindSign, behind_sign, InParentheses, parentheses, TwoTerms, two_terms, ArePairs, last_pair, more_pairs, IsTermText}
use Rattle.hm_focal_terms.proofs.Arguments.{word_once, behind_once, one_once, two_once}

-- each keyword has its own text: even the weights of their bytes differ
abbrev weight : List ℕ → ℕ
weight [] = 0
weight (b ∷ w) = b + 2 * weight w

abbrev by_weight : ℕ → Keyword
by_weight n =
    cond (n == 305) Id (cond (n == 3537) Const (cond (n == 3522) Hoist (cond (n == 6556) Plunge (cond (n == 3392) Fork (
    cond (n == 751) Map (cond (n == 1621) Each (cond (n == 1706) Items (cond (n == 1737) Copy (cond (n == 3207) Merge (
    cond (n == 3221) ByConcrete (cond (n == 3219) ByView (cond (n == 1726) Text (cond (n == 1589) Call (cond (n == 6936) Filter (cond (n == 3304) Prune (
    cond (n == 3496) Focus (cond (n == 697) Add (Rename))))))))))))))))))

by_text : (k : Keyword) → by_weight (weight (keyword_text k)) ≡ k
by_text Id = refl
by_text Const = refl
by_text Hoist = refl
by_text Plunge = refl
by_text Fork = refl
by_text Map = refl
by_text Each = refl
by_text Items = refl
by_text Copy = refl
by_text Merge = refl
by_text ByConcrete = refl
by_text ByView = refl
by_text Text = refl
by_text Call = refl
by_text Filter = refl
by_text Prune = refl
by_text Focus = refl
by_text Add = refl
by_text Rename = refl

pub keyword_once : (k q : Keyword) → keyword_text k ≡ keyword_text q → k ≡ q
keyword_once k q e = sym (by_text k) ∙ ap (λ w. by_weight (weight w)) e ∙ by_text q

-- a term in parentheses doesn't begin with a word
pub word_no_sign : (b c : List ℕ) (w : Name) (r s : List ℕ) → b ≡ c → IsWord b w r → IsSign 40 c s → ⊥
word_no_sign b c w r s e p q = not_word w r 40 s p.token refl (sym p.is ∙ ap unspaced e ∙ q)

pub begins_parentheses : {bytes rest : List ℕ} {l : Lens} → InParentheses bytes l rest → (inner : List ℕ) × IsSign 40 bytes inner
begins_parentheses (parentheses (behind_sign {inner} t p) u) = (inner, t)

pub begins_pairs : {g : ℕ} {bytes rest : List ℕ} {ls : Lenses} → ArePairs g bytes ls rest → (inner : List ℕ) × IsSign g bytes inner
begins_pairs (last_pair p a t) = (p.inner, p.begins)
begins_pairs (more_pairs p a n) = (p.inner, p.begins)

pub close_comma : (b c r s : List ℕ) → b ≡ c → IsSign 41 b r → IsSign 44 c s → ⊥
close_comma b c r s e p q = let f : 41 ∷ r ≡ 44 ∷ s = sym p ∙ ap unspaced e ∙ q in let byte : ◌≡◌ {A = ℕ} 41 44 = cc in omega arith

-- what stands behind two keywords that are one word
pub same_keyword : {b c r s : List ℕ} (k m : Keyword) → b ≡ c → IsWord b (keyword_text k) r → IsWord c (keyword_text m) s → (m ≡ k) × (r ≡ s)
same_keyword {b} {c} {r} {s} k m e p q =
    let o = front_once b c (Word (keyword_text k)) (Word (keyword_text m)) r s e p q in
    let f : Word (keyword_text k) ≡ Word (keyword_text m) = o.0 in
    let texts : keyword_text m ≡ keyword_text k = cc in
    (keyword_once m k texts, o.1)

mutual
  pub term_once : {b c : List ℕ} {l k : Lens} {r s : List ℕ} → b ≡ c → IsTerm b l r → IsTerm c k s → (l ≡ k) × (r ≡ s)
  term_once e (one_part p n) (one_part q m) = part_once e p q
  term_once e (one_part p n) (more_parts {behind} {inner} q t m) =
      absurd (n inner (subst (λ z. IsSign 59 z inner) (sym (part_once e p q).1) t))
  term_once e (more_parts {behind} {inner} p t n) (one_part q m) =
      absurd (m inner (subst (λ z. IsSign 59 z inner) (part_once e p q).1 t))
  term_once e (more_parts p t n) (more_parts q u m) =
      let one = part_once e p q in
      let two = term_once (sign_once 59 _ _ _ _ one.1 t u) n m in
      ((λ i. sequence (one.0 i) (two.0 i)), two.1)

  pub part_once : {b c : List ℕ} {l k : Lens} {r s : List ℕ} → b ≡ c → IsPart b l r → IsPart c k s → (l ≡ k) × (r ≡ s)
  part_once e (in_parentheses p) (in_parentheses q) = parentheses_once e p q
  part_once e (in_parentheses p) (by_keyword k w q) = absurd (word_no_sign _ _ _ _ _ (sym e) w (begins_parentheses p).1)
  part_once e (by_keyword k w p) (in_parentheses q) = absurd (word_no_sign _ _ _ _ _ e w (begins_parentheses q).1)
  part_once e (by_keyword {behind} {l} k w p) (by_keyword {behind = d} {rest} {l = n} m v q) =
      let o = same_keyword k m e w v in
      form_once o.1 p (subst (λ z. IsForm z d n rest) o.0 q)

  pub form_once : {f : Keyword} {b c : List ℕ} {l k : Lens} {r s : List ℕ} → b ≡ c → IsForm f b l r → IsForm f c k s → (l ≡ k) × (r ≡ s)
  form_once e id_form id_form = (refl, e)
  form_once e (const_form p) (const_form q) = let o = two_once IsTree IsTree one_tree one_tree _ _ _ _ _ _ _ _ e p q in
      ((λ i. constant (o.0 i) (o.1 i)), o.2)
  form_once e (hoist_form p) (hoist_form q) = let o = one_once IsEdge one_edge _ _ _ _ _ _ e p q in (ap hoist o.0, o.1)
  form_once e (plunge_form p) (plunge_form q) = let o = one_once IsEdge one_edge _ _ _ _ _ _ e p q in (ap plunge o.0, o.1)
  form_once e (fork_form p a x) (fork_form q b y) =
      let o = behind_once IsSet one_set 40 _ _ _ _ _ _ e p q in
      let t = behind_once IsSet one_set 44 _ _ _ _ _ _ o.1 a b in
      let z = terms_once t.1 x y in
      ((λ i. fork (o.0 i) (t.0 i) (z.0 i) (z.1 i)), z.2)
  form_once e (map_form p) (map_form q) = let o = parentheses_once e p q in (ap each o.0, o.1)
  form_once e (each_form p d) (each_form q g) = let o = pairs_once e p q in (ap among o.0, o.1)
  form_once e (list_form p) (list_form q) = let o = parentheses_once e p q in (ap items o.0, o.1)
  form_once e (copy_form p) (copy_form q) = let o = two_once IsEdge IsEdge one_edge one_edge _ _ _ _ _ _ _ _ e p q in
      ((λ i. copy (o.0 i) (o.1 i)), o.2)
  form_once e (merge_form p) (merge_form q) = let o = two_once IsEdge IsEdge one_edge one_edge _ _ _ _ _ _ _ _ e p q in
      ((λ i. merge (o.0 i) (o.1 i)), o.2)
  form_once e (concrete_form p x) (concrete_form q y) =
      let o = behind_once IsEdge one_edge 40 _ _ _ _ _ _ e p q in
      let z = terms_once o.1 x y in
      ((λ i. on_concrete (o.0 i) (z.0 i) (z.1 i)), z.2)
  form_once e (view_form p a x) (view_form q b y) =
      let o = behind_once IsEdge one_edge 40 _ _ _ _ _ _ e p q in
      let t = behind_once IsEdge one_edge 44 _ _ _ _ _ _ o.1 a b in
      let z = terms_once t.1 x y in
      ((λ i. on_view (o.0 i) (t.0 i) (z.0 i) (z.1 i)), z.2)
  form_once e (text_form p) (text_form q) = let o = one_once IsWord word_once _ _ _ _ _ _ e p q in (ap text o.0, o.1)
  form_once e (call_form p) (call_form q) = let o = one_once IsWord word_once _ _ _ _ _ _ e p q in (ap call o.0, o.1)
  form_once e (filter_form p) (filter_form q) = let o = two_once IsSet IsTree one_set one_tree _ _ _ _ _ _ _ _ e p q in
      ((λ i. filter_lens (o.0 i) (o.1 i)), o.2)
  form_once e (prune_form p d) (prune_form q g) = let o = two_once IsEdge IsTree one_edge one_tree _ _ _ _ _ _ _ _ e p q in
      ((λ i. prune_lens (o.0 i) (o.1 i)), o.2)
  form_once e (focus_form p) (focus_form q) = let o = two_once IsEdge IsTree one_edge one_tree _ _ _ _ _ _ _ _ e p q in
      ((λ i. focus_lens (o.0 i) (o.1 i)), o.2)
  form_once e (add_form p) (add_form q) = let o = two_once IsEdge IsTree one_edge one_tree _ _ _ _ _ _ _ _ e p q in
      ((λ i. add_lens (o.0 i) (o.1 i)), o.2)
  form_once e (rename_form p) (rename_form q) = let o = two_once IsEdge IsEdge one_edge one_edge _ _ _ _ _ _ _ _ e p q in
      ((λ i. rename_lens (o.0 i) (o.1 i)), o.2)

  pub behind_term_once : {g : ℕ} {b c : List ℕ} {l k : Lens} {r s : List ℕ} → b ≡ c → BehindSign g b l r → BehindSign g c k s → (l ≡ k) × (r ≡ s)
  behind_term_once e (behind_sign t p) (behind_sign u q) = term_once (sign_once _ _ _ _ _ e t u) p q

  pub parentheses_once : {b c : List ℕ} {l k : Lens} {r s : List ℕ} → b ≡ c → InParentheses b l r → InParentheses c k s → (l ≡ k) × (r ≡ s)
  parentheses_once e (parentheses p t) (parentheses q u) =
      let o = behind_term_once e p q in
      (o.0, sign_once 41 _ _ _ _ o.1 t u)

  pub terms_once : {b c : List ℕ} {l m k n : Lens} {r s : List ℕ} → b ≡ c → TwoTerms b l k r → TwoTerms c m n s → (l ≡ m) × (k ≡ n) × (r ≡ s)
  terms_once e (two_terms p a t) (two_terms q b u) =
      let o = behind_term_once e p q in
      let w = behind_term_once o.1 a b in
      (o.0, w.0, sign_once 41 _ _ _ _ w.1 t u)

  pub pairs_once : {g : ℕ} {b c : List ℕ} {l k : Lenses} {r s : List ℕ} → b ≡ c → ArePairs g b l r → ArePairs g c k s → (l ≡ k) × (r ≡ s)
  pairs_once e (last_pair p a t) (last_pair q b u) =
      let o = behind_once IsEdge one_edge _ _ _ _ _ _ _ e p q in
      let w = behind_term_once o.1 a b in
      ((λ i. also (o.0 i) (w.0 i) none), sign_once 41 _ _ _ _ w.1 t u)
  pairs_once e (last_pair p a t) (more_pairs q b m) =
      let o = behind_once IsEdge one_edge _ _ _ _ _ _ _ e p q in
      absurd (close_comma _ _ _ _ (behind_term_once o.1 a b).1 t (begins_pairs m).1)
  pairs_once e (more_pairs p a n) (last_pair q b u) =
      let o = behind_once IsEdge one_edge _ _ _ _ _ _ _ e p q in
      absurd (close_comma _ _ _ _ (sym (behind_term_once o.1 a b).1) u (begins_pairs n).1)
  pairs_once e (more_pairs p a n) (more_pairs q b m) =
      let o = behind_once IsEdge one_edge _ _ _ _ _ _ _ e p q in
      let w = behind_term_once o.1 a b in
      let z = pairs_once w.1 n m in
      ((λ i. also (o.0 i) (w.0 i) (z.0 i)), z.1)

pub one_term : (bytes : List ℕ) (l k : Lens) → IsTermText bytes l → IsTermText bytes k → l ≡ k
one_term bytes l k p q = (term_once refl p.term q.term).0
