-- The text of a term stands on one line.
use Rattle.std.proofs.Common.{◌≡◌, ℕ, suc, ◌+◌, cond, ◌≤◌, Bool, true, false, List, [], ◌∷◌, drop, refl, sym, subst, arith}
use Rattle.std.specs.Prelude.{◌==◌}
use Rattle.std.specs.List.{prefix_len}
use Rattle.std.proofs.lemmas.Bool.{eqb-true}
use Rattle.hm_tree.specs.Names.{Name}
use Rattle.hm_tree.specs.Nodes.{Tree, Shape, bare, mark, edge}
use Rattle.hm_schema.specs.Values.{Names}
use Rattle.hm_terms.specs.Lenses.{Lens, Lenses}
use Rattle.hm_tree_spelling.specs.Spelling.{spelled}
use Rattle.hm_tree_text.specs.Text.{Position, whole, below, further, text}
use Rattle.hm_schema_lines.specs.declared.token.Token.{Token}
use Rattle.hm_schema_lines.specs.Tokens.{token_text}
use Rattle.hm_focal_terms.specs.declared.keyword.Keyword.{Keyword}
use Rattle.hm_focal_terms.specs.Fronts.{unspaced, IsSign, IsFront, IsWord, IsEdge, IsTree, AreNames, no_names, a_name, IsSet, Behind, One, Two}
use Rattle.hm_focal_terms.specs.TermText.{IsTerm, one_part, more_parts, IsPart, in_parentheses, by_keyword, IsForm, id_form, const_form, hoist_form, plunge_form, fork_form, map_form, each_form, list_form, copy_form, merge_form, concrete_form, view_form, text_form, call_form, filter_form, prune_form, focus_form, add_form, rename_form, BehindSign, behind_sign, InParentheses, parentheses, TwoTerms, two_terms, ArePairs, last_pair, more_pairs, IsTermText}
use Rattle.hm_schema_writer.proofs.Laws.{IsOneLine, line_both, spelled_line, token_line}

-- ---- trees

text_line : (p : Position) (s : Shape) → IsOneLine (text p s)
text_line whole bare = (omega arith, (omega arith, tt))
text_line below bare = tt
text_line further bare = (omega arith, tt)
text_line whole mark = (omega arith, tt)
text_line below mark = (omega arith, (omega arith, tt))
text_line further mark = (omega arith, tt)
text_line whole (edge n child rest) =
    (omega arith, line_both (spelled n) _ (spelled_line n) (line_both (text below child) _ (text_line below child) (text_line further rest)))
text_line below (edge n child rest) =
    (omega arith, (omega arith, line_both (spelled n) _ (spelled_line n) (line_both (text below child) _ (text_line below child) (text_line further rest))))
text_line further (edge n child rest) =
    (omega arith, line_both (spelled n) _ (spelled_line n) (line_both (text below child) _ (text_line below child) (text_line further rest)))

-- ---- what stands at the front of bytes

-- spaces at the front stand on the line too
spaces_kept : (bytes : List ℕ) → IsOneLine (unspaced bytes) → IsOneLine bytes
spaces_kept [] h = tt
spaces_kept (b ∷ bytes) h = go (b == 32) refl (spaces_kept bytes)
  where
    left : (t : Bool) → (b == 32) ≡ t → IsOneLine (drop (cond t (1 + prefix_len (λ c. c == 32) bytes) 0) (b ∷ bytes))
    left t e = subst (λ (z : Bool). IsOneLine (drop (cond z (1 + prefix_len (λ c. c == 32) bytes) 0) (b ∷ bytes))) e h

    one_more : (n : ℕ) → 1 + n ≡ suc n
    one_more n = omega arith

    go : (t : Bool) → (b == 32) ≡ t → (IsOneLine (unspaced bytes) → IsOneLine bytes) → IsOneLine (b ∷ bytes)
    go true e rest =
        let space = eqb-true b 32 e in
        (omega (arith, space), rest (subst (λ (n : ℕ). IsOneLine (drop n (b ∷ bytes))) (one_more (prefix_len (λ c. c == 32) bytes)) (left true e)))
    go false e rest = left false e

module _ (bytes rest : List ℕ) (h : IsOneLine rest) where
  sign_line : (sign : ℕ) → 32 ≤ sign → IsSign sign bytes rest → IsOneLine bytes
  sign_line sign large p = spaces_kept bytes (subst IsOneLine (sym p) (large, h))

  front_line : (t : Token) → IsFront bytes t rest → IsOneLine bytes
  front_line t p = spaces_kept bytes (subst IsOneLine (sym p.is) (line_both (token_text t) rest (token_line t p.token) h))

  edge_line : (n : Name) → IsEdge bytes n rest → IsOneLine bytes
  edge_line n p = front_line p.token p.front

  tree_line : (t : Tree) → IsTree bytes t rest → IsOneLine bytes
  tree_line t p = spaces_kept bytes (subst IsOneLine (sym p.is) (line_both (text whole t.shape) rest (text_line whole t.shape) h))

names_line : (bytes : List ℕ) (ns : List Name) (rest : List ℕ) → AreNames bytes ns rest → IsOneLine rest → IsOneLine bytes
names_line bytes _ rest (no_names p) h = sign_line bytes rest h 125 (omega arith) p
names_line bytes _ rest (a_name {inner} {n} {ns} p q) h = edge_line bytes inner (names_line inner ns rest q h) n p

set_line : (bytes rest : List ℕ) → IsOneLine rest → (P : Names) → IsSet bytes P rest → IsOneLine bytes
set_line bytes rest h P p = sign_line bytes p.inner (names_line p.inner p.names rest p.listed h) 123 (omega arith) p.opens

-- a form whose text stands on one line
abbrev Keeps : {X : Type 0} → (List ℕ → X → List ℕ → Type 0) → Type 0
Keeps {X} F = (bytes rest : List ℕ) → IsOneLine rest → (x : X) → F bytes x rest → IsOneLine bytes

module _ {X : Type 0} (F : List ℕ → X → List ℕ → Type 0) (keeps : Keeps F) where
  behind_line : (sign : ℕ) → 32 ≤ sign → Keeps (Behind sign F)
  behind_line sign large bytes rest h x p = sign_line bytes p.inner (keeps p.inner rest h x p.form) sign large p.begins

  one_line : Keeps (One F)
  one_line bytes rest h x p = behind_line 40 (omega arith) bytes p.inner (sign_line p.inner rest h 41 (omega arith) p.closes) x p.first

module _ {X Y : Type 0} (F : List ℕ → X → List ℕ → Type 0) (G : List ℕ → Y → List ℕ → Type 0) (f : Keeps F) (g : Keeps G) where
  two_line : (bytes rest : List ℕ) → IsOneLine rest → (x : X) (y : Y) → Two F G bytes x y rest → IsOneLine bytes
  two_line bytes rest h x y p = behind_line F f 40 (omega arith) bytes p.middle
      (behind_line G g 44 (omega arith) p.middle p.inner (sign_line p.inner rest h 41 (omega arith) p.closes) y p.second) x p.first

-- ---- terms

mutual
  term_line : {bytes rest : List ℕ} {l : Lens} → IsTerm bytes l rest → IsOneLine rest → IsOneLine bytes
  term_line (one_part p n) h = part_line p h
  term_line (more_parts {bytes} {behind} {inner} p t n) h = part_line p (sign_line behind inner (term_line n h) 59 (omega arith) t)

  part_line : {bytes rest : List ℕ} {l : Lens} → IsPart bytes l rest → IsOneLine rest → IsOneLine bytes
  part_line (in_parentheses p) h = parentheses_line p h
  part_line (by_keyword {bytes} {behind} k w p) h = front_line bytes behind (form_line p h) _ w

  form_line : {f : Keyword} {bytes rest : List ℕ} {l : Lens} → IsForm f bytes l rest → IsOneLine rest → IsOneLine bytes
  form_line id_form h = h
  form_line (const_form p) h = two_line IsTree IsTree tree_line tree_line _ _ h _ _ p
  form_line (hoist_form p) h = one_line IsEdge edge_line _ _ h _ p
  form_line (plunge_form p) h = one_line IsEdge edge_line _ _ h _ p
  form_line (fork_form p q t) h =
      behind_line IsSet set_line 40 (omega arith) _ _ (behind_line IsSet set_line 44 (omega arith) _ _ (terms_line t h) _ q) _ p
  form_line (map_form p) h = parentheses_line p h
  form_line (each_form p once) h = pairs_line (omega arith) p h
  form_line (list_form p) h = parentheses_line p h
  form_line (copy_form p) h = two_line IsEdge IsEdge edge_line edge_line _ _ h _ _ p
  form_line (merge_form p) h = two_line IsEdge IsEdge edge_line edge_line _ _ h _ _ p
  form_line (concrete_form p t) h = behind_line IsEdge edge_line 40 (omega arith) _ _ (terms_line t h) _ p
  form_line (view_form p q t) h =
      behind_line IsEdge edge_line 40 (omega arith) _ _ (behind_line IsEdge edge_line 44 (omega arith) _ _ (terms_line t h) _ q) _ p
  form_line (text_form p) h = one_line IsWord (λ b r k w f. front_line b r k _ f) _ _ h _ p
  form_line (call_form p) h = one_line IsWord (λ b r k w f. front_line b r k _ f) _ _ h _ p
  form_line (filter_form p) h = two_line IsSet IsTree set_line tree_line _ _ h _ _ p
  form_line (prune_form p d) h = two_line IsEdge IsTree edge_line tree_line _ _ h _ _ p
  form_line (focus_form p) h = two_line IsEdge IsTree edge_line tree_line _ _ h _ _ p
  form_line (add_form p) h = two_line IsEdge IsTree edge_line tree_line _ _ h _ _ p
  form_line (rename_form p) h = two_line IsEdge IsEdge edge_line edge_line _ _ h _ _ p

  behind_sign_line : {sign : ℕ} {bytes rest : List ℕ} {l : Lens} → 32 ≤ sign → BehindSign sign bytes l rest → IsOneLine rest → IsOneLine bytes
  behind_sign_line {sign} large (behind_sign {bytes} {inner} t p) h = sign_line bytes inner (term_line p h) sign large t

  parentheses_line : {bytes rest : List ℕ} {l : Lens} → InParentheses bytes l rest → IsOneLine rest → IsOneLine bytes
  parentheses_line {rest} (parentheses {inner} p t) h = behind_sign_line (omega arith) p (sign_line inner rest h 41 (omega arith) t)

  terms_line : {bytes rest : List ℕ} {l k : Lens} → TwoTerms bytes l k rest → IsOneLine rest → IsOneLine bytes
  terms_line {rest} (two_terms {inner} p q t) h =
      behind_sign_line (omega arith) p (behind_sign_line (omega arith) q (sign_line inner rest h 41 (omega arith) t))

  pairs_line : {sign : ℕ} {bytes rest : List ℕ} {ls : Lenses} → 32 ≤ sign → ArePairs sign bytes ls rest → IsOneLine rest → IsOneLine bytes
  pairs_line {sign} {bytes} {rest} large (last_pair {one} {two} p q t) h =
      behind_line IsEdge edge_line sign large _ _ (behind_sign_line (omega arith) q (sign_line two rest h 41 (omega arith) t)) _ p
  pairs_line {sign} large (more_pairs p q r) h =
      behind_line IsEdge edge_line sign large _ _ (behind_sign_line (omega arith) q (pairs_line (omega arith) r h)) _ p

pub term_text_line : (bytes : List ℕ) (l : Lens) → IsTermText bytes l → IsOneLine bytes
term_text_line bytes l h = term_line h.term tt
