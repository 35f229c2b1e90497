-- At most one of each form stands at the front of bytes.
use Rattle.std.specs.Prelude.{◌≡◌, ℕ, false, List, ◌∷◌, ◌++◌, Some, refl}
use Rattle.std.specs.FinSet.{from_list}
use Rattle.std.proofs.Common.{sym, ap, ◌∙◌, arith}
use Rattle.hm_tree.specs.Names.{Name, name_cmp}
use Rattle.hm_tree.specs.Nodes.{Tree}
use Rattle.hm_tree_spelling.specs.Spelling.{escaped}
use Rattle.hm_tree_spelling.specs.SpellingLaws.{spelled-append}
use Rattle.hm_schema.specs.Values.{Names}
use Rattle.hm_schema_lines.specs.declared.token.Token.{Token}
use Rattle.hm_schema_lines.specs.declared.token.Token.TheVariants.{Word, Quoted, Question, Plus}
use Rattle.hm_schema_lines.specs.Tokens.{is_word_byte, token_text, IsToken}
use Rattle.hm_schema_lines.specs.NodeLines.{edge_name}
use Rattle.hm_schema_lines.proofs.Laws.{one_token, not_word}
use Rattle.hm_tree_text.proofs.Laws.{first_tree_one}
use Rattle.hm_focal_terms.specs.Fronts.{unspaced, IsSign, IsFront, IsEdge, AreNames, no_names, a_name, IsSet, IsTree}

pub sign_once : (sign : ℕ) (b c r s : List ℕ) → b ≡ c → IsSign sign b r → IsSign sign c s → r ≡ s
sign_once sign b c r s e p q = let f : sign ∷ r ≡ sign ∷ s = sym p ∙ ap unspaced e ∙ q in cc

pub front_once : (b c : List ℕ) (t u : Token) (r s : List ℕ) → b ≡ c → IsFront b t r → IsFront c u s → (t ≡ u) × (r ≡ s)
front_once b c t u r s e p q = one_token t u r s p.token q.token p.stops q.stops (sym p.is ∙ ap unspaced e ∙ q.is)

pub edge_once : (b c : List ℕ) (x y : Name) (r s : List ℕ) → b ≡ c → IsEdge b x r → IsEdge c y s → (x ≡ y) × (r ≡ s)
edge_once b c x y r s e p q =
    let one = front_once b c p.token q.token r s e p.front q.front in
    let f : Some x ≡ Some y = sym p.names ∙ ap edge_name one.0 ∙ q.names in
    let same : x ≡ y = cc in
    (same, one.1)

pub tree_once : (b c : List ℕ) (x y : Tree) (r s : List ℕ) → b ≡ c → IsTree b x r → IsTree c y s → (x ≡ y) × (r ≡ s)
tree_once b c x y r s e p q = first_tree_one x y r s (sym p.is ∙ ap unspaced e ∙ q.is)

-- an edge's name doesn't begin with a sign
token_no_sign : (sign : ℕ) (t : Token) (n : Name) (x y : List ℕ) → is_word_byte sign ≡ false → (34 ≡ sign → ⊥) → edge_name t ≡ Some n → IsToken t
    → token_text t ++ x ≡ sign ∷ y → ⊥
token_no_sign sign (Word w) n x y other differ named h e = not_word w x sign y h other e
token_no_sign sign (Quoted k) n x y other differ named h e =
    let same : 34 ∷ (escaped k ++ 34 ∷ x) ≡ sign ∷ y = sym (spelled-append k x) ∙ e in
    let byte : 34 ≡ sign = cc in differ byte
token_no_sign sign Question n x y other differ named h e = let f : ⊥ = cc in f
token_no_sign sign Plus n x y other differ named h e = let f : ⊥ = cc in f

pub edge_no_sign : (sign : ℕ) (b c : List ℕ) (n : Name) (r s : List ℕ) → is_word_byte sign ≡ false → (34 ≡ sign → ⊥) → b ≡ c → IsEdge b n r
    → IsSign sign c s → ⊥
edge_no_sign sign b c n r s other differ e p q =
    token_no_sign sign p.token n r s other differ p.names p.front.token (sym p.front.is ∙ ap unspaced e ∙ q)

pub brace_not_quote : ◌≡◌ {A = ℕ} 34 125 → ⊥
brace_not_quote e = omega arith

pub names_once : (b c : List ℕ) (xs ys : List Name) (r s : List ℕ) → b ≡ c → AreNames b xs r → AreNames c ys s → (xs ≡ ys) × (r ≡ s)
names_once b c _ _ r s e (no_names p) (no_names q) = (refl, sign_once 125 b c r s e p q)
names_once b c _ _ r s e (no_names p) (a_name {inner} {n} q qs) = absurd (edge_no_sign 125 c b n inner r refl brace_not_quote (sym e) q p)
names_once b c _ _ r s e (a_name {inner} {n} p ps) (no_names q) = absurd (edge_no_sign 125 b c n inner s refl brace_not_quote e p q)
names_once b c _ _ r s e (a_name {inner = i} {n = n} {ns = ns} p ps) (a_name {inner = j} {n = m} {ns = ms} q qs) =
    let one = edge_once b c n m i j e p q in
    let more = names_once i j ns ms r s one.1 ps qs in
    ((λ i. one.0 i ∷ more.0 i), more.1)

pub set_once : (b c : List ℕ) (x y : Names) (r s : List ℕ) → b ≡ c → IsSet b x r → IsSet c y s → (x ≡ y) × (r ≡ s)
set_once b c x y r s e p q =
    let inside = sign_once 123 b c p.inner q.inner e p.opens q.opens in
    let same = names_once p.inner q.inner p.names q.names r s inside p.listed q.listed in
    (p.is ∙ ap (from_list {R = name_cmp}) same.0 ∙ sym q.is, same.1)

-- ---- the same of the same bytes

pub one_edge : (bytes : List ℕ) (x y : Name) (r s : List ℕ) → IsEdge bytes x r → IsEdge bytes y s → (x ≡ y) × (r ≡ s)
one_edge bytes x y r s p q = edge_once bytes bytes x y r s refl p q

pub one_set : (bytes : List ℕ) (x y : Names) (r s : List ℕ) → IsSet bytes x r → IsSet bytes y s → (x ≡ y) × (r ≡ s)
one_set bytes x y r s p q = set_once bytes bytes x y r s refl p q

pub one_tree : (bytes : List ℕ) (x y : Tree) (r s : List ℕ) → IsTree bytes x r → IsTree bytes y s → (x ≡ y) × (r ≡ s)
one_tree bytes x y r s p q = tree_once bytes bytes x y r s refl p q
