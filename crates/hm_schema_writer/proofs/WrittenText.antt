-- How the text of nodes grows.
use Rattle.std.proofs.Common.{◌≡◌, ℕ, suc, ◌+◌, ◌<◌, Bool, true, false, cond, List, [], ◌∷◌, ◌++◌, length, get_or, drop, map, refl, sym, ap, ◌∙◌, append_assoc, add-one, arith}
use Rattle.std.proofs.Math.Seq.{drop-cons}
use Rattle.std.specs.Prelude.{codes, flat_map}
use Rattle.std.specs.Str.{bytes_eq}
use lib.Pointwise.{bytes_decides}
use Rattle.hm_tree.specs.Names.{Name}
use Rattle.hm_schema.specs.declared.node.Node.{Node}
use Rattle.hm_schema.specs.Values.{node_value}
use Rattle.hm_schema_lines.specs.declared.token.Token.{Token}
use Rattle.hm_schema_lines.specs.Tokens.{token_text}
use Rattle.hm_schema_lines.specs.NodeLines.{NodeLineValue}
use Rattle.hm_schema_writer.specs.Writing.{behind_spaces}
use Rattle.hm_schema_writer.specs.WrittenNodes.{node_lines, declared_names, lines_under, ended_text}

-- ---- a shape

behind_both : (ts us : List Token) → behind_spaces (ts ++ us) ≡ behind_spaces ts ++ behind_spaces us
behind_both [] us = refl
behind_both (t ∷ ts) us = ap (λ x. 32 ∷ (token_text t ++ x)) (behind_both ts us)
    ∙ ap (λ x. 32 ∷ x) (sym (append_assoc (token_text t) (behind_spaces ts) (behind_spaces us)))

pub shape_put : (old a b c d : List ℕ) (ts us vs : List Token) → a ≡ old ++ codes "  shape" → b ≡ a ++ behind_spaces ts → c ≡ b ++ behind_spaces us
    → d ≡ c ++ behind_spaces vs → (new : List ℕ) → new ≡ d ++ codes "\n"
    → new ≡ old ++ (codes "  shape" ++ (behind_spaces (ts ++ (us ++ vs)) ++ codes "\n"))
shape_put old a b c d ts us vs ea eb ec ed new n =
    let all : new ≡ ((((old ++ codes "  shape") ++ behind_spaces ts) ++ behind_spaces us) ++ behind_spaces vs) ++ codes "\n" =
    n ∙ ap (λ x. x ++ codes "\n") (ed ∙ ap (λ x. x ++ behind_spaces vs) (ec ∙ ap (λ x. x ++ behind_spaces us)
    (eb ∙ ap (λ x. x ++ behind_spaces ts) ea))) in
    let flat : ((((old ++ codes "  shape") ++ behind_spaces ts) ++ behind_spaces us) ++ behind_spaces vs) ++ codes "\n"
    ≡ old ++ (codes "  shape" ++ ((behind_spaces ts ++ (behind_spaces us ++ behind_spaces vs)) ++ codes "\n")) = simp append_assoc in
    let parts : behind_spaces (ts ++ (us ++ vs)) ≡ behind_spaces ts ++ (behind_spaces us ++ behind_spaces vs) =
    behind_both ts (us ++ vs) ∙ ap (λ x. behind_spaces ts ++ x) (behind_both us vs) in
    all ∙ flat ∙ ap (λ x. old ++ (codes "  shape" ++ (x ++ codes "\n"))) (sym parts)

-- ---- a node

pub flat_both : (xs ys : List NodeLineValue) → flat_map ended_text (xs ++ ys) ≡ flat_map ended_text xs ++ flat_map ended_text ys
flat_both [] ys = refl
flat_both (x ∷ xs) ys = ap (λ z. ended_text x ++ z) (flat_both xs ys)
    ∙ sym (append_assoc (ended_text x) (flat_map ended_text xs) (flat_map ended_text ys))

-- a name that isn't `Empty`
pub not_empty : (w : Name) → ¬ (w ≡ codes "Empty") → bytes_eq w (codes "Empty") ≡ false
not_empty w differs = go (bytes_eq w (codes "Empty")) refl
  where
    go : (b : Bool) → bytes_eq w (codes "Empty") ≡ b → b ≡ false
    go true e = absurd (differs ((bytes_decides w (codes "Empty")).0 e))
    go false e = refl

abbrev left_lines : List Name → List Name → List Node → List NodeLineValue
left_lines names ws ns = lines_under names (declared_names ws) (map node_value ns)

left_next : (names ws : List Name) (w : Name) (ns : List Node) (n : Node) → ¬ (w ≡ codes "Empty")
    → left_lines names (w ∷ ws) (n ∷ ns) ≡ node_lines names w (node_value n) ++ left_lines names ws ns
left_next names ws w ns n differs =
    ap (λ b. lines_under names (cond b [] (w ∷ declared_names ws)) (map node_value (n ∷ ns))) (not_empty w differs)

pub node_put : (names : List Name) (nodes : List Node) (i : ℕ) (w : Name) (n : Node) → i < length names → length names ≡ length nodes
    → w ≡ get_or names i w → n ≡ get_or nodes i n → ¬ (w ≡ codes "Empty") → (old start : List ℕ)
    → old ++ flat_map ended_text (left_lines names (drop i names) (drop i nodes)) ≡ start → (new : List ℕ)
    → new ≡ old ++ flat_map ended_text (node_lines names w (node_value n))
    → new ++ flat_map ended_text (left_lines names (drop (i + 1) names) (drop (i + 1) nodes)) ≡ start
node_put names nodes i w n below long w_is n_is differs old start before new n_new =
    let name_cut : drop i names ≡ w ∷ drop (suc i) names = drop-cons names i w below ∙ ap (λ x. x ∷ drop (suc i) names) (sym w_is) in
    let node_cut : drop i nodes ≡ n ∷ drop (suc i) nodes = drop-cons nodes i n (omega arith) ∙ ap (λ x. x ∷ drop (suc i) nodes) (sym n_is) in
    let front = flat_map ended_text (node_lines names w (node_value n)) in
    let rest = left_lines names (drop (suc i) names) (drop (suc i) nodes) in
    let cut : left_lines names (drop i names) (drop i nodes) ≡ node_lines names w (node_value n) ++ rest =
    ap (λ x. left_lines names x (drop i nodes)) name_cut ∙ ap (left_lines names (w ∷ drop (suc i) names)) node_cut
    ∙ left_next names (drop (suc i) names) w (drop (suc i) nodes) n differs in
    ap (λ m. new ++ flat_map ended_text (left_lines names (drop m names) (drop m nodes))) (add-one i)
    ∙ ap (λ x. x ++ flat_map ended_text rest) n_new
    ∙ append_assoc old front (flat_map ended_text rest)
    ∙ ap (λ x. old ++ x) (sym (flat_both (node_lines names w (node_value n)) rest))
    ∙ ap (λ x. old ++ flat_map ended_text x) (sym cut)
    ∙ before
