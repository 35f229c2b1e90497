-- A line of a node is neither skipped nor of a file's own.
use Rattle.std.proofs.Common.{◌≡◌, ◌≢◌, inl, inr, ℕ, zero, suc, List, [], ◌∷◌, ◌++◌, slice_get, Some, refl, sym, ap, ◌∙◌, subst, arith}
use Rattle.std.specs.Prelude.{codes}
use Rattle.std.proofs.lemmas.List.{append-nil}
use Rattle.std.proofs.lemmas.Option.{same_Some, slice_get_within, get_or_from_slice_get}
use Rattle.hm_tree.specs.Names.{Name}
use Rattle.hm_schema_lines.specs.declared.token.Token.{Token}
use Rattle.hm_schema_lines.specs.declared.token.Token.TheVariants.{Word}
use Rattle.hm_schema_lines.specs.Tokens.{Spaced, alone, before, token_text}
use Rattle.hm_schema_lines.specs.NodeLines.{NodeLineValue, node, edge, other, shape, AreItsTokens, indent, IsNodeLine}
use Rattle.hm_schema_lines.specs.Entries.{IsSkipped, IsEntry, unknown, says}
use Rattle.hm_schema_lines.proofs.Laws.{at_place}
use Rattle.hm_schema_writer.specs.WrittenNodes.{SaysNothing}

-- the token at the front of a line
pub spaced_front : (t : Token) (ts : List Token) (line : List ℕ) → Spaced (t ∷ ts) line → (rest : List ℕ) × (line ≡ token_text t ++ rest)
spaced_front t _ _ (alone h) = ([], sym (append-nil (token_text t)))
spaced_front t _ _ (before {gap} {rest} h g s) = (gap ++ rest, refl)

-- a first letter, and another byte that is no space
pub not_skipped : (line : List ℕ) (b k c : ℕ) → slice_get line 0 ≡ Some b → b ≢ 35 → slice_get line k ≡ Some c → c ≢ 32 → ¬ (IsSkipped line)
not_skipped line b k c first no_comment at letter (inl comment) =
    let both : Some b ≡ Some 35 = sym first ∙ comment in
    let same : b ≡ 35 = cc in
    no_comment same
not_skipped line b k c first no_comment at letter (inr blank) =
    letter (sym (get_or_from_slice_get line k c c at) ∙ blank k c (slice_get_within line k c at))

-- ---- lines of nodes

abbrev kind_word : NodeLineValue → Name
kind_word (node w) = codes "node"
kind_word (edge k w) = codes "edge"
kind_word (other c w) = codes "other"
kind_word (shape s) = codes "shape"

first_token : (ts : List Token) (x : NodeLineValue) → AreItsTokens ts x → (us : List Token) × (ts ≡ Word (kind_word x) ∷ us)
first_token ts (node w) h = (_, h)
first_token ts (edge k w) h = (_, h.2)
first_token ts (other c w) h = (_, h)
first_token ts (shape s) h = (_, h.1)

line_front : (line : List ℕ) (x : NodeLineValue) → IsNodeLine line x → (rest : List ℕ) × (line ≡ indent x ++ (kind_word x ++ rest))
line_front line x h =
    let t = first_token h.tokens x h.says in
    let f = spaced_front (Word (kind_word x)) t.0 h.text (subst (λ (z : List Token). Spaced z h.text) t.1 h.spaced) in
    (f.0, h.is ∙ ap (λ z. indent x ++ z) f.1)

abbrev pub first_byte : NodeLineValue → ℕ
first_byte (node w) = 110
first_byte (edge k w) = 32
first_byte (other c w) = 32
first_byte (shape s) = 32

pub node_first : (line : List ℕ) (x : NodeLineValue) → IsNodeLine line x → slice_get line 0 ≡ Some (first_byte x)
node_first line (node w) h = let f = line_front line (node w) h in ap (λ (z : List ℕ). slice_get z 0) f.1
node_first line (edge k w) h = let f = line_front line (edge k w) h in ap (λ (z : List ℕ). slice_get z 0) f.1
node_first line (other c w) h = let f = line_front line (other c w) h in ap (λ (z : List ℕ). slice_get z 0) f.1
node_first line (shape s) h = let f = line_front line (shape s) h in ap (λ (z : List ℕ). slice_get z 0) f.1

node_not_skipped : (line : List ℕ) (x : NodeLineValue) → IsNodeLine line x → ¬ (IsSkipped line)
node_not_skipped line (node w) h = let first = node_first line (node w) h in
    not_skipped line 110 0 110 first (λ e. omega (arith, e)) first (λ e. omega (arith, e))
node_not_skipped line (edge k w) h = let f = line_front line (edge k w) h in
    not_skipped line 32 2 101 (node_first line (edge k w) h) (λ e. omega (arith, e)) (ap (λ (z : List ℕ). slice_get z 2) f.1) (λ e. omega (arith, e))
node_not_skipped line (other c w) h = let f = line_front line (other c w) h in
    not_skipped line 32 2 111 (node_first line (other c w) h) (λ e. omega (arith, e)) (ap (λ (z : List ℕ). slice_get z 2) f.1) (λ e. omega (arith, e))
node_not_skipped line (shape s) h = let f = line_front line (shape s) h in
    not_skipped line 32 2 115 (node_first line (shape s) h) (λ e. omega (arith, e)) (ap (λ (z : List ℕ). slice_get z 2) f.1) (λ e. omega (arith, e))

pub node_entry : (line : List ℕ) (x : NodeLineValue) → IsNodeLine line x → IsEntry line (says x)
node_entry line x h = (node_not_skipped line x h, h)

-- the two lines at the head of a file say nothing of nodes
pub front_quiet : SaysNothing (unknown ∷ unknown ∷ [])
front_quiet x c = let a = at_place (unknown ∷ unknown ∷ []) (says x) c in go a.0 a.1
  where
    go : (m : ℕ) → slice_get (unknown ∷ unknown ∷ []) m ≡ Some (says x) → ⊥
    go zero e = let f : unknown ≡ says x = same_Some unknown (says x) e in let no : ⊥ = cc in no
    go (suc zero) e = let f : unknown ≡ says x = same_Some unknown (says x) e in let no : ⊥ = cc in no
    go (suc (suc m)) e = let no : ⊥ = cc in no
