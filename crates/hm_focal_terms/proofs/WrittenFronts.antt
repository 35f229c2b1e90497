-- What is written of the parts of a term is read as them.
use Rattle.std.proofs.Common.{◌≡◌, ℕ, ◌+◌, ◌≤◌, Bool, true, false, cond, T, List, drop, [], ◌∷◌, ◌++◌, All, IsUtf8, refl, sym, ap, subst, ◌∙◌, append_assoc, arith}
use Rattle.std.specs.Prelude.{flat_map, ◌==◌}
use Rattle.std.specs.List.{prefix_len}
use Rattle.std.proofs.lemmas.Bool.{eqb-true}
use Rattle.std.proofs.lemmas.List.Elements.{All-head, All-tail}
use Rattle.hm_tree.specs.Names.{Name}
use Rattle.hm_tree.specs.Nodes.{Shape, bare, mark, edge, Tree, depth, is_node}
use Rattle.hm_tree_spelling.specs.Spelling.{spelled}
use Rattle.hm_tree_spelling.specs.SpellingLaws.{spelled-append}
use Rattle.hm_tree.specs.Sets.{ascending}
use Rattle.hm_tree.proofs.Ascending.{set_of-ascending}
use Rattle.hm_schema.specs.Values.{Names}
use Rattle.hm_schema_lines.specs.declared.token.Token.TheVariants.{Word, Quoted}
use Rattle.hm_schema_lines.specs.Tokens.{begins_word, IsToken}
use Rattle.hm_schema_lines.proofs.Laws.{not_word}
use Rattle.hm_tree_text.specs.Text.{whole, text}
use Rattle.hm_focal_terms.specs.Fronts.{unspaced, IsWord, IsEdge, AreNames, no_names, a_name, IsSet, IsTree, One, Two}
use Rattle.hm_focal_terms.specs.Written.{set_text, spelled_tree}
use Rattle.hm_focal_terms.specs.Writable.{AreTexts}

-- a form is read from this text where no word goes on behind it
abbrev pub IsText : {X : Type 0} → (List ℕ → X → List ℕ → Type 0) → List ℕ → X → Type 0
IsText F text x = (rest : List ℕ) → begins_word rest ≡ false → F (text ++ rest) x rest

pub edge_read : (n : Name) → IsUtf8 n → IsText IsEdge (spelled n) n
edge_read n utf8 rest ends = record {
  token = Quoted n;
  names = refl;
  front = record {
    token = utf8;
    is = ap unspaced (spelled-append n rest) ∙ sym (spelled-append n rest);
    stops = tt;
  };
}

unspaced_same : (b : ℕ) (rest : List ℕ) → (b ≡ 32 → ⊥) → unspaced (b ∷ rest) ≡ b ∷ rest
unspaced_same b rest other = go (b == 32) refl
  where
    go : (c : Bool) → (b == 32) ≡ c → unspaced (b ∷ rest) ≡ b ∷ rest
    go true e = absurd (other (eqb-true b 32 e))
    go false e = ap (λ c. drop (cond c (1 + prefix_len (λ b. b == 32) rest) 0) (b ∷ rest)) e

no_space : (w : Name) (rest : List ℕ) → IsToken (Word w) → unspaced (w ++ rest) ≡ w ++ rest
no_space [] rest h = absurd (omega (arith, h.0))
no_space (b ∷ w) rest h = unspaced_same b (w ++ rest) (λ e. not_word (b ∷ w) rest 32 (w ++ rest) h refl (λ i. e i ∷ (w ++ rest)))

pub word_read : (w : Name) → IsToken (Word w) → IsText IsWord w w
word_read w h rest ends = record { token = h; is = no_space w rest h; stops = ends }

pub tree_read : (t : Tree) → depth t ≤ 1000 → IsText IsTree (spelled_tree t) t
tree_read t shallow rest ends = record { is = opens t.shape t.sound; shallow = shallow }
  where
    opens : (s : Shape) → T (is_node false true s) → unspaced (text whole s ++ rest) ≡ text whole s ++ rest
    opens bare h = refl
    opens mark h = absurd h
    opens (edge n c r) h = refl

names_read : (names : List Name) → All IsUtf8 names → (rest : List ℕ) → AreNames (flat_map spelled names ++ 125 ∷ rest) names rest
names_read [] utf8 rest = no_names refl
names_read (n ∷ names) utf8 rest =
    subst (λ z. AreNames z (n ∷ names) rest) (sym (append_assoc (spelled n) (flat_map spelled names) (125 ∷ rest)))
    (a_name (edge_read n (All-head IsUtf8 n names utf8) (flat_map spelled names ++ 125 ∷ rest) (stops names))
    (names_read names (All-tail IsUtf8 n names utf8) rest))
  where
    stops : (names : List Name) → begins_word (flat_map spelled names ++ 125 ∷ rest) ≡ false
    stops [] = refl
    stops (n ∷ names) =
        ap begins_word (append_assoc (spelled n) (flat_map spelled names) (125 ∷ rest) ∙ spelled-append n (flat_map spelled names ++ 125 ∷ rest))

pub set_read : (P : Names) → AreTexts P → IsText IsSet (set_text P) P
set_read P utf8 rest ends = record {
  names = ascending P;
  inner = flat_map spelled (ascending P) ++ 125 ∷ rest;
  opens = ap (λ z. 123 ∷ z) (append_assoc (flat_map spelled (ascending P)) (125 ∷ []) rest);
  listed = names_read (ascending P) utf8 rest;
  is = sym (set_of-ascending P);
}

-- ---- in parentheses

module _ {X : Type 0} (F : List ℕ → X → List ℕ → Type 0) (text : List ℕ) (x : X) (reads : IsText F text x) where
  pub one_read : (rest : List ℕ) → One F (40 ∷ ((text ++ 41 ∷ []) ++ rest)) x rest
  one_read rest = record {
    inner = 41 ∷ rest;
    first = record {
      inner = text ++ 41 ∷ rest;
      begins = ap (λ z. 40 ∷ z) (append_assoc text (41 ∷ []) rest);
      form = reads (41 ∷ rest) refl;
    };
    closes = refl;
  }

  module _ {Y : Type 0} (G : List ℕ → Y → List ℕ → Type 0) (other : List ℕ) (y : Y) (others : IsText G other y) where
    pub two_read : (rest : List ℕ) → Two F G (40 ∷ ((((text ++ 44 ∷ []) ++ other) ++ 41 ∷ []) ++ rest)) x y rest
    two_read rest = record {
      middle = 44 ∷ (other ++ 41 ∷ rest);
      inner = 41 ∷ rest;
      first = record {
        inner = text ++ 44 ∷ (other ++ 41 ∷ rest);
        begins = ap (λ z. 40 ∷ z) (flat text other rest);
        form = reads (44 ∷ (other ++ 41 ∷ rest)) refl;
      };
      second = record { inner = other ++ 41 ∷ rest; begins = refl; form = others (41 ∷ rest) refl };
      closes = refl;
    }
      where
        flat : (a b rest : List ℕ) → (((a ++ 44 ∷ []) ++ b) ++ 41 ∷ []) ++ rest ≡ a ++ 44 ∷ (b ++ 41 ∷ rest)
        flat a b rest = simp append_assoc
