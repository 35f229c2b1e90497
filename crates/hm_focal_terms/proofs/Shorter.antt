-- What is left behind a form is shorter.
use Rattle.std.proofs.Common.{◌≡◌, ℕ, ◌+◌, ◌*◌, ◌<◌, List, length, ap, arith, length-append}
use Rattle.hm_tree.specs.Names.{Name}
use Rattle.hm_tree.specs.Nodes.{Tree}
use Rattle.hm_schema.specs.Values.{Names}
use Rattle.hm_tree_text.specs.Text.{whole, text}
use Rattle.hm_terms.specs.Lenses.{Lens, Lenses}
use Rattle.hm_focal_terms.specs.declared.keyword.Keyword.{Keyword}
use Rattle.hm_focal_terms.specs.Fronts.{IsWord, IsEdge, IsTree, AreNames, no_names, a_name, IsSet, Behind, One, Two}
use Rattle.hm_focal_terms.specs.TermText.{IsTerm, one_part, more_parts, IsPart, in_parentheses, by_keyword, IsForm, id_form, const_form, hoist_form, plunge_form, fork_form, map_form, each_form, list_form, copy_form, merge_form, concrete_form, view_form, text_form, call_form, filter_form, prune_form, focus_form, add_form, rename_form, BehindSign, behind_sign, InParentheses, parentheses, TwoTerms, two_terms, ArePairs, last_pair, more_pairs}
use Rattle.hm_focal_terms.proofs.Sets.{unspaced_length, sign_shorter, edge_shorter}

pub word_shorter : (bytes : List ℕ) (w : Name) (rest : List ℕ) → IsWord bytes w rest → length rest < length bytes
word_shorter bytes w rest h =
    let l = ap length h.is in let u = unspaced_length bytes in omega (arith, h.token.0, length-append w rest)

tree_shorter : (bytes : List ℕ) (t : Tree) (rest : List ℕ) → IsTree bytes t rest → length rest < length bytes + 1
tree_shorter bytes t rest h =
    let l = ap length h.is in let u = unspaced_length bytes in omega (arith, length-append (text whole t.shape) rest)

names_shorter : {bytes rest : List ℕ} {ns : List Name} → AreNames bytes ns rest → length rest < length bytes
names_shorter (no_names p) = sign_shorter 125 _ _ p
names_shorter (a_name p q) = let a = edge_shorter _ _ _ p in let b = names_shorter q in omega arith

set_shorter : (bytes : List ℕ) (P : Names) (rest : List ℕ) → IsSet bytes P rest → length rest < length bytes + 1
set_shorter bytes P rest h = let a = sign_shorter 123 bytes h.inner h.opens in let b = names_shorter h.listed in omega arith

edge_no_longer : (bytes : List ℕ) (n : Name) (rest : List ℕ) → IsEdge bytes n rest → length rest < length bytes + 1
edge_no_longer bytes n rest h = let a = edge_shorter bytes n rest h in omega arith

word_no_longer : (bytes : List ℕ) (n : Name) (rest : List ℕ) → IsWord bytes n rest → length rest < length bytes + 1
word_no_longer bytes n rest h = let a = word_shorter bytes n rest h in omega arith

abbrev IsNoLonger : {X : Type 0} → (List ℕ → X → List ℕ → Type 0) → Type 0
IsNoLonger {X} F = (bytes : List ℕ) (x : X) (rest : List ℕ) → F bytes x rest → length rest < length bytes + 1

behind_shorter : {X : Type 0} (F : List ℕ → X → List ℕ → Type 0) → IsNoLonger F → (sign : ℕ) (bytes : List ℕ) (x : X) (rest : List ℕ)
    → Behind sign F bytes x rest → length rest < length bytes
behind_shorter F shorter sign bytes x rest h =
    let a = sign_shorter sign bytes h.inner h.begins in let b = shorter h.inner x rest h.form in omega arith

one_shorter : {X : Type 0} (F : List ℕ → X → List ℕ → Type 0) → IsNoLonger F → {bytes : List ℕ} {x : X} {rest : List ℕ} → One F bytes x rest
    → length rest < length bytes + 1
one_shorter F shorter {bytes} {x} {rest} h =
    let a = behind_shorter F shorter 40 bytes x h.inner h.first in let b = sign_shorter 41 h.inner rest h.closes in omega arith

two_shorter : {X Y : Type 0} (F : List ℕ → X → List ℕ → Type 0) (G : List ℕ → Y → List ℕ → Type 0) → IsNoLonger F → IsNoLonger G
    → {bytes : List ℕ} {x : X} {y : Y} {rest : List ℕ} → Two F G bytes x y rest → length rest < length bytes + 1
two_shorter F G shorter other {bytes} {x} {y} {rest} h =
    let a = behind_shorter F shorter 40 bytes x h.middle h.first in
    let b = behind_shorter G other 44 h.middle y h.inner h.second in
    let c = sign_shorter 41 h.inner rest h.closes in
    omega arith

pub set_behind_shorter : (sign : ℕ) (bytes : List ℕ) (x : Names) (rest : List ℕ) → Behind sign IsSet bytes x rest → length rest < length bytes
set_behind_shorter = behind_shorter IsSet set_shorter

pub edge_behind_shorter : (sign : ℕ) (bytes : List ℕ) (x : Name) (rest : List ℕ) → Behind sign IsEdge bytes x rest → length rest < length bytes
edge_behind_shorter = behind_shorter IsEdge edge_no_longer

mutual
  pub term_shorter : {bytes rest : List ℕ} {l : Lens} → IsTerm bytes l rest → length rest < length bytes
  term_shorter (one_part p n) = part_shorter p
  term_shorter (more_parts {behind} {inner} p t q) =
      let a = part_shorter p in let b = sign_shorter 59 behind inner t in let c = term_shorter q in omega arith

  pub part_shorter : {bytes rest : List ℕ} {l : Lens} → IsPart bytes l rest → length rest < length bytes
  part_shorter (in_parentheses p) = parentheses_shorter p
  part_shorter (by_keyword {bytes} {behind} k w f) = let a = word_shorter bytes _ behind w in let b = form_shorter f in omega arith

  form_shorter : {k : Keyword} {bytes rest : List ℕ} {l : Lens} → IsForm k bytes l rest → length rest < length bytes + 1
  form_shorter id_form = omega arith
  form_shorter (const_form p) = two_shorter IsTree IsTree tree_shorter tree_shorter p
  form_shorter (hoist_form p) = one_shorter IsEdge edge_no_longer p
  form_shorter (plunge_form p) = one_shorter IsEdge edge_no_longer p
  form_shorter (fork_form {bytes} {one} {two} p q t) =
      let a = set_behind_shorter 40 bytes _ one p in let b = set_behind_shorter 44 one _ two q in let c = terms_shorter t in omega arith
  form_shorter (map_form p) = let a = parentheses_shorter p in omega arith
  form_shorter (each_form p d) = let a = pairs_shorter p in omega arith
  form_shorter (list_form p) = let a = parentheses_shorter p in omega arith
  form_shorter (copy_form p) = two_shorter IsEdge IsEdge edge_no_longer edge_no_longer p
  form_shorter (merge_form p) = two_shorter IsEdge IsEdge edge_no_longer edge_no_longer p
  form_shorter (concrete_form {bytes} {one} p t) = let a = edge_behind_shorter 40 bytes _ one p in let c = terms_shorter t in omega arith
  form_shorter (view_form {bytes} {one} {two} p q t) =
      let a = edge_behind_shorter 40 bytes _ one p in let b = edge_behind_shorter 44 one _ two q in let c = terms_shorter t in omega arith
  form_shorter (text_form p) = one_shorter IsWord word_no_longer p
  form_shorter (call_form p) = one_shorter IsWord word_no_longer p
  form_shorter (filter_form p) = two_shorter IsSet IsTree set_shorter tree_shorter p
  form_shorter (prune_form p d) = two_shorter IsEdge IsTree edge_no_longer tree_shorter p
  form_shorter (focus_form p) = two_shorter IsEdge IsTree edge_no_longer tree_shorter p
  form_shorter (add_form p) = two_shorter IsEdge IsTree edge_no_longer tree_shorter p
  form_shorter (rename_form p) = two_shorter IsEdge IsEdge edge_no_longer edge_no_longer p

  pub behind_sign_shorter : {sign : ℕ} {bytes rest : List ℕ} {l : Lens} → BehindSign sign bytes l rest → length rest < length bytes
  behind_sign_shorter (behind_sign {sign} {bytes} {inner} t p) = let a = sign_shorter sign bytes inner t in let b = term_shorter p in omega arith

  parentheses_shorter : {bytes rest : List ℕ} {l : Lens} → InParentheses bytes l rest → length rest < length bytes
  parentheses_shorter (parentheses {inner} {rest} p t) = let a = behind_sign_shorter p in let b = sign_shorter 41 inner rest t in omega arith

  terms_shorter : {bytes rest : List ℕ} {l k : Lens} → TwoTerms bytes l k rest → length rest < length bytes
  terms_shorter (two_terms {inner} {rest} p q t) =
      let a = behind_sign_shorter p in let b = behind_sign_shorter q in let c = sign_shorter 41 inner rest t in omega arith

  pairs_shorter : {sign : ℕ} {bytes rest : List ℕ} {ls : Lenses} → ArePairs sign bytes ls rest → length rest < length bytes
  pairs_shorter (last_pair {sign} {bytes} {one} {two} {rest} p q t) =
      let a = edge_behind_shorter sign bytes _ one p in let b = behind_sign_shorter q in let c = sign_shorter 41 two rest t in omega arith
  pairs_shorter (more_pairs {sign} {bytes} {one} p q n) =
      let a = edge_behind_shorter sign bytes _ one p in let b = behind_sign_shorter q in let c = pairs_shorter n in omega arith

-- the measure of a call falls where what is left is shorter
pub falls : (x y : List ℕ) (i j t : ℕ) → 7 * length y + j ≡ t → length x < length y → i < 7 + j → 7 * length x + i < t
falls x y i j t e less small = omega arith

pub less_less : (a b c : ℕ) → a < b → b < c → a < c
less_less a b c p q = omega arith
