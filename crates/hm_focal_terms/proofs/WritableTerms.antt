-- What bytes are the text of is writable.
use Rattle.std.proofs.Common.{◌≡◌, ℕ, ◌≤◌, false, List, [], ◌∷◌, All, Some, IsUtf8, sym, subst, ◌∙◌, arith}
use Rattle.std.specs.FinSet as set
use Rattle.std.proofs.lemmas.List.Elements.{All-nil, All-cons, All-contains}
use Rattle.std.proofs.lemmas.Option.{slice_get-get_or}
use Rattle.hm_tree.specs.Names.{Name, name_cmp}
use Rattle.hm_tree.specs.Nodes.{depth, empty}
use Rattle.hm_tree.specs.Sets.{ascending}
use Rattle.hm_tree.proofs.Sorted.{name_total}
use Rattle.hm_tree.proofs.NameSets.{at_any}
use Rattle.hm_tree.proofs.Ascending.{contains-ascending}
use Rattle.hm_schema.specs.Values.{Names}
use Rattle.hm_schema_lines.specs.declared.token.Token.{Token}
use Rattle.hm_schema_lines.specs.declared.token.Token.TheVariants.{Word, Quoted, Question, Plus}
use Rattle.hm_schema_lines.specs.Tokens.{IsToken}
use Rattle.hm_schema_lines.specs.NodeLines.{edge_name}
use Rattle.hm_schema_lines.proofs.Laws.{word_utf8}
use Rattle.hm_terms.specs.Lenses.{Lens, Lenses, none}
use Rattle.hm_focal_terms.specs.declared.keyword.Keyword.{Keyword}
use Rattle.hm_focal_terms.specs.Fronts.{IsEdge, AreNames, no_names, a_name, IsSet, Behind}
use Rattle.hm_focal_terms.specs.TermText.{IsTerm, one_part, more_parts, IsPart, in_parentheses, by_keyword, IsForm, id_form, const_form, hoist_form, plunge_form, fork_form, map_form, each_form, list_form, copy_form, merge_form, concrete_form, view_form, text_form, call_form, filter_form, prune_form, focus_form, add_form, rename_form, BehindSign, behind_sign, InParentheses, parentheses, TwoTerms, two_terms, ArePairs, last_pair, more_pairs}
use Rattle.hm_focal_terms.specs.Derived.{no_names_set, only}
use Rattle.hm_focal_terms.specs.Writable.{AreTexts, IsWritable, AreWritable}
use Rattle.hm_facts.proofs.Booleans.{is_true}

-- ---- names and sets

token_utf8 : (t : Token) (n : Name) → edge_name t ≡ Some n → IsToken t → IsUtf8 n
token_utf8 (Word w) n e h = let f : Some w ≡ Some n = e in let same : w ≡ n = cc in subst IsUtf8 same (word_utf8 w (is_true _ h.1))
token_utf8 (Quoted k) n e h = let f : Some k ≡ Some n = e in let same : k ≡ n = cc in subst IsUtf8 same h
token_utf8 Question n e h = let f : ⊥ = cc in absurd f
token_utf8 Plus n e h = let f : ⊥ = cc in absurd f

edge_utf8 : {bytes rest : List ℕ} {n : Name} → IsEdge bytes n rest → IsUtf8 n
edge_utf8 {n} h = token_utf8 h.token n h.names h.front.token

behind_utf8 : {sign : ℕ} {bytes rest : List ℕ} {n : Name} → Behind sign IsEdge bytes n rest → IsUtf8 n
behind_utf8 h = edge_utf8 h.form

names_utf8 : {bytes rest : List ℕ} {names : List Name} → AreNames bytes names rest → All IsUtf8 names
names_utf8 (no_names p) = All-nil IsUtf8
names_utf8 (a_name {n} {ns} p q) = All-cons IsUtf8 n ns (edge_utf8 p) (names_utf8 q)

listed_texts : (names : List Name) → All IsUtf8 names → AreTexts (set.from_list names)
listed_texts names h = λ i d lt.
    let P = set.from_list {R = name_cmp} names in
    let there = contains-ascending P i _ (slice_get-get_or (ascending P) i d lt) in
    All-contains IsUtf8 names _ h (at_any _ names (sym (set.contains-from_list name_total names _) ∙ there))

set_utf8 : {bytes rest : List ℕ} {P : Names} → IsSet bytes P rest → AreTexts P
set_utf8 h = subst AreTexts (sym h.is) (listed_texts h.names (names_utf8 h.listed))

none_texts : AreTexts no_names_set
none_texts = listed_texts [] (All-nil IsUtf8)

only_texts : (n : Name) → IsUtf8 n → AreTexts (only n)
only_texts n h = listed_texts (n ∷ []) (All-cons IsUtf8 n [] h (All-nil IsUtf8))

empty_shallow : depth (empty {m = false}) ≤ 1000
unfolding empty depth
empty_shallow = omega arith

pairs_some : {sign : ℕ} {bytes rest : List ℕ} {ls : Lenses} → ArePairs sign bytes ls rest → ls ≡ none → ⊥
pairs_some (last_pair p q t) e = cc
pairs_some (more_pairs p q m) e = cc

-- ---- terms

mutual
  pub term_writable : {bytes rest : List ℕ} {l : Lens} → IsTerm bytes l rest → IsWritable l
  term_writable (one_part p n) = part_writable p
  term_writable (more_parts p t q) = (part_writable p, term_writable q)

  part_writable : {bytes rest : List ℕ} {l : Lens} → IsPart bytes l rest → IsWritable l
  part_writable (in_parentheses p) = parentheses_writable p
  part_writable (by_keyword k w f) = form_writable f

  form_writable : {k : Keyword} {bytes rest : List ℕ} {l : Lens} → IsForm k bytes l rest → IsWritable l
  form_writable id_form = tt
  form_writable (const_form p) = (p.first.form.shallow, p.second.form.shallow)
  form_writable (hoist_form p) = behind_utf8 p.first
  form_writable (plunge_form p) = behind_utf8 p.first
  form_writable (fork_form p q t) = let h = terms_writable t in (set_utf8 p.form, set_utf8 q.form, h.0, h.1)
  form_writable (map_form p) = parentheses_writable p
  form_writable (each_form p d) = ((λ e. pairs_some p e), d, pairs_writable p)
  form_writable (list_form p) = parentheses_writable p
  form_writable (copy_form p) = (behind_utf8 p.first, behind_utf8 p.second)
  form_writable (merge_form p) = (behind_utf8 p.first, behind_utf8 p.second)
  form_writable (concrete_form p t) = let h = terms_writable t in (behind_utf8 p, h.0, h.1)
  form_writable (view_form p q t) = let h = terms_writable t in (behind_utf8 p, behind_utf8 q, h.0, h.1)
  form_writable (text_form p) = p.first.form.token
  form_writable (call_form p) = p.first.form.token
  form_writable (filter_form p) = let h = set_utf8 p.first.form in (h, h, tt, (empty_shallow, p.second.form.shallow))
  form_writable (prune_form {n} p shallow) = (only_texts n (behind_utf8 p.first), none_texts, (empty_shallow, shallow), tt)
  form_writable (focus_form {n} p) =
      let name = behind_utf8 p.first in
      let h = only_texts n name in
      ((h, h, tt, (empty_shallow, p.second.form.shallow)), name)
  form_writable (add_form {n} p) =
      let name = behind_utf8 p.first in
      (none_texts, only_texts n name, ((p.second.form.shallow, empty_shallow), name), tt)
  form_writable (rename_form {m} {n} p) =
      let one = behind_utf8 p.first in
      let two = behind_utf8 p.second in
      (only_texts m one, only_texts n two, (one, two), tt)

  behind_writable : {sign : ℕ} {bytes rest : List ℕ} {l : Lens} → BehindSign sign bytes l rest → IsWritable l
  behind_writable (behind_sign t p) = term_writable p

  parentheses_writable : {bytes rest : List ℕ} {l : Lens} → InParentheses bytes l rest → IsWritable l
  parentheses_writable (parentheses p t) = behind_writable p

  terms_writable : {bytes rest : List ℕ} {l k : Lens} → TwoTerms bytes l k rest → IsWritable l × IsWritable k
  terms_writable (two_terms p q t) = (behind_writable p, behind_writable q)

  pairs_writable : {sign : ℕ} {bytes rest : List ℕ} {ls : Lenses} → ArePairs sign bytes ls rest → AreWritable ls
  pairs_writable (last_pair p q t) = (behind_utf8 p, behind_writable q, tt)
  pairs_writable (more_pairs p q m) = (behind_utf8 p, behind_writable q, pairs_writable m)
