-- The rows of named lenses in the text of a term have names, each once.
use Rattle.std.proofs.Common.{◌≡◌, ◌≢◌, ℕ, ◌<◌, List, ◌∷◌, slice_get, Some, refl, sym, ap, subst, arith}
use Rattle.hm_tree.specs.Names.{Name}
use Rattle.hm_tree.specs.Nodes.{Tree}
use Rattle.hm_schema.specs.Values.{Names}
use Rattle.hm_terms.specs.Lenses.{Lens, Lenses, identity, sequence, constant, hoist, plunge, fork, each, among, none, also, items, copy, merge, on_concrete, on_view, text, call}
use Rattle.hm_terms.specs.WellFormedPrograms.{StandsIn, itself, in_first, in_second, inside, outside, in_each, in_among, in_items, where_it_has, where_it_lacks, where_it_showed, where_it_did_not, IsAmong, here, further, row_names, HasOnce, IsSoundRow}
use Rattle.hm_schema_lines.specs.BadLines.{HasDouble}
use Rattle.hm_focal_terms.specs.declared.keyword.Keyword.{Keyword}
use Rattle.hm_focal_terms.specs.TermText.{names_of, IsTerm, one_part, more_parts, IsPart, in_parentheses, by_keyword, IsForm, id_form, const_form, hoist_form, plunge_form, fork_form, map_form, each_form, list_form, copy_form, merge_form, concrete_form, view_form, text_form, call_form, filter_form, prune_form, focus_form, add_form, rename_form, BehindSign, behind_sign, InParentheses, parentheses, TwoTerms, two_terms, ArePairs, last_pair, more_pairs, IsTermText}

abbrev pub AreSound : Lens → Type 0
AreSound l = (ls : Lenses) → StandsIn (among ls) l → IsSoundRow ls

module _ (l k : Lens) (h : AreSound l) (j : AreSound k) where
  of_sequence : AreSound (sequence l k)
  of_sequence ls (in_first s) = h ls s
  of_sequence ls (in_second s) = j ls s

  of_fork : (P Q : Names) → AreSound (fork P Q l k)
  of_fork P Q ls (inside s) = h ls s
  of_fork P Q ls (outside s) = j ls s

  of_concrete : (n : Name) → AreSound (on_concrete n l k)
  of_concrete n ls (where_it_has s) = h ls s
  of_concrete n ls (where_it_lacks s) = j ls s

  of_view : (n m : Name) → AreSound (on_view n m l k)
  of_view n m ls (where_it_showed s) = h ls s
  of_view n m ls (where_it_did_not s) = j ls s

of_each : (l : Lens) → AreSound l → AreSound (each l)
of_each l h ls (in_each s) = h ls s

of_items : (l : Lens) → AreSound l → AreSound (items l)
of_items l h ls (in_items s) = h ls s

of_identity : AreSound identity
of_identity ls s = elim s [ ]

of_constant : (t d : Tree) → AreSound (constant t d)
of_constant t d ls s = elim s [ ]

of_hoist : (n : Name) → AreSound (hoist n)
of_hoist n ls s = elim s [ ]

of_plunge : (n : Name) → AreSound (plunge n)
of_plunge n ls s = elim s [ ]

of_copy : (m n : Name) → AreSound (copy m n)
of_copy m n ls s = elim s [ ]

of_merge : (m n : Name) → AreSound (merge m n)
of_merge m n ls s = elim s [ ]

of_text : (n : Name) → AreSound (text n)
of_text n ls s = elim s [ ]

of_call : (n : Name) → AreSound (call n)
of_call n ls s = elim s [ ]

-- ---- rows

abbrev AllSound : Lenses → Type 0
AllSound ls = (n : Name) (l : Lens) → IsAmong n l ls → AreSound l

of_among : (ls : Lenses) → IsSoundRow ls → AllSound ls → AreSound (among ls)
of_among ls row all rs s = go (among ls) s refl
  where
    go : (x : Lens) → StandsIn (among rs) x → x ≡ among ls → IsSoundRow rs
    go _ itself e = let same : rs ≡ ls = cc in subst IsSoundRow (sym same) row
    go _ (in_among {l} {n} {ls = ks} a t) e = let same : ks ≡ ls = cc in all n l (subst (IsAmong n l) same a) rs t
    go _ t e = let f : ⊥ = cc in absurd f

of_last : (n : Name) (l : Lens) → AreSound l → AllSound (also n l none)
of_last n l h m k a = go (also n l none) a refl
  where
    go : (x : Lenses) → IsAmong m k x → x ≡ also n l none → AreSound k
    go _ here e = let same : k ≡ l = cc in subst AreSound (sym same) h
    go _ (further {ls} a) e = let rest : ls ≡ none = cc in nothing ls a rest
      where
        nothing : (x : Lenses) → IsAmong m k x → x ≡ none → AreSound k
        nothing _ here e = let f : ⊥ = cc in absurd f
        nothing _ (further a) e = let f : ⊥ = cc in absurd f

of_more : (n : Name) (l : Lens) (ls : Lenses) → AreSound l → AllSound ls → AllSound (also n l ls)
of_more n l ls h all m k a = go (also n l ls) a refl
  where
    go : (x : Lenses) → IsAmong m k x → x ≡ also n l ls → AreSound k
    go _ here e = let same : k ≡ l = cc in subst AreSound (sym same) h
    go _ (further {ls = xs} a) e = let rest : xs ≡ ls = cc in all m k (subst (IsAmong m k) rest a)

names_are : (ls : Lenses) → row_names ls ≡ names_of ls
names_are none = refl
names_are (also n l ls) = ap (λ z. n ∷ z) (names_are ls)

pub once_of : (ks : List Name) → ¬ (HasDouble ks) → HasOnce ks
once_of ks none_twice i j k h g = omega (arith, less i j h g, less j i g h)
  where
    less : (i j : ℕ) → slice_get ks i ≡ Some k → slice_get ks j ≡ Some k → ¬ (i < j)
    less i j h g below = none_twice (i, j, k, below, h, g)

-- ---- texts

mutual
  term_rows : {bytes rest : List ℕ} {l : Lens} → IsTerm bytes l rest → AreSound l
  term_rows (one_part p n) = part_rows p
  term_rows (more_parts p t n) = of_sequence _ _ (part_rows p) (term_rows n)

  part_rows : {bytes rest : List ℕ} {l : Lens} → IsPart bytes l rest → AreSound l
  part_rows (in_parentheses p) = parentheses_rows p
  part_rows (by_keyword k w p) = form_rows p

  form_rows : {f : Keyword} {bytes rest : List ℕ} {l : Lens} → IsForm f bytes l rest → AreSound l
  form_rows id_form = of_identity
  form_rows (const_form p) = of_constant _ _
  form_rows (hoist_form p) = of_hoist _
  form_rows (plunge_form p) = of_plunge _
  form_rows (fork_form p q t) = let both = terms_rows t in of_fork _ _ both.0 both.1 _ _
  form_rows (map_form p) = of_each _ (parentheses_rows p)
  form_rows (each_form p once) = let rows = pairs_rows p in
      of_among _ (record { some = rows.0; once = subst HasOnce (sym (names_are _)) (once_of _ once) }) rows.1
  form_rows (list_form p) = of_items _ (parentheses_rows p)
  form_rows (copy_form p) = of_copy _ _
  form_rows (merge_form p) = of_merge _ _
  form_rows (concrete_form p t) = let both = terms_rows t in of_concrete _ _ both.0 both.1 _
  form_rows (view_form p q t) = let both = terms_rows t in of_view _ _ both.0 both.1 _ _
  form_rows (text_form p) = of_text _
  form_rows (call_form p) = of_call _
  form_rows (filter_form p) = of_fork _ _ of_identity (of_constant _ _) _ _
  form_rows (prune_form p d) = of_fork _ _ (of_constant _ _) of_identity _ _
  form_rows (focus_form p) = of_sequence _ _ (of_fork _ _ of_identity (of_constant _ _) _ _) (of_hoist _)
  form_rows (add_form p) = of_fork _ _ (of_sequence _ _ (of_constant _ _) (of_plunge _)) of_identity _ _
  form_rows (rename_form p) = of_fork _ _ (of_sequence _ _ (of_hoist _) (of_plunge _)) of_identity _ _

  sign_rows : {sign : ℕ} {bytes rest : List ℕ} {l : Lens} → BehindSign sign bytes l rest → AreSound l
  sign_rows (behind_sign t p) = term_rows p

  parentheses_rows : {bytes rest : List ℕ} {l : Lens} → InParentheses bytes l rest → AreSound l
  parentheses_rows (parentheses p t) = sign_rows p

  terms_rows : {bytes rest : List ℕ} {l k : Lens} → TwoTerms bytes l k rest → AreSound l × AreSound k
  terms_rows (two_terms p q t) = (sign_rows p, sign_rows q)

  pairs_rows : {sign : ℕ} {bytes rest : List ℕ} {ls : Lenses} → ArePairs sign bytes ls rest → (ls ≢ none) × AllSound ls
  pairs_rows (last_pair p q t) = ((λ e. let f : ⊥ = cc in f), of_last _ _ (sign_rows q))
  pairs_rows (more_pairs p q r) = ((λ e. let f : ⊥ = cc in f), of_more _ _ _ (sign_rows q) (pairs_rows r).1)

pub text_rows : (bytes : List ℕ) (l : Lens) → IsTermText bytes l → AreSound l
text_rows bytes l h = term_rows h.term
