-- No value stands at two keys, where no key is bad.
use Rattle.std.proofs.Common.{◌≡◌, ◌≢◌, suc, Bool, true, false, not, cond, ◌&&◌, ◌||◌, List, [], ◌∷◌, ◌++◌, length, unwrap_or, is_some, Option, Some, None, refl, sym, ap, ◌∙◌, arith}
use Rattle.std.specs.Prelude.{All, IsUtf8}
use Rattle.std.specs.List.{list_all, list_any}
use Rattle.std.specs.Ordering.{eq_by_cmp}
use Rattle.std.specs.FinMap as map
use Rattle.std.specs.FinSet.{contains-from_list}
use Rattle.std.proofs.lemmas.Grind.{flat_map-append}
use Rattle.std.proofs.lemmas.List.{append-nil}
use Rattle.std.proofs.lemmas.List.Elements.{All-nil}
use Rattle.std.proofs.lemmas.List.Folds.{list_any-append}
use Rattle.hm_tree.specs.Names.{Name, name_cmp}
use Rattle.hm_tree.proofs.Sorted.{name_total, name_one}
use Rattle.hm_schema.specs.Values.{OptionsValue}
use Rattle.hm_format.specs.Options.{Rule, Rules, Pairs, AreSound, is_among, is_declared, has_double, exceeds, all_values, values_of, breaks, is_bad, first_bad, bad_key}
use Rattle.hm_format.proofs.Accepted.{neither, not_false, first_none}
use Rattle.hm_facts.proofs.Orderings.{equal}

-- a name stands among others
abbrev pub stands : Name → List Name → Bool
stands v names = list_any (eq_by_cmp name_cmp v) names

-- what passes for all names passes for one that stands there
listed : (test : Name → Bool) (names : List Name) → list_all test names ≡ true → (v : Name) → stands v names ≡ true → test v ≡ true
listed test [] all v e = let no : ⊥ = cc in absurd no
listed test (n ∷ names) all v e = go (eq_by_cmp name_cmp v n) refl e (both (test n) (list_all test names) all) (λ rest. listed test names rest v)
  where
    both : (a b : Bool) → (a && b) ≡ true → (a ≡ true) × (b ≡ true)
    both true b e = (refl, e)
    both false b e = let no : ⊥ = cc in absurd no

    go : (tied : Bool) → eq_by_cmp name_cmp v n ≡ tied → (tied || stands v names) ≡ true → (test n ≡ true) × (list_all test names ≡ true)
        → (list_all test names ≡ true → stands v names ≡ true → test v ≡ true) → test v ≡ true
    go true t e all behind = ap test (name_one v n (equal _ t)) ∙ all.0
    go false t e all behind = behind all.1 e

module _ (rules : Rules) (declared : List Name) where
  all_new : (rule : Rule) (earlier : Pairs) (p : Name × List Name) → breaks (Some rule) declared earlier p ≡ false
      → list_all (λ v. not (is_among (all_values earlier) v)) p.1 ≡ true
  all_new rule earlier p good =
      let new = list_all (λ v. not (is_among (all_values earlier) v)) p.1 in
      let one = neither (is_some (map.find name_cmp p.0 earlier)) _ good in
      let two = neither (exceeds rule.most (length p.1)) _ one.1 in
      let three = neither (rule.declared && not (list_all (is_declared declared) p.1)) _ two.1 in
      not_false new (neither (has_double p.1) (not new) three.1).1

  -- the values of a key that isn't bad stand at no earlier one
  new_values : (earlier : Pairs) (p : Name × List Name) → is_bad rules declared earlier p ≡ false → (v : Name) → stands v p.1 ≡ true
      → stands v (all_values earlier) ≡ false
  new_values earlier p good v e = go (map.find name_cmp p.0 rules) good
    where
      none : (b : Bool) → not b ≡ true → b ≡ false
      none false e = refl
      none true e = let no : ⊥ = cc in absurd no

      go : (rule : Option Rule) → breaks rule declared earlier p ≡ false → stands v (all_values earlier) ≡ false
      go None good = let no : ⊥ = cc in absurd no
      go (Some rule) good =
          let new = listed (λ v. not (is_among (all_values earlier) v)) p.1 (all_new rule earlier p good) v e in
          sym (contains-from_list name_total (all_values earlier) v) ∙ none (is_among (all_values earlier) v) new

  none_bad : (earlier : Pairs) (p : Name × List Name) (later : Pairs) → first_bad rules declared earlier (p ∷ later) ≡ None
      → (is_bad rules declared earlier p ≡ false) × (first_bad rules declared (earlier ++ p ∷ []) later ≡ None)
  none_bad earlier p later = go (is_bad rules declared earlier p)
    where
      go : (bad : Bool) → cond bad (Some p.0) (first_bad rules declared (earlier ++ p ∷ []) later) ≡ None
          → (bad ≡ false) × (first_bad rules declared (earlier ++ p ∷ []) later ≡ None)
      go true e = let no : ⊥ = cc in absurd no
      go false e = (refl, e)

  values_more : (earlier : Pairs) (p : Name × List Name) (v : Name) → stands v (all_values (earlier ++ p ∷ [])) ≡ (stands v (all_values earlier) || stands v p.1)
  values_more earlier p v =
      ap (stands v) (flat_map-append (λ (q : Name × List Name). q.1) earlier (p ∷ []) ∙ ap (λ (vs : List Name). all_values earlier ++ vs) (append-nil p.1))
      ∙ list_any-append (eq_by_cmp name_cmp v) (all_values earlier) p.1

  -- nor do those of a later key
  fresh : (earlier pairs : Pairs) → first_bad rules declared earlier pairs ≡ None → (k v : Name) → stands v (values_of pairs k) ≡ true
      → stands v (all_values earlier) ≡ false
  fresh earlier [] e k v there = let no : ⊥ = cc in absurd no
  fresh earlier (p ∷ later) e k v there =
      let none = none_bad earlier p later e in
      go (eq_by_cmp name_cmp k p.0) none there (fresh (earlier ++ p ∷ []) later none.1 k v)
    where
      go : (tied : Bool) → (is_bad rules declared earlier p ≡ false) × (first_bad rules declared (earlier ++ p ∷ []) later ≡ None)
          → stands v (unwrap_or (cond tied (Some p.1) (map.find name_cmp k later)) []) ≡ true
          → (stands v (values_of later k) ≡ true → stands v (all_values (earlier ++ p ∷ [])) ≡ false) → stands v (all_values earlier) ≡ false
      go true none there rest = new_values earlier p none.0 v there
      go false none there rest = (neither _ _ (sym (values_more earlier p v) ∙ rest there)).0

  -- a value of a pair is none of a later key
  here_alone : (earlier : Pairs) (p : Name × List Name) (later : Pairs) → first_bad rules declared (earlier ++ p ∷ []) later ≡ None → (q v : Name)
      → stands v p.1 ≡ true → stands v (values_of later q) ≡ true → ⊥
  here_alone earlier p later e q v here there =
      let both : (stands v (all_values earlier) || stands v p.1) ≡ false = sym (values_more earlier p v) ∙ fresh (earlier ++ p ∷ []) later e q v there in
      let none = (neither (stands v (all_values earlier)) (stands v p.1) both).1 in
      let no : ⊥ = cc in
      no

  apart_behind : (earlier pairs : Pairs) → first_bad rules declared earlier pairs ≡ None → (k q : Name) → k ≢ q → (v : Name)
      → stands v (values_of pairs k) ≡ true → stands v (values_of pairs q) ≡ true → ⊥
  apart_behind earlier [] e k q other v one two = let no : ⊥ = cc in no
  apart_behind earlier (p ∷ later) e k q other v one two =
      let none = none_bad earlier p later e in
      go (eq_by_cmp name_cmp k p.0) (eq_by_cmp name_cmp q p.0) refl refl one two none.1 (apart_behind (earlier ++ p ∷ []) later none.1 k q other v)
    where
      go : (a b : Bool) → eq_by_cmp name_cmp k p.0 ≡ a → eq_by_cmp name_cmp q p.0 ≡ b
          → stands v (unwrap_or (cond a (Some p.1) (map.find name_cmp k later)) []) ≡ true
          → stands v (unwrap_or (cond b (Some p.1) (map.find name_cmp q later)) []) ≡ true
          → first_bad rules declared (earlier ++ p ∷ []) later ≡ None
          → (stands v (values_of later k) ≡ true → stands v (values_of later q) ≡ true → ⊥) → ⊥
      go true true s t one two none behind = other (name_one k p.0 (equal _ s) ∙ sym (name_one q p.0 (equal _ t)))
      go true false s t one two none behind = here_alone earlier p later none q v one two
      go false true s t one two none behind = here_alone earlier p later none k v two one
      go false false s t one two none behind = behind one two

-- no value of a key is one of another
pub apart : (rules : Rules) (o : OptionsValue) → bad_key rules o ≡ None → (k q : Name) → k ≢ q → (v : Name)
    → stands v (values_of o.pairs k) ≡ true → stands v (values_of o.pairs q) ≡ true → ⊥
apart rules o none = apart_behind rules o.type_names [] o.pairs (first_none _ _ none).0

-- ---- values are texts

pub values_text : (o : OptionsValue) → AreSound o → (k : Name) → All IsUtf8 (values_of o.pairs k)
values_text o sound k = among o.pairs sound.texts
  where
    among : (pairs : Pairs) → All (λ (p : Name × List Name). All IsUtf8 p.1) pairs → All IsUtf8 (values_of pairs k)
    among [] all = All-nil IsUtf8
    among (p ∷ pairs) all = go (eq_by_cmp name_cmp k p.0) (all 0 p (omega arith)) (among pairs (λ i d lt. all (suc i) d (omega (arith, lt))))
      where
        go : (tied : Bool) → All IsUtf8 p.1 → All IsUtf8 (values_of pairs k) → All IsUtf8 (unwrap_or (cond tied (Some p.1) (map.find name_cmp k pairs)) [])
        go true here rest = here
        go false here rest = rest
