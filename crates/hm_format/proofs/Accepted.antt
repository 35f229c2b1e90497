-- The values of a key obey its rule, where no key is bad.
use Rattle.std.proofs.Common.{◌≡◌, ℕ, suc, ◌<◌, Bool, true, false, not, cond, ◌&&◌, ◌||◌, IsTrue, List, [], ◌∷◌, ◌++◌, length, unwrap_or, Option, Some, None, Ok, refl, sym, ap, ◌∙◌, arith}
use Rattle.std.specs.List.{find, list_all, list_any}
use Rattle.std.specs.Option.{option_map, option_or}
use Rattle.std.specs.Ordering.{eq_by_cmp}
use Rattle.std.proofs.lemmas.Bool.Decides.{nat_tests}
use Rattle.std.specs.FinMap as map
use Rattle.std.specs.FinSet.{contains-from_list}
use Rattle.hm_tree.specs.Names.{Name, name_cmp}
use Rattle.hm_tree.proofs.Sorted.{name_total, name_one}
use Rattle.hm_schema.specs.Values.{OptionsValue, SchemaValue}
use Rattle.hm_format.specs.Options.{Rule, Rules, Pairs, is_among, is_declared, has_double, exceeds, values_of, breaks, is_bad, first_bad, is_missing, bad_key, accepted, place_of}
use Rattle.hm_facts.proofs.Orderings.{equal}

pub neither : (a b : Bool) → (a || b) ≡ false → (a ≡ false) × (b ≡ false)
neither true b e = let no : ⊥ = cc in absurd no
neither false b e = (refl, e)

pub not_false : (b : Bool) → not b ≡ false → b ≡ true
not_false true e = refl
not_false false e = let no : ⊥ = cc in absurd no

pub record Obeys (declared : List Name) (rule : Rule) (values : List Name) : Type 0 where
  pub within : exceeds rule.most (length values) ≡ false
  pub allowed : IsTrue rule.declared → list_all (is_declared declared) values ≡ true
  pub once : has_double values ≡ false

module _ (rules : Rules) (declared : List Name) where
  obeys : (rule : Rule) (earlier : Pairs) (p : Name × List Name) → breaks (Some rule) declared earlier p ≡ false → Obeys declared rule p.1
  obeys rule earlier p e =
      let one = neither _ _ e in
      let two = neither _ _ one.1 in
      let three = neither _ _ two.1 in
      let four = neither _ _ three.1 in
      record {
        within = two.0;
        allowed = λ yes. not_false _ (sym (ap (λ d. d && not (list_all (is_declared declared) p.1)) yes) ∙ three.0);
        once = four.0;
      }

  few : (most : Option ℕ) → exceeds most 0 ≡ false
  few None = refl
  few (Some n) = grind (arith, nat_tests)

  none_obey : (rule : Rule) → Obeys declared rule []
  none_obey rule = record { within = few rule.most; allowed = λ _. refl; once = grind (arith, nat_tests) }

  module _ (k : Name) (rule : Rule) (known : map.find name_cmp k rules ≡ Some rule) (earlier : Pairs) (p : Name × List Name) (later : Pairs)
      (rest : first_bad rules declared (earlier ++ p ∷ []) later ≡ None → Obeys declared rule (values_of later k)) where
    one_obeys : (tied : Bool) → eq_by_cmp name_cmp k p.0 ≡ tied → is_bad rules declared earlier p ≡ false
        → first_bad rules declared (earlier ++ p ∷ []) later ≡ None
        → Obeys declared rule (unwrap_or (cond tied (Some p.1) (map.find name_cmp k later)) [])
    one_obeys true tied good none =
        let same : k ≡ p.0 = name_one k p.0 (equal _ tied) in
        let known_here : map.find name_cmp p.0 rules ≡ Some rule = ap (λ k. map.find name_cmp k rules) (sym same) ∙ known in
        obeys rule earlier p (sym (ap (λ r. breaks r declared earlier p) known_here) ∙ good)
    one_obeys false tied good none = rest none

    pair_obeys : (bad : Bool) → is_bad rules declared earlier p ≡ bad → cond bad (Some p.0) (first_bad rules declared (earlier ++ p ∷ []) later) ≡ None
        → Obeys declared rule (values_of (p ∷ later) k)
    pair_obeys true bad e = let no : ⊥ = cc in absurd no
    pair_obeys false good e = one_obeys (eq_by_cmp name_cmp k p.0) refl good e

  pub obey : (k : Name) (rule : Rule) → map.find name_cmp k rules ≡ Some rule → (earlier pairs : Pairs) → first_bad rules declared earlier pairs ≡ None
      → Obeys declared rule (values_of pairs k)
  obey k rule known earlier [] e = none_obey rule
  obey k rule known earlier (p ∷ later) e =
      pair_obeys k rule known earlier p later (obey k rule known (earlier ++ p ∷ []) later) (is_bad rules declared earlier p) refl e

-- ---- of all keys

pub first_none : (a b : Option Name) → option_or a b ≡ None → (a ≡ None) × (b ≡ None)
first_none None b e = (refl, e)
first_none (Some x) b e = let no : ⊥ = cc in absurd no

-- the values of each key obey its rule
pub obey_all : (rules : Rules) (o : OptionsValue) → bad_key rules o ≡ None → (k : Name) (rule : Rule) → map.find name_cmp k rules ≡ Some rule
    → Obeys o.type_names rule (values_of o.pairs k)
obey_all rules o none k rule known = obey rules o.type_names k rule known [] o.pairs (first_none _ _ none).0

-- the keys that have to have values have some
pub none_missing : (rules : Rules) (o : OptionsValue) → bad_key rules o ≡ None → find (is_missing o.pairs) rules ≡ None
none_missing rules o none = go (find (is_missing o.pairs) rules) (first_none _ _ none).1
  where
    go : (found : Option (Name × Rule)) → option_map (λ r. r.0) found ≡ None → found ≡ None
    go None e = refl
    go (Some r) e = let no : ⊥ = cc in absurd no

-- ---- options that are accepted

-- their schema is the wanted one
pub schema_given : (bad : Option Name) (wanted s : SchemaValue) → accepted bad wanted ≡ Ok s → wanted ≡ s
schema_given None wanted s e = cc
schema_given (Some key) wanted s e = let no : ⊥ = cc in absurd no

-- and no key of theirs is bad
pub no_bad_key : (bad : Option Name) (wanted s : SchemaValue) → accepted bad wanted ≡ Ok s → bad ≡ None
no_bad_key None wanted s e = refl
no_bad_key (Some key) wanted s e = let no : ⊥ = cc in absurd no

-- ---- the place of a name that is declared

pub place_below : (k : Name) (names : List Name) → is_among names k ≡ true → place_of k names < length names
place_below k names e = listed names (sym (contains-from_list name_total names k) ∙ e)
  where
    listed : (names : List Name) → list_any (eq_by_cmp name_cmp k) names ≡ true → place_of k names < length names
    listed [] e = let no : ⊥ = cc in absurd no
    listed (n ∷ ns) e = here (eq_by_cmp name_cmp k n) e (listed ns)
      where
        here : (tied : Bool) → (tied || list_any (eq_by_cmp name_cmp k) ns) ≡ true
            → (list_any (eq_by_cmp name_cmp k) ns ≡ true → place_of k ns < length ns) → cond tied 0 (suc (place_of k ns)) < suc (length ns)
        here true e rest = omega arith
        here false e rest = let lt = rest e in omega (arith, lt)
