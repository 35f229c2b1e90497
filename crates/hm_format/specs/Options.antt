-- Which options a format takes, by a table of its keys.
use Rattle.std.specs.Prelude.{◌≡◌, ℕ, suc, Bool, true, false, not, cond, ◌&&◌, ◌||◌, nat_lt, codes, All, List, [], ◌∷◌, ◌++◌, length, take, get_or, is_some, unwrap_or, Option, Some, None, Result, Ok, Err, IsUtf8}
use Rattle.std.specs.List.{find, list_all, flat_map}
use Rattle.std.specs.Option.{option_or, option_map}
use Rattle.std.specs.Ordering.{eq_by_cmp}
use Rattle.std.specs.FinMap as map
use Rattle.std.specs.FinSet.{from_list, contains}
use Rattle.hm_tree.specs.Names.{Name, name_cmp}
use Rattle.hm_tree.specs.Sets.{ascending}
use Rattle.hm_schema.specs.Values.{OptionsValue, SchemaValue}
use Rattle.hm_schema.specs.WellFormed.{IsWellFormedNode}
use Rattle.hm_format.specs.declared.keys.Key.{Key}

-- of a key: how many values it has at the most, whether there has to be one, and whether each is a node that is declared
pub record Rule : Type 0 where
  pub most : Option ℕ
  pub required : Bool
  pub declared : Bool

-- each key of a format with its rule, and each key that is written with its values
abbrev pub Rules : Type 0
Rules = List (Name × Rule)

abbrev pub Pairs : Type 0
Pairs = List (Name × List Name)

abbrev pub rule_of : Key → Name × Rule
rule_of k = (k.name.now, record { most = k.most; required = k.required; declared = k.declared })

abbrev pub is_among : List Name → Name → Bool
is_among names k = contains {R = name_cmp} (from_list names) k

-- a node that a lens file declares, of those that it names: `Empty` is there without a line, and never declared
abbrev pub is_declared : List Name → Name → Bool
is_declared nodes k = is_among nodes k && not (eq_by_cmp name_cmp k (codes "Empty"))

-- a name stands twice where the set of them has fewer
abbrev pub has_double : List Name → Bool
has_double names = nat_lt (length (ascending (from_list names))) (length names)

abbrev pub exceeds : Option ℕ → ℕ → Bool
exceeds None n = false
exceeds (Some most) n = nat_lt most n

-- the values of a key; none where it isn't written
abbrev pub values_of : Pairs → Name → List Name
values_of pairs k = unwrap_or (map.find name_cmp k pairs) []

-- the values that stand in some pairs
abbrev pub all_values : Pairs → List Name
all_values pairs = flat_map (λ p. p.1) pairs

-- ---- the first bad key

-- a key isn't the format's, or stood before; or of its values there are too many, one isn't allowed, or one stands twice,
-- in this pair or in it and an earlier one
abbrev pub breaks : Option Rule → List Name → Pairs → Name × List Name → Bool
breaks None nodes earlier p = true
breaks (Some rule) nodes earlier p =
    is_some (map.find name_cmp p.0 earlier)
    || (exceeds rule.most (length p.1)
    || ((rule.declared && not (list_all (is_declared nodes) p.1))
    || (has_double p.1 || not (list_all (λ v. not (is_among (all_values earlier) v)) p.1))))

abbrev pub is_bad : Rules → List Name → Pairs → Name × List Name → Bool
is_bad rules nodes earlier p = breaks (map.find name_cmp p.0 rules) nodes earlier p

-- the first key that is bad, behind those that stood before
abbrev pub first_bad : Rules → List Name → Pairs → Pairs → Option Name
first_bad rules nodes earlier [] = None
first_bad rules nodes earlier (p ∷ later) =
    cond (is_bad rules nodes earlier p) (Some p.0) (first_bad rules nodes (earlier ++ p ∷ []) later)

-- whether the pair at a place is bad
abbrev pub is_bad_at : Rules → OptionsValue → ℕ → Bool
is_bad_at rules o place = is_bad rules o.type_names (take place o.pairs) (get_or o.pairs place ([], []))

-- the first key that has to have a value, and has none
abbrev pub is_missing : Pairs → Name × Rule → Bool
is_missing pairs r = r.1.required && not (nat_lt 0 (length (values_of pairs r.0)))

abbrev pub first_missing : Rules → Pairs → Option Name
first_missing rules pairs = option_map (λ r. r.0) (find (is_missing pairs) rules)

-- the key for which options aren't those of the format
abbrev pub bad_key : Rules → OptionsValue → Option Name
bad_key rules o = option_or (first_bad rules o.type_names [] o.pairs) (first_missing rules o.pairs)

-- the schema of options of which none is bad, or the key that is
abbrev pub accepted : Option Name → SchemaValue → Result SchemaValue Name
accepted None s = Ok s
accepted (Some key) s = Err key

-- ---- what is sound

-- the options of a lens file: values are UTF-8, and the nodes that it declares each have a name, are well formed among them,
-- and have no twins
pub record AreSound (o : OptionsValue) : Type 0 where
  pub texts : All (λ (p : Name × List Name). All IsUtf8 p.1) o.pairs
  pub named : length o.type_names ≡ length o.types
  pub types : All (λ n. IsWellFormedNode (length o.types) n × (n.twins ≡ [])) o.types

-- how many names stand before the first that is k
abbrev pub place_of : Name → List Name → ℕ
place_of k [] = 0
place_of k (n ∷ ns) = cond (eq_by_cmp name_cmp k n) 0 (suc (place_of k ns))
