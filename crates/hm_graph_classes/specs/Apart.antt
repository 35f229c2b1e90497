-- Numbers of the vertices of a graph by which alike ones are never apart.
use Rattle.std.specs.Prelude.{◌≡◌, ℕ, Bool, true, false, ◌<◌, List, length, cond, Some}
use Rattle.std.specs.Option.{unwrap_or}
use Rattle.std.specs.Ordering.{is_eq}
use Rattle.std.specs.BTreeMap.{BTreeMap, get}
use Rattle.hm_graph.specs.Same.{Graph, AreAlike}
use Rattle.hm_graph_classes.specs.Reduced.{class_at}
use Rattle.hm_graph_classes.specs.Indexed.{Key, key_cmp}
use Rattle.hm_graph_classes.specs.Partitions.{IsKey, HaveOneKey}
use Rattle.hm_graph_classes.specs.Calm.{flag_at}

-- alike vertices have one number
pub record Respects (g : Graph) (cs : List ℕ) : Type 0 where
  pub size : length cs ≡ length g
  pub alike : (i j : ℕ) → i < length g → j < length g → AreAlike g i j → class_at cs i ≡ class_at cs j

-- calm vertices keep their numbers, and others with one key have one number
pub record IsRenumbered (g : Graph) (calm : List Bool) (old new : List ℕ) : Type 0 where
  pub size : length new ≡ length g
  pub kept : (i : ℕ) → i < length g → flag_at calm i ≡ true → class_at new i ≡ class_at old i
  pub moved : (i j : ℕ) → i < length g → j < length g → flag_at calm i ≡ false → flag_at calm j ≡ false → HaveOneKey g old i j
      → class_at new i ≡ class_at new j

-- the number of a vertex is that of its key in a map, where it is put if there was none
pub record IsPut (g : Graph) (classes : List ℕ) (i : ℕ) (before after : BTreeMap Key ℕ) (r : ℕ) : Type 0 where
  pub key : Key
  pub is : IsKey g classes i key
  pub value : ℕ
  pub first : r ≡ unwrap_or (get key_cmp before key) value
  pub put : (q : Key) → get key_cmp after q ≡ cond (is_eq (key_cmp key q)) (Some r) (get key_cmp before q)

-- the vertices before one have got their numbers: a map has those of the keys of all that aren't calm
pub record IsRenumbering (g : Graph) (calm : List Bool) (old new : List ℕ) (bound : ℕ) (known : BTreeMap Key ℕ) : Type 0 where
  pub size : length new ≡ bound
  pub kept : (i : ℕ) → i < bound → flag_at calm i ≡ true → class_at new i ≡ class_at old i
  pub moved : (i j : ℕ) → i < bound → j < bound → flag_at calm i ≡ false → flag_at calm j ≡ false → HaveOneKey g old i j
      → class_at new i ≡ class_at new j
  pub has : (q : Key) (i : ℕ) → i < bound → flag_at calm i ≡ false → IsKey g old i q → get key_cmp known q ≡ Some (class_at new i)
