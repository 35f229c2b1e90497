-- The numbers of nodes: a node stands before its children, and these before what follows it.
use Rattle.std.specs.Prelude.{◌≡◌, ◌+◌, ℕ, Bool, true, false, cond, ◌||◌, List, [], ◌∷◌, ◌++◌, length, All}
use Rattle.std.specs.Ordering.{nat_cmp, match_ordering}
use Rattle.std.specs.Cmp.Lexicographic.{slice_cmp}
use Rattle.serde_json.specs.Data.{Data, null, boolean, number, string, array, object, Items, no_items, item, Members, no_members, member}
use Rattle.hm_json_nodes.specs.Nodes.{children_key, is_link, is_folder}

abbrev mutual
  -- items and the nodes below each
  pub listed : Items → List Data
  listed no_items = []
  listed (item d ds) = d ∷ (below d ++ listed ds)

  -- the nodes below one: those of its children, if it is a folder
  pub below : Data → List Data
  below null = []
  below (boolean b) = []
  below (number n) = []
  below (string s) = []
  below (array ds) = []
  below (object ms) = cond (is_folder (object ms)) (children_listed ms) []

  -- those in an array
  pub items_listed : Data → List Data
  items_listed null = []
  items_listed (boolean b) = []
  items_listed (number n) = []
  items_listed (string s) = []
  items_listed (array ds) = listed ds
  items_listed (object ms) = []

  -- those in the children among members
  pub children_listed : Members → List Data
  children_listed no_members = []
  children_listed (member k d ms) = match_ordering (slice_cmp nat_cmp children_key k) (children_listed ms) (items_listed d) (children_listed ms)

-- a node is a link or a folder. What stands in a folder isn't asked here
abbrev pub is_node : Data → Bool
is_node d = is_link d || is_folder d

-- the number of the first of some values that isn't so, from 1
pub record IsFirstBad {X : Type 0} (is_good : X → Bool) (xs : List X) (number : ℕ) : Type 0 where
  pub before : List X
  pub bad : X
  pub after : List X
  pub are : xs ≡ before ++ bad ∷ after
  pub good : All (λ x. is_good x ≡ true) before
  pub isnt : is_good bad ≡ false
  pub place : number ≡ length before + 1
