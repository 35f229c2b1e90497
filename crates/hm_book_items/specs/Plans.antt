-- Items as numbers: an old item by where it stands in its file, a new one by its place under its key.
use Rattle.std.specs.Prelude.{◌≡◌, ℕ, ◌+◌, ◌<◌, All, IfSome, List, [], ◌∷◌, ◌++◌, length, get_or, slice_get, map, Option, drop}
use Rattle.std.specs.List.{range_with_len}
use Rattle.hm_tree.specs.Names.{Name, name_cmp}
use Rattle.hm_book_items.specs.Items.{of_key, below_key, survivor, fresh}
use Rattle.hm_book_items.specs.declared.planned.NewItem.{NewItem}

-- keys with where they stand
abbrev pub numbered : ℕ → List Name → List (Name × ℕ)
numbered i [] = []
numbered i (k ∷ ks) = (k, i) ∷ numbered (i + 1) ks

-- the places under each key
abbrev pub places : List (Name × ℕ) → List (Name × List ℕ)
places [] = []
places (e ∷ es) = (e.0, range_with_len 0 e.1) ∷ places es

-- the keys of items, and how many there are to be with each key of a tree
abbrev pub keys_of : {C : Type 0} → List (Name × C) → List Name
keys_of items = map (λ x. x.0) items

abbrev pub wanted_of : {A : Type 0} → List (Name × List A) → List (Name × ℕ)
wanted_of tree = map (λ e. (e.0, length e.1)) tree

-- what a slot says
abbrev pub slots_of : List (Name × ℕ) → List NewItem → List (Name × Option ℕ × ℕ)
slots_of wanted [] = []
slots_of wanted (s ∷ ss) = ((get_or wanted s.edge ([], 0)).0, s.from, s.place) ∷ slots_of wanted ss

-- a slot is of an edge, at one of its places, and comes from one of so many old items, if from any
pub record IsWithin (wanted : List (Name × ℕ)) (count : ℕ) (s : NewItem) : Type 0 where
  pub edge : s.edge < length wanted
  pub place : s.place < (get_or wanted s.edge ([], 0)).1
  pub from : IfSome s.from (λ i. i < count)

abbrev pub AreWithin : List (Name × ℕ) → ℕ → List NewItem → Type 0
AreWithin wanted count slots = All (IsWithin wanted count) slots

-- how many of these keys each edge's is
pub record AreCounts (wanted : List (Name × ℕ)) (keys : List Name) (counts : List ℕ) : Type 0 where
  pub same : length counts ≡ length wanted
  pub each : (i : ℕ) → i < length wanted → get_or counts i 0 ≡ length (of_key name_cmp (get_or wanted i ([], 0)).0 (numbered 0 keys))

-- the places of each edge past a count
abbrev pub past : List (Name × ℕ) → List ℕ → List (Name × Option ℕ × ℕ)
past [] counts = []
past (e ∷ es) [] = []
past (e ∷ es) (c ∷ cs) = fresh name_cmp e.0 (drop c (range_with_len 0 e.1)) ++ past es cs

-- the place of an item behind items with these keys: how many of them have its key, if there are more places under it
abbrev pub place_for : List (Name × ℕ) → List Name → Name → Option ℕ
place_for wanted keys k = slice_get (below_key name_cmp k (places wanted)) (length (of_key name_cmp k (numbered 0 keys)))

-- the slot of an item behind items with these keys, if it survives
abbrev pub next_survivor : List (Name × ℕ) → List Name → Name → ℕ → List (Name × Option ℕ × ℕ)
next_survivor wanted keys k item = survivor name_cmp (k, item) (place_for wanted keys k)

-- an edge is that of a key, and this is one of its places
pub record IsPlaceUnder (wanted : List (Name × ℕ)) (k : Name) (edge place : ℕ) : Type 0 where
  pub among : edge < length wanted
  pub key_is : (get_or wanted edge ([], 0)).0 ≡ k
  pub within : place < (get_or wanted edge ([], 0)).1

-- the places of one edge past a count
abbrev pub past_at : List (Name × ℕ) → ℕ → ℕ → List (Name × Option ℕ × ℕ)
past_at wanted i count = let e = get_or wanted i ([], 0) in fresh name_cmp e.0 (drop count (range_with_len 0 e.1))
