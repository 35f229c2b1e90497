-- A file as a list of items, each with a key, and its tree: below each key the list of the items with it, in file order.
-- K are the keys in the order R, A what an item shows, C what stands of it in the file.
use Rattle.std.specs.Prelude.{◌≡◌, ◌≢◌, ℕ, cond, T, List, [], ◌∷◌, ◌++◌, length, drop, take, slice_get, Option, Some, None, IfSome}
use Rattle.std.specs.declared.cmp.Ordering.{Ordering}
use Rattle.std.specs.Ordering.{eq_by_cmp}
use Rattle.std.specs.Option.{unwrap_or}
use Rattle.std.specs.FinMap.{is_sorted, find}

module _ {K : Type 0} (R : K → K → Ordering) where
  -- what the items with a key hold, in their order
  abbrev pub of_key : {A : Type 0} → K → List (K × A) → List A
  of_key k [] = []
  of_key k (x ∷ xs) = cond (eq_by_cmp R k x.0) (x.1 ∷ of_key k xs) (of_key k xs)

  -- what a tree has below a key; nothing where the key isn't there
  abbrev pub below_key : {A : Type 0} → K → List (K × List A) → List A
  below_key k tree = unwrap_or (find R k tree) []

  -- edges that are a tree: keys rise, and none has the empty list below it
  pub record IsTree {A : Type 0} (tree : List (K × List A)) : Type 0 where
    pub sorted : T (is_sorted R tree)
    pub filled : (k : K) → find R k tree ≢ Some []

  -- the tree of a list of items
  pub record IsGrouped {A : Type 0} (items : List (K × A)) (tree : List (K × List A)) : Type 0 where
    pub tree_is : IsTree tree
    pub each : (k : K) → below_key k tree ≡ of_key k items

  -- an item of the new file: its key, what stood of it in the old file if it survived, and what it is to show
  abbrev pub NewItem : Type 0 → Type 0 → Type 0
  NewItem C A = K × Option C × A

  -- an item with what the tree has at its key and place, if it has that much
  abbrev pub survivor : {C A : Type 0} → K × C → Option A → List (K × Option C × A)
  survivor x None = []
  survivor x (Some a) = (x.0, Some x.1, a) ∷ []

  -- the survivors among items that stand behind others: an item's place is how many before it have its key
  abbrev pub kept : {C A : Type 0} → List (K × List A) → List (K × C) → List (K × C) → List (K × Option C × A)
  kept tree before [] = []
  kept tree before (x ∷ rest) = survivor x (slice_get (below_key x.0 tree) (length (of_key x.0 before))) ++ kept tree (before ++ x ∷ []) rest

  -- the new items, by key and then by place: those at places past the old ones
  abbrev pub fresh : {C A : Type 0} → K → List A → List (K × Option C × A)
  fresh k [] = []
  fresh k (a ∷ l) = (k, None, a) ∷ fresh k l

  abbrev pub added : {C A : Type 0} → List (K × C) → List (K × List A) → List (K × Option C × A)
  added old [] = []
  added old (e ∷ es) = fresh e.0 (drop (length (of_key e.0 old)) e.1) ++ added old es

  -- a new tree written over an old file
  abbrev pub IsRewritten : {C A : Type 0} → List (K × C) → List (K × List A) → List (K × Option C × A) → Type 0
  IsRewritten old tree new = new ≡ kept tree [] old ++ added old tree

  -- what the items are to show
  abbrev pub shown : {C A : Type 0} → List (K × Option C × A) → List (K × A)
  shown [] = []
  shown (s ∷ ss) = (s.0, s.2) ∷ shown ss

  -- what the items of a file show
  abbrev pub seen : {C A : Type 0} → (C → A) → List (K × C) → List (K × A)
  seen show [] = []
  seen show (x ∷ xs) = (x.0, show x.1) ∷ seen show xs

  -- every item as it stands, and none but these
  abbrev pub unchanged : {C A : Type 0} → (C → A) → List (K × C) → List (K × Option C × A)
  unchanged show [] = []
  unchanged show (x ∷ xs) = (x.0, Some x.1, show x.1) ∷ unchanged show xs

  -- the items of the new file, as a format writes them
  abbrev pub written : {C A : Type 0} → (K → Option C → A → C) → List (K × Option C × A) → List (K × C)
  written write [] = []
  written write (s ∷ ss) = (s.0, write s.0 s.1 s.2) ∷ written write ss

  -- the item that stands at j of a file, if it survives: its place is how many of those before it have its key
  abbrev pub survivor_of : {C A : Type 0} → List (K × C) → List (K × List A) → ℕ → Option (K × C) → List (K × Option C × A)
  survivor_of old tree j None = []
  survivor_of old tree j (Some x) = survivor x (slice_get (below_key x.0 tree) (length (of_key x.0 (take j old))))

  abbrev pub survivor_at : {C A : Type 0} → List (K × C) → List (K × List A) → ℕ → List (K × Option C × A)
  survivor_at old tree j = survivor_of old tree j (slice_get old j)

  abbrev pub Each : {X : Type 0} → (X → Type 0) → List X → Type 0
  Each P [] = Unit {0}
  Each P (x ∷ xs) = P x × Each P xs

  -- how a format writes an item: P is what a tree's item must be under its key, Q what stands
  -- in a file under a key
  pub record IsWriting {C A : Type 0} (P : K → A → Type 0) (Q : K → C → Type 0) (show : C → A) (write : K → Option C → A → C) : Type 0 where
    pub shows : (k : K) (o : Option C) (a : A) → P k a → IfSome o (Q k) → show (write k o a) ≡ a
    pub stays : (k : K) (c : C) → Q k c → write k (Some c) (show c) ≡ c
    pub sound : (k : K) (o : Option C) (a : A) → P k a → IfSome o (Q k) → Q k (write k o a)
