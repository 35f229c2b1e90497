-- Forests of vertices, in which a search joins those that have to be the same.
use Rattle.std.specs.Prelude.{◌≡◌, ◌↔◌, ℕ, ◌<◌, ◌≤◌, ◌⊎◌, List, length, slice_index_or}

-- each vertex has a parent, a root itself
abbrev pub up : List ℕ → ℕ → ℕ
up parents i = slice_index_or parents i i

-- r is reached from i by parents
pub data Climbs (parents : List ℕ) : ℕ → ℕ → Type 0 where
  here : {i : ℕ} → Climbs parents i i
  above : {i r : ℕ} → Climbs parents (up parents i) r → Climbs parents i r

-- the same forest with shorter ways: each new parent is above in the old one, roots stay, and what is equal along new
-- parents is equal along old ones
pub record IsShortened (old new : List ℕ) : Type 0 where
  pub size : length new ≡ length old
  pub falls : (i : ℕ) → up new i ≤ i
  pub climbs : (i : ℕ) → Climbs old i (up new i)
  pub back : (f : ℕ → ℕ) → ((i : ℕ) → f i ≡ f (up new i)) → (i : ℕ) → f i ≡ f (up old i)
  pub roots : (i : ℕ) → (up new i ≡ i) ↔ (up old i ≡ i)

-- the roots above two vertices, the lesser first
pub record AreRoots (parents : List ℕ) (a b low high : ℕ) : Type 0 where
  pub climb : (Climbs parents a low × Climbs parents b high) ⊎ (Climbs parents a high × Climbs parents b low)
  pub order : low ≤ high
  pub in_range : high < length parents
  pub low_root : up parents low ≡ low
  pub high_root : up parents high ≡ high
