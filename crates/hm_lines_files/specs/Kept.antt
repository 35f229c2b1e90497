-- What stays of a file of components, whatever it is written for: said of the two files alone, by what stands in them and what
-- it shows (docs/FORMATS.md, "How a file of content lines is written anew"). Components from before and now are matched in
-- their order, by their key and by their place, which is how many before them have this key.
use Rattle.std.specs.Prelude.{◌≡◌, ◌<◌, ◌≤◌, ℕ, List, [], ◌∷◌, ◌++◌, map, length}
use Rattle.hm_tree.specs.Names.{Name, name_cmp}
use Rattle.hm_book_items.specs.Items.{of_key}
use Rattle.hm_book_cards.specs.Cards.{Shown}
use Rattle.hm_lines_cards.specs.Kept.{AreKept}
use Rattle.hm_lines_files.specs.Components.{Bytes, Component, Piece, other, item, key_of}

-- a component and what it became: its key stays, of its lines what has to, and the line that ends it
pub record IsKept (key : Name) (shown : Shown) (old new : Component) : Type 0 where
  pub key_is : key_of key new ≡ key_of key old
  pub lines : AreKept shown old.lines new.lines old.lines new.lines
  pub end : new.end ≡ old.end

-- how many components have the key of another one
abbrev pub count_like : Name → Component → List Component → ℕ
count_like key c cs = length (of_key name_cmp (key_of key c) (map (λ d. (key_of key d, d)) cs))

-- the pieces of a file from before that stand behind some components, and pieces now, of a file that has these components now
pub data ArePieces (key : Name) (shown : Shown) (now : List Component) : List Component → List Piece → List Piece → Type 0 where
  -- new components stand behind all
  behind : {before : List Component} (new : List Component) → ArePieces key shown now before [] (map item new)
  -- a line of no component stays
  stays : {line : Bytes} {before : List Component} {old new : List Piece} → ArePieces key shown now before old new
      → ArePieces key shown now before (other line ∷ old) (other line ∷ new)
  -- a component survives where there is its place now: there are more of its key than stood before it
  survives : {c d : Component} {before : List Component} {old new : List Piece} → count_like key c before < count_like key c now → IsKept key shown c d
      → ArePieces key shown now (before ++ c ∷ []) old new → ArePieces key shown now before (item c ∷ old) (item d ∷ new)
  -- and it goes where there isn't
  goes : {c : Component} {before : List Component} {old new : List Piece} → count_like key c now ≤ count_like key c before
      → ArePieces key shown now (before ++ c ∷ []) old new → ArePieces key shown now before (item c ∷ old) new
