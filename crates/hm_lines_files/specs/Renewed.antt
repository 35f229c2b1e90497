-- Pieces that are renewed: every other line stays, in its order; a component stays, goes, or is exchanged for another one;
-- and others follow behind all. This is what the rewriting of a file keeps, whatever the tree is.
use Rattle.std.specs.Prelude.{List, [], ◌∷◌, map, All}
use Rattle.hm_lines_files.specs.Components.{Bytes, Component, Piece, other, item}

pub data AreRenewed (Fits : Component → Type 0) : List Piece → List Piece → Type 0 where
  behind : (cs : List Component) → All Fits cs → AreRenewed Fits [] (map item cs)
  stays : {line : Bytes} {ps qs : List Piece} → AreRenewed Fits ps qs → AreRenewed Fits (other line ∷ ps) (other line ∷ qs)
  goes : (c : Component) {ps qs : List Piece} → AreRenewed Fits ps qs → AreRenewed Fits (item c ∷ ps) qs
  exchanged : {c d : Component} {ps qs : List Piece} → Fits d → AreRenewed Fits ps qs → AreRenewed Fits (item c ∷ ps) (item d ∷ qs)
