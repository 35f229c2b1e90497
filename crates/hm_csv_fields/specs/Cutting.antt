-- What is left to be read of a field, and what was read of it.
use Rattle.std.specs.Prelude.{All, IsUtf8, List, ℕ, ◌++◌, map, Vec}
use Rattle.std.specs.declared.alloc.Global.{Global}
use Rattle.std.specs.Borrow.{Bor}
use Rattle.hm_csv_fields.specs.Pieces.{pieces_behind, led}
use Rattle.hm_csv_fields.specs.declared.cutting.Cut.{Cut}

abbrev pub bytes_of : Vec ℕ Global → List ℕ
bytes_of v = v.items

abbrev pub all_bytes : Vec (Vec ℕ Global) Global → List (List ℕ)
all_bytes v = map bytes_of v.items

-- the whole pieces, and those that come of the piece that is read and of the rest
abbrev pub joined : Cut → List ℕ → List (List ℕ)
joined cut rest = all_bytes cut.whole ++ led cut.piece.items (pieces_behind cut.behind_backslash rest)

abbrev pub lent : List (Bor (List ℕ)) → List (List ℕ)
lent bs = map (λ b. b.now) bs

abbrev pub AreLentUtf8 : List (Bor (List ℕ)) → Type 0
AreLentUtf8 bs = All (λ b. IsUtf8 b.now) bs
