-- What a store holds: a finite map from names to bytes. Its laws are in proofs/Contents.antt.
use Rattle.std.specs.Prelude.{ℕ, List, Option}
use Rattle.std.specs.FinMap.{FinMap, empty, get, insert, remove}
use Rattle.hm_tree.specs.Names.{Name, name_cmp}

abbrev pub Contents : Type 0
Contents = FinMap name_cmp (List ℕ)

-- contents with no name
unfoldable pub nothing_held : Contents
nothing_held = empty

-- the bytes of a name, if it has any
unfoldable pub held : Contents → Name → Option (List ℕ)
held contents name = get contents name

-- the contents with these bytes at the name, and all else as it was
unfoldable pub replaced : Contents → Name → List ℕ → Contents
replaced contents name bytes = insert contents name bytes

-- the contents without the name, and all else as it was
unfoldable pub removed : Contents → Name → Contents
removed contents name = remove contents name
