-- What a writer sees of an archive.
use Rattle.std.specs.Prelude.{true, Some, None}
use Rattle.hm_tree.specs.Nodes.{Node, empty}
use Rattle.hm_tree.specs.Archives.{Archive}

-- its node, if its root isn't missing
abbrev pub present : Archive → Node true
present None = empty
present (Some node) = node
