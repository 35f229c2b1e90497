-- The first news of a side, one name at a time.
use Rattle.std.specs.Prelude.{◌≡◌, ◌⊎◌, [], Some}
use Rattle.std.specs.declared.cmp.Ordering.TheVariants.{Less}
use Rattle.hm_tree.specs.declared.archive.State.TheVariants.{Present}
use Rattle.hm_tree.specs.Names.{Name, name_cmp}
use Rattle.hm_tree.specs.Nodes.{Tree, below}
use Rattle.hm_tree.specs.Archives.{Archive, under}
use Rattle.hm_tree.specs.States.{Path, state, IsWithin}
use Rattle.hm_outcome.specs.Trios.{Trio}
use Rattle.hm_report.specs.Reasons.{LosesFirst}

-- what the names before a name lead to is within an archive
abbrev pub IsWithinBefore : Tree → Archive → Name → Type 0
IsWithinBefore t o k = (j : Name) (c : Tree) → below j t ≡ Some c → name_cmp j k ≡ Less → IsWithin (Some c) (under j o)

-- the archive has the root, one side deleted it, and names lead to the other's first news
abbrev pub LosesHere : Trio → Path → Type 0
LosesHere t names = (state t.archive [] ≡ Present)
    × (LosesFirst (state t.archive) (state t.left) (state t.right) [] names ⊎ LosesFirst (state t.archive) (state t.right) (state t.left) [] names)
