-- How many folders nest in bookmarks, and how much is allowed.
use Rattle.std.specs.Prelude.{ℕ, ◌+◌, max, nat_lt, cond, Option, Some}
use Rattle.std.specs.Ordering.{eq_by_cmp}
use Rattle.hm_tree.specs.Names.{Name, name_cmp}
use Rattle.hm_tree.specs.Nodes.{Tree, Shape, bare, mark, edge}
use Rattle.hm_tree_parts.specs.Lists.{head}
use Rattle.hm_format.specs.Formats.{depth_over}
use Rattle.hm_marks.specs.Contents.{Contents, nothing, link, folder, separator}
use Rattle.hm_marks.specs.FolderTrees.{folder_name}

-- ---- in a tree

-- what stands at a place of the tree of bookmarks
pub data Place : Type 0 where
  at_top : Place
  at_folder : Place
  at_list : Place
  at_item : Place
  at_link : Place

-- what an edge with a name leads to
abbrev pub below_place : Place → Name → Place
below_place at_top n = at_folder
below_place at_folder n = at_list
below_place at_list n = cond (eq_by_cmp name_cmp n head) at_item at_list
below_place at_item n = cond (eq_by_cmp name_cmp n folder_name) at_folder at_link
below_place at_link n = at_link

-- the edge `folder` of an item leads into one folder more; elsewhere that name is a key
abbrev pub folders_at : Place → Name → ℕ
folders_at at_top n = 0
folders_at at_folder n = 0
folders_at at_list n = 0
folders_at at_item n = cond (eq_by_cmp name_cmp n folder_name) 1 0
folders_at at_link n = 0

-- into how many folders, one in another, a path leads at the most
abbrev pub folders_in : Place → Shape → ℕ
folders_in p bare = 0
folders_in p mark = 0
folders_in p (edge n c r) = max (folders_at p n + folders_in (below_place p n) c) (folders_in p r)

abbrev pub folders_deep : Tree → ℕ
folders_deep t = folders_in at_top t.shape

-- ---- in what a file has

-- into how many folders, one in another, what stands in a folder leads at the most
abbrev pub nesting : {L F S : Type 0} → Contents L F S → ℕ
nesting nothing = 0
nesting (link l rest) = nesting rest
nesting (folder f inside rest) = max (1 + nesting inside) (nesting rest)
nesting (separator s rest) = nesting rest

-- ---- the limits

-- so many folders may nest
abbrev pub most_folders : ℕ
most_folders = 50

-- where more folders nest than may, how many do; else the depth of the tree, where that is over the limit of all formats
abbrev pub marks_over : Tree → Option ℕ
marks_over t = cond (nat_lt most_folders (folders_deep t)) (Some (folders_deep t)) (depth_over t)
