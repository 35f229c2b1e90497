-- What stands in the outermost folder, written anew for a tree: what stands in the bookmarks bar and what stands beside it, each as
-- any folder, put together again.
use Rattle.std.specs.Prelude.{◌≡◌, Bool, true, false, cond, List, [], ◌∷◌, Option, Some, None, codes}
use Rattle.hm_tree.specs.Nodes.{Tree}
use Rattle.hm_marks.specs.Contents.{nothing, link, folder, separator}
use Rattle.hm_marks.specs.Pieces.{staying}
use Rattle.hm_marks_schema.specs.Bookmarks.{AreBookmarksAnew}
use Rattle.hm_marks_tokens.specs.Grammar.{Entry, Contents}
use Rattle.hm_netscape_entries.specs.Entries.{new_entry, html}
use Rattle.hm_netscape_entries.specs.Toolbars.{is_toolbar, bar_of, other_of}

-- what stands in front of the bookmarks bar: all, where there is none
abbrev pub in_front_of_bar : Contents → Contents
in_front_of_bar nothing = nothing
in_front_of_bar (link e rest) = link e (in_front_of_bar rest)
in_front_of_bar (folder e inside rest) = cond (is_toolbar e.attributes) nothing (folder e inside (in_front_of_bar rest))
in_front_of_bar (separator a rest) = separator a (in_front_of_bar rest)

-- the folder of the bookmarks bar, where there is one
abbrev pub bar_entry : Contents → Option Entry
bar_entry nothing = None
bar_entry (link e rest) = bar_entry rest
bar_entry (folder e inside rest) = cond (is_toolbar e.attributes) (Some e) (bar_entry rest)
bar_entry (separator a rest) = bar_entry rest

-- a new one
abbrev pub new_bar : Entry
new_bar = new_entry (codes " PERSONAL_TOOLBAR_FOLDER=\"true\"") (codes "Bookmarks bar")

-- a folder, and what stands in it, among what stands in another: behind as many as there are of some
abbrev pub put_behind : {X : Type 0} → List X → Entry → Contents → Contents → Contents
put_behind [] e inside c = folder e inside c
put_behind (x ∷ xs) e inside nothing = folder e inside nothing
put_behind (x ∷ xs) e inside (link f rest) = link f (put_behind xs e inside rest)
put_behind (x ∷ xs) e inside (folder f within rest) = folder f within (put_behind xs e inside rest)
put_behind (x ∷ xs) e inside (separator a rest) = separator a (put_behind xs e inside rest)

-- something stands there
abbrev pub is_something : Contents → Bool
is_something nothing = false
is_something (link e rest) = true
is_something (folder e inside rest) = true
is_something (separator a rest) = true

-- the bookmarks bar always stays; where there was none, a new one stands first if something is to stand in it
abbrev pub with_bar : {X : Type 0} → Option Entry → List X → Contents → Contents → Contents
with_bar (Some e) xs bar other = put_behind xs e bar other
with_bar None xs bar other = cond (is_something bar) (folder new_bar bar other) other

-- what stood in the outermost folder, written anew for the tree of a file: the bookmarks bar stands behind what stays of all that
-- stood in front of it
pub record IsAnew (old : Contents) (t : Tree) (new : Contents) : Type 0 where
  pub bar : Contents
  pub other : Contents
  pub made : AreBookmarksAnew html (bar_of old) (other_of old) t bar other
  pub new_is : new ≡ with_bar (bar_entry old) (staying html made.other.lists [] (in_front_of_bar old)) bar other
