-- What is written of a tree behind the bytes from before, and what stays.
use Rattle.std.specs.Prelude.{◌≡◌, ℕ, List, Some, Ok}
use Rattle.hm_tree.specs.Nodes.{Tree}
use Rattle.hm_format.specs.Formats.{FormatMeaning}
use Rattle.hm_marks.specs.Kept.{Keeps}
use Rattle.hm_marks_schema.specs.Schema.{schema_under}
use Rattle.hm_marks_schema.specs.Bookmarks.{AreBookmarksAnew}
use Rattle.hm_marks_schema.specs.Nesting.{marks_over}
use Rattle.serde_json.specs.Data.{Data, object, Members, put}
use Rattle.serde_json.specs.Find.{get}
use Rattle.serde_json.specs.Written.{compact_text}
use Rattle.hm_json_nodes.specs.Nodes.{children_key, Contents, json, AreAlike, filled, spelled}
use Rattle.hm_json_marks.specs.Roots.{roots_key, bar_key, other_key}
use Rattle.hm_json_marks.specs.Files.{IsFile, JsonReads}

-- the members of a file, and those of its member `roots`
pub record HasMembers (d : Data) : Type 0 where
  pub file : Members
  pub roots : Members
  pub is : d ≡ object file
  pub roots_are : get roots_key d ≡ Some (object roots)

-- a file with other values at its two roots
abbrev pub with_roots : Members → Members → Data → Data → Data
with_roots file roots bar other = object (put roots_key (object (put other_key other (put bar_key bar roots))) file)

-- of a file for which a tree is written all stays but what stands in its two folders
pub record IsWrittenAnew (t : Tree) (before after : List ℕ) : Type 0 where
  pub old : IsFile before
  pub members : HasMembers old.roots.file
  pub bar : Contents
  pub other : Contents
  pub anew : AreBookmarksAnew json old.bar.contents old.other.contents t bar other
  pub text : after ≡ compact_text (with_roots members.file members.roots (object (filled (spelled bar) old.bar.members)) (object (filled (spelled other) old.other.members)))

-- the bytes from before stay where they are read as the tree
pub data JsonWrites (t : Tree) (before : List ℕ) : List ℕ → Type 0 where
  stays : JsonReads before (Ok t) → JsonWrites t before before
  anew : {after : List ℕ} → ¬ (JsonReads before (Ok t)) → IsWrittenAnew t before after → JsonWrites t before after

-- ---- what stays

-- the members of a root but for its children
abbrev pub SameBut : List ℕ → Members → Members → Type 0
SameBut k old new = (d : Data) → put k d new ≡ put k d old

-- all of a file stays but for what stands in its two folders, and of that all that has to
pub record JsonKeeps (before after : List ℕ) : Type 0 where
  pub old : IsFile before
  pub new : IsFile after
  pub old_members : HasMembers old.roots.file
  pub new_members : HasMembers new.roots.file
  pub file_stays : SameBut roots_key old_members.file new_members.file
  pub roots_stay : (bar other : Data) → put other_key other (put bar_key bar new_members.roots) ≡ put other_key other (put bar_key bar old_members.roots)
  pub bar_stays : SameBut children_key old.bar.members new.bar.members
  pub other_stays : SameBut children_key old.other.members new.other.members
  pub bar : Keeps json AreAlike old.bar.contents new.bar.contents
  pub other : Keeps json AreAlike old.other.contents new.other.contents

-- ---- the format

abbrev pub json_marks : FormatMeaning
json_marks = record {
  tag = 1;
  schema_of = schema_under;
  reads = λ o bytes r. JsonReads bytes r;
  over = marks_over;
  writes = λ o t before after. JsonWrites t before after;
  keeps = λ o before after. JsonKeeps before after;
}
