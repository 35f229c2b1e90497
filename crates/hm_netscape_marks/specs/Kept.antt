-- What stays of a file of Netscape bookmarks, whatever it is written for: said of what stood in it before and what does now.
use Rattle.std.specs.Prelude.{◌≡◌, ℕ, cond, List, [], ◌∷◌, Option, Some, None, take}
use Rattle.hm_marks.specs.Contents.{nothing, link, folder, separator}
use Rattle.hm_marks.specs.Kept.{Keeps}
use Rattle.hm_marks_tokens.specs.Bytes.{greater}
use Rattle.hm_marks_tokens.specs.Grammar.{Entry, Contents}
use Rattle.hm_netscape_entries.specs.Entries.{html, IsSameLink}
use Rattle.hm_netscape_entries.specs.Toolbars.{is_toolbar, bar_of, other_of}
use Rattle.hm_netscape_entries.specs.Written.{tidied}
use Rattle.hm_netscape_files.specs.Anew.{bar_entry}
use Rattle.hm_netscape_files.specs.Files.{IsFile}

-- bytes that no separator has for its attributes: its tag would end there
abbrev pub mark : List ℕ
mark = greater ∷ []

-- what stands in the outermost folder, with such a separator in the place of the bookmarks bar
abbrev pub with_separator : Contents → Contents
with_separator nothing = nothing
with_separator (link e rest) = link e (with_separator rest)
with_separator (folder e inside rest) = cond (is_toolbar e.attributes) (separator mark rest) (folder e inside (with_separator rest))
with_separator (separator a rest) = separator a (with_separator rest)

-- the same entry is the bookmarks bar, and since separators stay in their place among all that stays, so does this one
pub record BarStays (e : Entry) (old new : Contents) : Type 0 where
  pub entry : bar_entry new ≡ Some e
  pub place : Keeps html IsSameLink (with_separator old) (with_separator new)

-- where there was a bookmarks bar
abbrev pub BarStaysWhere : Option Entry → Contents → Contents → Type 0
BarStaysWhere None old new = Unit {0}
BarStaysWhere (Some e) old new = BarStays e old new

-- of what stood in the outermost folder all stays that has to: in the bookmarks bar, beside it, and this folder itself
pub record OutermostKeeps (old new : Contents) : Type 0 where
  pub bar : Keeps html IsSameLink (bar_of old) (bar_of new)
  pub other : Keeps html IsSameLink (other_of old) (other_of new)
  pub bar_itself : BarStaysWhere (bar_entry old) old new

-- all of a file stays but for what stands in its outermost folder, and of that all that has to; a note is the same but for white
-- space at its end
pub record NetscapeKeeps (before after : List ℕ) : Type 0 where
  pub old : Contents
  pub new : Contents
  pub was : IsFile before old
  pub is : IsFile after new
  pub head_size : is.head ≡ was.head
  pub head_stays : take is.head after ≡ take was.head before
  pub tail_stays : is.tail ≡ was.tail
  pub entries : OutermostKeeps (tidied old) (tidied new)
