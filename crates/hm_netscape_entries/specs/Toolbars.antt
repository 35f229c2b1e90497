-- The folder that a browser shows as its bookmarks bar.
use Rattle.std.specs.Prelude.{ℕ, Bool, List, cond, ◌&&◌, codes}
use Rattle.std.specs.List.{list_any}
use Rattle.std.specs.Str.{str_eq_ignore_ascii_case}
use Rattle.hm_marks.specs.Contents.{nothing, link, folder, separator}
use Rattle.hm_marks_tokens.specs.Attributes.{Attribute, value_bytes, attributes_of}
use Rattle.hm_marks_tokens.specs.Grammar.{Contents}

-- an attribute PERSONAL_TOOLBAR_FOLDER of the value `true`, both in any case
abbrev pub is_toolbar_attribute : Attribute → Bool
is_toolbar_attribute a =
    str_eq_ignore_ascii_case a.name (codes "personal_toolbar_folder") && str_eq_ignore_ascii_case (value_bytes a.value) (codes "true")

-- there is one among the attributes of a tag
abbrev pub is_toolbar : List ℕ → Bool
is_toolbar bytes = list_any is_toolbar_attribute (attributes_of bytes).0

-- what stands in the first folder with one; nothing where there is no such folder
abbrev pub bar_of : Contents → Contents
bar_of nothing = nothing
bar_of (link e rest) = bar_of rest
bar_of (folder e inside rest) = cond (is_toolbar e.attributes) inside (bar_of rest)
bar_of (separator a rest) = bar_of rest

-- what stands beside this folder
abbrev pub other_of : Contents → Contents
other_of nothing = nothing
other_of (link e rest) = link e (other_of rest)
other_of (folder e inside rest) = cond (is_toolbar e.attributes) rest (folder e inside (other_of rest))
other_of (separator a rest) = separator a (other_of rest)
