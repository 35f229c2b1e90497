-- What stands in a folder of bookmarks: links, folders and separators, in the order of their file. L is what the file has of a
-- link, F of a folder but for what stands in it, and S of a separator.
use Rattle.std.specs.Prelude.{List, [], ◌∷◌}

-- each with what stands behind it, and a folder with what stands in it before that
pub data Contents (L F S : Type 0) : Type 0 where
  nothing : Contents L F S
  link : L → Contents L F S → Contents L F S
  folder : F → Contents L F S → Contents L F S → Contents L F S
  separator : S → Contents L F S → Contents L F S

-- links and folders are the items; separators are none
pub data Item (L F S : Type 0) : Type 0 where
  a_link : L → Item L F S
  a_folder : F → Contents L F S → Item L F S

-- the separators directly in a folder
abbrev pub separators_of : {L F S : Type 0} → Contents L F S → List S
separators_of nothing = []
separators_of (link l rest) = separators_of rest
separators_of (folder f inside rest) = separators_of rest
separators_of (separator s rest) = s ∷ separators_of rest
