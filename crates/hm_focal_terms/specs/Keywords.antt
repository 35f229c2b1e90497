-- The word with which the text of a lens begins.
use Rattle.std.specs.Prelude.{◌≡◌, ◌≢◌, ℕ, List, codes, Option, Some, None}
use Rattle.hm_focal_terms.specs.declared.keyword.Keyword.{Keyword}
use Rattle.hm_focal_terms.specs.declared.keyword.Keyword.TheVariants.{Id, Const, Hoist, Plunge, Fork, Map, Each, List as Items, Copy, Merge, ByConcrete, ByView, Text, Call, Filter, Prune, Focus, Add, Rename}

abbrev pub keyword_text : Keyword → List ℕ
keyword_text Id = codes "id"
keyword_text Const = codes "const"
keyword_text Hoist = codes "hoist"
keyword_text Plunge = codes "plunge"
keyword_text Fork = codes "xfork"
keyword_text Map = codes "map"
keyword_text Each = codes "wmap"
keyword_text Items = codes "list"
keyword_text Copy = codes "copy"
keyword_text Merge = codes "merge"
keyword_text ByConcrete = codes "ccond"
keyword_text ByView = codes "acond"
keyword_text Text = codes "text"
keyword_text Call = codes "call"
keyword_text Filter = codes "filter"
keyword_text Prune = codes "prune"
keyword_text Focus = codes "focus"
keyword_text Add = codes "add"
keyword_text Rename = codes "rename"

-- the keyword that a word is; none where it is none
abbrev pub IsReadKeyword : List ℕ → Option Keyword → Type 0
IsReadKeyword word None = (k : Keyword) → word ≢ keyword_text k
IsReadKeyword word (Some k) = word ≡ keyword_text k
