-- What is left of a text where line ends are LF and control characters of ASCII are dropped.
use Rattle.std.specs.Prelude.{ℕ, Bool, false, cond, not, ◌&&◌, ◌||◌, List, [], ◌∷◌, map, filter}
use Rattle.std.specs.Bool.{◌==◌, nat_le}
use Rattle.hm_tree.specs.Names.{Name}

abbrev pub begins_with_feed : List ℕ → Bool
begins_with_feed [] = false
begins_with_feed (b ∷ t) = b == 10

-- each CRLF made LF
abbrev pub pairs_made_feeds : List ℕ → List ℕ
pairs_made_feeds [] = []
pairs_made_feeds (b ∷ t) = cond ((b == 13) && begins_with_feed t) (pairs_made_feeds t) (b ∷ pairs_made_feeds t)

-- each CR made LF
abbrev pub returns_made_feeds : List ℕ → List ℕ
returns_made_feeds = map (λ b. cond (b == 13) 10 b)

-- tab, LF, and what is neither below U+0020 nor U+007F
abbrev pub is_kept : ℕ → Bool
is_kept b = (b == 9) || ((b == 10) || (nat_le 32 b && not (b == 127)))

-- each CRLF and then each other CR made LF, and what isn't kept dropped
unfoldable pub cleaned : Name → Name
cleaned t = filter is_kept (returns_made_feeds (pairs_made_feeds t))
