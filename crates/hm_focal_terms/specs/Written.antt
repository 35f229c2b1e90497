-- How a lens is written: without spaces, with each name of an edge between quotes, the names of a set ascending, and
-- parentheses around a sequence that stands left of a semicolon.
use Rattle.std.specs.Prelude.{ℕ, Bool, true, false, cond, List, [], ◌++◌, codes, flat_map}
use Rattle.hm_tree.specs.Nodes.{Tree}
use Rattle.hm_tree_spelling.specs.Spelling.{spelled}
use Rattle.hm_tree.specs.Sets.{ascending}
use Rattle.hm_schema.specs.Values.{Names}
use Rattle.hm_tree_text.specs.Text.{whole, text as tree_text}
use Rattle.hm_terms.specs.Lenses.{Lens, Lenses, identity, sequence, constant, hoist, plunge, fork, each, among, items, copy, merge, on_concrete, on_view, text, call, none, also}

abbrev pub set_text : Names → List ℕ
set_text P = codes "{" ++ flat_map spelled (ascending P) ++ codes "}"

abbrev pub spelled_tree : Tree → List ℕ
spelled_tree t = tree_text whole t.shape

abbrev pub is_sequence : Lens → Bool
is_sequence (sequence l k) = true
is_sequence identity = false
is_sequence (constant t d) = false
is_sequence (hoist n) = false
is_sequence (plunge n) = false
is_sequence (fork P Q l k) = false
is_sequence (each l) = false
is_sequence (among ls) = false
is_sequence (items l) = false
is_sequence (copy m n) = false
is_sequence (merge m n) = false
is_sequence (on_concrete n l k) = false
is_sequence (on_view n m l k) = false
is_sequence (text n) = false
is_sequence (call n) = false

-- parentheses where they are asked for
abbrev pub opening : Bool → List ℕ
opening b = cond b (codes "(") []

abbrev pub closing : Bool → List ℕ
closing b = cond b (codes ")") []

abbrev mutual
  pub term_text : Lens → List ℕ
  term_text identity = codes "id"
  term_text (sequence l k) = opening (is_sequence l) ++ term_text l ++ closing (is_sequence l) ++ codes ";" ++ term_text k
  term_text (constant t d) = codes "const(" ++ spelled_tree t ++ codes "," ++ spelled_tree d ++ codes ")"
  term_text (hoist n) = codes "hoist(" ++ spelled n ++ codes ")"
  term_text (plunge n) = codes "plunge(" ++ spelled n ++ codes ")"
  term_text (fork P Q l k) =
      codes "xfork(" ++ set_text P ++ codes "," ++ set_text Q ++ codes "," ++ term_text l ++ codes "," ++ term_text k ++ codes ")"
  term_text (each l) = codes "map(" ++ term_text l ++ codes ")"
  term_text (among ls) = codes "wmap(" ++ pairs_text ls ++ codes ")"
  term_text (items l) = codes "list(" ++ term_text l ++ codes ")"
  term_text (copy m n) = codes "copy(" ++ spelled m ++ codes "," ++ spelled n ++ codes ")"
  term_text (merge m n) = codes "merge(" ++ spelled m ++ codes "," ++ spelled n ++ codes ")"
  term_text (on_concrete n l k) = codes "ccond(" ++ spelled n ++ codes "," ++ term_text l ++ codes "," ++ term_text k ++ codes ")"
  term_text (on_view n m l k) =
      codes "acond(" ++ spelled n ++ codes "," ++ spelled m ++ codes "," ++ term_text l ++ codes "," ++ term_text k ++ codes ")"
  term_text (text n) = codes "text(" ++ n ++ codes ")"
  term_text (call n) = codes "call(" ++ n ++ codes ")"

  -- each name with its lens, and commas between them
  pub pairs_text : Lenses → List ℕ
  pairs_text none = []
  pairs_text (also n l ls) = spelled n ++ codes "=" ++ term_text l ++ more_pairs_text ls

  pub more_pairs_text : Lenses → List ℕ
  more_pairs_text none = []
  more_pairs_text (also n l ls) = codes "," ++ spelled n ++ codes "=" ++ term_text l ++ more_pairs_text ls

-- the same of a lens without the lenses inside: what stands in front of these, or all where there are none
abbrev pub front_text : Lens → List ℕ
front_text identity = codes "id"
front_text (sequence l k) = []
front_text (constant t d) = codes "const(" ++ spelled_tree t ++ codes "," ++ spelled_tree d ++ codes ")"
front_text (hoist n) = codes "hoist(" ++ spelled n ++ codes ")"
front_text (plunge n) = codes "plunge(" ++ spelled n ++ codes ")"
front_text (fork P Q l k) = codes "xfork(" ++ set_text P ++ codes "," ++ set_text Q ++ codes ","
front_text (each l) = codes "map("
front_text (among ls) = codes "wmap("
front_text (items l) = codes "list("
front_text (copy m n) = codes "copy(" ++ spelled m ++ codes "," ++ spelled n ++ codes ")"
front_text (merge m n) = codes "merge(" ++ spelled m ++ codes "," ++ spelled n ++ codes ")"
front_text (on_concrete n l k) = codes "ccond(" ++ spelled n ++ codes ","
front_text (on_view n m l k) = codes "acond(" ++ spelled n ++ codes "," ++ spelled m ++ codes ","
front_text (text n) = codes "text(" ++ n ++ codes ")"
front_text (call n) = codes "call(" ++ n ++ codes ")"
