-- The text of a term of lenses: which bytes are which lens. Any spaces may stand in front of each token.
use Rattle.std.specs.Prelude.{◌≢◌, ℕ, ◌≤◌, List, [], ◌∷◌}
use Rattle.hm_tree.specs.Names.{Name}
use Rattle.hm_tree.specs.Nodes.{Tree, depth}
use Rattle.hm_schema.specs.Values.{Names}
use Rattle.hm_schema_lines.specs.BadLines.{HasDouble}
use Rattle.hm_terms.specs.Lenses.{Lens, Lenses, identity, sequence, constant, hoist, plunge, fork, each, among, items, copy, merge, on_concrete, on_view, text, call, none, also}
use Rattle.hm_focal_terms.specs.declared.keyword.Keyword.{Keyword}
use Rattle.hm_focal_terms.specs.declared.keyword.Keyword.TheVariants.{Id, Const, Hoist, Plunge, Fork, Map, Each, List as Items, Copy, Merge, ByConcrete, ByView, Text, Call, Filter, Prune, Focus, Add, Rename}
use Rattle.hm_focal_terms.specs.Keywords.{keyword_text}
use Rattle.hm_focal_terms.specs.Fronts.{IsSign, IsWord, IsEdge, IsTree, IsSet, Behind, One, Two}
use Rattle.hm_focal_terms.specs.Derived.{under_name, filter_lens, prune_lens, focus_lens, add_lens, rename_lens}

-- the names of some lenses
abbrev pub names_of : Lenses → List Name
names_of none = []
names_of (also n l ls) = n ∷ names_of ls

-- In each of these, the first bytes are the text of the lens and then the last bytes.
mutual
  -- a part, and no semicolon behind it; or a part, a semicolon, and a term, so that these group to the right
  pub data IsTerm : List ℕ → Lens → List ℕ → Type 0 where
    one_part : {bytes rest : List ℕ} {l : Lens} → IsPart bytes l rest → ((more : List ℕ) → ¬ (IsSign 59 rest more)) → IsTerm bytes l rest
    more_parts : {bytes behind inner rest : List ℕ} {l k : Lens} → IsPart bytes l behind → IsSign 59 behind inner → IsTerm inner k rest
        → IsTerm bytes (sequence l k) rest

  -- a term in parentheses, which make no term; or a keyword with what belongs to it
  pub data IsPart : List ℕ → Lens → List ℕ → Type 0 where
    in_parentheses : {bytes rest : List ℕ} {l : Lens} → InParentheses bytes l rest → IsPart bytes l rest
    by_keyword : {bytes behind rest : List ℕ} {l : Lens} (k : Keyword) → IsWord bytes (keyword_text k) behind → IsForm k behind l rest
        → IsPart bytes l rest

  -- what stands behind a keyword
  pub data IsForm : Keyword → List ℕ → Lens → List ℕ → Type 0 where
    id_form : {bytes : List ℕ} → IsForm Id bytes identity bytes
    const_form : {bytes rest : List ℕ} {t d : Tree} → Two IsTree IsTree bytes t d rest → IsForm Const bytes (constant t d) rest
    hoist_form : {bytes rest : List ℕ} {n : Name} → One IsEdge bytes n rest → IsForm Hoist bytes (hoist n) rest
    plunge_form : {bytes rest : List ℕ} {n : Name} → One IsEdge bytes n rest → IsForm Plunge bytes (plunge n) rest
    fork_form : {bytes one two rest : List ℕ} {P Q : Names} {l k : Lens} → Behind 40 IsSet bytes P one → Behind 44 IsSet one Q two
        → TwoTerms two l k rest → IsForm Fork bytes (fork P Q l k) rest
    map_form : {bytes rest : List ℕ} {l : Lens} → InParentheses bytes l rest → IsForm Map bytes (each l) rest
    -- one or more names with a lens for each, and none of these names twice
    each_form : {bytes rest : List ℕ} {ls : Lenses} → ArePairs 40 bytes ls rest → ¬ (HasDouble (names_of ls))
        → IsForm Each bytes (among ls) rest
    list_form : {bytes rest : List ℕ} {l : Lens} → InParentheses bytes l rest → IsForm Items bytes (items l) rest
    copy_form : {bytes rest : List ℕ} {m n : Name} → Two IsEdge IsEdge bytes m n rest → IsForm Copy bytes (copy m n) rest
    merge_form : {bytes rest : List ℕ} {m n : Name} → Two IsEdge IsEdge bytes m n rest → IsForm Merge bytes (merge m n) rest
    concrete_form : {bytes one rest : List ℕ} {n : Name} {l k : Lens} → Behind 40 IsEdge bytes n one → TwoTerms one l k rest
        → IsForm ByConcrete bytes (on_concrete n l k) rest
    view_form : {bytes one two rest : List ℕ} {n m : Name} {l k : Lens} → Behind 40 IsEdge bytes n one → Behind 44 IsEdge one m two
        → TwoTerms two l k rest → IsForm ByView bytes (on_view n m l k) rest
    text_form : {bytes rest : List ℕ} {n : Name} → One IsWord bytes n rest → IsForm Text bytes (text n) rest
    call_form : {bytes rest : List ℕ} {n : Name} → One IsWord bytes n rest → IsForm Call bytes (call n) rest
    filter_form : {bytes rest : List ℕ} {P : Names} {d : Tree} → Two IsSet IsTree bytes P d rest → IsForm Filter bytes (filter_lens P d) rest
    -- the tree with d under n is no deeper than trees may be
    prune_form : {bytes rest : List ℕ} {n : Name} {d : Tree} → Two IsEdge IsTree bytes n d rest → depth (under_name n d) ≤ 1000
        → IsForm Prune bytes (prune_lens n d) rest
    focus_form : {bytes rest : List ℕ} {n : Name} {d : Tree} → Two IsEdge IsTree bytes n d rest → IsForm Focus bytes (focus_lens n d) rest
    add_form : {bytes rest : List ℕ} {n : Name} {t : Tree} → Two IsEdge IsTree bytes n t rest → IsForm Add bytes (add_lens n t) rest
    rename_form : {bytes rest : List ℕ} {m n : Name} → Two IsEdge IsEdge bytes m n rest → IsForm Rename bytes (rename_lens m n) rest

  -- a term behind a sign
  pub data BehindSign : ℕ → List ℕ → Lens → List ℕ → Type 0 where
    behind_sign : {sign : ℕ} {bytes inner rest : List ℕ} {l : Lens} → IsSign sign bytes inner → IsTerm inner l rest → BehindSign sign bytes l rest

  -- a term between parentheses
  pub data InParentheses : List ℕ → Lens → List ℕ → Type 0 where
    parentheses : {bytes inner rest : List ℕ} {l : Lens} → BehindSign 40 bytes l inner → IsSign 41 inner rest → InParentheses bytes l rest

  -- two terms, with a comma in front of each and a parenthesis behind them
  pub data TwoTerms : List ℕ → Lens → Lens → List ℕ → Type 0 where
    two_terms : {bytes middle inner rest : List ℕ} {l k : Lens} → BehindSign 44 bytes l middle → BehindSign 44 middle k inner
        → IsSign 41 inner rest → TwoTerms bytes l k rest

  -- a name, an equals sign and a term, the same again behind each comma, and a parenthesis; a sign stands in front of all
  pub data ArePairs : ℕ → List ℕ → Lenses → List ℕ → Type 0 where
    last_pair : {sign : ℕ} {bytes one two rest : List ℕ} {n : Name} {l : Lens} → Behind sign IsEdge bytes n one → BehindSign 61 one l two
        → IsSign 41 two rest → ArePairs sign bytes (also n l none) rest
    more_pairs : {sign : ℕ} {bytes one two rest : List ℕ} {n : Name} {l : Lens} {ls : Lenses} → Behind sign IsEdge bytes n one
        → BehindSign 61 one l two → ArePairs 44 two ls rest → ArePairs sign bytes (also n l ls) rest

-- the bytes are the text of a lens, without spaces in front or behind
pub record IsTermText (bytes : List ℕ) (l : Lens) : Type 0 where
  pub flush : (rest : List ℕ) → bytes ≢ 32 ∷ rest
  pub term : IsTerm bytes l []
