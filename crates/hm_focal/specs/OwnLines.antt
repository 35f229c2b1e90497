-- What the lines of a lens file say that aren't of nodes.
use Rattle.std.specs.Prelude.{◌≡◌, ◌≢◌, ℕ, ◌-◌, Bool, true, false, List, [], ◌∷◌, length, map, slice_get, codes, filter_map, flat_map, Option, Some, None, Vec}
use Rattle.std.specs.declared.alloc.Global.{Global}
use Rattle.hm_tree.specs.Names.{Name}
use Rattle.hm_schema.specs.Values.{pair_value}
use Rattle.hm_terms.specs.Lenses.{Lens}
use Rattle.hm_terms.specs.Programs.{lens_of}
use Rattle.hm_focal_terms.specs.TermText.{IsTermText}
use Rattle.hm_focal_terms.specs.Limits.{IsOversized}
use Rattle.hm_schema_lines.specs.declared.token.Token.TheVariants.{Word}
use Rattle.hm_schema_lines.specs.Tokens.{Spaced}
use Rattle.hm_focal.specs.declared.own.Own.{Own}
use Rattle.hm_focal.specs.declared.own.Own.TheVariants.{Nothing, Header, Format, Lens as LensOf, Main}
use Rattle.hm_focal.specs.declared.own.Body.{Body}
use Rattle.hm_focal.specs.declared.own.Body.TheVariants.{Term, Oversized}
use Rattle.hm_focal.specs.declared.own.FormatLine.{FormatLine}
use Rattle.hm_focal.specs.declared.own.LensLine.{LensLine}
use Rattle.hm_focal.specs.Front.{IsFrontWord, IsFrontEdge, IsGap, IsWordBefore}

-- ---- what a line says

-- the body of a lens; one whose text is oversized isn't looked at further
pub data BodyValue : Type 0 where
  term : Lens → BodyValue
  oversized : BodyValue

pub record LensValue : Type 0 where
  pub name : Name
  pub source : Name
  pub view : Name
  pub body : BodyValue

pub data OwnValue : Type 0 where
  nothing : OwnValue
  header : OwnValue
  format : Name → List (Name × List Name) → OwnValue
  lens : LensValue → OwnValue
  main : BodyValue → OwnValue

abbrev pub body_value : Body → BodyValue
body_value (Term t) = term (lens_of t)
body_value Oversized = oversized

abbrev pub lens_value : LensLine → LensValue
lens_value l = record { name = l.name; source = l.source; view = l.view; body = body_value l.body }

abbrev pub own_value : Own → OwnValue
own_value Nothing = nothing
own_value Header = header
own_value (Format f) = format f.value.word (map pair_value f.value.pairs.items)
own_value (LensOf l) = lens (lens_value l.value)
own_value (Main b) = main (body_value b.value)

abbrev pub own_values : List Own → List OwnValue
own_values = map own_value

-- ---- kinds of lines

abbrev pub is_format : OwnValue → Bool
is_format (format w ps) = true
is_format o = false

abbrev pub is_lens : OwnValue → Bool
is_lens (lens d) = true
is_lens o = false

abbrev pub is_main : OwnValue → Bool
is_main (main b) = true
is_main o = false

-- a lens line or the main line, behind which there are no lines of nodes
abbrev pub ends_nodes : OwnValue → Bool
ends_nodes (lens d) = true
ends_nodes (main b) = true
ends_nodes o = false

abbrev pub body_in : OwnValue → Option BodyValue
body_in (lens d) = Some d.body
body_in (main b) = Some b
body_in o = None

abbrev pub lens_in : OwnValue → Option LensValue
lens_in (lens d) = Some d
lens_in o = None

abbrev pub name_in : OwnValue → Option Name
name_in (lens d) = Some d.name
name_in o = None

-- the names of the lenses that lines declare, and of the nodes that they name
abbrev pub lens_names : List OwnValue → List Name
lens_names os = filter_map name_in os

abbrev pub nodes_in : OwnValue → List Name
nodes_in (lens d) = d.source ∷ d.view ∷ []
nodes_in o = []

abbrev pub named_nodes : List OwnValue → List Name
named_nodes os = flat_map nodes_in os

-- ---- the text of a line

-- `harmony lens 1`
abbrev pub IsHeader : List ℕ → Type 0
IsHeader line = Spaced (Word (codes "harmony") ∷ Word (codes "lens") ∷ Word (codes "1") ∷ []) line

-- names of edges with commas between, and what follows
pub data AreEdges : List ℕ → List Name → List ℕ → Type 0 where
  last : {bytes : List ℕ} {k : Name} {rest : List ℕ} → IsFrontEdge bytes k rest → ((r : List ℕ) → rest ≢ 44 ∷ r) → AreEdges bytes (k ∷ []) rest
  more : {bytes : List ℕ} {k : Name} {next : List ℕ} {ks : List Name} {rest : List ℕ} → IsFrontEdge bytes k (44 ∷ next) → AreEdges next ks rest
      → AreEdges bytes (k ∷ ks) rest

-- a word, `=` and edges, and what follows
pub record IsPair (bytes : List ℕ) (p : Name × List Name) (rest : List ℕ) : Type 0 where
  pub edges : List ℕ
  pub key : IsFrontWord bytes p.0 (61 ∷ edges)
  pub values : AreEdges edges p.1 rest

-- the same behind spaces
abbrev pub IsOption : List ℕ → Name × List Name → List ℕ → Type 0
IsOption bytes p rest = (text : List ℕ) × IsGap bytes text × IsPair text p rest

pub data AreOptions : List ℕ → List (Name × List Name) → Type 0 where
  no_option : AreOptions [] []
  an_option : {bytes : List ℕ} {p : Name × List Name} {rest : List ℕ} {ps : List (Name × List Name)} → IsOption bytes p rest → AreOptions rest ps
      → AreOptions bytes (p ∷ ps)

-- `format`, the name of a format, and its options
pub record IsFormat (line : List ℕ) (w : Name) (ps : List (Name × List Name)) : Type 0 where
  pub text : List ℕ
  pub rest : List ℕ
  pub front : IsWordBefore line (codes "format") text
  pub name : IsFrontWord text w rest
  pub options : AreOptions rest ps

-- words, `=` and a text, each with spaces before the next
pub data IsHeaded : List ℕ → List Name → List ℕ → Type 0 where
  equals : {bytes behind text : List ℕ} → bytes ≡ 61 ∷ behind → IsGap behind text → IsHeaded bytes [] text
  word : {bytes : List ℕ} {w : Name} {next : List ℕ} {ws : List Name} {text : List ℕ} → IsWordBefore bytes w next → IsHeaded next ws text
      → IsHeaded bytes (w ∷ ws) text

-- no space stands at the end
abbrev pub IsTrimmed : List ℕ → Type 0
IsTrimmed text = slice_get text (length text - 1) ≢ Some 32

abbrev pub IsBody : List ℕ → BodyValue → Type 0
IsBody text (term l) = IsTrimmed text × ¬ (IsOversized text) × IsTermText text l
IsBody text oversized = IsTrimmed text × IsOversized text

-- `lens`, its name, two nodes, and the body
abbrev pub IsLensLine : List ℕ → LensValue → Type 0
IsLensLine line d = (text : List ℕ) × IsHeaded line (codes "lens" ∷ d.name ∷ d.source ∷ d.view ∷ []) text × IsBody text d.body

abbrev pub IsMainLine : List ℕ → BodyValue → Type 0
IsMainLine line b = (text : List ℕ) × IsHeaded line (codes "main" ∷ []) text × IsBody text b

-- what a line says, wherever it stands
abbrev pub IsOwn : List ℕ → OwnValue → Type 0
IsOwn line nothing = ⊥
IsOwn line header = IsHeader line
IsOwn line (format w ps) = IsFormat line w ps
IsOwn line (lens d) = IsLensLine line d
IsOwn line (main b) = IsMainLine line b

-- ---- what is read

abbrev pub names_value : Vec Name Global → List Name
names_value names = names.items

abbrev pub AreReadOptions : List ℕ → Option (Vec (Name × Vec Name Global) Global) → Type 0
AreReadOptions bytes None = (ps : List (Name × List Name)) → ¬ (AreOptions bytes ps)
AreReadOptions bytes (Some pairs) = AreOptions bytes (map pair_value pairs.items)

abbrev pub IsReadBody : List ℕ → Option Body → Type 0
IsReadBody text None = (b : BodyValue) → ¬ (IsBody text b)
IsReadBody text (Some b) = IsBody text (body_value b)

abbrev pub IsReadFormat : List ℕ → Option FormatLine → Type 0
IsReadFormat line None = (w : Name) (ps : List (Name × List Name)) → ¬ (IsFormat line w ps)
IsReadFormat line (Some f) = IsFormat line f.word (map pair_value f.pairs.items)

abbrev pub IsReadLens : List ℕ → Option LensLine → Type 0
IsReadLens line None = (d : LensValue) → ¬ (IsLensLine line d)
IsReadLens line (Some d) = IsLensLine line (lens_value d)

abbrev pub IsReadMain : List ℕ → Option Body → Type 0
IsReadMain line None = (b : BodyValue) → ¬ (IsMainLine line b)
IsReadMain line (Some b) = IsMainLine line (body_value b)

-- what a line says; nothing where it says nothing
abbrev pub IsReadOwn : List ℕ → OwnValue → Type 0
IsReadOwn line nothing = (o : OwnValue) → ¬ (IsOwn line o)
IsReadOwn line header = IsOwn line header
IsReadOwn line (format w ps) = IsOwn line (format w ps)
IsReadOwn line (lens d) = IsOwn line (lens d)
IsReadOwn line (main b) = IsOwn line (main b)
