-- Lenses, as what they mean is said of them: terms without the addresses of their parts.
use Rattle.std.specs.Prelude.{List, Option, Some, None, cond}
use Rattle.std.specs.Option.{option_map}
use Rattle.std.specs.FinMap.{find}
use Rattle.std.specs.Ordering.{eq_by_cmp}
use Rattle.hm_tree.specs.Names.{Name, name_cmp}
use Rattle.hm_tree.specs.Nodes.{Tree}
use Rattle.hm_text_lens.specs.Meanings.{TextMeaning}
use Rattle.hm_schema.specs.Values.{Names}
use Rattle.hm_schema.specs.declared.node.NodeId.{NodeId}

mutual
  pub data Lens : Type 0 where
    identity : Lens
    -- the first one, and then the second one on what it shows
    sequence : Lens → Lens → Lens
    -- this tree is shown, and the other one is put where there is none from before
    constant : Tree → Tree → Lens
    hoist : Name → Lens
    plunge : Name → Lens
    -- the first lens on the names of a set, which it shows as names of the other set; the second lens on the others
    fork : Names → Names → Lens → Lens → Lens
    -- one lens on each child, on the named children, and on each item of a list
    each : Lens → Lens
    among : Lenses → Lens
    items : Lens → Lens
    -- the child of the first name twice, and not twice
    copy : Name → Name → Lens
    merge : Name → Name → Lens
    -- the first lens where the concrete tree has a name, and the second where it hasn't
    on_concrete : Name → Lens → Lens → Lens
    -- the same, and the view tells by another name which of them showed it
    on_view : Name → Name → Lens → Lens → Lens
    -- the text of a value through the text lens of this name
    text : Name → Lens
    -- the body of a definition
    call : Name → Lens

  pub data Lenses : Type 0 where
    none : Lenses
    also : Name → Lens → Lenses → Lenses

-- the lens of a name, the first one
abbrev pub lens_at : Name → Lenses → Option Lens
lens_at n none = None
lens_at n (also k l rest) = cond (eq_by_cmp name_cmp n k) (Some l) (lens_at n rest)

-- ---- what lenses are read in

-- a named lens, between two nodes
pub record DefinitionValue : Type 0 where
  pub source : NodeId
  pub view : NodeId
  pub body : Lens

-- definitions in file order
abbrev pub Definitions : Type 0
Definitions = List (Name × DefinitionValue)

-- the body of a definition, the first of its name
abbrev pub body_of : Definitions → Name → Option Lens
body_of ds n = option_map (λ (d : DefinitionValue). d.body) (find name_cmp n ds)

-- what lenses are read in: the text lenses that they may name, of which the first of a name counts, and the definitions
pub record Setting : Type 0 where
  pub texts : List TextMeaning
  pub definitions : Definitions
