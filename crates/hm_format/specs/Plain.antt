-- The format of files that are the text of a tree (`hm_tree_text`). They hide nothing.
use Rattle.std.specs.Prelude.{◌≡◌, ℕ, true, List, [], ◌∷◌, codes, Some, None, Result, Ok, Err, IsUtf8}
use Rattle.std.specs.Str.Lossy.{utf8_valid_len}
use Rattle.hm_tree.specs.Names.{Name}
use Rattle.hm_tree.specs.Nodes.{Tree}
use Rattle.hm_tree.specs.States.{state}
use Rattle.hm_tree_text.specs.Text.{tree_text}
use Rattle.hm_tree_text.specs.Files.{IsTreeText}
use Rattle.hm_tree_text.specs.Faults.{TreeFaults}
use Rattle.hm_tree_text.specs.declared.fault.TextFault.TheVariants.{BadTree, TooDeep as DeepText}
use Rattle.hm_schema.specs.Values.{SchemaValue, OptionsValue}
use Rattle.hm_schema.specs.Membership.{IsFirstOutside}
use Rattle.hm_format.specs.declared.fault.FormatFault.{FormatFault}
use Rattle.hm_format.specs.declared.fault.FormatFault.TheVariants.{BadOption, NotUtf8, BadItem, NoKey, TooDeep, Outside, Memory}
use Rattle.hm_format.specs.Options.{Rules, AreSound, accepted, bad_key, values_of, place_of}
use Rattle.hm_format.specs.Formats.{FormatMeaning, depth_over}
use Rattle.hm_schema.specs.Membership.{IsMemberTree}

-- ---- the options: one node that the lens file declares

abbrev pub plain_rules : Rules
plain_rules = (codes "root", record { most = Some 1; required = true; declared = true }) ∷ []

-- the place of the node that is named
abbrev pub root_place : List Name → List Name → ℕ
root_place [] names = 0
root_place (k ∷ ks) names = place_of k names

-- the nodes that are declared, with that one as the root
abbrev pub plain_schema : OptionsValue → SchemaValue
plain_schema o = record { nodes = o.types; root = record { place = root_place (values_of o.pairs (codes "root")) o.type_names } }

-- sound options that are those of the format
pub record IsAccepted (o : OptionsValue) : Type 0 where
  pub sound : AreSound o
  pub none_bad : bad_key plain_rules o ≡ None

-- ---- reading

-- the text of a tree with a path at which its names aren't permitted, the first such one
pub record IsOutsideText (s : SchemaValue) (bytes : List ℕ) (p : List Name) : Type 0 where
  pub tree : Tree
  pub text : IsTreeText tree bytes
  pub first : IsFirstOutside s s.root (state (Some tree)) p

-- bytes that aren't UTF-8 are refused first, and then those that aren't the text of a tree, as `read_tree` does
abbrev pub ReadsText : List ℕ → Result Tree FormatFault → Type 0
ReadsText bytes (Ok tree) = IsTreeText tree bytes
ReadsText bytes (Err (NotUtf8 at)) = ¬ (IsUtf8 bytes) × (at ≡ utf8_valid_len bytes)
ReadsText bytes (Err (BadItem number)) = IsUtf8 bytes × TreeFaults bytes (BadTree number)
ReadsText bytes (Err (TooDeep d)) = IsUtf8 bytes × TreeFaults bytes DeepText × (d ≡ 1001)
ReadsText bytes (Err Memory) = Unit {0}
ReadsText bytes (Err (BadOption key)) = ⊥
ReadsText bytes (Err (NoKey number)) = ⊥
ReadsText bytes (Err (Outside path)) = ⊥

-- a text is read where its tree is a member of the schema
abbrev pub PlainReads : SchemaValue → List ℕ → Result Tree FormatFault → Type 0
PlainReads s bytes (Ok tree) = IsTreeText tree bytes × IsMemberTree s tree
PlainReads s bytes (Err (NotUtf8 at)) = ReadsText bytes (Err (NotUtf8 at))
PlainReads s bytes (Err (BadItem number)) = ReadsText bytes (Err (BadItem number))
PlainReads s bytes (Err (TooDeep d)) = ReadsText bytes (Err (TooDeep d))
PlainReads s bytes (Err (Outside path)) = IsOutsideText s bytes path
PlainReads s bytes (Err (BadOption key)) = ⊥
PlainReads s bytes (Err (NoKey number)) = ⊥
PlainReads s bytes (Err Memory) = ⊥

-- ---- the format

abbrev pub plain : FormatMeaning
plain = record {
  tag = 6;
  schema_of = λ o. accepted (bad_key plain_rules o) (plain_schema o);
  reads = λ o. PlainReads (plain_schema o);
  over = depth_over;
  writes = λ o t before after. after ≡ tree_text t;
  keeps = λ o before after. Unit {0};
}
