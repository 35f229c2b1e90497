-- What reading the six files finds: each reader's relation, with its faults told as refusals.
use Rattle.std.specs.Prelude.{◌≡◌, ℕ, List, [], get_or, Result, Ok}
use Rattle.hm_tree.specs.Nodes.{Tree}
use Rattle.hm_tree.specs.Archives.{Archive}
use Rattle.hm_tree_text.specs.Reads.{ReadsArchive}
use Rattle.hm_tree_text.specs.declared.fault.TextFault.{TextFault}
use Rattle.hm_tree_text.specs.declared.fault.TextFault.TheVariants as text
use Rattle.hm_schema.specs.Values.{SchemaValue}
use Rattle.hm_schema.specs.Membership.{HasNoTwins}
use Rattle.hm_schema_text.specs.SchemaFiles.{ReadsSchema}
use Rattle.hm_schema_text.specs.declared.fault.SchemaFault.{SchemaFault}
use Rattle.hm_schema_text.specs.declared.fault.SchemaFault.TheVariants as schema
use Rattle.hm_schema.specs.Standing.{Alike}
use Rattle.hm_schema.specs.Membership.{IsMemberTree}
use Rattle.hm_replica.specs.declared.base.Base.{Base}
use Rattle.hm_replica.specs.Replicas.{ReplicaValue, replica_value}
use Rattle.hm_run_files.specs.declared.slot.Slot.{Slot}
use Rattle.hm_run_files.specs.declared.slot.Slot.TheVariants as slot
use Rattle.hm_run_files.specs.declared.stop.ArchiveFault.TheVariants as archive_fault
use Rattle.hm_run_files.specs.declared.stop.FileFault.TheVariants.{BadSchema, BadArchive}
use Rattle.hm_run_files.specs.declared.stop.Refusal.{Refusal}
use Rattle.hm_run_files.specs.declared.stop.Refusal.TheVariants.{At}
use Rattle.hm_run_files.specs.declared.stop.Stop.{Stop}
use Rattle.hm_run_files.specs.declared.stop.Stop.TheVariants.{Refused, Memory}
use Rattle.hm_run_files.specs.Steps.{Then, Told}
use Rattle.hm_run_sides.specs.Sides.{SideValue, side_value, OpensSide, ChecksView, IsSide}
use Rattle.hm_run_sides.specs.SideReplicas.{OpensOn, IsReplicaOn, IsBaseOn}
use Rattle.hm_run_handed.specs.Handed.{Handed}
use Rattle.hm_run_sync.specs.declared.read.Inputs.{Inputs}
use Rattle.hm_run_sync.specs.declared.read.SidePair.{SidePair}
use Rattle.hm_run_sync.specs.declared.read.ReplicaPair.{ReplicaPair}
use Rattle.hm_run_sync.specs.declared.read.BasePair.{BasePair}

-- the faults of readers, as what stops a run
abbrev pub schema_stop : SchemaFault → Stop
schema_stop (schema.BadSchema line) = Refused (At slot.Schema (BadSchema line))
schema_stop schema.Memory = Memory

abbrev pub archive_stop : TextFault → Stop
archive_stop (text.BadTree place) = Refused (At slot.Archive (BadArchive (archive_fault.At place)))
archive_stop text.TooDeep = Refused (At slot.Archive (BadArchive archive_fault.Deep))
archive_stop text.Memory = Memory

-- ---- the sides

-- replicas may be opened on a side, and closed with members of a schema
pub record Serves (h : Handed) (s : SchemaValue) (side : SideValue) : Type 0 where
  pub is_side : IsSide h side
  pub members : Alike (IsMemberTree s) (IsMemberTree side.typed.view)

-- a lens file is opened as a side, whose view is the same as the schema
unfoldable pub OpensView : Handed → SchemaValue → Slot → List ℕ → Result SideValue Refusal → Type 0
OpensView h s at bytes =
    Then (OpensSide h at bytes) (λ side.
    Then (ChecksView at s side.typed.view) (λ same r. (r ≡ Ok side) × Serves h s side))

-- the left one and the right one
pub record Sides : Type 0 where
  pub left : SideValue
  pub right : SideValue

abbrev pub sides_of : SidePair → Sides
sides_of p = record { left = side_value p.left; right = side_value p.right }

unfoldable pub OpensSides : Handed → SchemaValue → List ℕ → List ℕ → Result Sides Refusal → Type 0
OpensSides h s left right =
    Then (OpensView h s slot.LensA left) (λ a.
    Then (OpensView h s slot.LensB right) (λ b r.
    r ≡ Ok (record { left = a; right = b })))

-- ---- the replicas

pub record Replicas : Type 0 where
  pub left : ReplicaValue
  pub right : ReplicaValue

abbrev pub replicas_of : ReplicaPair → Replicas
replicas_of p = record { left = replica_value p.left; right = replica_value p.right }

unfoldable pub OpensReplicas : Handed → Sides → List ℕ → List ℕ → Result Replicas Refusal → Type 0
OpensReplicas h sides left right =
    Then (OpensOn h sides.left slot.A left) (λ a.
    Then (OpensOn h sides.right slot.B right) (λ b r.
    r ≡ Ok (record { left = a; right = b })))

-- ---- all six files

-- the schema, the sides, the archive, and the replicas
pub record Before : Type 0 where
  pub schema : SchemaValue
  pub sides : Sides
  pub archive : Archive
  pub replicas : Replicas

abbrev pub before_with : SchemaValue → SidePair → Archive → ReplicaPair → Before
before_with s sides o replicas = record { schema = s; sides = sides_of sides; archive = o; replicas = replicas_of replicas }

abbrev pub before_of : Inputs → Before
before_of t = before_with t.schema t.sides t.archive t.replicas

-- the archive and the replicas, behind the schema and the sides
unfoldable pub ReadsBehind : Handed → SchemaValue → Sides → List ℕ → List ℕ → List ℕ → Result Before Refusal → Type 0
ReadsBehind h s sides archive left right =
    Then (Told archive_stop (ReadsArchive archive)) (λ o.
    Then (OpensReplicas h sides left right) (λ replicas r.
    r ≡ Ok (record { schema = s; sides = sides; archive = o; replicas = replicas })))

unfoldable pub ReadsSix : Handed → List ℕ → List ℕ → List ℕ → List ℕ → List ℕ → List ℕ → Result Before Refusal → Type 0
ReadsSix h schema lens_a lens_b archive left right =
    Then (Told schema_stop (ReadsSchema schema)) (λ s.
    Then (OpensSides h s lens_a lens_b) (λ sides.
    ReadsBehind h s sides archive left right))

-- by the bytes of the files in the order of their slots
unfoldable pub ReadsAll : Handed → List (List ℕ) → Result Before Refusal → Type 0
ReadsAll h all =
    ReadsSix h (get_or all 0 []) (get_or all 1 []) (get_or all 2 []) (get_or all 3 []) (get_or all 4 []) (get_or all 5 [])

-- ---- what is known of what was read

-- a replica may be closed on a side with a new view
pub record MayClose (h : Handed) (side : SideValue) (replica : ReplicaValue) (shown : Tree) : Type 0 where
  pub is_side : IsSide h side
  pub on_side : IsReplicaOn h side replica
  pub member : IsMemberTree side.typed.view shown

-- the same over what new views of a replica are put over
pub record MayCloseOver (h : Handed) (side : SideValue) (base : Base) (shown : Tree) : Type 0 where
  pub is_side : IsSide h side
  pub over : (r : ReplicaValue) × IsBaseOn h side r base
  pub member : IsMemberTree side.typed.view shown

-- new views of replicas are put over these
pub record AreBases (h : Handed) (sides : Sides) (replicas : Replicas) (bases : BasePair) : Type 0 where
  pub left : IsBaseOn h sides.left replicas.left bases.left
  pub right : IsBaseOn h sides.right replicas.right bases.right

-- the replicas are those of sides that serve the schema, of which their views are members
pub record AreOpened (h : Handed) (b : Before) : Type 0 where
  pub no_twins : HasNoTwins b.schema
  pub serves_left : Serves h b.schema b.sides.left
  pub serves_right : Serves h b.schema b.sides.right
  pub left : IsReplicaOn h b.sides.left b.replicas.left
  pub right : IsReplicaOn h b.sides.right b.replicas.right
  pub member_left : IsMemberTree b.schema b.replicas.left.view
  pub member_right : IsMemberTree b.schema b.replicas.right.view
