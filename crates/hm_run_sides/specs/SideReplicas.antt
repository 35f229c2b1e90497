-- The replica of a side: what its file is opened as, and what is written of a view.
use Rattle.std.specs.Prelude.{◌≡◌, ℕ, List, Result, Ok, Err}
use Rattle.hm_tree.specs.Nodes.{Tree}
use Rattle.hm_text_lens.specs.Meanings.{TextMeaning}
use Rattle.hm_format.specs.declared.fault.FormatFault.{FormatFault}
use Rattle.hm_format.specs.Formats.{FormatMeaning}
use Rattle.hm_replica.specs.declared.base.Base.{Base}
use Rattle.hm_replica.specs.Bases.{IsBase}
use Rattle.hm_replica.specs.Replicas.{ReplicaValue, TypedValue, options_in, IsReplica, IsClosed, IsTooDeep}
use Rattle.hm_run_files.specs.declared.slot.Slot.{Slot}
use Rattle.hm_run_files.specs.declared.stop.FileFault.TheVariants.{Unwritable}
use Rattle.hm_run_files.specs.declared.stop.Refusal.{Refusal}
use Rattle.hm_run_files.specs.declared.stop.Refusal.TheVariants.{At}
use Rattle.hm_run_files.specs.declared.stop.Stop.TheVariants.{Refused}
use Rattle.hm_run_sides.specs.Formats.{HasFormat}
use Rattle.hm_run_handed.specs.Handed.{Handed}
use Rattle.hm_run_sides.specs.Stops.{format_stop}
use Rattle.hm_run_sides.specs.Sides.{SideValue}

-- the bytes are read as a tree, of which the program shows a view; or the format doesn't read them
abbrev pub OpensReplica : FormatMeaning → List TextMeaning → TypedValue → Slot → List ℕ → Result ReplicaValue Refusal → Type 0
OpensReplica m texts t at bytes (Ok r) = (r.bytes ≡ bytes) × IsReplica m texts t r
OpensReplica m texts t at bytes (Err refusal) =
    (fault : FormatFault) × m.reads (options_in t) bytes (Err fault) × (format_stop at fault ≡ Refused refusal)

-- the same with the format of a side
abbrev pub OpensOn : Handed → SideValue → Slot → List ℕ → Result ReplicaValue Refusal → Type 0
OpensOn h side at bytes found = HasFormat h.means_of h.formats side.place (λ m. OpensReplica m h.texts side.typed at bytes found)

-- the bytes of a view, behind those of a replica; or the tree that is put of it is too deep
abbrev pub ClosesReplica : FormatMeaning → List TextMeaning → TypedValue → ReplicaValue → Tree → Slot → Result (List ℕ) Refusal → Type 0
ClosesReplica m texts t r shown at (Ok bytes) = IsClosed m texts t r shown bytes
ClosesReplica m texts t r shown at (Err refusal) = (depth : ℕ) × IsTooDeep m texts t r shown depth × (refusal ≡ At at (Unwritable depth))

abbrev pub ClosesOn : Handed → SideValue → ReplicaValue → Tree → Slot
    → Result (List ℕ) Refusal → Type 0
ClosesOn h side r shown at found = HasFormat h.means_of h.formats side.place (λ m. ClosesReplica m h.texts side.typed r shown at found)

-- a replica on a side
abbrev pub IsReplicaOn : Handed → SideValue → ReplicaValue → Type 0
IsReplicaOn h side r = HasFormat h.means_of h.formats side.place (λ m. IsReplica m h.texts side.typed r)

-- a replica on a side, and what a new view of it is put over
pub record IsBaseOn (h : Handed) (side : SideValue) (r : ReplicaValue) (b : Base) : Type 0 where
  pub base : IsBase r b
  pub on_side : IsReplicaOn h side r
