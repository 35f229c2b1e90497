-- What was written on a side is opened again, and comes to the same bytes; and six files are read again with what was written.
use Rattle.std.proofs.Common.{ℕ, List, Bool, true, false, cond, Ok, refl, sym, subst}
use Rattle.hm_tree.specs.Nodes.{Tree}
use Rattle.hm_tree.specs.Archives.{Archive}
use Rattle.hm_tree_text.specs.Reads.{ReadsArchive}
use Rattle.hm_schema.specs.Membership.{IsMemberTree}
use Rattle.hm_replica.specs.Replicas.{ReplicaValue, main_in, kept_by}
use Rattle.hm_run_files.specs.declared.slot.Slot.{Slot}
use Rattle.hm_run_files.specs.declared.slot.Slot.TheVariants as slot
use Rattle.hm_run_files.specs.Steps.{goes_on}
use Rattle.hm_run_files.proofs.Steps.{ok_is, then_ok}
use Rattle.hm_run_handed.specs.Handed.{Handed}
use Rattle.hm_run_sides.specs.Sides.{SideValue, IsSide}
use Rattle.hm_run_sides.specs.SideReplicas.{OpensOn, ClosesOn, IsReplicaOn}
use Rattle.hm_run_sides.proofs.Laws.{stays_on}
use Rattle.hm_run_sync.specs.Reads.{Sides, Replicas, Before, OpensReplicas, ReadsBehind, ReadsSix}

-- ---- a side

module _ (h : Handed) (side : SideValue) (at : Slot) (r : ReplicaValue) (shown : Tree) (bytes : List ℕ)
    (closes : ClosesOn h side r shown at (Ok bytes)) where
  -- the replica of what was written
  abbrev pub rewritten : ReplicaValue
  rewritten = record { bytes = bytes; concrete = kept_by (main_in side.typed) closes.holds.tree; view = shown }

  opens_rewritten : OpensOn h side at bytes (Ok rewritten)
  opens_rewritten = record { box = closes.box; is = closes.is; holds = (refl, closes.holds.replica) }

  rewritten_on : IsReplicaOn h side rewritten
  rewritten_on = record { box = closes.box; is = closes.is; holds = closes.holds.replica }

  -- that one, or the one from before
  abbrev pub replica_at : Bool → ReplicaValue
  replica_at new = cond new rewritten r

  pub opens_at : (new : Bool) (old : List ℕ) → OpensOn h side at old (Ok r) → OpensOn h side at (cond new bytes old) (Ok (replica_at new))
  opens_at true old opens = opens_rewritten
  opens_at false old opens = opens

  pub closes_at : (new : Bool) → IsSide h side → IsMemberTree side.typed.view shown → ClosesOn h side (replica_at new) shown at (Ok bytes)
  closes_at true is there = stays_on h side is rewritten rewritten_on there at
  closes_at false is there = closes

-- ---- six files

-- the archive and the replicas are read behind the same sides
pub record AreReadBehind (h : Handed) (sides : Sides) (archive left right : List ℕ) (o : Archive) (a b : ReplicaValue) : Type 0 where
  pub archive_is : ReadsArchive archive (Ok o)
  pub left_is : OpensOn h sides.left slot.A left (Ok a)
  pub right_is : OpensOn h sides.right slot.B right (Ok b)

module _ (h : Handed) (schema lens_a lens_b archive left right : List ℕ) (b : Before) where
  abbrev AreRead : Before → Type 0
  AreRead b = AreReadBehind h b.sides archive left right b.archive b.replicas.left b.replicas.right

  pub read_behind : ReadsSix h schema lens_a lens_b archive left right (Ok b) → AreRead b
  unfolding ReadsSix ReadsBehind OpensReplicas
  read_behind o =
      let s = then_ok o in
      let sides = then_ok s.2 in
      let archived = then_ok sides.2 in
      let replicas = then_ok archived.2 in
      let one = then_ok replicas.1 in
      let other = then_ok one.2 in
      let both = ok_is _ _ other.2 in
      subst AreRead (sym (ok_is _ _ replicas.2)) (subst (λ (r : Replicas).
      AreRead (record { schema = s.0; sides = sides.0; archive = archived.0; replicas = r })) (sym both)
      (record { archive_is = archived.1; left_is = one.1; right_is = other.1 }))

  -- the same schema and the same sides, with another archive and other replicas
  pub read_again : (archive2 left2 right2 : List ℕ) (o2 : Archive) (a2 b2 : ReplicaValue) → ReadsSix h schema lens_a lens_b archive left right (Ok b)
      → AreReadBehind h b.sides archive2 left2 right2 o2 a2 b2
      → ReadsSix h schema lens_a lens_b archive2 left2 right2
      (Ok (record { schema = b.schema; sides = b.sides; archive = o2; replicas = record { left = a2; right = b2 } }))
  unfolding ReadsSix ReadsBehind OpensReplicas
  read_again archive2 left2 right2 o2 a2 b2 o =
      let s = then_ok o in
      let sides = then_ok s.2 in
      let archived = then_ok sides.2 in
      let replicas = then_ok archived.2 in
      subst (λ (z : Before). AreReadBehind h z.sides archive2 left2 right2 o2 a2 b2
      → ReadsSix h schema lens_a lens_b archive2 left2 right2
      (Ok (record { schema = z.schema; sides = z.sides; archive = o2; replicas = record { left = a2; right = b2 } })))
      (sym (ok_is _ _ replicas.2))
      (λ k. goes_on s.1 (goes_on sides.1 (goes_on k.archive_is (goes_on (goes_on k.left_is (goes_on k.right_is refl)) refl))))
