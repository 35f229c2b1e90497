-- What is known of what was read.
use Rattle.std.proofs.Common.{ℕ, List, Ok, sym, subst, ◌∙◌}
use Rattle.std.proofs.lemmas.Option.{same_Some}
use Rattle.hm_schema.specs.Values.{SchemaValue}
use Rattle.hm_schema_text.proofs.Laws.{schema_no_twins}
use Rattle.hm_schema.specs.Membership.{IsMemberTree}
use Rattle.hm_replica.specs.Replicas.{ReplicaValue, options_in, IsReplica}
use Rattle.hm_run_files.specs.declared.slot.Slot.{Slot}
use Rattle.hm_run_files.specs.declared.slot.Slot.TheVariants as slot
use Rattle.hm_run_files.proofs.Steps.{ok_is, then_ok}
use Rattle.hm_run_sides.specs.Sides.{SideValue, IsSide}
use Rattle.hm_run_sides.specs.SideReplicas.{OpensOn, IsReplicaOn}
use Rattle.hm_run_handed.specs.Handed.{Handed}
use Rattle.hm_run_sync.specs.Reads.{Serves, Sides, Replicas, Before, OpensView, OpensSides, OpensReplicas, ReadsBehind, ReadsSix, ReadsAll, AreOpened}

-- both sides serve a schema
pub record AreServed (h : Handed) (s : SchemaValue) (sides : Sides) : Type 0 where
  pub left : Serves h s sides.left
  pub right : Serves h s sides.right

module _ (h : Handed) where
  pub serves : (s : SchemaValue) (at : Slot) (bytes : List ℕ) (side : SideValue) → OpensView h s at bytes (Ok side) → Serves h s side
  unfolding OpensView
  serves s at bytes side o =
      let found = then_ok o in
      let last = (then_ok found.2).2 in
      subst (Serves h s) (sym (ok_is _ _ last.0)) last.1

  pub served : (s : SchemaValue) (left right : List ℕ) (sides : Sides) → OpensSides h s left right (Ok sides) → AreServed h s sides
  unfolding OpensSides
  served s left right sides o =
      let a = then_ok o in
      let b = then_ok a.2 in
      subst (AreServed h s) (sym (ok_is _ _ b.2))
      (record { left = serves s slot.LensA left a.0 a.1; right = serves s slot.LensB right b.0 b.1 })

  -- a replica that was opened on a side, with its view
  module _ (side : SideValue) (is : IsSide h side) where
    shown : (r : ReplicaValue) → IsReplica (h.means_of is.format) h.texts side.typed r → IsMemberTree side.typed.view r.view
    shown r replica =
        let member = is.lawful.members (options_in side.typed) side.typed.source r.bytes replica.tree is.typed.sound is.typed.schema replica.read in
        let one = is.typed.fits.shows replica.tree member in
        subst (IsMemberTree side.typed.view) (sym (one.only r.view replica.shown)) one.inside

    pub view_member : (at : Slot) (bytes : List ℕ) (r : ReplicaValue) → OpensOn h side at bytes (Ok r)
        → IsMemberTree side.typed.view r.view
    view_member at bytes r o =
        shown r (subst (λ (b : h.box). IsReplica (h.means_of b) h.texts side.typed r) (same_Some o.box is.format (sym o.is ∙ is.is)) o.holds.1)

    pub replica_on : (at : Slot) (bytes : List ℕ) (r : ReplicaValue) → OpensOn h side at bytes (Ok r)
        → IsReplicaOn h side r
    replica_on at bytes r o = record { box = o.box; is = o.is; holds = o.holds.1 }

  pub six_opened : (schema lens_a lens_b archive left right : List ℕ) (b : Before) → ReadsSix h schema lens_a lens_b archive left right (Ok b) → AreOpened h b
  unfolding ReadsSix ReadsBehind OpensReplicas
  six_opened schema lens_a lens_b archive left right b o =
      let s = then_ok o in
      let sides = then_ok s.2 in
      let archived = then_ok sides.2 in
      let replicas = then_ok archived.2 in
      let one = then_ok replicas.1 in
      let other = then_ok one.2 in
      let of = served s.0 lens_a lens_b sides.0 sides.1 in
      let both = ok_is _ _ other.2 in
      subst (AreOpened h) (sym (ok_is _ _ replicas.2)) (subst (λ (r : Replicas).
      AreOpened h (record { schema = s.0; sides = sides.0; archive = archived.0; replicas = r })) (sym both) (record {
        no_twins = schema_no_twins _ s.0 s.1;
        serves_left = of.left;
        serves_right = of.right;
        left = replica_on sides.0.left of.left.is_side slot.A left one.0 one.1;
        right = replica_on sides.0.right of.right.is_side slot.B right other.0 other.1;
        member_left = of.left.members.from _ (view_member sides.0.left of.left.is_side slot.A left one.0 one.1);
        member_right = of.right.members.from _ (view_member sides.0.right of.right.is_side slot.B right other.0 other.1);
      }))

  pub all_opened : (all : List (List ℕ)) (b : Before) → ReadsAll h all (Ok b) → AreOpened h b
  unfolding ReadsAll
  all_opened all b o = six_opened _ _ _ _ _ _ b o
