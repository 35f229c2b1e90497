-- What replicas are opened and closed as, told as refusals, and that it is one thing.
use Rattle.std.proofs.Common.{◌≡◌, ℕ, ◌<◌, List, length, get_or, slice_get, Some, None, Result, Ok, Err, IfOk, refl, sym, ap, subst, ◌∙◌}
use Rattle.std.proofs.lemmas.Option.{same_Some, slice_get_read}
use Rattle.hm_tree.specs.Nodes.{Tree}
use Rattle.hm_text_lens.specs.Meanings.{TextMeaning}
use Rattle.hm_terms.specs.Shown.{Shows}
use Rattle.hm_terms.specs.Put.{Puts}
use Rattle.hm_schema.specs.Membership.{IsMemberTree}
use Rattle.hm_format.specs.declared.fault.FormatFault.{FormatFault}
use Rattle.hm_format.specs.declared.fault.FormatFault.TheVariants as format
use Rattle.hm_format.specs.Formats.{FormatMeaning, IsLawful}
use Rattle.hm_replica.specs.declared.replica.Replica.{Replica}
use Rattle.hm_replica.specs.Replicas.{ReplicaValue, TypedValue, replica_value, options_in, main_in, setting_in, kept_by, IsFitting, IsReplica, IsPut, Closes}
use Rattle.hm_replica.proofs.Laws.{stays}
use Rattle.hm_run_files.specs.declared.slot.Slot.{Slot}
use Rattle.hm_run_files.specs.declared.stop.FileFault.TheVariants.{Unwritable}
use Rattle.hm_run_files.specs.declared.stop.Refusal.TheVariants.{At}
use Rattle.hm_run_files.specs.declared.stop.Stop.{Stop}
use Rattle.hm_run_files.specs.declared.stop.Stop.TheVariants.{Refused}
use Rattle.hm_run_files.specs.Steps.{Computes, FindsOne}
use Rattle.hm_run_files.proofs.Steps.{sides_once, computes_as}
use Rattle.hm_run_sides.specs.Stops.{format_stop, write_stop}
use Rattle.hm_run_sides.specs.Formats.{HasFormat}
use Rattle.hm_run_handed.specs.Handed.{Handed}
use Rattle.hm_run_sides.specs.Sides.{SideValue, seen, IsSide}
use Rattle.hm_run_sides.specs.SideReplicas.{OpensReplica, OpensOn, ClosesReplica, ClosesOn, IsReplicaOn}

module _ (m : FormatMeaning) (texts : List TextMeaning) (t : TypedValue) (at : Slot) where
  -- ---- told as refusals

  pub closes_told : (r : ReplicaValue) (shown : Tree) (fault : FormatFault) → Closes m texts t r shown (Err fault)
      → Computes {A = List ℕ} (ClosesReplica m texts t r shown at) (Err (write_stop at fault))
  closes_told r shown (format.TooDeep depth) h = ((depth, h, refl), refl)
  closes_told r shown format.Memory h = refl
  closes_told r shown (format.BadOption key) h = absurd h
  closes_told r shown (format.NotUtf8 place) h = absurd h
  closes_told r shown (format.BadItem number) h = absurd h
  closes_told r shown (format.NoKey number) h = absurd h
  closes_told r shown (format.Outside path) h = absurd h

  -- ---- one thing at the most

  module _ (laws : IsLawful m) (typed : IsFitting m texts t) where
    member : (bytes : List ℕ) (c : Tree) → m.reads (options_in t) bytes (Ok c) → IsMemberTree t.source c
    member bytes c read = laws.members (options_in t) t.source bytes c typed.sound typed.schema read

    same_tree : (bytes : List ℕ) (c d : Tree) → m.reads (options_in t) bytes (Ok c) → m.reads (options_in t) bytes (Ok d) → c ≡ d
    same_tree bytes c d h k =
        let e : ◌≡◌ {A = Result Tree FormatFault} (Ok c) (Ok d) = laws.read_once (options_in t) bytes (Ok c) (Ok d) h k in cc

    -- of one file there is one replica
    same_replica : (r q : ReplicaValue) → r.bytes ≡ q.bytes → IsReplica m texts t r → IsReplica m texts t q → r ≡ q
    same_replica r q bytes h k =
        let tree : h.tree ≡ k.tree =
        same_tree r.bytes h.tree k.tree h.read (subst (λ b. m.reads (options_in t) b (Ok k.tree)) (sym bytes) k.read) in
        let concrete : r.concrete ≡ q.concrete = h.kept ∙ ap (kept_by (main_in t)) tree ∙ sym k.kept in
        let one = typed.fits.shows k.tree (member q.bytes k.tree k.read) in
        let view : r.view ≡ q.view =
        one.only r.view (subst (λ c. Shows (setting_in texts t) (main_in t) c r.view) tree h.shown) ∙ sym (one.only q.view k.shown) in
        λ i. record { bytes = bytes i; concrete = concrete i; view = view i }

    replica_once : (bytes : List ℕ) → FindsOne (OpensReplica m texts t at bytes)
    replica_once bytes = sides_once (OpensReplica m texts t at bytes)
        (λ r q h k. same_replica r q (h.0 ∙ sym k.0) h.1 k.1)
        (λ r f h k.
        let e : ◌≡◌ {A = Result Tree FormatFault} (Ok h.1.tree) (Err k.0) =
        laws.read_once (options_in t) bytes (Ok h.1.tree) (Err k.0) (subst (λ b. m.reads (options_in t) b (Ok h.1.tree)) h.0 h.1.read) k.1 in
        let no : ⊥ = cc in no)
        (λ f g h k.
        let e : ◌≡◌ {A = Result Tree FormatFault} (Err h.0) (Err k.0) = laws.read_once (options_in t) bytes (Err h.0) (Err k.0) h.1 k.1 in
        let same : h.0 ≡ k.0 = cc in
        let told : Refused f ≡ Refused g = sym h.2 ∙ ap (format_stop at) same ∙ k.2 in cc)

    module _ (r : ReplicaValue) (shown : Tree) (there : IsMemberTree t.view shown) where
      same_put : (c d : Tree) → IsPut m texts t r.bytes shown c → IsPut m texts t r.bytes shown d → c ≡ d
      same_put c d h k =
          let before : k.before ≡ h.before = same_tree r.bytes k.before h.before k.read h.read in
          let one = typed.fits.puts shown (Some h.before) there (member r.bytes h.before h.read) in
          one.only c h.puts ∙ sym (one.only d (subst (λ b. Puts (setting_in texts t) (main_in t) shown (Some b) d) before k.puts))

      closed_once : FindsOne (ClosesReplica m texts t r shown at)
      closed_once = sides_once (ClosesReplica m texts t r shown at)
          (λ b c h k. laws.writes_once (options_in t) h.tree r.bytes b c h.written
          (subst (λ (tree : Tree). m.writes (options_in t) tree r.bytes c) (same_put k.tree h.tree k.put h.put) k.written))
          (λ b f h k.
          let e : None ≡ Some k.0 = sym h.within ∙ ap m.over (same_put h.tree k.1.tree h.put k.1.put) ∙ k.1.over in let no : ⊥ = cc in no)
          (λ f g h k.
          let e : Some h.0 ≡ Some k.0 = sym h.1.over ∙ ap m.over (same_put h.1.tree k.1.tree h.1.put k.1.put) ∙ k.1.over in
          let same : h.0 ≡ k.0 = cc in h.2 ∙ ap (λ (d : ℕ). At at (Unwritable d)) same ∙ sym k.2)

-- ---- on a side

module _ (hand : Handed) (side : SideValue) (x : hand.box) (within : side.place < length hand.formats) (is : x ≡ get_or hand.formats side.place x) where
  there : slice_get hand.formats side.place ≡ Some x
  there = slice_get_read hand.formats (length hand.formats) side.place x refl within is

  -- what holds of the format of a side holds of that at its place
  pub of_side : {P : FormatMeaning → Type 0} → HasFormat hand.means_of hand.formats side.place P → P (hand.means_of x)
  of_side {P} h = subst (λ b. P (hand.means_of b)) (same_Some h.box x (sym h.is ∙ there)) h.holds

  pub opens_on : (at : Slot) (bytes : List ℕ) (r : Result ReplicaValue Stop) → Computes (OpensReplica (hand.means_of x) hand.texts side.typed at bytes) r
      → Computes (OpensOn hand side at bytes) r
  opens_on at bytes r h =
      computes_as (OpensReplica (hand.means_of x) hand.texts side.typed at bytes) (OpensOn hand side at bytes)
      (λ found e. record { box = x; is = there; holds = e }) r h

  pub opened_on : (at : Slot) (bytes : List ℕ) (r : Result Replica Stop)
      → Computes (OpensReplica (hand.means_of x) hand.texts side.typed at bytes) (seen replica_value r)
      → IfOk r (λ replica. IsReplicaOn hand side (replica_value replica))
  opened_on at bytes (Ok replica) h = record { box = x; is = there; holds = h.0.1 }
  opened_on at bytes (Err stop) h = tt

  pub closes_on : (replica : ReplicaValue) (shown : Tree) (at : Slot) (r : Result (List ℕ) Stop)
      → Computes (ClosesReplica (hand.means_of x) hand.texts side.typed replica shown at) r
      → Computes (ClosesOn hand side replica shown at) r
  closes_on replica shown at r h =
      computes_as (ClosesReplica (hand.means_of x) hand.texts side.typed replica shown at) (ClosesOn hand side replica shown at)
      (λ found e. record { box = x; is = there; holds = e }) r h

-- on a side there is one thing at the most
module _ (hand : Handed) (side : SideValue) (s : IsSide hand side) where
  here : {P : FormatMeaning → Type 0} → HasFormat hand.means_of hand.formats side.place P → P (hand.means_of s.format)
  here {P} h = subst (λ b. P (hand.means_of b)) (same_Some h.box s.format (sym h.is ∙ s.is)) h.holds

  pub opens_once : (at : Slot) (bytes : List ℕ) → FindsOne (OpensOn hand side at bytes)
  opens_once at bytes r q h k = replica_once (hand.means_of s.format) hand.texts side.typed at s.lawful s.typed bytes r q (here h) (here k)

  pub closes_once : (replica : ReplicaValue) (shown : Tree) → IsMemberTree side.typed.view shown
      → (at : Slot) → FindsOne (ClosesOn hand side replica shown at)
  closes_once replica shown there at r q h k =
      closed_once (hand.means_of s.format) hand.texts side.typed at s.lawful s.typed replica shown there r q (here h) (here k)

  -- where the view is that of the replica, its own bytes are those that are written
  pub stays_on : (replica : ReplicaValue) → IsReplicaOn hand side replica → IsMemberTree side.typed.view replica.view → (at : Slot)
      → ClosesOn hand side replica replica.view at (Ok replica.bytes)
  stays_on replica on there at = record {
    box = s.format;
    is = s.is;
    holds = stays (hand.means_of s.format) hand.texts side.typed s.lawful s.typed replica (here on) replica.view there refl;
  }
