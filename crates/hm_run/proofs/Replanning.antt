-- Over what a run that stopped has left there is a plan again, and it comes to the same end.
use Rattle.std.proofs.Common.{◌≡◌, ℕ, zero, suc, List, take, Bool, true, false, cond, Result, Ok, refl, sym, ap, subst, ◌∙◌}
use Rattle.hm_tree.specs.Names.{Name}
use Rattle.hm_tree.specs.States.{state}
use Rattle.hm_tree_text.specs.Text.{archive_text}
use Rattle.hm_tree_text.specs.Reads.{ReadsArchive}
use Rattle.hm_outcome.specs.Trios.{views, AreMembers}
use Rattle.hm_outside.specs.Contents.{Contents}
use Rattle.hm_report.specs.declared.conflict.Conflict.{Conflict}
use Rattle.hm_report.proofs.Once.{conflicts_once}
use Rattle.hm_command_line.specs.Requests.{RequestValue}
use Rattle.hm_run_files.specs.declared.slot.Slot.TheVariants as slot
use Rattle.hm_run_files.specs.declared.stop.Refusal.{Refusal}
use Rattle.hm_run_files.specs.Steps.{goes_on}
use Rattle.hm_run_files.specs.Files.{loads, measures}
use Rattle.hm_run_files.proofs.Rewriting.{renewed, loads_again, written_again}
use Rattle.hm_run_files.proofs.Steps.{ok_is, then_ok}
use Rattle.hm_run_words.specs.Slots.{files_of}
use Rattle.hm_run_words.specs.Words.{meaning}
use Rattle.hm_run_words.proofs.Apart.{Six, six_names, AreApart, AreSix}
use Rattle.hm_run_handed.specs.Handed.{Handed}
use Rattle.hm_run_sides.specs.SideReplicas.{ClosesOn}
use Rattle.hm_run_sync.specs.Reads.{Before, ReadsSix, ReadsAll, AreOpened}
use Rattle.hm_run_sync.specs.Verdict.{NewNames, Synced, Texts, Plan, Plans, PlansFrom, Becomes, Closes, HasConflicts, archive_fits, news_of, old_trio, new_trio}
use Rattle.hm_run_sync.proofs.ArchiveDepths.{fits_shallow}
use Rattle.hm_run_sync.proofs.Opened.{all_opened}
use Rattle.hm_run_sync.proofs.Once.{plan_once}
use Rattle.hm_stops.specs.Stopped.{left_is_new, right_is_new, archive_is_new, conflicts_again}
use Rattle.hm_stops.proofs.Again.{again}
use Rattle.hm_stops.proofs.Reasons.{remain_again}
use Rattle.hm_run.specs.Commands.{new_names}
use Rattle.hm_run.specs.Endings.{IsPlan, stop_state}
use Rattle.hm_run.specs.Stops.{IsPlannedAgain}
use Rattle.hm_run.proofs.Rereading.{replica_at, opens_at, closes_at, read_behind, read_again}
use Rattle.hm_run.proofs.SixAgain.{SixBytes, six_bytes, six_at, six_files, six_renewed}

-- ---- what a plan is made of

record AreClosed (h : Handed) (before : Before) (after : Synced) (texts : Texts) : Type 0 where
  left : ClosesOn h before.sides.left before.replicas.left after.left slot.A (Ok texts.left)
  right : ClosesOn h before.sides.right before.replicas.right after.right slot.B (Ok texts.right)
  fits : ◌≡◌ {A = Result (Unit {0}) Refusal} (Ok tt) (archive_fits after.archive)
  archive : texts.archive ≡ archive_text after.archive

are_closed : (h : Handed) (before : Before) (after : Synced) (texts : Texts) → Closes h before.sides before.replicas after (Ok texts)
    → AreClosed h before after texts
unfolding Closes
are_closed h before after texts closes =
    let left = then_ok closes in
    let right = then_ok left.2 in
    let fits = then_ok right.2 in
    subst (AreClosed h before after) (sym (ok_is _ _ fits.2)) (record { left = left.1; right = right.1; fits = fits.1; archive = refl })

record IsMadeOf (h : Handed) (names : NewNames) (all : List (List ℕ)) (plan : Plan) : Type 0 where
  before : Before
  after : Synced
  texts : Texts
  reads : ReadsAll h all (Ok before)
  becomes : Becomes before after
  closed : AreClosed h before after texts
  sizes : ◌≡◌ {A = Result (Unit {0}) Refusal} (Ok tt) (measures (news_of names texts))
  is : plan ≡ record { files = names; before = before; after = after; texts = texts }

made_of : (h : Handed) (names : NewNames) (all : List (List ℕ)) (plan : Plan) → PlansFrom h names all (Ok plan) → IsMadeOf h names all plan
unfolding PlansFrom Plans
made_of h names all plan p =
    let before = then_ok p in
    let after = then_ok before.2 in
    let texts = then_ok after.2 in
    let sizes = then_ok texts.2 in record {
      before = before.0;
      after = after.0;
      texts = texts.0;
      reads = before.1;
      becomes = after.1;
      closed = are_closed h before.0 after.0 texts.0 texts.1;
      sizes = sizes.1;
      is = ok_is _ _ sizes.2;
    }

-- ---- the plan once the first n of its files are new

module _ (h : Handed) (f : Six) (apart : AreApart f) (all : List (List ℕ)) (before : Before) (after : Synced) (texts : Texts)
    (reads : ReadsAll h all (Ok before)) (becomes : Becomes before after) (closed : AreClosed h before after texts)
    (sizes : ◌≡◌ {A = Result (Unit {0}) Refusal} (Ok tt) (measures (news_of (new_names (six_names f)) texts))) where
  opened : AreOpened h before
  opened = all_opened h all before reads

  abbrev before_at : ℕ → Before
  before_at n = record {
    schema = before.schema;
    sides = before.sides;
    archive = cond (archive_is_new n) after.archive before.archive;
    replicas = record {
      left = replica_at h before.sides.left slot.A before.replicas.left after.left texts.left closed.left (left_is_new n);
      right = replica_at h before.sides.right slot.B before.replicas.right after.right texts.right closed.right (right_is_new n);
    };
  }

  abbrev plan_at : ℕ → Plan
  plan_at n = record { files = new_names (six_names f); before = before_at n; after = after; texts = texts }

  abbrev plan_before : Plan
  plan_before = record { files = new_names (six_names f); before = before; after = after; texts = texts }

  reads_archive : (new : Bool) (old : List ℕ) → ReadsArchive old (Ok before.archive)
      → ReadsArchive (cond new texts.archive old) (Ok (cond new after.archive before.archive))
  reads_archive true old reads = record { spelled = closed.archive; shallow = fits_shallow after.archive closed.fits }
  reads_archive false old reads = reads

  abbrev ReadsBytes : SixBytes → Before → Type 0
  ReadsBytes s b = ReadsSix h s.schema s.lens_a s.lens_b s.archive s.left s.right (Ok b)

  reads_six : (n : ℕ) (s : SixBytes) → ReadsBytes s before → ReadsBytes (six_at n texts s) (before_at n)
  reads_six n s old =
      let now = six_at n texts s in
      let b = before_at n in
      let was = read_behind h s.schema s.lens_a s.lens_b s.archive s.left s.right before old in
      read_again h s.schema s.lens_a s.lens_b s.archive s.left s.right before now.archive now.left now.right b.archive b.replicas.left b.replicas.right
      old (record {
        archive_is = reads_archive (archive_is_new n) s.archive was.archive_is;
        left_is = opens_at h before.sides.left slot.A before.replicas.left after.left texts.left closed.left (left_is_new n) s.left was.left_is;
        right_is = opens_at h before.sides.right slot.B before.replicas.right after.right texts.right closed.right (right_is_new n) s.right was.right_is;
      })

  reads_at : (n : ℕ) (now : List (List ℕ)) → six_bytes now ≡ six_at n texts (six_bytes all) → ReadsAll h now (Ok (before_at n))
  unfolding ReadsAll
  reads_at n now is = subst (λ (s : SixBytes). ReadsBytes s (before_at n)) (sym is) (reads_six n (six_bytes all) reads)

  members : AreMembers before.schema before.schema.root (views (old_trio before))
  members = record { left = opened.member_left; right = opened.member_right }

  becomes_at : (n : ℕ) → Becomes (before_at n) after
  becomes_at zero = becomes
  becomes_at (suc zero) = again before.schema before.schema.root (old_trio before) (new_trio after) members becomes 1
  becomes_at (suc (suc zero)) = again before.schema before.schema.root (old_trio before) (new_trio after) members becomes 2
  becomes_at (suc (suc (suc n))) = again before.schema before.schema.root (old_trio before) (new_trio after) members becomes 3

  module _ (conflicts : List Conflict) (remain : HasConflicts before after conflicts) where
    remain_so : (n : ℕ) → HasConflicts (before_at n) after (conflicts_again n conflicts)
    remain_so zero = remain
    remain_so (suc zero) = remain_again before.schema before.schema.root (old_trio before) (new_trio after) members becomes conflicts remain 1
    remain_so (suc (suc zero)) = remain_again before.schema before.schema.root (old_trio before) (new_trio after) members becomes conflicts remain 2
    remain_so (suc (suc (suc n))) = remain_again before.schema before.schema.root (old_trio before) (new_trio after) members becomes conflicts remain 3

  closes_again : (n : ℕ) → Closes h before.sides (before_at n).replicas after (Ok texts)
  unfolding Closes
  closes_again n =
      goes_on (closes_at h before.sides.left slot.A before.replicas.left after.left texts.left closed.left (left_is_new n)
      opened.serves_left.is_side (opened.serves_left.members.into after.left becomes.safe.members.left))
      (goes_on (closes_at h before.sides.right slot.B before.replicas.right after.right texts.right closed.right (right_is_new n)
      opened.serves_right.is_side (opened.serves_right.members.into after.right becomes.safe.members.right))
      (goes_on closed.fits (λ i. Ok (record { archive = closed.archive i; left = texts.left; right = texts.right }))))

  plans_at : (n : ℕ) (now : List (List ℕ)) → six_bytes now ≡ six_at n texts (six_bytes all) → PlansFrom h (new_names (six_names f)) now (Ok (plan_at n))
  unfolding PlansFrom Plans
  plans_at n now is = goes_on (reads_at n now is) (goes_on (becomes_at n) (goes_on (closes_again n) (goes_on sizes refl)))

  module _ (words : List Name) (c : Contents) (asked : RequestValue) (means : meaning words ≡ Ok asked) (named : asked.files ≡ six_names f)
      (files : files_of asked ≡ six_files f) (loaded : loads c (six_files f) ≡ Ok all) where
    abbrev all_at : ℕ → List (List ℕ)
    all_at n = renewed (take n (news_of (new_names (six_names f)) texts)) (six_files f) all

    is_plan_at : (n : ℕ) → IsPlan h words (stop_state c plan_before n) (plan_at n)
    is_plan_at n =
        let so = loads_again c (news_of (new_names (six_names f)) texts) n (six_files f) all (sym sizes) loaded in
        let planned = subst (λ (l : List Name). PlansFrom h (new_names l) (all_at n) (Ok (plan_at n))) (sym named)
        (plans_at n (all_at n) (six_renewed f apart texts c n all so.0)) in record {
          asked = asked;
          means = means;
          all = all_at n;
          loaded = ap (loads (stop_state c plan_before n)) files ∙ so.1;
          planned = planned;
          only = λ r k. plan_once h (new_names asked.files) (all_at n) r (Ok (plan_at n)) k planned;
        }

    planned_so : (n : ℕ) → IsPlannedAgain h words c plan_before n
    planned_so n = record {
      again = plan_at n;
      planned = is_plan_at n;
      becomes = refl;
      ends = written_again c (news_of (new_names (six_names f)) texts) n;
      remain = λ conflicts are. remain_so conflicts are n;
      only = λ conflicts others are those.
          conflicts_once before.schema before.schema.root (views (old_trio (before_at n))) (state after.archive) others
          (conflicts_again n conflicts) those (remain_so conflicts are n);
    }

-- ---- for the words of a command that writes six files, or would

pub planned_again : (h : Handed) (words : List Name) (c : Contents) (plan : Plan) (is : IsPlan h words c plan) → AreSix is.asked → (n : ℕ)
    → IsPlannedAgain h words c plan n
planned_again h words c plan is six n =
    let made = made_of h (new_names is.asked.files) is.all plan is.planned in
    let sized = subst (λ (l : List Name). ◌≡◌ {A = Result (Unit {0}) Refusal} (Ok tt) (measures (news_of (new_names l) made.texts))) six.names made.sizes in
    let same : plan ≡ record { files = new_names (six_names six.six); before = made.before; after = made.after; texts = made.texts } =
    made.is ∙ ap (λ (l : List Name). record { files = new_names l; before = made.before; after = made.after; texts = made.texts }) six.names in
    subst (λ (p : Plan). IsPlannedAgain h words c p n) (sym same)
    (planned_so h six.six six.apart is.all made.before made.after made.texts made.reads made.becomes made.closed sized words c is.asked is.means
    six.names six.files (sym (ap (loads c) six.files) ∙ is.loaded) n)
