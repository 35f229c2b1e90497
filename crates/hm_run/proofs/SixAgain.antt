-- The bytes of six files once the first n new files of a plan are written.
use Rattle.std.proofs.Common.{◌≡◌, ℕ, zero, suc, List, [], ◌∷◌, ◌++◌, take, get_or, Bool, true, false, cond, Option, Some, None, refl, sym, ap, ◌∙◌}
use Rattle.std.specs.Option.{unwrap_or}
use Rattle.std.specs.Str.{bytes_eq}
use Rattle.std.proofs.Math.Seq.{take-nil}
use Rattle.std.proofs.lemmas.Bool.{false_from_ne_true}
use Rattle.std.proofs.lemmas.Slice.Eq.{bytes_eq-Decides}
use mathlib.Core.Bool.{true≢false}
use Rattle.hm_tree.specs.Names.{Name}
use Rattle.hm_outside.specs.Contents.{Contents}
use Rattle.hm_run_files.specs.Files.{File, New}
use Rattle.hm_run_files.proofs.Rewriting.{new_bytes, renewed, AreFound}
use Rattle.hm_run_words.specs.Slots.{six_slots, paired}
use Rattle.hm_run_words.proofs.Apart.{Six, six_names, AreApart}
use Rattle.hm_run_sync.specs.Verdict.{Texts, news_of}
use Rattle.hm_stops.specs.Stopped.{left_is_new, right_is_new, archive_is_new}
use Rattle.hm_run.specs.Commands.{new_names}

-- the bytes of six files, in the order of their slots
pub record SixBytes : Type 0 where
  pub schema : List ℕ
  pub lens_a : List ℕ
  pub lens_b : List ℕ
  pub archive : List ℕ
  pub left : List ℕ
  pub right : List ℕ

abbrev pub six_bytes : List (List ℕ) → SixBytes
six_bytes all = record {
  schema = get_or all 0 [];
  lens_a = get_or all 1 [];
  lens_b = get_or all 2 [];
  archive = get_or all 3 [];
  left = get_or all 4 [];
  right = get_or all 5 [];
}

-- of which the first n that are written are new
abbrev pub six_at : ℕ → Texts → SixBytes → SixBytes
six_at n t s = record {
  schema = s.schema;
  lens_a = s.lens_a;
  lens_b = s.lens_b;
  archive = cond (archive_is_new n) t.archive s.archive;
  left = cond (left_is_new n) t.left s.left;
  right = cond (right_is_new n) t.right s.right;
}

abbrev pub six_files : Six → List File
six_files f = paired six_slots (six_names f)

turned : (a b : Name) → bytes_eq a b ≡ false → bytes_eq b a ≡ false
turned a b e = false_from_ne_true _ (λ same. true≢false (sym ((bytes_eq-Decides a b).1 (sym ((bytes_eq-Decides b a).0 same))) ∙ e))

itself : (x : Name) → bytes_eq x x ≡ true
itself x = (bytes_eq-Decides x x).1 refl

new_or_old : (new : Bool) (bytes old : List ℕ) → unwrap_or (cond new (Some bytes) None) old ≡ cond new bytes old
new_or_old true bytes old = refl
new_or_old false bytes old = refl

module _ (f : Six) (apart : AreApart f) (t : Texts) where
  abbrev news_at : ℕ → List New
  news_at n = take n (news_of (new_names (six_names f)) t)

  -- all three, however many more are asked for
  all_three : (n : ℕ) (x : Name) → new_bytes (news_at (suc (suc (suc n)))) x ≡ new_bytes (news_at 3) x
  all_three n x = λ i. new_bytes (news_of (new_names (six_names f)) t ++ take-nil n i) x

  -- a name that isn't written has no new bytes
  none_new : (n : ℕ) (x : Name) → bytes_eq x f.archive ≡ false → bytes_eq x f.left ≡ false → bytes_eq x f.right ≡ false → new_bytes (news_at n) x ≡ None
  none_new zero x archive left right = refl
  none_new (suc zero) x archive left right = rw left refl
  none_new (suc (suc zero)) x archive left right = rw (left, right) refl
  none_new (suc (suc (suc n))) x archive left right = all_three n x ∙ rw (archive, left, right) refl

  new_left : (n : ℕ) → new_bytes (news_at n) f.left ≡ cond (left_is_new n) (Some t.left) None
  new_left zero = refl
  new_left (suc zero) = rw (itself f.left) refl
  new_left (suc (suc zero)) = rw (itself f.left, apart.left_right) refl
  new_left (suc (suc (suc n))) = all_three n f.left ∙ rw (itself f.left, apart.left_right, turned f.archive f.left apart.archive_left) refl

  new_right : (n : ℕ) → new_bytes (news_at n) f.right ≡ cond (right_is_new n) (Some t.right) None
  new_right zero = refl
  new_right (suc zero) = rw (turned f.left f.right apart.left_right) refl
  new_right (suc (suc zero)) = rw (itself f.right) refl
  new_right (suc (suc (suc n))) = all_three n f.right ∙ rw (itself f.right, turned f.archive f.right apart.archive_right) refl

  new_archive : (n : ℕ) → new_bytes (news_at n) f.archive ≡ cond (archive_is_new n) (Some t.archive) None
  new_archive zero = refl
  new_archive (suc zero) = rw apart.archive_left refl
  new_archive (suc (suc zero)) = rw (apart.archive_left, apart.archive_right) refl
  new_archive (suc (suc (suc n))) = all_three n f.archive ∙ rw (itself f.archive) refl

  pub six_renewed : (c : Contents) (n : ℕ) (all : List (List ℕ)) → AreFound c (six_files f) all
      → six_bytes (renewed (news_at n) (six_files f) all) ≡ six_at n t (six_bytes all)
  six_renewed c n [] h = absurd h
  six_renewed c n (_ ∷ []) h = absurd h.1
  six_renewed c n (_ ∷ _ ∷ []) h = absurd h.1.1
  six_renewed c n (_ ∷ _ ∷ _ ∷ []) h = absurd h.1.1.1
  six_renewed c n (_ ∷ _ ∷ _ ∷ _ ∷ []) h = absurd h.1.1.1.1
  six_renewed c n (_ ∷ _ ∷ _ ∷ _ ∷ _ ∷ []) h = absurd h.1.1.1.1.1
  six_renewed c n (_ ∷ _ ∷ _ ∷ _ ∷ _ ∷ _ ∷ _ ∷ _) h = absurd h.1.1.1.1.1.1
  six_renewed c n (schema ∷ lens_a ∷ lens_b ∷ archive ∷ left ∷ right ∷ []) h =
      let old : (x : Name) (bytes : List ℕ) → new_bytes (news_at n) x ≡ None → unwrap_or (new_bytes (news_at n) x) bytes ≡ bytes =
      λ x bytes none. ap (λ (o : Option (List ℕ)). unwrap_or o bytes) none in
      let new : (x : Name) (at : Bool) (bytes old : List ℕ) → new_bytes (news_at n) x ≡ cond at (Some bytes) None
      → unwrap_or (new_bytes (news_at n) x) old ≡ cond at bytes old =
      λ x at bytes old is. ap (λ (o : Option (List ℕ)). unwrap_or o old) is ∙ new_or_old at bytes old in
      let s = old f.schema schema (none_new n f.schema apart.schema_archive apart.schema_left apart.schema_right) in
      let a = old f.lens_a lens_a (none_new n f.lens_a apart.lens_a_archive apart.lens_a_left apart.lens_a_right) in
      let b = old f.lens_b lens_b (none_new n f.lens_b apart.lens_b_archive apart.lens_b_left apart.lens_b_right) in
      let o = new f.archive (archive_is_new n) t.archive archive (new_archive n) in
      let l = new f.left (left_is_new n) t.left left (new_left n) in
      let r = new f.right (right_is_new n) t.right right (new_right n) in
      λ i. record { schema = s i; lens_a = a i; lens_b = b i; archive = o i; left = l i; right = r i }
