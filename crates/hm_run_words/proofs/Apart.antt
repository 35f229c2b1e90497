-- A file that a command writes has a name that none of its other files has.
use Rattle.std.proofs.Common.{◌≡◌, Bool, true, false, cond, ◌&&◌, List, [], ◌∷◌, length, find, Option, Some, None, Ok, refl, sym, ap, subst, arith, ◌∙◌}
use Rattle.std.specs.Option.{option_map, option_or}
use Rattle.std.specs.Str.{bytes_eq}
use Rattle.hm_tree.specs.Names.{Name}
use Rattle.hm_command_line.specs.Requests.{RequestValue, request_of}
use Rattle.hm_run_files.specs.Files.{File}
use Rattle.hm_run_files.proofs.Steps.{ok_is}
use Rattle.hm_run_words.specs.Slots.{six_slots, slots_of, paired, files_of}
use Rattle.hm_run_words.specs.Words.{clash, first_pair, same_pair, names_differ, apart, checked, meaning}
use Rattle.hm_run_words.proofs.Formed.{meant_formed}

-- ---- no two files clash

-- a file clashes with none of some, and none of some with a later one
abbrev NoClash : File → List File → Type 0
NoClash f [] = Unit {0}
NoClash f (g ∷ gs) = (clash f g ≡ false) × NoClash f gs

abbrev NoClashes : List File → Type 0
NoClashes [] = Unit {0}
NoClashes (f ∷ fs) = NoClash f fs × NoClashes fs

no_clash : (f : File) (gs : List File) → find (clash f) gs ≡ None → NoClash f gs
no_clash f [] e = tt
no_clash f (g ∷ gs) e = go (clash f g) e (no_clash f gs)
  where
    go : (b : Bool) → cond b (Some g) (find (clash f) gs) ≡ None → (find (clash f) gs ≡ None → NoClash f gs) → (b ≡ false) × NoClash f gs
    go true e rest = absurd (let no : ⊥ = cc in no)
    go false e rest = (refl, rest e)

no_clashes : (fs : List File) → first_pair fs ≡ None → NoClashes fs
unfolding first_pair
no_clashes [] e = tt
no_clashes (f ∷ fs) e = go (find (clash f) fs) refl e (no_clashes fs)
  where
    go : (x : Option File) → find (clash f) fs ≡ x → option_or (option_map (λ g. (f, g)) x) (first_pair fs) ≡ None
        → (first_pair fs ≡ None → NoClashes fs) → NoClash f fs × NoClashes fs
    go None is e rest = (no_clash f fs is, rest e)
    go (Some g) is e rest = absurd (let no : ⊥ = cc in no)

-- nor do those of a request whose names have to differ
meant_clashes : (words : List Name) (r : RequestValue) → meaning words ≡ Ok r → names_differ r.command ≡ true → NoClashes (files_of r)
unfolding meaning
meant_clashes words r e differ = go (request_of words) e
  where
    by_pair : (s : RequestValue) (pair : Option (File × File)) → same_pair (names_differ s.command) (files_of s) ≡ pair → apart s pair ≡ Ok r
        → NoClashes (files_of r)
    by_pair s None none e =
        let here : same_pair (names_differ r.command) (files_of r) ≡ None =
        subst (λ (z : RequestValue). same_pair (names_differ z.command) (files_of z) ≡ None) (ok_is s r e) none in
        no_clashes (files_of r) (ap (λ b. same_pair b (files_of r)) (sym differ) ∙ here)
    by_pair s (Some p) is e = absurd (let no : ⊥ = cc in no)

    go : (o : Option RequestValue) → checked o ≡ Ok r → NoClashes (files_of r)
    go None e = absurd (let no : ⊥ = cc in no)
    go (Some s) e = by_pair s (same_pair (names_differ s.command) (files_of s)) refl e

-- ---- six files

-- the names of six files, in the order in which they are named
pub record Six : Type 0 where
  pub schema : Name
  pub lens_a : Name
  pub lens_b : Name
  pub archive : Name
  pub left : Name
  pub right : Name

abbrev pub six_names : Six → List Name
six_names f = f.schema ∷ f.lens_a ∷ f.lens_b ∷ f.archive ∷ f.left ∷ f.right ∷ []

-- each name that is written differs from all others
pub record AreApart (f : Six) : Type 0 where
  pub schema_archive : bytes_eq f.schema f.archive ≡ false
  pub schema_left : bytes_eq f.schema f.left ≡ false
  pub schema_right : bytes_eq f.schema f.right ≡ false
  pub lens_a_archive : bytes_eq f.lens_a f.archive ≡ false
  pub lens_a_left : bytes_eq f.lens_a f.left ≡ false
  pub lens_a_right : bytes_eq f.lens_a f.right ≡ false
  pub lens_b_archive : bytes_eq f.lens_b f.archive ≡ false
  pub lens_b_left : bytes_eq f.lens_b f.left ≡ false
  pub lens_b_right : bytes_eq f.lens_b f.right ≡ false
  pub archive_left : bytes_eq f.archive f.left ≡ false
  pub archive_right : bytes_eq f.archive f.right ≡ false
  pub left_right : bytes_eq f.left f.right ≡ false

only_first : (b : Bool) → (b && true) ≡ false → b ≡ false
only_first true e = e
only_first false e = refl

six_apart : (f : Six) → NoClashes (paired six_slots (six_names f)) → AreApart f
six_apart f all = record {
  schema_archive = only_first (bytes_eq f.schema f.archive) all.0.1.1.0;
  schema_left = only_first (bytes_eq f.schema f.left) all.0.1.1.1.0;
  schema_right = only_first (bytes_eq f.schema f.right) all.0.1.1.1.1.0;
  lens_a_archive = only_first (bytes_eq f.lens_a f.archive) all.1.0.1.0;
  lens_a_left = only_first (bytes_eq f.lens_a f.left) all.1.0.1.1.0;
  lens_a_right = only_first (bytes_eq f.lens_a f.right) all.1.0.1.1.1.0;
  lens_b_archive = only_first (bytes_eq f.lens_b f.archive) all.1.1.0.0;
  lens_b_left = only_first (bytes_eq f.lens_b f.left) all.1.1.0.1.0;
  lens_b_right = only_first (bytes_eq f.lens_b f.right) all.1.1.0.1.1.0;
  archive_left = only_first (bytes_eq f.archive f.left) all.1.1.1.0.0;
  archive_right = only_first (bytes_eq f.archive f.right) all.1.1.1.0.1.0;
  left_right = only_first (bytes_eq f.left f.right) all.1.1.1.1.0.0;
}

six_of : (names : List Name) → length names ≡ 6 → (f : Six) × (names ≡ six_names f)
six_of [] e = absurd (omega arith)
six_of (a ∷ []) e = absurd (omega arith)
six_of (a ∷ b ∷ []) e = absurd (omega arith)
six_of (a ∷ b ∷ c ∷ []) e = absurd (omega arith)
six_of (a ∷ b ∷ c ∷ d ∷ []) e = absurd (omega arith)
six_of (a ∷ b ∷ c ∷ d ∷ g ∷ []) e = absurd (omega arith)
six_of (a ∷ b ∷ c ∷ d ∷ g ∷ h ∷ []) e = (record { schema = a; lens_a = b; lens_b = c; archive = d; left = g; right = h }, refl)
six_of (a ∷ b ∷ c ∷ d ∷ g ∷ h ∷ k ∷ more) e = absurd (omega arith)

-- what the words of a command that writes six files name, or would
pub record AreSix (r : RequestValue) : Type 0 where
  pub six : Six
  pub names : r.files ≡ six_names six
  pub files : files_of r ≡ paired six_slots (six_names six)
  pub apart : AreApart six

pub meant_six : (words : List Name) (r : RequestValue) → meaning words ≡ Ok r → slots_of r.command ≡ six_slots → names_differ r.command ≡ true → AreSix r
meant_six words r e slots differ =
    let f = six_of r.files (meant_formed words r e ∙ ap (λ l. length l) slots) in
    let files : files_of r ≡ paired six_slots (six_names f.0) = (λ i. paired (slots i) (f.1 i)) in
    record {
      six = f.0;
      names = f.1;
      files = files;
      apart = six_apart f.0 (subst NoClashes files (meant_clashes words r e differ));
    }
