-- All bytes are read as a tree, or refused for a fault, and so of an archive.
use Rattle.std.proofs.Common.{◌≡◌, ℕ, ◌≤◌, Bool, true, false, List, [], ◌++◌, length, take, Some, None, Result, Ok, Err, refl, ◌∙◌, arith, inl, inr}
use Rattle.std.proofs.lemmas.Bool.{cases_lt}
use Rattle.hm_existence.specs.Existence.{IsThere}
use Rattle.hm_existence.proofs.Existence.{from_one, from_there, by_cases, IsGreatest, greatest_there}
use Rattle.hm_tree.specs.Nodes.{Node, Tree, depth, empty}
use Rattle.hm_tree.specs.Archives.{Archive, recorded, depth-recorded}
use Rattle.hm_tree_text.specs.declared.fault.TextFault.{TextFault}
use Rattle.hm_tree_text.specs.declared.fault.TextFault.TheVariants.{BadTree, TooDeep}
use Rattle.hm_tree_text.specs.Text.{whole, text, HasAllowedMarks, line_feed, tree_text}
use Rattle.hm_tree_text.specs.Files.{IsTreeFile, IsArchiveFile, IsTreeText, IsArchiveText}
use Rattle.hm_tree_text.specs.Begun.{IsBegun}
use Rattle.hm_tree_text.specs.Opening.{IsTooDeep}
use Rattle.hm_tree_text.specs.Faults.{Faults}
use Rattle.hm_tree_text.specs.Reads.{Reads, ReadsTree, ReadsArchive}
use Rattle.hm_tree_text.proofs.DeepTrees.{opens_deep}
use Rattle.hm_tree_text.proofs.Whole.{sound_unmarked, any_marks}

-- a file that is too deep begins so
module _ (m : Bool) (bytes : List ℕ) where
  file_deep : (n : Node true) → HasAllowedMarks m n.shape → bytes ≡ text whole n.shape ++ line_feed → 1001 ≤ depth n → IsTooDeep m bytes
  file_deep n marks is deep =
      let o = opens_deep m 1001 n marks (omega arith) deep line_feed in
      (o.part, o.rest, o.is_form, is ∙ o.is)

  -- no fault, or one, where a file that isn't too deep has a value
  module _ {A : Type 0} (IsText : A → List ℕ → Type 0) (File : List ℕ → Type 0) where
    abbrev Answers : Result A TextFault → Type 0
    Answers = Reads IsText (Faults m File) bytes

    abbrev Begun : ℕ → Type 0
    Begun n = IsBegun File (take n bytes)

    bad_there : IsBegun File [] → ¬ (IsTooDeep m bytes) → ¬ (File bytes) → IsThere Answers
    bad_there some shallow none =
        from_there (IsGreatest Begun (length bytes)) Answers (greatest_there Begun (length bytes) some) (λ at g.
        from_one Answers (Err (BadTree at)) (record {
          not_deep = shallow;
          no_file = none;
          place = record { within = g.within; begun = g.has; longest = g.greatest };
        }))

    read_there : IsBegun File [] → (¬ (IsTooDeep m bytes) → File bytes → (x : A) × IsText x bytes) → IsThere Answers
    read_there some value =
        by_cases Answers (IsTooDeep m bytes) (λ deep. from_one Answers (Err TooDeep) deep) (λ shallow.
        by_cases Answers (File bytes) (λ file. let v = value shallow file in from_one Answers (Ok v.0) v.1) (bad_there some shallow))

-- ---- trees

tree_deep : (bytes : List ℕ) (t : Tree) → bytes ≡ tree_text t → 1001 ≤ depth t → IsTooDeep false bytes
unfolding recorded
tree_deep bytes t is deep =
    file_deep false bytes (recorded t) (sound_unmarked true t.shape t.sound) is (let d = depth-recorded t in omega arith)

tree_value : (bytes : List ℕ) → ¬ (IsTooDeep false bytes) → IsTreeFile bytes → (t : Tree) × IsTreeText t bytes
tree_value bytes shallow f = elim (cases_lt 1000 (depth f.0)) [
  | inl deep ↦ absurd (shallow (tree_deep bytes f.0 f.1 (omega arith)))
  | inr le ↦ (f.0, record { spelled = f.1; shallow = le })
]

pub tree_read_there : (bytes : List ℕ) → IsThere (ReadsTree bytes)
tree_read_there bytes = read_there false bytes IsTreeText IsTreeFile (tree_text empty, (empty, refl)) (tree_value bytes)

-- ---- archives

archive_value : (bytes : List ℕ) → ¬ (IsTooDeep true bytes) → IsArchiveFile bytes → (o : Archive) × IsArchiveText o bytes
archive_value bytes shallow (None, is) = (None, record { spelled = is; shallow = omega arith })
archive_value bytes shallow (Some n, is) = elim (cases_lt 1000 (depth n)) [
  | inl deep ↦ absurd (shallow (file_deep true bytes n (any_marks n.shape) is (omega arith)))
  | inr le ↦ (Some n, record { spelled = is; shallow = le })
]

pub archive_read_there : (bytes : List ℕ) → IsThere (ReadsArchive bytes)
archive_read_there bytes = read_there true bytes IsArchiveText IsArchiveFile ([], (None, refl)) (archive_value bytes)
