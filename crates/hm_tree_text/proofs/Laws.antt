-- One text for each value, one value for each text, and one reading of all bytes.
use Rattle.std.proofs.Common.{◌≡◌, ℕ, ◌≤◌, Bool, true, false, T, List, [], ◌∷◌, ◌++◌, refl, sym, ap, ◌∙◌, Some, None, Result, Ok, Err, IfOk, IfErr, arith}
use Rattle.std.specs.Prelude.{codes}
use Rattle.hm_tree.specs.Nodes.{Shape, bare, mark, edge, is_node, Node, Tree, depth, marked}
use Rattle.hm_tree.specs.NodeLaws.{same_node}
use Rattle.hm_tree.specs.Archives.{Archive, recorded, depth-recorded}
use Rattle.hm_tree_text.specs.declared.fault.TextFault.{TextFault}
use Rattle.hm_tree_text.specs.declared.fault.TextFault.TheVariants.{BadTree, TooDeep, Memory}
use Rattle.hm_tree_text.specs.Text.{whole, text, line_feed, tree_text, archive_text}
use Rattle.hm_tree_text.specs.Files.{IsTreeFile, IsArchiveFile, IsTreeText, IsArchiveText}
use Rattle.hm_tree_text.specs.Opening.{IsTooDeep}
use Rattle.hm_tree_text.specs.Faults.{Faults, TreeFaults, ArchiveFaults}
use Rattle.hm_tree_text.specs.Reads.{Reads, ReadsTree, ReadsArchive, UnlessMemory}
use Rattle.hm_tree_text.proofs.Spelling.{apart, heads, open_mark}
use Rattle.hm_tree_text.proofs.Deep.{opens_brace, shallow_whole}

-- ---- one value for each text

-- a tree is known by its text
pub tree_text_one : (t u : Tree) → tree_text t ≡ tree_text u → t ≡ u
tree_text_one t u e = same_node t u (apart whole t.shape u.shape line_feed line_feed (λ _. tt) (λ _. tt) e).0

whole_something : (s : Shape) → text whole s ++ line_feed ≡ [] → ⊥
whole_something bare e = cc
whole_something mark e = cc
whole_something (edge n c r) e = cc

-- an archive is known by its text
pub archive_text_one : (o a : Archive) → archive_text o ≡ archive_text a → o ≡ a
archive_text_one None None e = refl
archive_text_one None (Some u) e = absurd (whole_something u.shape (sym e))
archive_text_one (Some t) None e = absurd (whole_something t.shape e)
archive_text_one (Some t) (Some u) e = ap (λ (n : Node true). Some n)
    (same_node t u (apart whole t.shape u.shape line_feed line_feed (λ _. tt) (λ _. tt) e).0)

-- bytes are the text of one tree, and of one archive
pub tree_once : (t u : Tree) (bytes : List ℕ) → IsTreeText t bytes → IsTreeText u bytes → t ≡ u
tree_once t u bytes a b = tree_text_one t u (sym a.spelled ∙ b.spelled)

pub archive_once : (o a : Archive) (bytes : List ℕ) → IsArchiveText o bytes → IsArchiveText a bytes → o ≡ a
archive_once o a bytes h k = archive_text_one o a (sym h.spelled ∙ k.spelled)

-- the text of one tree stands at the front of bytes
pub first_tree_one : (t u : Tree) (x y : List ℕ) → text whole t.shape ++ x ≡ text whole u.shape ++ y → (t ≡ u) × (x ≡ y)
first_tree_one t u x y e =
    let one = apart whole t.shape u.shape x y (λ _. tt) (λ _. tt) e in
    (same_node t u one.0, one.1)

-- ---- texts are files

pub tree_text_file : (t : Tree) (bytes : List ℕ) → IsTreeText t bytes → IsTreeFile bytes
tree_text_file t bytes h = (t, h.spelled)

pub archive_text_file : (o : Archive) (bytes : List ℕ) → IsArchiveText o bytes → IsArchiveFile bytes
archive_text_file o bytes h = (o, h.spelled)

-- ---- one reading of all bytes

too_deep_whole : (m : Bool) (n : Node true) (bytes : List ℕ) → bytes ≡ text whole n.shape ++ line_feed → depth n ≤ 1000 → ¬ (IsTooDeep m bytes)
too_deep_whole m n bytes is shallow d =
    shallow_whole m 1001 (omega arith) n (omega arith) line_feed (record { part = d.0; rest = d.1; is_form = d.2; is = sym is ∙ d.3 })

-- what is read isn't too deep
pub tree_text_shallow : (t : Tree) (bytes : List ℕ) → IsTreeText t bytes → ¬ (IsTooDeep false bytes)
unfolding recorded
tree_text_shallow t bytes h = too_deep_whole false (recorded t) bytes h.spelled (let s = h.shallow in let d = depth-recorded t in omega arith)

nothing_shallow : (m : Bool) (bytes : List ℕ) → bytes ≡ [] → ¬ (IsTooDeep m bytes)
nothing_shallow m bytes e d =
    let o = opens_brace m 1001 d.0 d.2 in
    let is : [] ≡ 123 ∷ (o.0 ++ d.1) = sym e ∙ d.3 ∙ ap (λ l. l ++ d.1) o.1 in
    cc

pub archive_text_shallow : (o : Archive) (bytes : List ℕ) → IsArchiveText o bytes → ¬ (IsTooDeep true bytes)
archive_text_shallow None bytes h = nothing_shallow true bytes h.spelled
archive_text_shallow (Some t) bytes h = too_deep_whole true t bytes h.spelled h.shallow

-- where the bytes are a text, want of memory is the one fault
text_no_fault : (m : Bool) (File : List ℕ → Type 0) (bytes : List ℕ) → ¬ (IsTooDeep m bytes) → File bytes → (fault : TextFault)
    → Faults m File bytes fault → fault ≡ Memory
text_no_fault m File bytes shallow file (BadTree at) h = absurd (h.no_file file)
text_no_fault m File bytes shallow file TooDeep h = absurd (shallow h)
text_no_fault m File bytes shallow file Memory h = refl

pub tree_text_reads : (t : Tree) (bytes : List ℕ) → IsTreeText t bytes → (fault : TextFault) → TreeFaults bytes fault → fault ≡ Memory
tree_text_reads t bytes h = text_no_fault false IsTreeFile bytes (tree_text_shallow t bytes h) (tree_text_file t bytes h)

pub archive_text_reads : (o : Archive) (bytes : List ℕ) → IsArchiveText o bytes → (fault : TextFault) → ArchiveFaults bytes fault → fault ≡ Memory
archive_text_reads o bytes h = text_no_fault true IsArchiveFile bytes (archive_text_shallow o bytes h) (archive_text_file o bytes h)

-- bytes have one fault other than want of memory, at one place
fault_once : (m : Bool) (File : List ℕ → Type 0) (bytes : List ℕ) (one other : TextFault) → Faults m File bytes one → Faults m File bytes other
    → (one ≡ Memory → ⊥) → (other ≡ Memory → ⊥) → one ≡ other
fault_once m File bytes (BadTree at) (BadTree place) h k a b =
    let le = k.place.longest at h.place.within h.place.begun in
    let ge = h.place.longest place k.place.within k.place.begun in
    let same : at ≡ place = omega arith in
    ap BadTree same
fault_once m File bytes (BadTree at) TooDeep h k a b = absurd (h.not_deep k)
fault_once m File bytes (BadTree at) Memory h k a b = absurd (b refl)
fault_once m File bytes TooDeep (BadTree at) h k a b = absurd (k.not_deep h)
fault_once m File bytes TooDeep TooDeep h k a b = refl
fault_once m File bytes TooDeep Memory h k a b = absurd (b refl)
fault_once m File bytes Memory other h k a b = absurd (a refl)

pub tree_fault_once : (bytes : List ℕ) (one other : TextFault) → TreeFaults bytes one → TreeFaults bytes other → (one ≡ Memory → ⊥)
    → (other ≡ Memory → ⊥) → one ≡ other
tree_fault_once = fault_once false IsTreeFile

pub archive_fault_once : (bytes : List ℕ) (one other : TextFault) → ArchiveFaults bytes one → ArchiveFaults bytes other → (one ≡ Memory → ⊥)
    → (other ≡ Memory → ⊥) → one ≡ other
archive_fault_once = fault_once true IsArchiveFile

-- ---- one reading

module _ {A : Type 0} (IsText : A → List ℕ → Type 0) (FaultsOf : List ℕ → TextFault → Type 0) (bytes : List ℕ) where
  pub read_as : (r : Result A TextFault) → IfOk r (λ x. IsText x bytes) → IfErr r (FaultsOf bytes) → UnlessMemory (Reads IsText FaultsOf bytes) r
  read_as (Ok x) h k = h
  read_as (Err (BadTree at)) h k = k
  read_as (Err TooDeep) h k = k
  read_as (Err Memory) h k = tt

  reads_once : ((x y : A) → IsText x bytes → IsText y bytes → x ≡ y)
      → ((x : A) → IsText x bytes → (fault : TextFault) → FaultsOf bytes fault → fault ≡ Memory)
      → ((one other : TextFault) → FaultsOf bytes one → FaultsOf bytes other → (one ≡ Memory → ⊥) → (other ≡ Memory → ⊥) → one ≡ other)
      → (r q : Result A TextFault) → Reads IsText FaultsOf bytes r → Reads IsText FaultsOf bytes q → r ≡ q
  reads_once text none fault (Ok x) (Ok y) h k = ap Ok (text x y h k)
  reads_once text none fault (Ok x) (Err (BadTree at)) h k = let no = none x h (BadTree at) k in let f : ⊥ = cc in absurd f
  reads_once text none fault (Ok x) (Err TooDeep) h k = let no = none x h TooDeep k in let f : ⊥ = cc in absurd f
  reads_once text none fault (Ok x) (Err Memory) h k = absurd k
  reads_once text none fault (Err (BadTree at)) (Ok y) h k = let no = none y k (BadTree at) h in let f : ⊥ = cc in absurd f
  reads_once text none fault (Err TooDeep) (Ok y) h k = let no = none y k TooDeep h in let f : ⊥ = cc in absurd f
  reads_once text none fault (Err Memory) (Ok y) h k = absurd h
  reads_once text none fault (Err (BadTree at)) (Err (BadTree place)) h k = ap Err (fault (BadTree at) (BadTree place) h k (λ e. cc) (λ e. cc))
  reads_once text none fault (Err (BadTree at)) (Err TooDeep) h k = ap Err (fault (BadTree at) TooDeep h k (λ e. cc) (λ e. cc))
  reads_once text none fault (Err (BadTree at)) (Err Memory) h k = absurd k
  reads_once text none fault (Err TooDeep) (Err (BadTree place)) h k = ap Err (fault TooDeep (BadTree place) h k (λ e. cc) (λ e. cc))
  reads_once text none fault (Err TooDeep) (Err TooDeep) h k = refl
  reads_once text none fault (Err TooDeep) (Err Memory) h k = absurd k
  reads_once text none fault (Err Memory) (Err other) h k = absurd h

-- two results that bytes are read as are equal
pub tree_reads_once : (bytes : List ℕ) (r q : Result Tree TextFault) → ReadsTree bytes r → ReadsTree bytes q → r ≡ q
tree_reads_once bytes =
    reads_once IsTreeText TreeFaults bytes (λ t u. tree_once t u bytes) (λ t h. tree_text_reads t bytes h) (tree_fault_once bytes)

pub archive_reads_once : (bytes : List ℕ) (r q : Result Archive TextFault) → ReadsArchive bytes r → ReadsArchive bytes q → r ≡ q
archive_reads_once bytes =
    reads_once IsArchiveText ArchiveFaults bytes (λ o a. archive_once o a bytes) (λ o h. archive_text_reads o bytes h) (archive_fault_once bytes)

-- a fault with which a reading ends is one of the bytes
pub read_fault : {A : Type 0} (IsText : A → List ℕ → Type 0) (m : Bool) (File : List ℕ → Type 0) (bytes : List ℕ) (fault : TextFault)
    → UnlessMemory (Reads IsText (Faults m File) bytes) (Err fault) → Faults m File bytes fault
read_fault IsText m File bytes (BadTree at) h = h
read_fault IsText m File bytes TooDeep h = h
read_fault IsText m File bytes Memory h = tt

pub tree_read_fault : (bytes : List ℕ) (fault : TextFault) → UnlessMemory (ReadsTree bytes) (Err fault) → TreeFaults bytes fault
tree_read_fault = read_fault IsTreeText false IsTreeFile

pub archive_read_fault : (bytes : List ℕ) (fault : TextFault) → UnlessMemory (ReadsArchive bytes) (Err fault) → ArchiveFaults bytes fault
archive_read_fault = read_fault IsArchiveText true IsArchiveFile

-- ---- trees and archives

whole_no_mark : (s : Shape) → T (is_node false true s) → codes "!" ++ line_feed ≡ text whole s ++ line_feed → ⊥
whole_no_mark bare p e = heads 123 33 _ _ (sym e) open_mark
whole_no_mark mark p e = p
whole_no_mark (edge n c r) p e = heads 123 33 _ _ (sym e) open_mark

-- a mark is no file of a tree, and neither are no bytes
pub mark_no_tree : IsTreeFile (codes "!" ++ line_feed) → ⊥
mark_no_tree f = whole_no_mark f.0.shape f.0.sound f.1

pub nothing_no_tree : IsTreeFile [] → ⊥
nothing_no_tree f = whole_something f.0.shape (sym f.1)

-- what is recorded of a tree has the tree's text
pub archive_text-recorded : (t : Tree) → archive_text (Some (recorded t)) ≡ tree_text t
unfolding recorded
archive_text-recorded t = refl

pub archive_text-marked : archive_text (Some marked) ≡ codes "!" ++ line_feed
unfolding marked
archive_text-marked = refl

-- so what is read as a tree is read as an archive too
pub recorded_text : (t : Tree) (bytes : List ℕ) → IsTreeText t bytes → IsArchiveText (Some (recorded t)) bytes
unfolding recorded
recorded_text t bytes h = record {
  spelled = h.spelled;
  shallow = let s = h.shallow in let d = depth-recorded t in omega arith;
}
