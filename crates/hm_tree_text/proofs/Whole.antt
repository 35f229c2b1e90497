-- The steps of a reader: the root, the line feed, and the files of trees and archives.
use Rattle.std.proofs.Common.{◌≡◌, ℕ, zero, suc, ◌+◌, ◌<◌, ◌≤◌, ◌⊎◌, inl, inr, Bool, true, false, T, List, [], ◌∷◌, ◌++◌, length, take, drop, Some, None, refl, sym, ap, subst, ◌∙◌, append_assoc, arith, length-append, length-drop}
use Rattle.std.proofs.lemmas.List.{append-nil}
use Rattle.hm_tree.specs.Nodes.{Shape, bare, mark, edge, is_node, both, first, second, leads, Node, Tree, edges, depth, empty, marked}
use Rattle.hm_tree.specs.Archives.{Archive, recorded, depth-recorded}
use Rattle.hm_tree_text.specs.declared.fault.TextFault.{TextFault}
use Rattle.hm_tree_text.specs.declared.fault.TextFault.TheVariants.{BadTree, TooDeep, Memory}
use Rattle.hm_tree_text.specs.Text.{whole, text, HasAllowedMarks, inside, line_feed}
use Rattle.hm_tree_text.specs.Files.{IsTreeFile, IsArchiveFile, IsTreeText, IsArchiveText}
use Rattle.hm_tree_text.specs.Begun.{IsBegun, IsLongestBegun}
use Rattle.hm_tree_text.specs.Opening.{Opens, IsTooDeep}
use Rattle.hm_tree_text.specs.Faults.{IsBad, Faults}
use Rattle.hm_tree_text.specs.Reading.{StandsAt, IsInside, IsWhole, IsFile, BeginsWith, IsInsideRead, IsWholeRead, IsFileRead}
use Rattle.hm_tree_text.specs.Failing.{Fails, OpensInside}
use Rattle.hm_tree_text.proofs.Places.{joins, behind}
use Rattle.hm_tree_text.proofs.Parts.{le_or_more, take_front, IsNot, is_not_part, fault_behind, begins_behind}
use Rattle.hm_tree_text.proofs.Spelling.{apart}
use Rattle.hm_tree_text.proofs.Listed.{whole_some}
use Rattle.hm_tree_text.proofs.Forms.{no_whole, no_opening, inside_whole, whole_inside}
use Rattle.hm_tree_text.proofs.Deep.{opens_brace, root_deep, shallow_whole}
use Rattle.hm_tree_text.proofs.Reached.{read_empty, read_marked, text_empty, text_marked}

-- ---- the root

module _ (m : Bool) (bytes : List ℕ) where
  pub whole_mark : (value : Archive) → m ≡ true → value ≡ Some marked → StandsAt bytes 0 (33 ∷ []) 1 → IsWholeRead m 1000 bytes value 1
  whole_mark value allowed is there = record {
    node = marked;
    read = read_marked m 1000 value allowed is;
    stands = subst (λ p. StandsAt bytes 0 p 1) (sym text_marked) there;
  }

  pub whole_fails_here : IsNot 123 bytes → (m ≡ true → IsNot 33 bytes) → Fails (IsWhole m) (Opens m 1001) bytes 0 (BadTree 0)
  whole_fails_here brace point = (
    record { passed = 0; place = refl; longest = no_whole m bytes (no_opening m bytes brace point) },
    λ d. let o = opens_brace m 1001 d.part d.is_form in brace (o.0 ++ d.rest) (d.is ∙ ap (λ l. l ++ d.rest) o.1),
  )

  module _ (brace : StandsAt bytes 0 (123 ∷ []) 1) where
    pub whole_empty : (value : Archive) → value ≡ Some empty → StandsAt bytes 1 (125 ∷ []) 2 → IsWholeRead m 1000 bytes value 2
    whole_empty value is there = record {
      node = empty;
      read = read_empty m 1000 value is;
      stands = subst (λ p. StandsAt bytes 0 p 2) (sym text_empty) (joins bytes (123 ∷ []) (125 ∷ []) 0 1 2 brace there);
    }

    pub whole_read : (value : Archive) (end : ℕ) → IsInsideRead m 1000 bytes 1 value end → IsWholeRead m 1000 bytes value end
    whole_read value end h = record {
      node = h.node;
      read = h.read;
      stands = subst (λ p. StandsAt bytes 0 p end) (sym (whole_some h.node (λ e. let s = h.some in omega arith)))
          (joins bytes (123 ∷ []) (inside (edges h.node)) 0 1 end brace h.stands);
    }

    pub whole_fails : IsNot 125 (drop 1 bytes) → (fault : TextFault) → Fails (IsInside m) (OpensInside m 999) bytes 1 fault
        → Fails (IsWhole m) (Opens m 1001) bytes 0 fault
    whole_fails not (BadTree q) f = (
      fault_behind (IsInside m) (IsWhole m) (IsNot 125) (123 ∷ []) (inside_whole m) (λ y ok. whole_inside m y ok) bytes 0 1 q (omega arith)
          brace not (λ n. is_not_part 125 (drop 1 bytes) n not) f.0,
      λ d. f.1 (root_deep m 1001 (drop 1 bytes) (subst (BeginsWith (Opens m 1001)) brace.spelled d)),
    )
    whole_fails not TooDeep f = subst (BeginsWith (Opens m 1001)) (sym brace.spelled)
        (begins_behind (OpensInside m 999) (Opens m 1001) (123 ∷ []) (drop 1 bytes) (λ s o. o) f)
    whole_fails not Memory f = tt

  -- ---- the line feed

  deep_begins : IsTooDeep m bytes → BeginsWith (Opens m 1001) bytes
  deep_begins d = record { part = d.0; rest = d.1; is_form = d.2; is = d.3 }

  begins_deep : BeginsWith (Opens m 1001) bytes → IsTooDeep m bytes
  begins_deep d = (d.part, d.rest, d.is_form, d.is)

  file_whole : (s : List ℕ) → IsFile m s → BeginsWith (IsWhole m) s
  file_whole s f = record {
    part = text whole f.node.shape;
    rest = line_feed;
    is_form = record { node = f.node; marks = f.marks; is = refl };
    is = f.is;
  }

  pub file_fails : (fault : TextFault) → Fails (IsWhole m) (Opens m 1001) bytes 0 fault → Faults m (IsFile m) bytes fault
  file_fails (BadTree at) f =
      let l = f.0.longest in
      let same : f.0.passed ≡ at = let p = f.0.place in omega arith in
      record {
        not_deep = λ d. f.1 (deep_begins d);
        no_file = λ h. l.none (file_whole bytes h);
        place = subst (IsLongestBegun (IsFile m) bytes) same (record {
          within = l.within;
          begun =
              let b = l.begun in (
                b.0 ++ line_feed,
                record {
                  node = b.1.node;
                  marks = b.1.marks;
                  is = sym (append_assoc (take f.0.passed bytes) b.0 line_feed)
                      ∙ ap (λ s. s ++ line_feed) b.1.is;
                },
              );
          longest = λ n le h. l.longest n h.0 le (file_whole _ h.1);
        });
      }
  file_fails TooDeep f = begins_deep f
  file_fails Memory f = tt

  module _ (value : Archive) (end : ℕ) (r : IsWholeRead m 1000 bytes value end) where
    front : List ℕ
    front = text whole r.node.shape

    front_end : end ≡ length (text whole r.node.shape)
    front_end = let b = behind bytes (text whole r.node.shape) 0 end (omega arith) r.stands in omega arith

    not_deep : ¬ (IsTooDeep m bytes)
    not_deep d = shallow_whole m 1001 (omega arith) r.node (let s = r.read.shallow in omega arith) (drop end bytes)
        (subst (BeginsWith (Opens m 1001)) r.stands.spelled (deep_begins d))

    -- what a file that begins with this node goes on with
    goes_on : (y : List ℕ) → IsFile m (text whole r.node.shape ++ y) → y ≡ line_feed
    goes_on y f = (apart whole r.node.shape f.node.shape y line_feed (λ _. tt) (λ _. tt) f.is).1

    a_file : IsFile m (text whole r.node.shape ++ line_feed)
    a_file = record { node = r.node; marks = r.read.marks; is = refl }

    -- the longest beginning of a file ends in what stands behind the node
    behind_front : (x : List ℕ) (k : ℕ) → drop end bytes ≡ x → k ≤ length x → IsBegun (IsFile m) (text whole r.node.shape ++ take k x)
        → ((n : ℕ) (rest : List ℕ) → n ≤ length x → take n x ++ rest ≡ line_feed → n ≤ k) → IsLongestBegun (IsFile m) bytes (end + k)
    behind_front x k is le begun least = record {
      within = let a = ap length whole_is in let b = length-append (text whole r.node.shape) x in let c = front_end in omega arith;
      begun = subst (IsBegun (IsFile m)) (sym (taken k)) begun;
      longest = λ n within h. by n within h (le_or_more n end);
    }
      where
        whole_is : bytes ≡ text whole r.node.shape ++ x
        whole_is = r.stands.spelled ∙ ap (λ l. text whole r.node.shape ++ l) is

        taken : (k : ℕ) → take (end + k) bytes ≡ text whole r.node.shape ++ take k x
        taken k = ap (take (end + k)) whole_is ∙ take_front (text whole r.node.shape) x k (end + k) (let f = front_end in omega arith)

        by : (n : ℕ) → n ≤ length bytes → IsBegun (IsFile m) (take n bytes) → (n ≤ end) ⊎ ((k : ℕ) × (n ≡ end + (k + 1))) → n ≤ end + k
        by n within h (inl l) = omega arith
        by n within h (inr (j, e)) =
            let t : take n bytes ≡ text whole r.node.shape ++ take (j + 1) x = ap (λ i. take i bytes) e ∙ taken (j + 1) in
            let f = goes_on (take (j + 1) x ++ h.0)
            (subst (IsFile m) (ap (λ l. l ++ h.0) t ∙ append_assoc (text whole r.node.shape) (take (j + 1) x) h.0) h.1) in
            let a = ap length whole_is in
            let b = length-append (text whole r.node.shape) x in
            let c = front_end in
            let l : j + 1 ≤ k = least (j + 1) h.0 (omega arith) f in
            omega arith

    pub no_feed : IsNot 10 (drop end bytes) → IsBad m (IsFile m) bytes end
    no_feed not = record {
      not_deep = not_deep;
      no_file = λ f. not [] (goes_on (drop end bytes) (subst (IsFile m) r.stands.spelled f));
      place = subst (IsLongestBegun (IsFile m) bytes) (let z : end + 0 ≡ end = omega arith in z)
          (behind_front (drop end bytes) 0 refl (omega arith)
          (line_feed, subst (IsFile m) (ap (λ l. l ++ line_feed) (sym (append-nil (text whole r.node.shape)))) a_file)
          (λ n rest le e. by n (drop end bytes) rest le e not));
    }
      where
        by : (n : ℕ) (x rest : List ℕ) → n ≤ length x → take n x ++ rest ≡ line_feed → IsNot 10 x → n ≤ 0
        by zero x rest le e not = omega arith
        by (suc n) [] rest le e not = absurd (omega arith)
        by (suc n) (c ∷ x) rest le e not = let feed : c ≡ 10 = cc in absurd (not x (ap (λ d. d ∷ x) feed))

    pub more_bytes : StandsAt bytes end line_feed (end + 1) → end + 1 < length bytes → IsBad m (IsFile m) bytes (end + 1)
    more_bytes feed lt = by (drop (end + 1) bytes) refl
      where
        by : (x : List ℕ) → drop (end + 1) bytes ≡ x → IsBad m (IsFile m) bytes (end + 1)
        by [] e = let a = length-drop (end + 1) bytes in let b = ap length e in absurd (omega arith)
        by (c ∷ x) e = record {
          not_deep = not_deep;
          no_file = λ f. let g : ◌≡◌ {A = List ℕ} (10 ∷ c ∷ x) line_feed =
              sym is ∙ goes_on (drop end bytes) (subst (IsFile m) r.stands.spelled f) in cc;
          place = behind_front (10 ∷ c ∷ x) 1 is (omega arith)
              ([], subst (IsFile m) (sym (append-nil (text whole r.node.shape ++ 10 ∷ []))) a_file) least;
        }
          where
            is : drop end bytes ≡ 10 ∷ c ∷ x
            is = feed.spelled ∙ ap (λ l. 10 ∷ l) e

            least : (n : ℕ) (rest : List ℕ) → n ≤ length (10 ∷ c ∷ x) → take n (10 ∷ c ∷ x) ++ rest ≡ line_feed → n ≤ 1
            least zero rest le g = omega arith
            least (suc zero) rest le g = omega arith
            least (suc (suc n)) rest le g = let no : ⊥ = cc in absurd no

    pub file_read : StandsAt bytes end line_feed (end + 1) → length bytes ≤ end + 1 → IsFileRead m value bytes
    file_read feed le = record {
      node = r.node;
      read = r.read;
      is = r.stands.spelled ∙ ap (λ l. text whole r.node.shape ++ l)
          (feed.spelled ∙ ap (λ l. 10 ∷ l) (nothing (drop (end + 1) bytes) (let l = length-drop (end + 1) bytes in omega arith)));
    }
      where
        nothing : (l : List ℕ) → length l ≡ 0 → l ≡ []
        nothing [] e = refl
        nothing (x ∷ l) e = absurd (omega arith)

-- ---- files of trees

-- a node without marks is a tree, and a tree has no marks
unmarked_sound : (w : Bool) (s : Shape) → T (is_node true w s) → HasAllowedMarks false s → T (is_node false w s)
unmarked_sound w bare h n = tt
unmarked_sound w mark h n = absurd n
unmarked_sound w (edge k c r) h n =
    both (leads k r) _ (first _ _ h) (both _ _ (unmarked_sound true c (first _ _ (second (leads k r) _ h)) n.0)
    (unmarked_sound false r (second (is_node true true c) _ (second (leads k r) _ h)) n.1))

pub sound_unmarked : (w : Bool) (s : Shape) → T (is_node false w s) → HasAllowedMarks false s
sound_unmarked w bare h = tt
sound_unmarked w mark h = h
sound_unmarked w (edge k c r) h =
    (sound_unmarked true c (first _ _ (second (leads k r) _ h)), sound_unmarked false r (second (is_node false true c) _ (second (leads k r) _ h)))

pub tree_file : (s : List ℕ) → IsFile false s → IsTreeFile s
tree_file s f = (record { shape = f.node.shape; sound = unmarked_sound true f.node.shape f.node.sound f.marks }, f.is)

pub file_tree : (s : List ℕ) → IsTreeFile s → IsFile false s
unfolding recorded
file_tree s f = record { node = recorded f.0; marks = sound_unmarked true f.0.shape f.0.sound; is = f.1 }

faults_as : (m : Bool) (F G : List ℕ → Type 0) → ((s : List ℕ) → F s → G s) → ((s : List ℕ) → G s → F s) → (bytes : List ℕ) (fault : TextFault)
    → Faults m F bytes fault → Faults m G bytes fault
faults_as m F G to from bytes (BadTree at) h = record {
  not_deep = h.not_deep;
  no_file = λ g. h.no_file (from bytes g);
  place = record {
    within = h.place.within;
    begun = (h.place.begun.0, to _ h.place.begun.1);
    longest = λ n le b. h.place.longest n le (b.0, from _ b.1);
  };
}
faults_as m F G to from bytes TooDeep h = h
faults_as m F G to from bytes Memory h = h

pub tree_faults : (bytes : List ℕ) (fault : TextFault) → Faults false (IsFile false) bytes fault → Faults false IsTreeFile bytes fault
tree_faults = faults_as false (IsFile false) IsTreeFile tree_file file_tree

pub tree_read : (t : Tree) (bytes : List ℕ) → IsFileRead false (Some (recorded t)) bytes → IsTreeText t bytes
unfolding recorded
tree_read t bytes h =
    let same : recorded t ≡ h.node = let e = h.read.is in cc in
    record {
      spelled = h.is ∙ ap (λ (n : Node true). text whole n.shape ++ line_feed) (sym same);
      shallow = let s = h.read.shallow in let d = ap (λ (n : Node true). depth n) same in let r = depth-recorded t in omega arith;
    }

-- ---- files of archives

archive_file : (s : List ℕ) → IsFile true s → IsArchiveFile s
archive_file s f = (Some f.node, f.is)

-- in an archive marks may stand
pub any_marks : (s : Shape) → HasAllowedMarks true s
any_marks bare = tt
any_marks mark = tt
any_marks (edge k c r) = (any_marks c, any_marks r)

file_archive : (s : List ℕ) → (s ≡ [] → ⊥) → IsArchiveFile s → IsFile true s
file_archive s some (None, is) = absurd (some is)
file_archive s some (Some t, is) = record { node = t; marks = any_marks t.shape; is = is }

pub archive_read : (o : Archive) (bytes : List ℕ) → IsFileRead true o bytes → IsArchiveText o bytes
archive_read o bytes h = subst (λ (a : Archive). IsArchiveText a bytes) (sym h.read.is) (record { spelled = h.is; shallow = h.read.shallow })

some_bytes : (n : ℕ) (bytes rest : List ℕ) → n ≤ length bytes → take n bytes ++ rest ≡ [] → n ≡ 0
some_bytes zero bytes rest le e = refl
some_bytes (suc n) [] rest le e = absurd (omega arith)
some_bytes (suc n) (b ∷ bytes) rest le e = let no : ⊥ = cc in absurd no

pub archive_faults : (bytes : List ℕ) → (bytes ≡ [] → ⊥) → (fault : TextFault) → Faults true (IsFile true) bytes fault
    → Faults true IsArchiveFile bytes fault
archive_faults bytes some (BadTree at) h = record {
  not_deep = h.not_deep;
  no_file = λ g. h.no_file (file_archive bytes some g);
  place = record {
    within = h.place.within;
    begun = (h.place.begun.0, archive_file _ h.place.begun.1);
    longest = λ n le b. by n le b.0 b.1;
  };
}
  where
    by : (n : ℕ) → n ≤ length bytes → (rest : List ℕ) → IsArchiveFile (take n bytes ++ rest) → n ≤ at
    by n le rest (None, is) = let z = some_bytes n bytes rest le is in omega arith
    by n le rest (Some t, is) = h.place.longest n le (rest, record { node = t; marks = any_marks t.shape; is = is })
archive_faults bytes some TooDeep h = h
archive_faults bytes some Memory h = tt
