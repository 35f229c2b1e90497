-- Bytes are read as one tree, or refused for one fault.
use Rattle.std.proofs.Common.{◌≡◌, ℕ, ◌+◌, List, length, drop, Some, None, sym, ap, ◌∙◌, subst}
use Rattle.std.specs.Prelude.{Result, Ok, Err}
use Rattle.std.proofs.lemmas.Option.{same_Some, none-some}
use Rattle.hm_tree.specs.Nodes.{Tree}
use Rattle.hm_format.specs.declared.fault.FormatFault.{FormatFault}
use Rattle.hm_format.specs.declared.fault.FormatFault.TheVariants.{BadOption, NotUtf8, BadItem, NoKey, TooDeep, Outside, Memory}
use Rattle.hm_marks_schema.specs.Bookmarks.{AreBookmarks}
use Rattle.hm_marks_schema.specs.Nesting.{marks_over}
use Rattle.hm_marks_schema.proofs.WholeFiles.{bookmarks_once}
use Rattle.hm_marks_tokens.specs.Reading.{IsMisfit}
use Rattle.hm_marks_tokens.specs.Grammar.{Contents, folder_symbols, IsListOf}
use Rattle.hm_marks_tokens.proofs.Folders.{by_contents, one_contents}
use Rattle.hm_marks_tokens.proofs.Known.{one_rest, no_misfit, one_number}
use Rattle.hm_netscape_entries.specs.Entries.{html}
use Rattle.hm_netscape_entries.specs.Toolbars.{bar_of, other_of}
use Rattle.hm_netscape_files.specs.Heads.{IsHead}
use Rattle.hm_netscape_files.proofs.HeadPlaces.{one_place}
use Rattle.hm_netscape_files.specs.Tails.{IsTail}
use Rattle.hm_netscape_files.specs.Files.{IsFile, IsFileOf, IsOver, IsBadItem, no_head, in_folder, in_tail, NetscapeReads}

-- ---- parts of a file

pub one_head : (bytes : List ℕ) (m n : ℕ) → IsHead bytes m → IsHead bytes n → m ≡ n
one_head bytes m n one other = one_place bytes m n one.list one.first other

-- what begins behind one head begins behind the other
pub at_head : (bytes : List ℕ) (m n : ℕ) (c : Contents) (tail : List ℕ) → IsHead bytes m → IsHead bytes n → IsListOf (drop n bytes) c tail
    → IsListOf (drop m bytes) c tail
at_head bytes m n c tail one other list = subst (λ k. IsListOf (drop k bytes) c tail) (sym (one_head bytes m n one other)) list

misfit_at : (bytes : List ℕ) (m n number : ℕ) → IsHead bytes m → IsHead bytes n → IsMisfit (drop n bytes) number → IsMisfit (drop m bytes) number
misfit_at bytes m n number one other misfit = subst (λ k. IsMisfit (drop k bytes) number) (sym (one_head bytes m n one other)) misfit

-- a list has no symbol that doesn't fit
no_list : (list : List ℕ) (c : Contents) (tail : List ℕ) (number : ℕ) → IsListOf list c tail → IsMisfit list number → ⊥
no_list list c tail number is misfit = no_misfit list tail number ((by_contents list tail).1 (c, is)) misfit

pub one_tail : (list : List ℕ) (c d : Contents) (r s : List ℕ) → IsListOf list c r → IsListOf list d s → r ≡ s
one_tail list c d r s one other = one_rest list r s ((by_contents list r).1 (c, one)) ((by_contents list s).1 (d, other))

pub file_once : (bytes : List ℕ) (c d : Contents) → IsFile bytes c → IsFile bytes d → c ≡ d
file_once bytes c d one other =
    one_contents (drop one.head bytes) c d one.tail other.tail one.list (at_head bytes one.head other.head d other.tail one.head_is other.head_is other.list)

tree_once : (bytes : List ℕ) (t u : Tree) → IsFileOf bytes t → IsFileOf bytes u → t ≡ u
tree_once bytes t u one other =
    let same = file_once bytes one.contents other.contents one.file other.file in
    bookmarks_once html (bar_of other.contents) (other_of other.contents) t u
    (subst (λ (c : Contents). AreBookmarks html (bar_of c) (other_of c) t) same one.tree) other.tree

-- ---- faults

no_fault : (bytes : List ℕ) (c : Contents) (number : ℕ) → IsFile bytes c → IsBadItem bytes number → ⊥
no_fault bytes c number file (no_head none e) = none file.head file.head_is
no_fault bytes c number file (in_folder head is misfit) =
    no_list (drop file.head bytes) c file.tail number file.list (misfit_at bytes file.head head number file.head_is is misfit)
no_fault bytes c number file (in_tail head d tail is list bad e) =
    bad (subst IsTail (one_tail (drop file.head bytes) c d file.tail tail file.list (at_head bytes file.head head d tail file.head_is is list)) file.tail_is)

number_once : (bytes : List ℕ) (m n : ℕ) → IsBadItem bytes m → IsBadItem bytes n → m ≡ n
number_once bytes m n (no_head none e) (no_head none' f) = e ∙ sym f
number_once bytes m n (no_head none e) (in_folder head is misfit) = absurd (none head is)
number_once bytes m n (no_head none e) (in_tail head d tail is list bad f) = absurd (none head is)
number_once bytes m n (in_folder head is misfit) (no_head none e) = absurd (none head is)
number_once bytes m n (in_folder head is misfit) (in_folder at also other) =
    one_number (drop head bytes) m n misfit (misfit_at bytes head at n is also other)
number_once bytes m n (in_folder head is misfit) (in_tail at d tail also list bad f) =
    absurd (no_list (drop head bytes) d tail m (at_head bytes head at d tail is also list) misfit)
number_once bytes m n (in_tail head d tail is list bad e) (no_head none f) = absurd (none head is)
number_once bytes m n (in_tail head d tail is list bad e) (in_folder at also misfit) =
    absurd (no_list (drop head bytes) d tail n list (misfit_at bytes head at n is also misfit))
number_once bytes m n (in_tail head c tail is list bad e) (in_tail at d behind also other bad' f) =
    e ∙ ap (λ (c : Contents). length (folder_symbols c) + 1) (one_contents (drop head bytes) c d tail behind list (at_head bytes head at d behind is also other)) ∙ sym f

-- ---- all

apart : (bytes : List ℕ) (t : Tree) (n : ℕ) → IsFileOf bytes t → marks_over t ≡ None → IsOver bytes (Some n) → ⊥
apart bytes t n one none over =
    none-some n (sym none ∙ ap marks_over (tree_once bytes t over.tree one over.file) ∙ over.over_is)

pub read_once : (bytes : List ℕ) (r s : Result Tree FormatFault) → NetscapeReads bytes r → NetscapeReads bytes s → r ≡ s
read_once bytes (Ok t) (Ok u) a b = ap Ok (tree_once bytes t u a.0 b.0)
read_once bytes (Ok t) (Err (NotUtf8 at)) a b = absurd (b.broken a.0.file.text)
read_once bytes (Ok t) (Err (BadItem n)) a b = absurd (no_fault bytes a.0.contents n a.0.file b.1)
read_once bytes (Ok t) (Err (TooDeep n)) a b = absurd (apart bytes t n a.0 a.1 b)
read_once bytes (Err (NotUtf8 at)) (Ok t) a b = absurd (a.broken b.0.file.text)
read_once bytes (Err (NotUtf8 at)) (Err (NotUtf8 at')) a b = ap (λ n. Err (NotUtf8 n)) (a.place ∙ sym b.place)
read_once bytes (Err (NotUtf8 at)) (Err (BadItem n)) a b = absurd (a.broken b.0)
read_once bytes (Err (NotUtf8 at)) (Err (TooDeep n)) a b = absurd (a.broken b.file.file.text)
read_once bytes (Err (BadItem n)) (Ok t) a b = absurd (no_fault bytes b.0.contents n b.0.file a.1)
read_once bytes (Err (BadItem n)) (Err (NotUtf8 at)) a b = absurd (b.broken a.0)
read_once bytes (Err (BadItem n)) (Err (BadItem m)) a b = ap (λ k. Err (BadItem k)) (number_once bytes n m a.1 b.1)
read_once bytes (Err (BadItem n)) (Err (TooDeep m)) a b = absurd (no_fault bytes b.file.contents n b.file.file a.1)
read_once bytes (Err (TooDeep n)) (Ok t) a b = absurd (apart bytes t n b.0 b.1 a)
read_once bytes (Err (TooDeep n)) (Err (NotUtf8 at)) a b = absurd (b.broken a.file.file.text)
read_once bytes (Err (TooDeep n)) (Err (BadItem m)) a b = absurd (no_fault bytes a.file.contents m a.file.file b.1)
read_once bytes (Err (TooDeep n)) (Err (TooDeep m)) a b =
    ap (λ k. Err (TooDeep k)) (same_Some n m (sym a.over_is ∙ ap marks_over (tree_once bytes a.tree b.tree a.file b.file) ∙ b.over_is))
read_once bytes (Err (NoKey n)) s a b = absurd a
read_once bytes (Err (BadOption k)) s a b = absurd a
read_once bytes (Err (Outside p)) s a b = absurd a
read_once bytes (Err Memory) s a b = absurd a
read_once bytes (Ok t) (Err (NoKey n)) a b = absurd b
read_once bytes (Ok t) (Err (BadOption k)) a b = absurd b
read_once bytes (Ok t) (Err (Outside p)) a b = absurd b
read_once bytes (Ok t) (Err Memory) a b = absurd b
read_once bytes (Err (NotUtf8 at)) (Err (NoKey n)) a b = absurd b
read_once bytes (Err (NotUtf8 at)) (Err (BadOption k)) a b = absurd b
read_once bytes (Err (NotUtf8 at)) (Err (Outside p)) a b = absurd b
read_once bytes (Err (NotUtf8 at)) (Err Memory) a b = absurd b
read_once bytes (Err (BadItem n)) (Err (NoKey m)) a b = absurd b
read_once bytes (Err (BadItem n)) (Err (BadOption k)) a b = absurd b
read_once bytes (Err (BadItem n)) (Err (Outside p)) a b = absurd b
read_once bytes (Err (BadItem n)) (Err Memory) a b = absurd b
read_once bytes (Err (TooDeep n)) (Err (NoKey m)) a b = absurd b
read_once bytes (Err (TooDeep n)) (Err (BadOption k)) a b = absurd b
read_once bytes (Err (TooDeep n)) (Err (Outside p)) a b = absurd b
read_once bytes (Err (TooDeep n)) (Err Memory) a b = absurd b
