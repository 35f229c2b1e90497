-- What isn't kept, tried on small folders and files.
use Rattle.std.proofs.Common.{◌≡◌, ◌≤◌, ℕ, true, cond, List, [], ◌∷◌, codes, length, get_or, drop, Option, Some, None, refl, sym, ap, ◌∙◌, subst, arith}
use Rattle.std.specs.Ordering.{eq_by_cmp, is_eq}
use Rattle.std.proofs.lemmas.Cmp.{tied_itself}
use Rattle.std.proofs.lemmas.Option.{none-some, same_Some}
use Rattle.hm_tree.specs.Names.{Name, name_cmp}
use Rattle.hm_tree.proofs.Sorted.{name_total}
use Rattle.hm_marks.specs.Contents.{nothing, link, folder, separator, Item}
use Rattle.hm_marks.specs.Kept.{Keeps, count_of, link_survives, link_goes}
use Rattle.hm_marks_tokens.specs.Attributes.{attributes_of}
use Rattle.hm_marks_tokens.specs.Grammar.{Entry, Contents}
use Rattle.hm_netscape_entries.specs.Entries.{html, IsSameLink}
use Rattle.hm_netscape_entries.specs.Toolbars.{is_toolbar}
use Rattle.hm_netscape_entries.specs.Written.{tidied}
use Rattle.hm_netscape_files.specs.Anew.{bar_entry}
use Rattle.hm_netscape_files.specs.Files.{IsFile}
use Rattle.hm_netscape_files.proofs.ReadOnce.{at_head, one_tail}
use Rattle.hm_netscape_marks.specs.Kept.{mark, with_separator, BarStays, BarStaysWhere, OutermostKeeps, NetscapeKeeps}

-- ---- folders

abbrev bar : Entry
bar = record { attributes = codes " PERSONAL_TOOLBAR_FOLDER=\"true\""; title = codes "Bar"; note = None }

abbrev second : Entry
second = record { attributes = codes " PERSONAL_TOOLBAR_FOLDER=\"true\""; title = codes "Second"; note = None }

abbrev page : Entry
page = record { attributes = codes " HREF=\"https://n.example/\""; title = codes "N"; note = Some (codes "a note \n") }

abbrev bare : Entry
bare = record { attributes = codes " HREF=\"https://n.example/\""; title = codes "N"; note = None }

abbrev short : Entry
short = record { attributes = codes " HREF=\"https://n.example/\""; title = codes "N"; note = Some (codes "a note") }

is_bar : is_toolbar (codes " PERSONAL_TOOLBAR_FOLDER=\"true\"") ≡ true
unfolding attributes_of
is_bar = refl

-- the first folder of these is the bar
first : (e : Entry) (inside c : Contents) → is_toolbar e.attributes ≡ true → bar_entry (folder e inside c) ≡ Some e
first e inside c is = ap (λ t. cond t (Some e) (bar_entry c)) is

in_place : (e : Entry) (inside c : Contents) → is_toolbar e.attributes ≡ true → with_separator (folder e inside c) ≡ separator mark c
in_place e inside c is = ap (λ t. cond t (separator mark c) (folder e inside (with_separator c))) is

bar_kept : (inside c new : Contents) → OutermostKeeps (folder bar inside c) new → BarStays bar (folder bar inside c) new
bar_kept inside c new h = subst (λ (o : Option Entry). BarStaysWhere o (folder bar inside c) new) (first bar inside c is_bar) h.bar_itself

-- an item can't go where it stands
stands : (k : Name) (i : Item Entry Entry (List ℕ)) → count_of k ((k, i) ∷ []) ≤ 0 → ⊥
stands k i le =
    let tied : eq_by_cmp name_cmp k k ≡ true = ap is_eq (tied_itself name_total k) in
    let one : count_of k ((k, i) ∷ []) ≡ 1 = ap (λ t. length (cond t (i ∷ []) [])) tied in
    omega (arith, le, one)

-- the bar moves behind a link
moved : ¬ (OutermostKeeps (folder bar nothing (link page nothing)) (link page (folder bar nothing nothing)))
moved h =
    let place = (bar_kept nothing (link page nothing) (link page (folder bar nothing nothing)) h).place in
    let old = subst (λ (c : Contents). Keeps html IsSameLink c (with_separator (link page (folder bar nothing nothing)))) (in_place bar nothing (link page nothing) is_bar) place in
    behind (with_separator (folder bar nothing nothing)) old
  where
    behind : (c : Contents) → Keeps html IsSameLink (separator mark (link page nothing)) (link page c) → ⊥
    behind c h = elim h [ ]

-- an empty bar goes
removed : ¬ (OutermostKeeps (folder bar nothing nothing) nothing)
removed h = none-some bar (bar_kept nothing nothing nothing h).entry

-- another folder becomes the bar
taken_over : ¬ (OutermostKeeps (folder bar nothing (folder second nothing nothing)) (folder second nothing (folder bar nothing nothing)))
taken_over h =
    let stays = bar_kept nothing (folder second nothing nothing) (folder second nothing (folder bar nothing nothing)) h in
    let same = same_Some second bar (sym (first second nothing (folder bar nothing nothing) is_bar) ∙ stays.entry) in
    let letter : 83 ≡ 66 = ap (λ (e : Entry). get_or e.title 0 0) same in
    omega (arith, letter)

-- a note is lost
note_lost : ¬ (OutermostKeeps (link page nothing) (link bare nothing))
note_lost h = elim h.other [
  | link_survives lt is rest ↦ none-some (codes "a note \n") (ap (λ (e : Entry). e.note) (is.same refl))
  | link_goes le rest ↦ stands (html.link_key page) _ le
]

-- the white space at its end may go
white_goes : tidied (link page nothing) ≡ tidied (link short nothing)
white_goes = refl

-- ---- files

-- a file has one tail
same_tail : (bytes : List ℕ) (c d : Contents) (one : IsFile bytes c) (other : IsFile bytes d) → one.tail ≡ other.tail
same_tail bytes c d one other =
    one_tail (drop one.head bytes) c d one.tail other.tail one.list (at_head bytes one.head other.head d other.tail one.head_is other.head_is other.list)

-- so it can't be another one
tail_lost : (before after : List ℕ) (old new : Contents) (was : IsFile before old) (is : IsFile after new) → ¬ (is.tail ≡ was.tail) → ¬ (NetscapeKeeps before after)
tail_lost before after old new was is other k = other (same_tail after new k.new is k.is ∙ k.tail_stays ∙ sym (same_tail before old k.old was k.was))
