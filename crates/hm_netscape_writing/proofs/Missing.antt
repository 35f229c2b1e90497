-- Whether something is to stand in a new bookmarks bar.
use Rattle.std.proofs.Common.{◌≡◌, ◌<◌, ◌+◌, ℕ, true, false, cond, List, [], ◌∷◌, length, max, Option, Some, None, refl, sym, ap, ◌∙◌, subst, append-nil, arith}
use Rattle.std.specs.Ordering.{eq_by_cmp}
use Rattle.std.specs.Option.{is_some}
use Rattle.std.specs.FinMap.{find}
use Rattle.std.proofs.lemmas.Cmp.{tied_itself}
use Rattle.hm_tree.specs.Names.{Name, name_cmp}
use Rattle.hm_tree.specs.Nodes.{Tree, depth, edges, deepest}
use Rattle.hm_tree.specs.NodeLaws.{depth-edges}
use Rattle.hm_tree.proofs.Sorted.{name_total}
use Rattle.hm_book_items.specs.Items.{IsTree}
use Rattle.hm_book_items.specs.ItemTrees.{Lists, AreLists}
use Rattle.hm_marks.specs.Contents.{nothing, folder}
use Rattle.hm_marks.specs.Pieces.{an_item, pieces}
use Rattle.hm_marks.specs.Writing.{AreMade, made_nothing, made_link, made_folder, made_separator, AreWrittenAnew}
use Rattle.hm_marks_schema.specs.Members.{AreFoldersOf}
use Rattle.hm_marks_tokens.specs.Grammar.{Entry, Contents}
use Rattle.hm_netscape_entries.specs.Entries.{html}
use Rattle.hm_netscape_files.specs.Anew.{new_bar, is_something}
use Rattle.hm_netscape_lines.specs.Behind.{StandBehind}
use Rattle.hm_netscape_writing.specs.Added.{Piece, AddsFolder}
use Rattle.hm_netscape_writing.specs.Outermost.{IsMissing}

-- ---- nothing is

no_lists : IsTree name_cmp {A = Tree} []
no_lists = record { sorted = tt; filled = λ k e. cc }

pub written_nothing : (t : Tree) → edges t ≡ [] → AreWrittenAnew {S = List ℕ} html nothing t nothing
written_nothing t none = record { lists = []; below = subst (λ (es : List (Name × Tree)). AreLists es []) (sym none) tt; tree = no_lists; made = made_nothing }

-- ---- something is

made_some : (x : Piece) (ps : List Piece) (c : Contents) → AreMade html (x ∷ ps) c → is_something c ≡ true
made_some _ _ _ (made_link key address tree m) = refl
made_some _ _ _ (made_folder key tree below is_tree mine m) = refl
made_some _ _ _ (made_separator m) = refl

itself : (k : Name) → eq_by_cmp name_cmp k k ≡ true
itself k = rw (tied_itself name_total k) refl

some_item : (es : List (Name × Tree)) (lists : Lists) (c : Contents) → AreLists es lists → IsTree name_cmp lists → AreMade html (pieces html lists nothing) c → 0 < length es
    → is_something c ≡ true
some_item [] lists c below tree made lt = absurd (omega (arith, lt))
some_item (e ∷ es) [] c below tree made lt = absurd below
some_item (e ∷ es) ((k, []) ∷ lists) c below tree made lt = absurd (tree.filled k (ap (λ b. cond b (Some []) (find name_cmp k lists)) (itself k)))
some_item (e ∷ es) ((k, t ∷ ts) ∷ lists) c below tree made lt = made_some (an_item (k, None, t)) _ c made

pub something : (t : Tree) (c : Contents) → AreWrittenAnew html nothing t c → 0 < length (edges t) → is_something c ≡ true
something t c anew lt = some_item (edges t) anew.lists c anew.below anew.tree anew.made lt

-- ---- a new bookmarks bar

pub bar_missing : (o : Option Entry) (t : Tree) (old new : List ℕ) → AddsFolder 1 old new new_bar nothing t → 0 < length (edges t) → is_some o ≡ false → IsMissing o t old new
bar_missing (Some e) t old new adds lt none = let bad : ⊥ = cc in absurd bad
bar_missing None t old new adds lt none = (
  adds.after,
  adds.anew,
  subst (λ b. StandBehind 1 old new (cond b (folder new_bar adds.after nothing) nothing)) (sym (something t adds.after adds.anew lt)) adds.lines,
)

pub bar_stays : (o : Option Entry) (t : Tree) (old : List ℕ) → is_some o ≡ true → IsMissing o t old old
bar_stays (Some e) t old some = refl
bar_stays None t old some = let bad : ⊥ = cc in absurd bad

pub nothing_missing : (o : Option Entry) (t : Tree) (old : List ℕ) → edges t ≡ [] → IsMissing o t old old
nothing_missing (Some e) t old none = refl
nothing_missing None t old none = (nothing, written_nothing t none, sym (append-nil old))

-- ---- both folders of a tree are less deep

pub record AreLess (t bar other : Tree) : Type 0 where
  pub bar_less : depth bar < depth t
  pub other_less : depth other < depth t

pub both_less : (t bar other : Tree) → AreFoldersOf t bar other → AreLess t bar other
both_less t bar other is =
    let all : depth t ≡ max (depth bar + 1) (max (depth other + 1) 0) = depth-edges t ∙ ap deepest is.tree in
    record { bar_less = omega (arith, all); other_less = omega (arith, all) }
