-- The laws of folders of bookmarks, said of the two of a whole file.
use Rattle.std.proofs.Common.{◌≡◌, List, [], ◌∷◌, sym, ap, subst, ◌∙◌}
use Rattle.hm_tree.specs.Names.{Name}
use Rattle.hm_tree.specs.Nodes.{Tree, edges}
use Rattle.hm_tree.specs.NodeLaws.{same_edges, tree_unmarked}
use Rattle.hm_marks.specs.Contents.{Contents}
use Rattle.hm_marks.specs.Layouts.{Layout, IsLayout, AreSound}
use Rattle.hm_marks.specs.Writing.{AreWrittenAnew}
use Rattle.hm_marks.specs.Kept.{Keeps}
use Rattle.hm_marks.proofs.Once.{tree_once, anew_once as folder_once}
use Rattle.hm_marks.proofs.ReadBack.{put_get as folder_back}
use Rattle.hm_marks.proofs.Sound.{anew_sound as folder_sound}
use Rattle.hm_marks.proofs.KeptContents.{anew_kept as folder_kept}
use Rattle.hm_marks_schema.specs.Schema.{bar_name, other_name}
use Rattle.hm_marks_schema.specs.Bookmarks.{AreBookmarks, AreBookmarksAnew}

abbrev BothEdges : Tree → Tree → List (Name × Tree)
BothEdges b o = (bar_name, b) ∷ (other_name, o) ∷ []

-- the two trees are known from the whole
pub both_known : (b o c p t : Tree) → edges t ≡ BothEdges b o → edges t ≡ BothEdges c p → (b ≡ c) × (o ≡ p)
both_known b o c p t e f =
    let same : BothEdges b o ≡ BothEdges c p = sym e ∙ f in
    let bars : ◌≡◌ {A = Name × Tree} (bar_name, b) (bar_name, c) = cc in
    let others : ◌≡◌ {A = Name × Tree} (other_name, o) (other_name, p) = cc in
    (ap (λ (e : Name × Tree). e.1) bars, ap (λ (e : Name × Tree). e.1) others)

-- and the whole from them
both_one : (b o c p t u : Tree) → edges t ≡ BothEdges b o → edges u ≡ BothEdges c p → b ≡ c → o ≡ p → t ≡ u
both_one b o c p t u e f bars others = same_edges t u (tree_unmarked t) (tree_unmarked u) (e ∙ (λ i. BothEdges (bars i) (others i)) ∙ sym f)

module _ {L F S : Type 0} (y : Layout L F) where
  -- what stands in the two has one tree at the most
  pub bookmarks_once : (bar other : Contents L F S) (t u : Tree) → AreBookmarks y bar other t → AreBookmarks y bar other u → t ≡ u
  bookmarks_once bar other t u a b =
      both_one a.bar_tree a.other_tree b.bar_tree b.other_tree t u a.tree b.tree (tree_once y bar a.bar_tree b.bar_tree a.bar b.bar)
      (tree_once y other a.other_tree b.other_tree a.other b.other)

  -- of a tree the two are written in one way at the most
  pub anew_once : (old_bar old_other : Contents L F S) (t : Tree) (bar other new_bar new_other : Contents L F S)
      → AreBookmarksAnew y old_bar old_other t bar other → AreBookmarksAnew y old_bar old_other t new_bar new_other
      → (bar ≡ new_bar) × (other ≡ new_other)
  anew_once old_bar old_other t bar other new_bar new_other a b =
      let same = both_known a.bar_tree a.other_tree b.bar_tree b.other_tree t a.tree b.tree in (
        folder_once y old_bar b.bar_tree bar new_bar (subst (λ u. AreWrittenAnew y old_bar u bar) same.0 a.bar) b.bar,
        folder_once y old_other b.other_tree other new_other (subst (λ u. AreWrittenAnew y old_other u other) same.1 a.other) b.other,
      )

  module _ (IsLink : L → Type 0) (IsFolder : F → Type 0) (IsSeparator : S → Type 0) (AreAlike : L → L → Type 0)
      (law : IsLayout y IsLink IsFolder AreAlike) where
    abbrev Sound : Contents L F S → Type 0
    Sound c = AreSound IsLink IsFolder IsSeparator c

    module _ (old_bar old_other : Contents L F S) (sound_bar : Sound old_bar) (sound_other : Sound old_other) (t : Tree)
        (new_bar new_other : Contents L F S) (is : AreBookmarksAnew y old_bar old_other t new_bar new_other) where
      -- what is written anew for a tree has it
      pub put_get : AreBookmarks y new_bar new_other t
      put_get = record {
        bar_tree = is.bar_tree;
        other_tree = is.other_tree;
        tree = is.tree;
        bar = folder_back y IsLink IsFolder IsSeparator AreAlike law old_bar is.bar_tree new_bar sound_bar is.bar;
        other = folder_back y IsLink IsFolder IsSeparator AreAlike law old_other is.other_tree new_other sound_other is.other;
      }

      -- it may stand in a file where what stood before could
      pub anew_sound : Sound new_bar × Sound new_other
      anew_sound = (
        folder_sound y IsLink IsFolder IsSeparator AreAlike law old_bar is.bar_tree new_bar sound_bar is.bar,
        folder_sound y IsLink IsFolder IsSeparator AreAlike law old_other is.other_tree new_other sound_other is.other,
      )

      -- and all stays in the two that has to
      pub anew_kept : Keeps y AreAlike old_bar new_bar × Keeps y AreAlike old_other new_other
      anew_kept = (
        folder_kept y IsLink IsFolder IsSeparator AreAlike law old_bar is.bar_tree new_bar sound_bar is.bar,
        folder_kept y IsLink IsFolder IsSeparator AreAlike law old_other is.other_tree new_other sound_other is.other,
      )
