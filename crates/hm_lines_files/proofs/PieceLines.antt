-- The lines of components among those of a file.
use Rattle.std.proofs.Common.{List, [], ◌∷◌, ◌++◌, map, subst}
use Rattle.std.specs.Prelude.{All, IsUtf8}
use Rattle.std.specs.List.{flat_map}
use Rattle.std.proofs.lemmas.List.Elements.{All-nil, All-cons, All-head, All-tail, All-append, All-filter}
use Rattle.hm_schema.specs.Values.{OptionsValue}
use Rattle.hm_lines.specs.Unfolding.{feed, unfolded}
use Rattle.hm_lines.specs.Folding.{HasNone, IsPlain}
use Rattle.hm_lines.proofs.Laws.{lines_utf8, lines_no_feed}
use Rattle.hm_lines_cards.specs.Lines.{Line}
use Rattle.hm_lines_cards.specs.Lent.{plain}
use Rattle.hm_lines_files.specs.Components.{Bytes, Component, lines_of, Piece, other, item, piece_lines, Layout, all_lines, components_of, components}
use Rattle.hm_lines_files.specs.Renewed.{AreRenewed, behind as behind_all, stays, goes, exchanged}
use Rattle.hm_lines_files.specs.Forms.{Form, is_full}
use Rattle.hm_lines_files.specs.Files.{lines_in, IsFile}
use Rattle.hm_lines_files.specs.FormLaws.{IsForm}
use Rattle.hm_lines_files.proofs.RewritingLaws.{lines_of_components}
use Rattle.hm_facts.proofs.Lists.{behind}

pub front : {X : Type 0} (P : X → Type 0) (xs ys : List X) → All P (xs ++ ys) → All P xs
front P [] ys all = All-nil P
front P (x ∷ xs) ys all = All-cons P x xs (All-head P x (xs ++ ys) all) (front P xs ys (All-tail P x (xs ++ ys) all))

module _ (P : Bytes → Type 0) where
  -- what holds of each line of a file holds of each line of its components
  pub in_components : (l : Layout) → All P (all_lines l) → All (λ c. All (λ (line : Line). P line.0) c.lines) (components l)
  in_components l all = lines_of_components P l.pieces (front P (flat_map piece_lines l.pieces) l.end all)

  -- of the last too
  in_ends : (ps : List Piece) → All P (flat_map piece_lines ps) → All (λ (c : Component). P c.end) (components_of ps)
  in_ends [] all = All-nil (λ (c : Component). P c.end)
  in_ends (other line ∷ ps) all = in_ends ps (All-tail P line (flat_map piece_lines ps) all)
  in_ends (item c ∷ ps) all =
      All-cons (λ (c : Component). P c.end) c (components_of ps)
      (All-head P c.end [] (behind P (plain c.lines) (c.end ∷ []) (front P (lines_of c) (flat_map piece_lines ps) all)))
      (in_ends ps (behind P (lines_of c) (flat_map piece_lines ps) all))

  pub in_last : (l : Layout) → All P (all_lines l) → All (λ (c : Component). P c.end) (components l)
  in_last l all = in_ends l.pieces (front P (flat_map piece_lines l.pieces) l.end all)

  -- and what holds of each line of some components, and of each line of none, holds of all that are renewed
  in_items : (cs : List Component) → All (λ c. All P (lines_of c)) (components_of (map item cs)) → All P (flat_map piece_lines (map item cs))
  in_items [] new = All-nil P
  in_items (c ∷ cs) new =
      All-append P (lines_of c) (flat_map piece_lines (map item cs)) (All-head (λ c. All P (lines_of c)) c (components_of (map item cs)) new)
      (in_items cs (All-tail (λ c. All P (lines_of c)) c (components_of (map item cs)) new))

  pub in_renewed : {Fits : Component → Type 0} {ps qs : List Piece} → AreRenewed Fits ps qs → All P (flat_map piece_lines ps)
      → All (λ c. All P (lines_of c)) (components_of qs) → All P (flat_map piece_lines qs)
  in_renewed (behind_all cs fit) old new = in_items cs new
  in_renewed (stays {line} {ps} {qs} renewed) old new =
      All-cons P line (flat_map piece_lines qs) (All-head P line (flat_map piece_lines ps) old)
      (in_renewed renewed (All-tail P line (flat_map piece_lines ps) old) new)
  in_renewed (goes c {ps} {qs} renewed) old new = in_renewed renewed (behind P (lines_of c) (flat_map piece_lines ps) old) new
  in_renewed (exchanged {c} {d} {ps} {qs} fits renewed) old new =
      All-append P (lines_of d) (flat_map piece_lines qs) (All-head (λ c. All P (lines_of c)) d (components_of qs) new)
      (in_renewed renewed (behind P (lines_of c) (flat_map piece_lines ps) old) (All-tail (λ c. All P (lines_of c)) d (components_of qs) new))

-- a line that can be folded and read
abbrev pub IsSound : Bytes → Type 0
IsSound line = IsPlain line × IsUtf8 line

-- those of a file can
pub file_lines : (f : Form) → IsForm f → (o : OptionsValue) (bytes : Bytes) (l : Layout) → IsFile f o bytes l → All IsSound (all_lines l)
file_lines f law o bytes l file k d lt = (record { no_feed = none k d lt; no_blank = law.no_blank o l file.are.has k d lt }, text k d lt)
  where
    none : All (HasNone feed) (all_lines l)
    none = subst (All (HasNone feed)) file.are.are (All-filter is_full (HasNone feed) (lines_in bytes) (lines_no_feed (unfolded bytes)))

    text : All IsUtf8 (all_lines l)
    text = subst (All IsUtf8) file.are.are (All-filter is_full IsUtf8 (lines_in bytes) (lines_utf8 (unfolded bytes) file.text))
