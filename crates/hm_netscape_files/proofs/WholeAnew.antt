-- What is written anew of the outermost folder for a tree shows it, and may stand in a file.
use Rattle.std.proofs.Common.{◌≡◌, true, [], codes, refl, sym, subst}
use Rattle.hm_tree.specs.Nodes.{Tree}
use Rattle.hm_marks.specs.Pieces.{staying}
use Rattle.hm_marks_schema.specs.Bookmarks.{AreBookmarks}
use Rattle.hm_marks_schema.proofs.WholeFiles.{put_get, anew_sound}
use Rattle.hm_marks_tokens.specs.Attributes.{are_attributes, attributes_of}
use Rattle.hm_marks_tokens.specs.Grammar.{Contents}
use Rattle.hm_marks_tokens.proofs.Escaped.{escaped_plain}
use Rattle.hm_netscape_entries.specs.Entries.{html, IsEntry, IsLinkEntry, IsRule, IsSameLink, MayStand}
use Rattle.hm_netscape_entries.specs.Toolbars.{bar_of, other_of}
use Rattle.hm_netscape_entries.proofs.Layouts.{html_layout}
use Rattle.hm_netscape_files.specs.Anew.{in_front_of_bar, bar_entry, new_bar, with_bar, IsAnew}
use Rattle.hm_netscape_files.proofs.BarParts.{bar_holds, other_holds, with_holds}
use Rattle.hm_netscape_files.proofs.BarsAnew.{whole_apart}

new_attributes : are_attributes new_bar.attributes ≡ true
unfolding attributes_of
new_attributes = refl

new_sound : IsEntry new_bar
new_sound = record { attributes = new_attributes; title = (escaped_plain (codes "Bookmarks bar")).less; note = tt }

module _ (old : Contents) (t : Tree) (new : Contents) (sound : MayStand old) (is : IsAnew old t new) where
  pub anew_tree : AreBookmarks html (bar_of new) (other_of new) t
  anew_tree =
      let apart = whole_apart old is.made.other.lists is.bar is.other is.made.other.made in
      let shown = put_get html IsLinkEntry IsEntry IsRule IsSameLink html_layout (bar_of old) (other_of old) (bar_holds IsLinkEntry IsEntry IsRule old sound) (other_holds IsLinkEntry IsEntry IsRule old sound) t is.bar is.other is.made in
      subst (λ (c : Contents). AreBookmarks html (bar_of c) (other_of c) t) (sym is.new_is)
      (subst (λ (b : Contents). AreBookmarks html b (other_of (with_bar (bar_entry old) (staying html is.made.other.lists [] (in_front_of_bar old)) is.bar is.other)) t)
      (sym apart.bar_is) (subst (λ (o : Contents). AreBookmarks html is.bar o t) (sym apart.other_is) shown))

  pub anew_stands : MayStand new
  anew_stands =
      let two = anew_sound html IsLinkEntry IsEntry IsRule IsSameLink html_layout (bar_of old) (other_of old) (bar_holds IsLinkEntry IsEntry IsRule old sound) (other_holds IsLinkEntry IsEntry IsRule old sound) t is.bar is.other is.made in
      subst MayStand (sym is.new_is)
      (with_holds IsLinkEntry IsEntry IsRule old (bar_entry old) (staying html is.made.other.lists [] (in_front_of_bar old)) is.bar is.other new_sound sound refl two.0 two.1)
