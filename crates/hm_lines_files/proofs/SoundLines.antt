-- The lines of a layout that is to show a tree can be folded and read.
use Rattle.std.proofs.Common.{List, [], ◌∷◌, get_or}
use Rattle.std.specs.Prelude.{All, IsUtf8}
use Rattle.std.specs.List.{flat_map}
use Rattle.std.proofs.lemmas.List.Elements.{All-nil, All-cons, All-append, All-map}
use Rattle.hm_tree.specs.Nodes.{Tree, edges}
use Rattle.hm_lines.specs.Folding.{IsPlain}
use Rattle.hm_book_items.specs.ItemTrees.{AreLists, Lists}
use Rattle.hm_book_cards.specs.Cards.{Shown}
use Rattle.hm_book_cards.specs.Books as books
use Rattle.hm_lines_cards.specs.Lines.{Line}
use Rattle.hm_lines_cards.specs.Lent.{plain}
use Rattle.hm_lines_cards.specs.Rewriting.{new_line}
use Rattle.hm_lines_cards.proofs.Laws.{rewritten_plain}
use Rattle.hm_lines_files.specs.Components.{Component, lines_of, piece_lines, Layout, all_lines, components, HasKey}
use Rattle.hm_lines_files.specs.Rewriting.{Template, rewritten_layout}
use Rattle.hm_lines_files.proofs.KeyLines.{key_plain}
use Rattle.hm_lines_files.proofs.RewritingLaws.{IsKind, AreSound, tree_renewed, new_sound}
use Rattle.hm_lines_files.proofs.PieceLines.{front, IsSound, in_components, in_last, in_renewed}
use Rattle.hm_facts.proofs.Lists.{behind}

abbrev InPlain : Line → Type 0
InPlain l = IsPlain l.0

-- a component that fits, and whose lines can be folded, which is what a template of components may ask for too
record CanFold (Fits : Component → Type 0) (c : Component) : Type 0 where
  fits : Fits c
  plain : All InPlain c.lines
  end : IsSound c.end

-- lines that can be folded, and read
both : (ls : List Line) → All InPlain ls → All (λ (l : Line). IsUtf8 l.0) ls → All IsSound (plain ls)
both ls fold text = All-map IsSound (λ (l : Line). l.0) ls (λ i d lt. (fold i d lt, text i d lt))

module _ (template : Template) (shown : Shown) (Fits : Component → Type 0) (is : IsKind template shown Fits) where
  finer : IsKind template shown (CanFold Fits)
  finer = record {
    properties = is.properties;
    word = is.word;
    capitals = is.capitals;
    apart = is.apart;
    front = is.front;
    more = is.more;
    end = is.end;
    front_lines = is.front_lines;
    more_lines = is.more_lines;
    new = λ k filled. record {
      fits = is.new k filled;
      plain = All-append InPlain template.front (new_line template.key k ∷ template.more) (λ i d lt. (is.front_lines i d lt).1.0)
          (All-cons InPlain (new_line template.key k) template.more (key_plain template.key is.word k) (λ i d lt. (is.more_lines i d lt).1.0));
      end = is.end;
    };
    lines = λ c h. is.lines c h.fits;
    few = λ c h. is.few c h.fits;
    showing = λ c card h is_card. record {
      fits = is.showing c card h.fits is_card;
      plain = rewritten_plain shown is.properties card c.lines (is.lines c h.fits) h.plain;
      end = h.end;
    };
  }

  module _ (l : Layout) (fit : All Fits (components l)) (keys : All (HasKey template.key) (components l)) (lines : All IsSound (all_lines l)) where
    old : AreSound template shown (CanFold Fits) finer (components l)
    old = record {
      fit = λ i d lt. record {
        fits = fit i d lt;
        plain = in_components IsPlain l (λ k d lt. (lines k d lt).0) i d lt;
        end = in_last IsSound l lines i d lt;
      };
      has = keys;
      text = in_components IsUtf8 l (λ k d lt. (lines k d lt).1);
    }

    module _ (t : Tree) (lists : Lists) (below : AreLists (edges t) lists) (book : books.IsBook shown t) where
      abbrev new : Layout
      new = rewritten_layout template shown lists l

      now : AreSound template shown (CanFold Fits) finer (components new)
      now = new_sound template shown (CanFold Fits) finer l.pieces old t lists below book

      own : All (λ c. All IsSound (lines_of c)) (components new)
      own i d lt =
          let c = get_or (components new) i d in
          All-append IsSound (plain c.lines) (c.end ∷ []) (both c.lines (now.fit i d lt).plain (now.text i d lt))
          (All-cons IsSound c.end [] (now.fit i d lt).end (All-nil IsSound))

      pub sound_again : All IsSound (all_lines new)
      sound_again =
          All-append IsSound (flat_map piece_lines new.pieces) l.end
          (in_renewed IsSound (tree_renewed template shown (CanFold Fits) finer l.pieces old t lists below book)
          (front IsSound (flat_map piece_lines l.pieces) l.end lines) own)
          (behind IsSound (flat_map piece_lines l.pieces) l.end lines)
