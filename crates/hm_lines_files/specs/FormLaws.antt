-- The laws of a form: from them it follows that its files are a lawful format.
use Rattle.std.specs.Prelude.{◌≡◌, ◌≢◌, false, true, [], List, All, IsUtf8}
use Rattle.hm_tree.specs.Names.{Name}
use Rattle.hm_tree.specs.Classes.{IsFilled}
use Rattle.hm_tree.specs.Nodes.{Tree}
use Rattle.hm_schema.specs.Values.{OptionsValue}
use Rattle.hm_lines.specs.Content.{IsWord}
use Rattle.hm_lines.specs.Unfolding.{begins_with_blank}
use Rattle.hm_lines.specs.Folding.{IsPlain}
use Rattle.hm_book_cards.specs.Cards.{IsCard}
use Rattle.hm_lines_cards.specs.Lines.{IsCapital, AreProperties, IsLine, AreFew, texts_of}
use Rattle.hm_lines_files.specs.Components.{Component, Piece, Layout, all_lines, components}
use Rattle.hm_lines_files.specs.Rewriting.{blank, showing}
use Rattle.hm_lines_files.specs.Renewed.{AreRenewed}
use Rattle.hm_lines_files.specs.Forms.{Form, is_full, shown_of}

pub record IsForm (f : Form) : Type 0 where
  pub properties : AreProperties f.properties
  -- the key is the text of a further property, which alone shows it in a new component
  pub word : IsWord f.template.key
  pub capitals : All IsCapital f.template.key
  pub apart : All (λ p. p.0 ≢ f.template.key) f.properties
  pub front : texts_of f.template.key f.template.front ≡ []
  pub more : texts_of f.template.key f.template.more ≡ []
  pub end : IsPlain f.template.end × IsUtf8 f.template.end
  pub front_lines : All (λ l. IsLine l × (IsPlain l.0 × IsUtf8 l.0)) f.template.front
  pub more_lines : All (λ l. IsLine l × (IsPlain l.0 × IsUtf8 l.0)) f.template.more
  -- a new component fits
  pub new : (o : OptionsValue) (k : Name) → IsFilled k → f.fits o (blank f.template k)
  -- one that fits has the parts that it says, and shows no more texts than it may
  pub lines : (o : OptionsValue) (c : Component) → f.fits o c → All IsLine c.lines
  pub few : (o : OptionsValue) (c : Component) → f.fits o c → AreFew (shown_of f o) c.lines
  -- and it fits still where it's to show another card
  pub showing : (o : OptionsValue) (c : Component) (card : Tree) → f.fits o c → IsCard (shown_of f o) card → f.fits o (showing (shown_of f o) card c)
  -- there is a file
  pub some : (o : OptionsValue) → (l : Layout) × f.has o l
  -- lines are those of one layout at the most, none of them is empty, and the components of a layout fit
  pub once : (o : OptionsValue) (l m : Layout) → f.has o l → f.has o m → all_lines l ≡ all_lines m → l ≡ m
  pub full : (o : OptionsValue) (l : Layout) → f.has o l → All (λ line. is_full line ≡ true) (all_lines l)
  -- and none begins with a blank
  pub no_blank : (o : OptionsValue) (l : Layout) → f.has o l → All (λ line. begins_with_blank line ≡ false) (all_lines l)
  pub fit : (o : OptionsValue) (l : Layout) → f.has o l → All (f.fits o) (components l)
  -- a layout that is renewed is one of a file still
  pub renewed : (o : OptionsValue) (l : Layout) (pieces : List Piece) → f.has o l → AreRenewed (f.fits o) l.pieces pieces → f.has o (record { pieces = pieces; end = l.end })
