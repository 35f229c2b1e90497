-- What is written of a tree behind the bytes from before, and what stays.
use Rattle.std.specs.Prelude.{◌≡◌, ℕ, List, [], Ok}
use Rattle.hm_tree.specs.Nodes.{Tree}
use Rattle.hm_schema.specs.Values.{OptionsValue}
use Rattle.hm_lines.specs.Folding.{AreFolded}
use Rattle.hm_lines_files.specs.Components.{Layout, all_lines, components}
use Rattle.hm_lines_files.specs.Rewriting.{IsRewritten}
use Rattle.hm_lines_files.specs.Kept.{ArePieces}
use Rattle.hm_format.specs.Options.{accepted, bad_key}
use Rattle.hm_format.specs.Formats.{FormatMeaning, depth_over}
use Rattle.hm_book_cards.specs.Books.{book_schema}
use Rattle.hm_lines_files.specs.Forms.{Form, show_rules, judged, shown_of}
use Rattle.hm_lines_files.specs.Files.{lines_in, AreLaidOut, Reads}

-- the lines of the file that is to show the tree, folded; empty ones are left out
pub record IsWrittenAnew (f : Form) (o : OptionsValue) (t : Tree) (before after : List ℕ) : Type 0 where
  pub old : Layout
  pub are : AreLaidOut f o (lines_in before) old
  pub new : Layout
  pub rewritten : IsRewritten f.template (shown_of f o) t old new
  pub text : AreFolded (all_lines new) after

-- the bytes from before stay where they are read as the tree
pub data Writes (f : Form) (o : OptionsValue) (t : Tree) (before : List ℕ) : List ℕ → Type 0 where
  stays : Reads f o before (Ok t) → Writes f o t before before
  anew : {after : List ℕ} → ¬ (Reads f o before (Ok t)) → IsWrittenAnew f o t before after → Writes f o t before after

-- what stays of the file from before, whatever tree is written: its components survive by their keys and places, each with its
-- lines but for those that show what has changed, and every other line of the file stays
pub record Keeps (f : Form) (o : OptionsValue) (before after : List ℕ) : Type 0 where
  pub old : Layout
  pub was : AreLaidOut f o (lines_in before) old
  pub new : Layout
  pub now : AreLaidOut f o (lines_in after) new
  pub pieces : ArePieces f.template.key (shown_of f o) (components new) [] old.pieces new.pieces
  pub end : new.end ≡ old.end

-- ---- the format

abbrev pub meaning_of : Form → FormatMeaning
meaning_of f = record {
  tag = f.tag;
  schema_of = λ o. accepted (bad_key show_rules (judged f.properties o)) (book_schema (shown_of f o));
  reads = Reads f;
  over = depth_over;
  writes = Writes f;
  keeps = Keeps f;
}
