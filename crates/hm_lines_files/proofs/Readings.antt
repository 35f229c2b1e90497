-- What is made of the lines of a file is what its bytes are read as.
use Rattle.std.proofs.Common.{◌≡◌, ℕ, List, Result, Ok, Err, sym, subst}
use Rattle.std.specs.Prelude.{IsUtf8, IfOk, IfErr, IsErrAnd}
use Rattle.hm_tree.specs.Nodes.{Tree}
use Rattle.hm_schema.specs.Values.{OptionsValue}
use Rattle.hm_lines.specs.Unfolding.{unfolded}
use Rattle.hm_format.specs.declared.fault.FormatFault.{FormatFault}
use Rattle.hm_format.specs.declared.fault.FormatFault.TheVariants.{BadOption, NotUtf8, BadItem, NoKey, TooDeep, Outside, Memory}
use Rattle.hm_format.specs.Formats.{deepest}
use Rattle.hm_format.specs.Answers.{Reads}
use Rattle.hm_lines_files.specs.declared.layout_fault.LayoutFault.{LayoutFault}
use Rattle.hm_lines_files.specs.declared.layout_fault.LayoutFault.TheVariants as stop
use Rattle.hm_lines_files.specs.Components.{Layout, components}
use Rattle.hm_lines_files.specs.Reading.{IsTreeOf}
use Rattle.hm_lines_files.specs.Forms.{Form, shown_of}
use Rattle.hm_lines_files.specs.Files as files
use Rattle.hm_lines_files.specs.Files.{IsFile, lines_in, full}
use Rattle.hm_lines_files.specs.Stops.{IsStop, AreOf}
use Rattle.hm_lines_files.specs.FormLaws.{IsForm}
use Rattle.hm_lines_files.specs.Faults.{IsTextFault, IsFaultOf, IsBookFault}
use Rattle.hm_lines_files.proofs.BadLines.{bad_line}

-- a fault that is passed on
pub passed_on : (r : Result Tree FormatFault) (fault : FormatFault) (R : Result Tree FormatFault → Type 0) → IsErrAnd r (λ e. e ≡ fault) → Reads R (Err fault)
    → Reads R r
passed_on (Ok tree) fault R e h = absurd e
passed_on (Err other) fault R e h = subst (λ (f : FormatFault). Reads R (Err f)) (sym e) h

module _ (f : Form) (o : OptionsValue) (bytes : List ℕ) where
  abbrev R : Result Tree FormatFault → Type 0
  R r = files.Reads f o bytes r

  -- bytes without folds that aren't UTF-8
  pub text_read : (fault : FormatFault) → IsTextFault (unfolded bytes) fault → Reads R (Err fault)
  text_read (NotUtf8 at) why = record { broken = why.0; place = why.1 }
  text_read Memory why = absurd why
  text_read (BadOption name) why = absurd why
  text_read (BadItem number) why = absurd why
  text_read (NoKey number) why = absurd why
  text_read (TooDeep depth) why = absurd why
  text_read (Outside path) why = absurd why

  module _ (text : IsUtf8 (unfolded bytes)) where
    -- lines that stop to be those of a file
    pub stop_read : IsForm f → (s : LayoutFault) → IsStop f o (full (lines_in bytes)) s → (fault : FormatFault) → IsFaultOf (lines_in bytes) s fault → Reads R (Err fault)
    stop_read law (stop.At place) stops (BadItem number) why = (text, bad_line f law o (lines_in bytes) place stops number why)
    stop_read law (stop.At place) stops Memory why = absurd why
    stop_read law (stop.At place) stops (BadOption name) why = absurd why
    stop_read law (stop.At place) stops (NotUtf8 at) why = absurd why
    stop_read law (stop.At place) stops (NoKey number) why = absurd why
    stop_read law (stop.At place) stops (TooDeep depth) why = absurd why
    stop_read law (stop.At place) stops (Outside path) why = absurd why
    stop_read law stop.Memory stops Memory why = tt
    stop_read law stop.Memory stops (BadItem number) why = absurd why
    stop_read law stop.Memory stops (BadOption name) why = absurd why
    stop_read law stop.Memory stops (NotUtf8 at) why = absurd why
    stop_read law stop.Memory stops (NoKey number) why = absurd why
    stop_read law stop.Memory stops (TooDeep depth) why = absurd why
    stop_read law stop.Memory stops (Outside path) why = absurd why

    module _ (layout : Layout) (are : AreOf f o (full (lines_in bytes)) layout) where
      pub file_of : IsFile f o bytes layout
      file_of = record { text = text; are = record { has = are.0; are = are.1 } }

      -- the tree of a layout's components
      pub tree_read : (t : Tree) → IsTreeOf f.template.key (shown_of f o) (components layout) deepest t → Reads R (Ok t)
      tree_read t is = (record { layout = layout; file = file_of; keyed = is.keyed; tree = is.shallow.is }, is.shallow.within)

      -- and why they have none
      pub book_read : (fault : FormatFault) → IsBookFault f.template.key (shown_of f o) (components layout) fault → Reads R (Err fault)
      book_read (NoKey number) why = record { layout = layout; file = file_of; first = why }
      book_read (TooDeep depth) why = record {
        tree = why.too_deep.tree;
        book = record { layout = layout; file = file_of; keyed = why.keyed; tree = why.too_deep.is };
        depth_is = why.too_deep.depth_is;
        over = why.too_deep.over;
      }
      book_read Memory why = tt
      book_read (BadOption name) why = absurd why
      book_read (NotUtf8 at) why = absurd why
      book_read (BadItem number) why = absurd why
      book_read (Outside path) why = absurd why

      -- whichever of them is answered
      pub answer_read : (r : Result Tree FormatFault) → IfOk r (IsTreeOf f.template.key (shown_of f o) (components layout) deepest)
          → IfErr r (IsBookFault f.template.key (shown_of f o) (components layout)) → Reads R r
      answer_read (Ok t) tree fault = tree_read t tree
      answer_read (Err why) tree fault = book_read why fault
