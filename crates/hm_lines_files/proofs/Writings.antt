-- What is made of a tree and of the lines of a file that was read is what is written.
use Rattle.std.proofs.Common.{◌≡◌, ℕ, List, Option, None, Result, Ok, Err, sym, subst}
use Rattle.std.specs.Prelude.{All, Vec, IsErrAnd}
use Rattle.std.specs.declared.alloc.Global.{Global}
use Rattle.hm_tree.specs.Nodes.{Tree}
use Rattle.hm_schema.specs.Values.{OptionsValue}
use Rattle.hm_book_items.specs.ItemTrees.{HasLists}
use Rattle.hm_lines.specs.Unfolding.{unfolded}
use Rattle.hm_format.specs.declared.fault.FormatFault.{FormatFault}
use Rattle.hm_format.specs.declared.fault.FormatFault.TheVariants.{BadOption, NotUtf8, BadItem, NoKey, TooDeep, Outside, Memory}
use Rattle.hm_format.specs.Formats.{MayWrite, depth_over}
use Rattle.hm_format.specs.Answers.{Writes}
use Rattle.hm_lines_files.specs.declared.layout_fault.LayoutFault.{LayoutFault}
use Rattle.hm_lines_files.specs.declared.layout_fault.LayoutFault.TheVariants as stop
use Rattle.hm_lines_files.specs.Components.{Layout, components, HasKey}
use Rattle.hm_lines_files.specs.Forms.{Form, shown_of}
use Rattle.hm_lines_files.specs.Files.{lines_in, full, IsFile}
use Rattle.hm_lines_files.specs.Stops.{IsStop, AreOf}
use Rattle.hm_lines_files.specs.Writing as writing
use Rattle.hm_lines_files.specs.Writing.{meaning_of}
use Rattle.hm_lines_files.specs.FormLaws.{IsForm}
use Rattle.hm_lines_files.specs.Faults.{IsTextFault, IsFaultOf}
use Rattle.hm_lines_files.specs.WrittenFiles.{ListsRise, IsWritten}
use Rattle.hm_lines_files.proofs.FileLaws as files
use Rattle.hm_lines_files.proofs.Laws.{member_of}

-- a fault that is passed on
pub passed_on : (r : Result (Vec ℕ Global) FormatFault) (fault : FormatFault) (over : Option ℕ) (W : List ℕ → Type 0) → IsErrAnd r (λ e. e ≡ fault)
    → Writes over W (Err fault) → Writes over W r
passed_on (Ok bytes) fault over W e h = absurd e
passed_on (Err other) fault over W e h = subst (λ (f : FormatFault). Writes over W (Err f)) (sym e) h

module _ (f : Form) (law : IsForm f) (o : OptionsValue) (t : Tree) (before : List ℕ) (may : MayWrite (meaning_of f) o t before) where
  abbrev W : List ℕ → Type 0
  W after = writing.Writes f o t before after

  -- ---- bytes that are read have no fault but want of memory

  pub text_written : (over : Option ℕ) (fault : FormatFault) → IsTextFault (unfolded before) fault → Writes over W (Err fault)
  text_written over (NotUtf8 at) why = absurd (why.0 may.read.0.file.text)
  text_written over Memory why = absurd why
  text_written over (BadOption name) why = absurd why
  text_written over (BadItem number) why = absurd why
  text_written over (NoKey number) why = absurd why
  text_written over (TooDeep d) why = absurd why
  text_written over (Outside path) why = absurd why

  pub stop_written : (over : Option ℕ) (s : LayoutFault) → IsStop f o (full (lines_in before)) s → (fault : FormatFault) → IsFaultOf (lines_in before) s fault
      → Writes over W (Err fault)
  stop_written over (stop.At place) stops fault why = absurd (stops.none may.read.0.layout may.read.0.file.are.has may.read.0.file.are.are)
  stop_written over stop.Memory stops Memory why = tt
  stop_written over stop.Memory stops (BadItem number) why = absurd why
  stop_written over stop.Memory stops (BadOption name) why = absurd why
  stop_written over stop.Memory stops (NotUtf8 at) why = absurd why
  stop_written over stop.Memory stops (NoKey number) why = absurd why
  stop_written over stop.Memory stops (TooDeep d) why = absurd why
  stop_written over stop.Memory stops (Outside path) why = absurd why

  -- ---- the tree

  pub has_lists : HasLists t
  has_lists = files.has_lists f law o t (member_of f o may.options.schema t may.options.has may.member)

  pub lists_rise : ListsRise t
  lists_rise = files.lists_rise f law o t (member_of f o may.options.schema t may.options.has may.member)

  -- ---- a file whose layout is known

  module _ (layout : Layout) (are : AreOf f o (full (lines_in before)) layout) where
    file : IsFile f o before layout
    file = record { text = may.read.0.file.text; are = record { has = are.0; are = are.1 } }

    -- its components have keys
    pub keyed : All (HasKey f.template.key) (components layout)
    keyed = files.keyed_there f law o before may.old may.read layout file

    -- and what is written behind it is what the format writes
    pub answer_written : depth_over t ≡ None → (after : Vec ℕ Global) → IsWritten f.template (shown_of f o) t layout before after.items
        → Writes (depth_over t) W (Ok after)
    answer_written over after w =
        (over, files.is_written f law o before may.old t may.read (member_of f o may.options.schema t may.options.has may.member) over layout file after.items w)
