-- Made-up files in a store that holds nothing else.
use Rattle.std.specs.Prelude.{ℕ, List, [], ◌∷◌, codes, get_or}
use Rattle.hm_tree.specs.Names.{Name}
use Rattle.hm_outside.specs.Contents.{Contents, nothing_held}
use Rattle.hm_run_files.specs.declared.slot.Slot.TheVariants as slot
use Rattle.hm_run_files.specs.Files.{File, New, written}
use Rattle.hm_run_sync.specs.Verdict.{NewNames}
use Rattle.hm_generator.specs.Generated.{generated}
use Rattle.hm_run_generated.specs.declared.names.Names.{Names}

pub record NamesValue : Type 0 where
  pub schema : Name
  pub lens_a : Name
  pub lens_b : Name
  pub archive : Name
  pub left : Name
  pub right : Name

abbrev pub names_value : Names → NamesValue
names_value names = record {
  schema = names.schema;
  lens_a = names.lens_a;
  lens_b = names.lens_b;
  archive = names.archive;
  left = names.left;
  right = names.right;
}

-- each file has the name of its slot
abbrev pub store_names : NamesValue
store_names = record {
  schema = codes "schema";
  lens_a = codes "lensA";
  lens_b = codes "lensB";
  archive = codes "archive";
  left = codes "A";
  right = codes "B";
}

-- in the order in which they are loaded
abbrev pub files_named : NamesValue → List File
files_named names =
    record { slot = slot.Schema; name = names.schema } ∷ record { slot = slot.LensA; name = names.lens_a } ∷ record { slot = slot.LensB; name = names.lens_b }
    ∷ record { slot = slot.Archive; name = names.archive }
    ∷ record { slot = slot.A; name = names.left } ∷ record { slot = slot.B; name = names.right } ∷ []

abbrev pub new_names : NamesValue → NewNames
new_names names = record { archive = names.archive; left = names.left; right = names.right }

-- with these bytes, in the same order
abbrev pub news_named : NamesValue → List (List ℕ) → List New
news_named names all =
    record { slot = slot.Schema; name = names.schema; bytes = get_or all 0 [] } ∷ record { slot = slot.LensA; name = names.lens_a; bytes = get_or all 1 [] }
    ∷ record { slot = slot.LensB; name = names.lens_b; bytes = get_or all 2 [] } ∷ record { slot = slot.Archive; name = names.archive; bytes = get_or all 3 [] }
    ∷ record { slot = slot.A; name = names.left; bytes = get_or all 4 [] } ∷ record { slot = slot.B; name = names.right; bytes = get_or all 5 [] } ∷ []

-- what a store holds that has the files of so many contacts, and nothing else
abbrev pub generated_contents : ℕ → Contents
generated_contents number = written nothing_held (news_named store_names (generated number))
