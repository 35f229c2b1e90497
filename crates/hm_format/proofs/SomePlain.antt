-- All bytes are read as the text of a tree of the schema, or refused for a fault.
use Rattle.std.proofs.Common.{ℕ, List, Option, Some, None, Result, Ok, Err, refl}
use Rattle.std.specs.Prelude.{IsUtf8}
use Rattle.std.specs.Str.Lossy.{utf8_valid_len}
use Rattle.hm_existence.specs.Existence.{IsThere}
use Rattle.hm_existence.proofs.Existence.{from_one, from_there, by_cases}
use Rattle.hm_tree.specs.Nodes.{Tree}
use Rattle.hm_tree.specs.States.{Path, state}
use Rattle.hm_tree_text.specs.Files.{IsTreeText}
use Rattle.hm_tree_text.specs.Reads.{ReadsTree}
use Rattle.hm_tree_text.specs.declared.fault.TextFault.{TextFault}
use Rattle.hm_tree_text.specs.declared.fault.TextFault.TheVariants as text
use Rattle.hm_tree_text.proofs.SomeReading.{tree_read_there}
use Rattle.hm_schema.specs.Values.{SchemaValue}
use Rattle.hm_schema.specs.Membership.{IsAnswer, HasNoTwins}
use Rattle.hm_format.specs.declared.fault.FormatFault.{FormatFault}
use Rattle.hm_format.specs.declared.fault.FormatFault.TheVariants.{NotUtf8, BadItem, TooDeep, Outside}
use Rattle.hm_format.specs.Plain.{PlainReads}
use Rattle.hm_format.proofs.SomeOutside.{answer_there}

module _ (s : SchemaValue) (plain : HasNoTwins s) (bytes : List ℕ) where
  abbrev Answers : Result Tree FormatFault → Type 0
  Answers = PlainReads s bytes

  tree_there : (t : Tree) → IsTreeText t bytes → IsThere Answers
  tree_there t is = from_there (IsAnswer s s.root (state (Some t))) Answers (answer_there s plain t) found
    where
      found : (o : Option Path) → IsAnswer s s.root (state (Some t)) o → IsThere Answers
      found None member = from_one Answers (Ok t) (is, member)
      found (Some p) first = from_one Answers (Err (Outside p)) (record { tree = t; text = is; first = first })

  text_there : IsUtf8 bytes → (r : Result Tree TextFault) → ReadsTree bytes r → IsThere Answers
  text_there utf8 (Ok t) is = tree_there t is
  text_there utf8 (Err (text.BadTree at)) fault = from_one Answers (Err (BadItem at)) (utf8, fault)
  text_there utf8 (Err text.TooDeep) fault = from_one Answers (Err (TooDeep 1001)) (utf8, fault, refl)
  text_there utf8 (Err text.Memory) fault = absurd fault

  pub some_read : IsThere Answers
  some_read =
      by_cases Answers (IsUtf8 bytes) (λ utf8. from_there (ReadsTree bytes) Answers (tree_read_there bytes) (text_there utf8))
      (λ broken. from_one Answers (Err (NotUtf8 (utf8_valid_len bytes))) (broken, refl))
