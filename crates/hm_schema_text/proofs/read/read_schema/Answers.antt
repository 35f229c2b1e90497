use Rattle.std.proofs.Common.{◌<◌, ◌^◌, List, length, sym, subst, ◌∙◌, arith, rules}
use Rattle.std.proofs.lemmas.List.{length-map}
use Rattle.std.proofs.lemmas.Option.{MatchOption-at_some, MatchOption-at_none}
use Rattle.hm_schema_lines.specs.declared.entry.Entry.{Entry}
use Rattle.hm_schema_lines.specs.Entries.{entry_value, entry_values}
use Rattle.hm_schema_lines.specs.FirstBad.{at}
use Rattle.hm_schema_text.specs.BadLines.{IsBadLine, of_node}
use Rattle.hm_schema_text.proofs.Judging.{bad_within}
use Rattle.hm_schema_text.proofs.Files.{missing_line, schema_file, file_formed}
use Rattle.hm_schema_text.proofs.read.read_schema.Goals as goal

pub overflow_add-result : goal.overflow_add-result
overflow_add-result c =
    let first = MatchOption-at_some _ _ _ c.in-Some.is c.in_ok-place.ensures in
    let within = bad_within _ _ c.in-Some.place first.bad in
    let same = length-map c.deref-2.result.now entry_value in
    let below : c.in-Some.place < length c.deref-2.result.now = omega arith in
    let few : length c.deref-2.result.now < 2 ^ 63 = search rules in
    search rules

pub returns-in-Some : goal.returns-in-Some
returns-in-Some c = λ _. record {
  entries = _;
  read = rw c.deref-2.ensures.value c.in_ok-entries.ensures;
  told = at (MatchOption-at_some _ _ _ c.in-Some.is c.in_ok-place.ensures);
}

pub find_root-requires : goal.find_root-requires
find_root-requires c = rw (c.deref-3.ensures.value, ← c.deref-2.ensures.value) (MatchOption-at_none _ _ c.in_default.is c.in_ok-place.ensures)

pub returns-in_default-2 : goal.returns-in_default-2
returns-in_default-2 c = λ _.
    missing_line _ c.in_ok-entries.entries.items c.in_ok-entries.ensures
    (rw (← c.deref-2.ensures.value) (MatchOption-at_none _ _ c.in_default.is c.in_ok-place.ensures))
    _ (omega arith)
    (rw (← c.deref-3.ensures.value) (MatchOption-at_none _ _ c.in_default-2.is c.in_ok-name.ensures))

pub build_nodes-requires-clause-sound : goal.build_nodes-requires-clause-sound
build_nodes-requires-clause-sound c =
    let sound = MatchOption-at_none _ _ c.in_default.is c.in_ok-place.ensures in
    let both = c.deref-5.ensures.value ∙ sym c.deref-2.ensures.value in
    λ i bad. sound i (subst (λ (xs : List Entry). IsBadLine c.args.bytes.now (entry_values xs) i) both (of_node bad))

pub new-requires : goal.new-requires
new-requires c =
    file_formed _ _
    (schema_file _ c.in_ok-entries.entries.items c.in_ok-entries.ensures
    (rw (← c.deref-2.ensures.value) (MatchOption-at_none _ _ c.in_default.is c.in_ok-place.ensures))
    _ c.node_of-root.result c.in-Some-2.name
    (rw (← c.deref-3.ensures.value) ((MatchOption-at_some _ _ _ c.in-Some-2.is c.in_ok-name.ensures).1))
    (rw (← c.deref-4.ensures.value) c.node_of-root.ensures)
    (rw (← c.deref-5.ensures.value) c.in_ok-nodes.ensures))

pub returns : goal.returns
returns c = λ _.
    rw (c.in_ok-indexed.ensures, c.new.ensures)
    (schema_file _ c.in_ok-entries.entries.items c.in_ok-entries.ensures
    (rw (← c.deref-2.ensures.value) (MatchOption-at_none _ _ c.in_default.is c.in_ok-place.ensures))
    _ c.node_of-root.result c.in-Some-2.name
    (rw (← c.deref-3.ensures.value) ((MatchOption-at_some _ _ _ c.in-Some-2.is c.in_ok-name.ensures).1))
    (rw (← c.deref-4.ensures.value) c.node_of-root.ensures)
    (rw (← c.deref-5.ensures.value) c.in_ok-nodes.ensures))
