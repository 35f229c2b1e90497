use Rattle.std.proofs.Common.{◌<◌, ◌^◌, List, length, sym, ap, subst, ◌∙◌, arith, rules}
use Rattle.std.proofs.lemmas.List.{length-map}
use Rattle.std.proofs.lemmas.Option.{MatchOption-at_some, MatchOption-at_none}
use Rattle.hm_schema_lines.specs.declared.entry.Entry.{Entry}
use Rattle.hm_schema_lines.specs.Entries.{entry_value, entry_values}
use Rattle.hm_schema_lines.specs.Firsts.{node_names, AreFirsts}
use Rattle.hm_focal.specs.declared.own.Own.{Own}
use Rattle.hm_focal.specs.OwnLines.{own_values}
use Rattle.hm_focal.proofs.JudgingOwn.{bad_within}
use Rattle.hm_focal.proofs.Files.{first_told, sound_of}
use Rattle.hm_focal.proofs.read.sound_lines.Goals as goal

pub overflow_add-result : goal.overflow_add-result
overflow_add-result c =
    let first = MatchOption-at_some _ _ _ c.in-Some.is c.in_ok-place.ensures in
    let lines = length-map c.deref-2.result.now entry_value in
    let long = ap (λ (z : List Own). length (own_values z)) c.deref-3.ensures.value
    ∙ c.in_ok-lines.ensures.own
    ∙ sym c.in_ok-lines.ensures.entries
    ∙ sym (ap (λ (z : List Entry). length (entry_values z)) c.deref-2.ensures.value) in
    let within = bad_within _ _ c.in-Some.place long first.bad in
    let below : c.in-Some.place < length c.deref-2.result.now = omega arith in
    let few : length c.deref-2.result.now < 2 ^ 63 = search rules in
    search rules

pub returns-in-Some : goal.returns-in-Some
returns-in-Some c =
    first_told _ c.in_ok-lines.lines.entries.items c.in_ok-lines.lines.own.items c.in_ok-lines.ensures _ _
    c.deref-2.ensures.value c.deref-3.ensures.value _ (MatchOption-at_some _ _ _ c.in-Some.is c.in_ok-place.ensures)

pub returns-in-None : goal.returns-in-None
returns-in-None c = record {
  read = c.in_ok-lines.ensures;
  sound = sound_of _ c.in_ok-lines.lines.entries.items c.in_ok-lines.lines.own.items c.in_ok-lines.ensures _ _
      c.deref-2.ensures.value c.deref-3.ensures.value (MatchOption-at_none _ _ c.in-None.is c.in_ok-place.ensures);
  nodes = subst (λ (z : List Entry). AreFirsts c.in_ok-declared.declared (node_names (entry_values z))) c.deref.ensures.value c.in_ok-declared.ensures;
}
