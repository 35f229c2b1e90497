-- What the crates above cite.
pub use Rattle.hm_schema_lines.proofs.Tokens.{not_word, one_token, spaced_one, gaps_one, no_space, gap_within}
pub use Rattle.hm_schema_lines.proofs.Words.{run_is, run_passes, run_stops, begins_back, word_utf8, spaces_are, spaces_some}
pub use Rattle.hm_schema_lines.proofs.NodeLines.{begins}
pub use Rattle.hm_schema_lines.proofs.Once.{first_letter, line_once, zip_once, entries_once}
pub use Rattle.hm_schema_lines.proofs.Made.{entry_at, at_place, from_place, brings, brought}
pub use Rattle.hm_schema_lines.proofs.Places.{place_next, there, not_there, first_at, not_before}
pub use Rattle.hm_schema_lines.proofs.Judging.{bad_says, is_node, turned, always, never, all_names, length_names}
pub use Rattle.hm_schema_lines.proofs.Declared.{more_before, counted_below, counted, node_line, names_empty_or, nodes_once, place_once, no_twins, empty_or, IsOneOf, of_line, last, one_of, nat_cases, count_cons}
pub use Rattle.hm_schema_lines.proofs.WellFormed.{nodes_formed, own_in_range, all_shapes}
pub use Rattle.hm_schema_lines.proofs.FirstBad.{told_once}
pub use Rattle.hm_schema_lines.proofs.TypeNames.{type_count, type_place, names_are_one, type_names_once, types_formed, get_middle}
pub use Rattle.hm_schema_lines.proofs.Sections.{IsInFile, in_file}
pub use Rattle.hm_schema_lines.proofs.Building.{found_from}
pub use Rattle.hm_schema_lines.proofs.Counts.{own}
