-- What the crates above cite.
pub use Rattle.hm_schema_writer.proofs.Lists.{mapped}
pub use Rattle.hm_schema_writer.proofs.Written.{decimal_word}
pub use Rattle.hm_schema_writer.proofs.OneLine.{IsOneLine, line_both, spelled_line, token_line, spaces_line, spaced_line, node_line_line}
pub use Rattle.hm_schema_writer.proofs.Broken.{AreOneLine, lines_both, lines_each, texts_are}
pub use Rattle.hm_schema_writer.proofs.NodeEntries.{spaced_front, not_skipped, first_byte, node_first, node_entry, front_quiet}
pub use Rattle.hm_schema_writer.proofs.WrittenLines.{is_node as written_node}
pub use Rattle.hm_schema_writer.proofs.WrittenSound.{written_sound}
pub use Rattle.hm_schema_writer.proofs.Described.{written_names, written_places, written_nodes, written_type_names}
pub use Rattle.hm_schema_writer.proofs.WrittenReads.{written_reads}
pub use Rattle.hm_schema_writer.proofs.Readable.{readable_nodes}
pub use Rattle.hm_schema_writer.proofs.Rewritten.{rewritten_nodes, rewritten_type_names}
