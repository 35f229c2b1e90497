-- What a tree shows of the entries of a file.
use Rattle.hm_marks_tokens.specs.Grammar.{Contents}
use Rattle.hm_marks_trees.specs.Nodes.{Plain, seen}
use Rattle.hm_netscape_entries.specs.Entries.{html}

-- of a link its key and its address, of a folder its key, and of a separator nothing
abbrev pub shown_of : Contents → Plain
shown_of c = seen html c
