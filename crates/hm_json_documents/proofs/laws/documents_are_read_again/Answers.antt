use Rattle.hm_json_documents.proofs.Read.{read_sound, document_texts, document_depth, document_known}
use Rattle.hm_json_documents.proofs.Written.{written_read, written_utf8}
use Rattle.hm_json_documents.proofs.laws.documents_are_read_again.Goals as goal

pub returns-clause-known : goal.returns-clause-known
returns-clause-known c = document_known

pub returns-clause-sound : goal.returns-clause-sound
returns-clause-sound c = read_sound

pub returns-clause-texts : goal.returns-clause-texts
returns-clause-texts c = document_texts

pub returns-clause-nests : goal.returns-clause-nests
returns-clause-nests c = document_depth

pub returns-clause-read : goal.returns-clause-read
returns-clause-read c = written_read

pub returns-clause-utf8 : goal.returns-clause-utf8
returns-clause-utf8 c = written_utf8
