-- `writer::files::put_header` meets its contract: seven numbers one after the other.
use Rattle.writer.proofs.Written.{header-put}
use Rattle.writer.proofs.files.put_header.Goals as goal

pub returns : goal.returns
returns c = header-put _ _ _ c.put_word32.ensures c.put_word32-2.ensures c.put_word16.ensures c.put_word16-2.ensures c.put_word16-3.ensures c.put_word32-3.ensures c.put_word32-4.ensures
