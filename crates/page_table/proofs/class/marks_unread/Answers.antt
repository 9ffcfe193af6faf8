-- Assumes nothing.
use Rattle.page_table.proofs.Classes as classes
use Rattle.page_table.proofs.class.marks_unread.Goals as goal

pub returns : goal.returns
returns c = classes.marks_unread
