-- What a cause and a fault say when they are printed. Assumes nothing.
-- cause_words c: the cause c in words
-- cause_text c: the same, with its number
-- fault_text f: the cause, the depth and the place of the fault f
use Rattle.std.specs.Prelude.{ℕ, List, ◌++◌, codes, decimal}
use Rattle.memory.specs.declared.fault.Cause.{Cause}
use Rattle.memory.specs.declared.fault.Cause.TheVariants.{BadRun, PastEnd, Blank, NoPage, PageOut, FailedCheck, Custom}
use Rattle.memory.specs.declared.fault.Fault.{Fault}
use Rattle.memory.specs.Fault.{cause_number}

abbrev pub cause_words : Cause → List ℕ
cause_words BadRun = codes "the run does not fit one line"
cause_words PastEnd = codes "the run passes the size"
cause_words Blank = codes "blank"
cause_words NoPage = codes "no page"
cause_words PageOut = codes "page out"
cause_words FailedCheck = codes "failed check"
cause_words (Custom c) = codes "a cause of an added memory"

abbrev pub cause_text : Cause → List ℕ
cause_text c = cause_words c ++ codes " (cause " ++ decimal (cause_number c) ++ codes ")"

abbrev pub fault_text : Fault → List ℕ
fault_text f = cause_text f.cause ++ codes ", depth " ++ decimal f.depth ++ codes ", place " ++ decimal f.place
