-- The number and the words of each reason. Assumes nothing.
-- reason_said r: the number and the words of the reason r
-- reason_number r: the number alone
-- reason_text r, refusal_text r: what is written of a reason, and of a refusal
use Rattle.std.specs.Prelude.{ℕ, List, ◌++◌, codes, decimal}
use Rattle.opening.specs.declared.reason.Reason.{Reason}
use Rattle.opening.specs.declared.reason.Reason.TheVariants.{ShortBoard, TableOutside, FrameOutside, FrameInTable, FrameTaken}
use Rattle.opening.specs.declared.reason.OpeningRefusal.{OpeningRefusal}

abbrev pub reason_said : Reason → ℕ × List ℕ
reason_said ShortBoard = (21, codes "the board has fewer bytes than the memory has whole pages")
reason_said TableOutside = (22, codes "a page of the table is no whole page of the memory")
reason_said FrameOutside = (23, codes "the frame is no whole page of the memory")
reason_said FrameInTable = (24, codes "the frame is a page of the table")
reason_said FrameTaken = (25, codes "an earlier live entry has the frame")

abbrev pub reason_number : Reason → ℕ
reason_number r = (reason_said r).0

abbrev pub reason_text : Reason → List ℕ
reason_text r = (reason_said r).1 ++ codes " (reason " ++ decimal (reason_number r) ++ codes ")"

abbrev pub refusal_text : OpeningRefusal → List ℕ
refusal_text r = reason_text r.reason ++ codes ", entry " ++ decimal r.entry
