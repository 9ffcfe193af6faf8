-- What a window reports. Assumes nothing.
-- opening_numbers r: the reason and the entry of the opening's answer r, both 0 for a window that is open
-- reported n r t: the report of a window with a mapping of type n, the opening's answer r and the TLB t
use Rattle.std.specs.Prelude.{ℕ, Ok, Err, Result}
use Rattle.page_table.specs.declared.tlb.Tlb.{Tlb}
use Rattle.opening.specs.declared.reason.OpeningRefusal.{OpeningRefusal}
use Rattle.opening.specs.Reason.{reason_number}
use Rattle.window.specs.declared.report.WindowReport.{WindowReport}

abbrev pub opening_numbers : Result (Unit {0}) OpeningRefusal → ℕ × ℕ
opening_numbers (Ok u) = (0, 0)
opening_numbers (Err r) = (reason_number r.reason, r.entry)

abbrev pub reported : ℕ → Result (Unit {0}) OpeningRefusal → Tlb → WindowReport
reported n r t = record {
  type_number = n;
  reason = (opening_numbers r).0;
  entry = (opening_numbers r).1;
  lookups = t.lookups;
  fills = t.fills;
}
