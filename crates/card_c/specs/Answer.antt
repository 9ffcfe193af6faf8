-- Answers, in plain numbers. Assumes nothing.
-- unknown_choice n: the refusal of a number that chooses nothing, with the reason n
-- set_up_refused e, opening_refused e: a refusal of the registers, and of the opening
-- fault_numbers r: the fault of the answer r
-- cache_numbers r: the report r of a cache
-- refused r: the answer where no window was opened, with the refusal r
-- span_answer r n t: the answer where a span was answered with r after n bytes, and left the TLB t
-- cached_answer r n c w: the same through a cache over the window, where both reported c and w
use Rattle.std.specs.Prelude.{ℕ, Ok, Err, Result}
use Rattle.memory.specs.declared.fault.Fault.{Fault}
use Rattle.memory.specs.Fault.{cause_number}
use Rattle.mapping.specs.Refusal.{register_refusal_number, arming_refusal_number}
use Rattle.page_table.specs.declared.tlb.Tlb.{Tlb}
use Rattle.opening.specs.declared.reason.OpeningRefusal.{OpeningRefusal}
use Rattle.opening.specs.Reason.{reason_number}
use Rattle.cache.specs.declared.counts.CacheReport.{CacheReport}
use Rattle.card.specs.declared.refusal.SetUpRefusal.{SetUpRefusal}
use Rattle.card.specs.declared.refusal.SetUpRefusal.TheVariants.{Register, Arming}
use Rattle.card_c.specs.declared.answer.CardRefusal.{CardRefusal}
use Rattle.card_c.specs.declared.answer.CardFault.{CardFault}
use Rattle.card_c.specs.declared.answer.CardWindowReport.{CardWindowReport}
use Rattle.card_c.specs.declared.answer.CardCacheReport.{CardCacheReport}
use Rattle.card_c.specs.declared.answer.CardAnswer.{CardAnswer}

abbrev pub unknown_choice : ℕ → CardRefusal
unknown_choice n = record { reason = n; number = 0 }

abbrev pub set_up_refused : SetUpRefusal → CardRefusal
set_up_refused (Register write e) = record { reason = register_refusal_number e; number = write.number }
set_up_refused (Arming e) = record { reason = arming_refusal_number e; number = 0 }

abbrev pub opening_refused : OpeningRefusal → CardRefusal
opening_refused e = record { reason = reason_number e.reason; number = e.entry }

abbrev pub fault_numbers : Result (Unit {0}) Fault → CardFault
fault_numbers (Ok u) = record { cause = 0; depth = 0; place = 0 }
fault_numbers (Err f) = record { cause = cause_number f.cause; depth = f.depth; place = f.place }

abbrev pub cache_numbers : CacheReport → CardCacheReport
cache_numbers r = record { reads = r.reads; hits = r.hits; prefetches = r.prefetches; share = r.share }

abbrev pub refused : CardRefusal → CardAnswer
refused r = record {
  refusal = r;
  fault = record { cause = 0; depth = 0; place = 0 };
  done = 0;
  window = record { lookups = 0; fills = 0 };
  cache = record { reads = 0; hits = 0; prefetches = 0; share = 0 };
}

abbrev pub span_answer : Result (Unit {0}) Fault → ℕ → Tlb → CardAnswer
span_answer r n t = record {
  refusal = record { reason = 0; number = 0 };
  fault = fault_numbers r;
  done = n;
  window = record { lookups = t.lookups; fills = t.fills };
  cache = record { reads = 0; hits = 0; prefetches = 0; share = 0 };
}

abbrev pub cached_answer : Result (Unit {0}) Fault → ℕ → CacheReport → CardWindowReport → CardAnswer
cached_answer r n c w = record {
  refusal = record { reason = 0; number = 0 };
  fault = fault_numbers r;
  done = n;
  window = w;
  cache = cache_numbers c;
}
