-- A run that is not taken leaves a window as it was. Assumes nothing.
use Rattle.std.proofs.Common.{◌≡◌, ℕ, cond, List, length, is_ok, Err, sym, refl, ap, ◌∙◌}
use Rattle.memory.specs.declared.fault.Fault.{Fault}
use Rattle.memory.specs.Meaning.{Meaning}
use Rattle.memory.specs.Run.{check_run}
use Rattle.memory.specs.Reach.{Call, reading, writing, first_cell, cells_of}
use Rattle.memory.specs.Calls.{write_answer, bytes, delivered}
use Rattle.memory.proofs.Calls.{answer_outside, writes_as_reads}
use Rattle.mapping.specs.Rules.{Layout}
use Rattle.page_table.specs.declared.tlb.Tlb.{Tlb}
use Rattle.page_table.specs.Walk.{windowed}
use Rattle.transfer.specs.Call.{tlb_after, below_called, tlb_called}
use Rattle.transfer.proofs.Callings.{read_unchanged, write_unchanged}

module _ (m : Meaning) (a : ℕ) (f : Fault) where
  pub delivered_outside : (b : List ℕ) → check_run m.size a (length b) ≡ Err f → b ≡ delivered m a b
  delivered_outside b bad = sym (ap (λ r. cond (is_ok r) (bytes m.cell a (length b)) b) (answer_outside m a (length b) f bad))

  pub write_outside : (n : ℕ) → check_run m.size a n ≡ Err f → write_answer m a n ≡ Err f
  write_outside n bad = writes_as_reads m a n ∙ answer_outside m a n f bad

module _ (l : Layout) (m : Meaning) (h : Tlb) (f : Fault) where
  pub below_outside : (c : Call) → check_run l.image_size (first_cell c) (cells_of c) ≡ Err f → m ≡ below_called l m c
  below_outside (reading a b) bad = read_unchanged l m a (length b) f (answer_outside (windowed l m) a (length b) f bad)
  below_outside (writing a bs) bad = write_unchanged l m a bs f (write_outside (windowed l m) a f (length bs) bad)

  pub tlb_outside : (c : Call) → check_run l.image_size (first_cell c) (cells_of c) ≡ Err f → h ≡ tlb_called l m c h
  unfolding tlb_after
  tlb_outside (reading a b) bad = rw bad refl
  tlb_outside (writing a bs) bad = rw bad refl
