-- What holds of every window, and what a call does to one, by its parts. Assumes nothing.
-- Standing A C is_open l m h: A says that the mapping is armed, C that the memory below is coherent; and an open window is ready
-- Called Same Reach is_open l m n h i c: what the call c leaves: Same says that mapping and answer stay, Reach that calls led the memory
-- below from m to n; the memory below and the TLB become what the call makes of them, if the window is open; and so the laws hold of
-- what it changes below, and of how many lookups it counts
use Rattle.std.specs.Prelude.{◌≡◌, ◌+◌, ◌^◌, min, Bool, true, cond}
use Rattle.memory.specs.Meaning.{Meaning}
use Rattle.memory.specs.Reach.{Call}
use Rattle.mapping.specs.Rules.{Layout}
use Rattle.page_table.specs.declared.tlb.Tlb.{Tlb}
use Rattle.page_table.specs.Ready.{Ready}
use Rattle.transfer.specs.Lookups.{lookups_in}
use Rattle.transfer.specs.Effect.{Effect}
use Rattle.transfer.specs.Call.{below_called, tlb_called}

pub record Standing (A C : Type 0) (is_open : Bool) (l : Layout) (m : Meaning) (h : Tlb) : Type 0 where
  pub armed : A
  pub below : C
  pub ready : is_open ≡ true → Ready l m h

pub record Called (Same Reach : Type 0) (is_open : Bool) (l : Layout) (m n : Meaning) (h i : Tlb) (c : Call) : Type 0 where
  pub same : Same
  pub reached : Reach
  pub below : n ≡ cond is_open (below_called l m c) m
  pub tlb : i ≡ cond is_open (tlb_called l m c h) h
  pub effect : is_open ≡ true → Effect l m n c
  pub count : is_open ≡ true → i.lookups ≡ min (h.lookups + lookups_in l m c) (2 ^ 48)
