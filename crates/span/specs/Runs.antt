-- How a span is cut: any number of bytes from an address on, into runs that end with their lines. Assumes nothing.
-- run_size a n: how many of n bytes from a on lie in the line of a
-- run_count a n: how many runs n bytes from a on make; no bytes are one run of none
-- cut call k a bs: the calls of the first k runs of the bytes bs from a on, where `call` says which call a run is
-- reads_of a b: the reads of a span into a buffer that holds b
-- writes_of a bs: the writes of the bytes bs
use Rattle.std.specs.Prelude.{ℕ, zero, suc, ◌+◌, ◌-◌, ◌/◌, ◌%◌, min, List, [], ◌∷◌, length, take, drop}
use Rattle.memory.specs.Reach.{Call, reading, writing}

abbrev pub run_size : ℕ → ℕ → ℕ
run_size a n = min n (128 - a % 128)

abbrev pub run_count : ℕ → ℕ → ℕ
run_count a n = 1 + (n - (128 - a % 128) + 127) / 128

unfoldable pub cut : (ℕ → List ℕ → Call) → ℕ → ℕ → List ℕ → List Call
cut call zero a bs = []
cut call (suc k) a bs = let n = run_size a (length bs) in call a (take n bs) ∷ cut call k (a + n) (drop n bs)

abbrev pub reads_of : ℕ → List ℕ → List Call
reads_of a b = cut reading (run_count a (length b)) a b

abbrev pub writes_of : ℕ → List ℕ → List Call
writes_of a bs = cut writing (run_count a (length bs)) a bs
