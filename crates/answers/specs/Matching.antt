-- Values that fit a pattern, and whose byte is 1.
use Rattle.std.specs.Prelude.{◌≡◌, ℕ, ◌<◌, ◌↔◌, List, length, Ok, Err, Result, bit_and, slice_index}
use Rattle.std.specs.declared.alloc.AllocFailed.{AllocFailed}
use Rattle.answers.specs.declared.matches.Pattern.{Pattern}
use Rattle.answers.specs.declared.matches.Matches.{Matches}

-- the byte of the values v is 1, and these have the bits of the mask as they should be
abbrev pub Fitting : List ℕ → ℕ → ℕ → ℕ → Type 0
Fitting b mask want v = (v < length b) × (slice_index b v ≡ 1) × (bit_and v mask ≡ want)

abbrev pub SomeFits : List ℕ → ℕ → ℕ → Type 0
SomeFits b mask want = (v : ℕ) × Fitting b mask want v

-- some byte is 1
abbrev pub SomeOne : List ℕ → Type 0
SomeOne b = (v : ℕ) × (v < length b) × (slice_index b v ≡ 1)

-- some are counted exactly if there are some
abbrev pub Matched : List ℕ → Pattern → Result Matches (AllocFailed ℕ) → Type 0
Matched b p (Ok m) = (0 < m.count) ↔ SomeFits b p.mask p.want
Matched b p (Err e) = Unit {0}
