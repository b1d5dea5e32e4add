-- The parts of the work memory.
use Rattle.std.specs.Prelude.{◌≡◌, ℕ, ◌+◌, ◌*◌, ◌/◌, length}
use Rattle.places.specs.declared.memory.Memory.{Memory}

pub record Divided (m : Memory) (nodes work : ℕ) : Type 0 where
  pub words : length m.words.now ≡ 4 * nodes
  pub sets : length m.sets.now ≡ 4 * nodes
  pub marks : length m.marks.now ≡ 33 * (nodes / 1024 + 1)
  pub level : length m.level.now ≡ 128
  pub next : length m.next.now ≡ 128
  pub sites : 8 * nodes + 33 * (nodes / 1024 + 1) + 256 + length m.sites.now ≡ work
