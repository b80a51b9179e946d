use Rattle.std.proofs.Common.{◌≡◌, ◌++◌, drop}
use Rattle.memory.specs.Layout.{pages_of, record_at}
use Rattle.memory.specs.Memory.{blank_records}
use Rattle.memory.proofs.memory_part.MemoryPart.make_fresh.Given as goal

abbrev pub invariant-loop-block : goal.invariant-loop-block
invariant-loop-block l =
    l.bytes ≡ blank_records (pages_of l.fn.self.limits.pages) l.block ++ drop (record_at (pages_of l.fn.self.limits.pages) l.block) l.initial.bytes
