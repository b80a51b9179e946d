use Rattle.std.proofs.Common.{arith}
use Rattle.memory.specs.Layout.{pages_of, endurance_of}
use Rattle.memory.proofs.Shown.{shown_sound}
use Rattle.memory.proofs.memory_part.MemoryPartFlash.blocks.Goals as goal

pub returns-clause-sound : goal.returns-clause-sound
returns-clause-sound c =
    let p = c.args.self.now in shown_sound p.bytes.now (pages_of p.limits.pages) (endurance_of p.limits.endurance) (omega arith)
