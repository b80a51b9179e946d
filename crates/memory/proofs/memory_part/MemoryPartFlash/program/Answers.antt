use Rattle.std.proofs.Common.{◌∙◌, ap, arith}
use Rattle.memory.specs.Layout.{pages_of, endurance_of}
use Rattle.memory.specs.Memory.{memory_of}
use Rattle.memory.proofs.Shown.{program_writes, shown_appended}
use Rattle.memory.proofs.memory_part.MemoryPartFlash.program.Goals as goal

pub returns-clause-memory : goal.returns-clause-memory
returns-clause-memory c =
    program_writes _ _ _ _ _ _ _ _ c.in_ok-record.ensures.place.1 c.told-bytes c.copy_from_slice.ensures.after
    (c.copy_from_slice-2.ensures.after ∙ c.to_le_bytes.ensures)

pub returns-clause-after : goal.returns-clause-after
returns-clause-after c =
    let p = c.args.self.now in
    ap (λ m. memory_of m p.limits.pages p.limits.endurance) (returns-clause-memory c)
    ∙ shown_appended p.bytes.now (pages_of p.limits.pages) (endurance_of p.limits.endurance) c.args.block c.in_ok-record.ensures.place.0.0 _ _
    (omega arith) c.in_ok-record.ensures.place.0.1 c.told-bytes (omega arith)
