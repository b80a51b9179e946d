use Rattle.std.proofs.Common.{◌∙◌, ap, arith}
use Rattle.memory.specs.Layout.{pages_of, endurance_of}
use Rattle.memory.specs.Memory.{memory_of}
use Rattle.memory.proofs.Shown.{erase_writes, shown_erased}
use Rattle.memory.proofs.memory_part.MemoryPartFlash.erase.Goals as goal

pub returns-clause-memory : goal.returns-clause-memory
returns-clause-memory c =
    let p = c.args.self.now in
    let place = rw c.in_ok-record.ensures.ok_part at c.record.ensures.place in
    erase_writes p.bytes.now (pages_of p.limits.pages) (endurance_of p.limits.endurance) c.args.block place.0 _ _ _ _ _ _
    place.1 c.record_size.ensures.value c.erases-erases.ensures.value (omega arith)
    (c.fill.ensures.after (λ y h. h)) (c.fill-2.ensures.after (λ y h. h)) (c.copy_from_slice.ensures.after ∙ c.to_le_bytes.ensures)

pub returns-clause-after : goal.returns-clause-after
returns-clause-after c =
    let p = c.args.self.now in
    let place = rw c.in_ok-record.ensures.ok_part at c.record.ensures.place in
    ap (λ m. memory_of m p.limits.pages p.limits.endurance) (returns-clause-memory c)
    ∙ shown_erased p.bytes.now (pages_of p.limits.pages) (endurance_of p.limits.endurance) c.args.block place.0 (omega arith) (omega arith)
