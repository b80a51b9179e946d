use Rattle.std.proofs.Common.{◌*◌, ap, arith}
use Rattle.memory.specs.Layout.{pages_of}
use Rattle.memory.proofs.Blank.{blank_step}
use Rattle.memory.proofs.Records.{record_inside}
use Rattle.memory.proofs.memory_part.MemoryPart.make_fresh.Goals as goal

pub loop-block-preserved : goal.loop-block-preserved
loop-block-preserved c =
    let m = c.args.self.now.bytes.now in let P = pages_of c.args.self.now.limits.pages in let b = c.loop-block.block in
    blank_step m P b _ _ _ _ _ (record_inside m P b (omega arith))
    (ap (λ n. b * n) c.record_size-size.ensures.value) c.record_size-size.ensures.value
    c.loop-block.invariant (c.fill.ensures.after (λ y h. h)) (c.fill-in-loop-block.ensures.after (λ y h. h))
