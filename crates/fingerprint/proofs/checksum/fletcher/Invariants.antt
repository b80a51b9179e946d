use Rattle.std.proofs.Common.{◌≡◌, ◌%◌, ◌++◌, length}
use Rattle.std.specs.Slice.Iter.{chunks_rest, chunks_size}
use Rattle.fingerprint.specs.declared.sums.TheConstants.{BLOCK}
use Rattle.fingerprint.specs.Fletcher.{words_of, fletcher_from, fletcher_of}
use Rattle.fingerprint.proofs.checksum.fletcher.Given as goal

-- Whole words are left, and with them and the odd byte the sums give the number of all bytes.
abbrev pub invariant-loop-block : goal.invariant-loop-block
invariant-loop-block l =
    (chunks_size l.block-iterator ≡ BLOCK) × (length (chunks_rest l.block-iterator) % 2 ≡ 0)
    × (fletcher_from l.sums.a l.sums.b (words_of (chunks_rest l.block-iterator ++ l.odd)) ≡ fletcher_of l.bytes)
