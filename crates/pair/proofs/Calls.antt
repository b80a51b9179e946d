-- A call on a block of a pair answers, and leaves, what the same call on the block of its part does.
use Rattle.std.proofs.Common.{◌≡◌, ℕ, ◌+◌, ◌<◌, ◌≤◌, List, length, Ok, Err, arith}
use Rattle.std.proofs.lemmas.Grind.{common_steps}
use Rattle.flash.specs.declared.refusal.PartRefusal.TheVariants.{EnduranceReached}
use Rattle.flash.specs.Part.{Part, erases, appended, erased}
use Rattle.flash.specs.Answers.{PartAnswer, if_page, erase_answer, if_accepted}
use Rattle.pair.specs.Shown.{counted, lesser, pair_of}
use Rattle.pair.proofs.Sides.{pair_count, pair_per_block, pair_endurance, counted_inside, block_first, block_second, put_first, put_second}

-- A page exists in the pair where it does in the part.
pub page_first : (p q : Part) (b k : ℕ) (given : PartAnswer) → b < 255 → b < length p.blocks
    → if_page (pair_of p q) b k given ≡ if_page p b k given
page_first p q b k given few l = grind (arith, common_steps, pair_count, pair_per_block)

pub page_second : (p q : Part) (b c k : ℕ) (given : PartAnswer) → b < 255 → c < length (counted p q) → b ≡ length p.blocks + c
    → if_page (pair_of p q) b k given ≡ if_page q c k given
page_second p q b c k given few l is = grind (arith, common_steps, pair_count, pair_per_block, counted_inside)

-- A program leaves what one of the pair's block leaves.
pub appended_first : (p q z : Part) (b c : ℕ) (x : List ℕ) (r : PartAnswer) → b < 255 → b < length p.blocks → c ≡ b
    → z ≡ if_accepted r (appended p c x) p → pair_of z q ≡ if_accepted r (appended (pair_of p q) b x) (pair_of p q)
appended_first p q z b c x (Ok u) few l is e = let s = block_first p q b few l in grind (arith, common_steps, put_first)
appended_first p q z b c x (Err f) few l is e = cc

pub appended_second : (p q z : Part) (b c : ℕ) (x : List ℕ) (r : PartAnswer) → b < 255 → c < length (counted p q) → b ≡ length p.blocks + c
    → z ≡ if_accepted r (appended q c x) q → pair_of p z ≡ if_accepted r (appended (pair_of p q) b x) (pair_of p q)
appended_second p q z b c x (Ok u) few l is e = let s = block_second p q b c few l is in grind (arith, common_steps, put_second)
appended_second p q z b c x (Err f) few l is e = cc

-- An erase is answered alike, where the pair does not show the block as worn out ..
pub erase_first : (p q : Part) (b : ℕ) → b < 255 → b < length p.blocks → erases (pair_of p q) b < lesser p q
    → erase_answer (pair_of p q) b ≡ erase_answer p b
erase_first p q b few l left = grind (arith, common_steps, block_first, pair_count, pair_endurance)

pub erase_second : (p q : Part) (b c : ℕ) → b < 255 → c < length (counted p q) → b ≡ length p.blocks + c
    → erases (pair_of p q) b < lesser p q → erase_answer (pair_of p q) b ≡ erase_answer q c
erase_second p q b c few l is left = grind (arith, common_steps, block_second, pair_count, pair_endurance, counted_inside)

-- .. is refused where it does ..
pub erase_worn : (p q : Part) (b : ℕ) → b < length (pair_of p q).blocks → lesser p q ≤ erases (pair_of p q) b
    → erase_answer (pair_of p q) b ≡ Err EnduranceReached
erase_worn p q b shown worn = grind (arith, common_steps, pair_endurance)

-- .. and leaves what one of the pair's block leaves.
pub erased_first : (p q z : Part) (b c : ℕ) (r : PartAnswer) → b < 255 → b < length p.blocks → c ≡ b
    → erases p c < lesser p q → z ≡ if_accepted r (erased p c) p → pair_of z q ≡ if_accepted r (erased (pair_of p q) b) (pair_of p q)
erased_first p q z b c (Ok u) few l is left e = let s = block_first p q b few l in grind (arith, common_steps, put_first)
erased_first p q z b c (Err f) few l is left e = cc

pub erased_second : (p q z : Part) (b c : ℕ) (r : PartAnswer) → b < 255 → c < length (counted p q) → b ≡ length p.blocks + c
    → erases q c < lesser p q → z ≡ if_accepted r (erased q c) q → pair_of p z ≡ if_accepted r (erased (pair_of p q) b) (pair_of p q)
erased_second p q z b c (Ok u) few l is left e = let s = block_second p q b c few l is in grind (arith, common_steps, put_second)
erased_second p q z b c (Err f) few l is left e = cc

-- What the proofs of the queries, of a program and a read, and of an erase go by.
pub ruleset query_steps = (pair_endurance, block_first, block_second)

pub ruleset page_steps = (pair_count, pair_per_block, block_first, block_second, page_first, page_second, appended_first, appended_second)

pub ruleset erase_steps = (pair_count, pair_endurance, block_first, block_second, counted_inside, erase_first, erase_second, erased_first, erased_second)
