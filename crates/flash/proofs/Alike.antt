-- A part that stands on another answers for its block b as the other does for block c, if the two blocks are alike.
use Rattle.std.proofs.Common.{◌≡◌, ℕ, ◌<◌, ◌≤◌, ltb, length, Ok, Err, le-ltb, lt-ltb}
use Rattle.std.proofs.lemmas.Bool.{cond-false}
use Rattle.flash.specs.declared.refusal.PartRefusal.TheVariants.{NoSuchPage}
use Rattle.flash.specs.Part.{Part, written, erases}
use Rattle.flash.specs.Answers.{PartAnswer, program_answer, read_answer, erase_answer, if_accepted}

module _ (p q : Part) (b c : ℕ) (in_p : b < length p.blocks) (in_q : c < length q.blocks) where
  -- They answer a program of page k alike.
  pub program_alike : (k : ℕ) → p.per_block ≡ q.per_block → written p b ≡ written q c → program_answer p b k ≡ program_answer q c k
  program_alike k per w = let f = lt-ltb b (length p.blocks) in_p in let g = lt-ltb c (length q.blocks) in_q in cc

  -- They answer a read of page k alike.
  pub read_alike : (k : ℕ) → p.per_block ≡ q.per_block → written p b ≡ written q c → read_answer p b k ≡ read_answer q c k
  read_alike k per w = let f = lt-ltb b (length p.blocks) in_p in let g = lt-ltb c (length q.blocks) in_q in cc

  -- They answer an erase alike.
  pub erase_alike : ltb (erases p b) p.endurance ≡ ltb (erases q c) q.endurance → erase_answer p b ≡ erase_answer q c
  erase_alike e = let f = lt-ltb b (length p.blocks) in_p in let g = lt-ltb c (length q.blocks) in_q in cc

-- Of a block that does not exist every call says so.
module _ (p : Part) (b : ℕ) (out : length p.blocks ≤ b) where
  -- So does a program.
  pub program_missing : (k : ℕ) → program_answer p b k ≡ Err NoSuchPage
  program_missing k = cond-false _ _ _ (le-ltb b (length p.blocks) out)

  -- So does a read.
  pub read_missing : (k : ℕ) → read_answer p b k ≡ Err NoSuchPage
  read_missing k = cond-false _ _ _ (le-ltb b (length p.blocks) out)

  -- So does an erase.
  pub erase_missing : erase_answer p b ≡ Err NoSuchPage
  erase_missing = cond-false _ _ _ (le-ltb b (length p.blocks) out)

-- What follows from either state follows from the one that is taken.
pub either_by : {X Y : Type 0} (f : X → Y) (r : PartAnswer) (new old : X) (new' old' : Y)
    → f new ≡ new' → f old ≡ old' → f (if_accepted r new old) ≡ if_accepted r new' old'
either_by f (Ok u) new old new' old' n o = n
either_by f (Err e) new old new' old' n o = o
