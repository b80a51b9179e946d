-- What the part below is, answers and changes is seen through a window.
use Rattle.std.proofs.Common.{◌≡◌, ℕ, ◌+◌, ◌-◌, ◌<◌, ◌≤◌, min, ltb, List, [], length, get_or, drop, Ok, Err, sym, refl, ap, ◌∙◌, subst, arith}
use Rattle.std.proofs.Math.Seq.{take-set-lt}
use Rattle.std.proofs.lemmas.List.{length-take, length-drop, get_or-take, get_or-drop, drop-set-add, get_or_past}
use Rattle.std.proofs.lemmas.Grind.{common_steps}
use Rattle.flash.specs.Part.{Block, Part, SoundBlock, Sound, no_block, block, page_bytes, with_block, appended, erased}
use Rattle.flash.specs.Answers.{PartAnswer, program_answer, read_answer, erase_answer, if_accepted}
use Rattle.flash.proofs.Alike.{program_alike, read_alike, erase_alike}
use Rattle.window.specs.Shown.{window_of}

-- How many blocks it shows.
pub seen_count : (p : Part) (hidden count : ℕ)
    → length (window_of p hidden count).blocks ≡ min (length p.blocks - hidden) count
seen_count p hidden count = simp (length-take, length-drop) (omega arith)

-- A block that is not shown counts as having no page and no erase.
pub unseen_block : (p : Part) (hidden count b : ℕ) → length (window_of p hidden count).blocks ≤ b
    → block (window_of p hidden count) b ≡ no_block
unseen_block p hidden count b out = get_or_past _ b no_block out

-- Block b of a window is block c = hidden + b of the part below.
module _ (p : Part) (hidden count b c : ℕ) (shown : b < length (window_of p hidden count).blocks) (is : c ≡ hidden + b) where
  -- A block that it shows lies in the part below.
  pub seen_inside : c < length p.blocks
  seen_inside = omega (arith, seen_count p hidden count)

  -- It is the block below.
  pub seen_block : block (window_of p hidden count) b ≡ block p c
  seen_block =
      get_or-take count (drop hidden p.blocks) b no_block (omega (arith, seen_count p hidden count))
      ∙ get_or-drop hidden p.blocks b no_block ∙ ap (block p) (sym is)

  -- So what the part below answers is what the window answers: to a program ..
  pub seen_program : (k : ℕ) (r : PartAnswer) → r ≡ program_answer p c k → r ≡ program_answer (window_of p hidden count) b k
  seen_program k r e =
      e ∙ sym (program_alike (window_of p hidden count) p b c shown seen_inside k refl (ap (λ x. length x.pages) seen_block))

  -- .. to a read, with the page's bytes ..
  pub seen_read : (k : ℕ) (r : PartAnswer) → r ≡ read_answer p c k → r ≡ read_answer (window_of p hidden count) b k
  seen_read k r e =
      e ∙ sym (read_alike (window_of p hidden count) p b c shown seen_inside k refl (ap (λ x. length x.pages) seen_block))

  pub seen_content : (k : ℕ) (old now : List ℕ) (r : PartAnswer) → now ≡ if_accepted r (page_bytes p c k) old
      → now ≡ if_accepted r (page_bytes (window_of p hidden count) b k) old
  seen_content k old now r e = e ∙ ap (λ y. if_accepted r (get_or y.pages k []) old) (sym seen_block)

  -- .. and to an erase.
  pub seen_erase : (r : PartAnswer) → r ≡ erase_answer p c → r ≡ erase_answer (window_of p hidden count) b
  seen_erase r e =
      e ∙ sym (erase_alike (window_of p hidden count) p b c shown seen_inside (ap (λ x. ltb x.erases p.endurance) seen_block))

-- A window onto a well-formed part is well-formed.
pub seen_sound : (p : Part) (hidden count : ℕ) → Sound p → Sound (window_of p hidden count)
seen_sound p hidden count s = record {
  each = λ b h. subst (SoundBlock p.per_block p.endurance) (sym (seen_block p hidden count b (hidden + b) h refl))
      (s.each (hidden + b) (seen_inside p hidden count b (hidden + b) h refl));
  limit = s.limit;
}

-- A block put in place below is seen in its place.
pub seen_put : (p : Part) (hidden count b : ℕ) (new : Block) → b < count
    → window_of (with_block p (hidden + b) new) hidden count ≡ with_block (window_of p hidden count) b new
seen_put p hidden count b new l =
    let e = take-set-lt count (drop hidden p.blocks) b new l in let d = drop-set-add hidden p.blocks b new in cc

-- A program below is seen as one.
pub seen_appended : (p q : Part) (hidden count b : ℕ) (x : List ℕ) (r : PartAnswer)
    → b < length (window_of p hidden count).blocks → q ≡ if_accepted r (appended p (hidden + b) x) p
    → window_of q hidden count ≡ if_accepted r (appended (window_of p hidden count) b x) (window_of p hidden count)
seen_appended p q hidden count b x (Ok u) l e = grind (arith, common_steps, seen_put)
seen_appended p q hidden count b x (Err f) l e = cc

-- An erase below is seen as one.
pub seen_erased : (p q : Part) (hidden count b : ℕ) (r : PartAnswer)
    → b < length (window_of p hidden count).blocks → q ≡ if_accepted r (erased p (hidden + b)) p
    → window_of q hidden count ≡ if_accepted r (erased (window_of p hidden count) b) (window_of p hidden count)
seen_erased p q hidden count b (Ok u) l e = grind (arith, common_steps, seen_put)
seen_erased p q hidden count b (Err f) l e = cc
