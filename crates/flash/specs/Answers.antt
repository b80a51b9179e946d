-- What a part answers, and what it shows after a call.
use Rattle.std.specs.Prelude.{ℕ, cond, List, ◌++◌, length, Ok, Err, codes, decimal, Result, ◌==◌, nat_lt}
use Rattle.flash.specs.declared.refusal.PartRefusal.{PartRefusal}
use Rattle.flash.specs.declared.refusal.PartRefusal.TheVariants.{NoSuchPage, NotNextPage, Unwritten, EnduranceReached}
use Rattle.flash.specs.Part.{Part, written, erases, appended, erased}

-- The number of each refusal.
abbrev pub number_of : PartRefusal → ℕ
number_of NoSuchPage = 16
number_of NotNextPage = 17
number_of Unwritten = 18
number_of EnduranceReached = 19

-- The words of each refusal, as the bytes of a text.
abbrev pub refusal_words : PartRefusal → List ℕ
refusal_words NoSuchPage = codes "no such page"
refusal_words NotNextPage = codes "not the next page"
refusal_words Unwritten = codes "unwritten"
refusal_words EnduranceReached = codes "endurance reached"

-- A number with words behind it, in brackets: how every refusal, of a part or of what stands on it, is shown.
abbrev pub numbered : ℕ → List ℕ → List ℕ
numbered n words = decimal n ++ (codes " (" ++ (words ++ codes ")"))

-- A refusal as text: its number, and its words in brackets.
abbrev pub refusal_text : PartRefusal → List ℕ
refusal_text e = numbered (number_of e) (refusal_words e)

-- What a call answers that gives nothing back but may refuse.
abbrev pub PartAnswer : Type 0
PartAnswer = Result (Unit {0}) PartRefusal

-- The answer `given` if page k of block b exists, else there is no such page.
abbrev pub if_page : Part → ℕ → ℕ → PartAnswer → PartAnswer
if_page p b k given =
    cond (nat_lt b (length p.blocks)) (cond (nat_lt k p.per_block) given (Err NoSuchPage)) (Err NoSuchPage)

-- Programming page k of block b: the page has to exist, and to be the next unwritten one.
abbrev pub program_answer : Part → ℕ → ℕ → PartAnswer
program_answer p b k = if_page p b k (cond (k == written p b) (Ok tt) (Err NotNextPage))

-- Reading page k of block b: the page has to exist, and to be written.
abbrev pub read_answer : Part → ℕ → ℕ → PartAnswer
read_answer p b k = if_page p b k (cond (nat_lt k (written p b)) (Ok tt) (Err Unwritten))

-- Erasing block b: the block has to exist, and its erase count to be below the endurance.
abbrev pub erase_answer : Part → ℕ → PartAnswer
erase_answer p b =
    cond (nat_lt b (length p.blocks)) (cond (nat_lt (erases p b) p.endurance) (Ok tt) (Err EnduranceReached)) (Err NoSuchPage)

-- What is there after a call: something new where it was accepted, and what was there where it refused.
abbrev pub if_accepted : {X : Type 0} → PartAnswer → X → X → X
if_accepted (Ok u) new old = new
if_accepted (Err e) new old = old

-- The part after a program of block b with the bytes x that was answered r.
abbrev pub after_program : PartAnswer → Part → ℕ → List ℕ → Part
after_program r p b x = if_accepted r (appended p b x) p

-- The part after an erase of block b that was answered r.
abbrev pub after_erase : PartAnswer → Part → ℕ → Part
after_erase r p b = if_accepted r (erased p b) p
