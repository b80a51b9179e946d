-- What the namers hold after a change of the list of words or of the list of entries.
use Rattle.std.proofs.Common.{◌≡◌, ℕ, ◌-◌, ◌<◌, ◌≤◌, cond, ltb, List, map, length, get_or, set, sym, ap, ◌∙◌, arith}
use Rattle.std.proofs.lemmas.List.{get_or-set_same, get_or-set_other, get_or_past}
use Rattle.std.proofs.Math.ListN.{get_or-map}
use Rattle.std.proofs.lemmas.Bool.{lt-ltb, le-ltb}
use Rattle.std.proofs.lemmas.Bool.Decides.{nat_tests}
use Rattle.rules.specs.State.{no_page, name}
use Rattle.rules.proofs.Namers.{put}

-- A namer is a word or an entry.
pub name_word : (words shared : List ℕ) (k : ℕ) → k < 4096 → name words shared k ≡ get_or words k no_page
name_word words shared k l = ap (λ t. cond t (get_or words k no_page) (get_or shared (k - 4096) no_page)) (lt-ltb k 4096 l)

pub name_entry : (words shared : List ℕ) (k : ℕ) → 4096 ≤ k → name words shared k ≡ get_or shared (k - 4096) no_page
name_entry words shared k h = ap (λ t. cond t (get_or words k no_page) (get_or shared (k - 4096) no_page)) (le-ltb k 4096 h)

-- Past the last host page there is no word.
pub name_past : (words shared : List ℕ) (k : ℕ) → length words ≤ k → k < 4096 → name words shared k ≡ no_page
name_past words shared k h l = name_word words shared k l ∙ get_or_past words k no_page h

pub name_set_word : (words shared : List ℕ) (n w : ℕ) → n < length words → length words ≤ 4096
    → (k : ℕ) → name (set words n w) shared k ≡ put (name words shared) n w k
name_set_word words shared n w l few k =
    grind (arith, nat_tests, get_or-set_same words n w no_page l, get_or-set_other words n k w no_page)

pub name_set_entry : (words shared : List ℕ) (x v : ℕ) → 4096 ≤ x → x - 4096 < length shared
    → (k : ℕ) → name words (set shared (x - 4096) v) k ≡ put (name words shared) x v k
name_set_entry words shared x v big l k =
    grind (arith, nat_tests, get_or-set_same shared (x - 4096) v no_page l, get_or-set_other shared (x - 4096) (k - 4096) v no_page)

-- A list mapped by a function that keeps "none".
pub get_d_mapped : (g : ℕ → ℕ) (xs : List ℕ) (k : ℕ) → g no_page ≡ no_page → get_or (map g xs) k no_page ≡ g (get_or xs k no_page)
get_d_mapped g xs k keeps =
    ap (get_or (map g xs) k) (sym keeps) ∙ get_or-map g xs k no_page

pub name_mapped : (g h : ℕ → ℕ) (words shared : List ℕ) → g no_page ≡ no_page → h no_page ≡ no_page
    → (k : ℕ) → name (map g words) (map h shared) k ≡ cond (ltb k 4096) (g (name words shared k)) (h (name words shared k))
name_mapped g h words shared keeps keeps' k =
    grind (arith, nat_tests, get_d_mapped g words k keeps, get_d_mapped h shared (k - 4096) keeps')

-- Only the words are mapped.
pub name_mapped_words : (g : ℕ → ℕ) (words shared : List ℕ) → g no_page ≡ no_page
    → (k : ℕ) → name (map g words) shared k ≡ cond (ltb k 4096) (g (name words shared k)) (name words shared k)
name_mapped_words g words shared keeps k = grind (arith, nat_tests, get_d_mapped g words k keeps)
