-- What a write of some bytes leaves of a memory, and numbers in bytes.
use Rattle.std.proofs.Common.{◌≡◌, ℕ, ◌+◌, ◌-◌, ◌<◌, ◌≤◌, List, ◌++◌, length, get_or, take, drop, replicate, sym, refl, ap, ◌∙◌, arith}
use Rattle.std.proofs.lemmas.List.{length-append, length-replicate, length-take, length-take-le, length-drop, get_or_append_left, get_or-append_right, get_or-take, get_or-drop, take_at, drop_at, drop-drop, append_assoc, ext_get_or}
use Rattle.std.proofs.lemmas.Nat.{from_le_bytes-to_le_bytes_2, from_le_bytes-to_le_bytes_4}
use borrow.Rule.Slice.PartMut.{put_mid}
use Rattle.std.specs.Int.{w16, w32, from_le_bytes}
use Rattle.memory.specs.Layout.{number16, number32, bytes16, bytes32}
use Rattle.memory.specs.Memory.{put}

-- Two memories agree from one place up to another.
abbrev pub Same : List ℕ → List ℕ → ℕ → ℕ → Type 0
Same m m' from to = (j : ℕ) → from ≤ j → j < to → get_or m j 0 ≡ get_or m' j 0

module _ (m : List ℕ) (i : ℕ) (xs : List ℕ) (within : i + length xs ≤ length m) where
  -- The memory stays as long.
  pub length_put : length (put m i xs) ≡ length m
  length_put = simp (length-append, length-take, length-drop) (omega arith)

  -- The bytes before the write.
  front : length (take i m) ≡ i
  front = length-take-le i m (omega arith)

  -- The bytes written are read back.
  pub between_put : take (length xs) (drop i (put m i xs)) ≡ xs
  between_put = ap (take (length xs)) (drop_at (take i m) _ i front) ∙ take_at xs _ (length xs) refl

  -- .. and every byte before and after them is as it was.
  pub put_before : (to : ℕ) → to ≤ i → (from : ℕ) → Same (put m i xs) m from to
  put_before to le from j f t = get_or_append_left (take i m) _ 0 j (omega (arith, front)) ∙ get_or-take i m j 0 (omega arith)

  pub put_after : (from : ℕ) → i + length xs ≤ from → (to : ℕ) → Same (put m i xs) m from to
  put_after from le to j f t =
      get_or-append_right (take i m) _ i j 0 front (omega arith)
      ∙ get_or-append_right xs _ (length xs) (j - i) 0 refl (omega arith)
      ∙ get_or-drop (i + length xs) m (j - i - length xs) 0
      ∙ ap (λ k. get_or m k 0) (omega arith)

-- A write to the bytes from one place up to another, as a slice makes it: of some bytes, and of one value throughout.
pub copy_part : (m : List ℕ) (i e : ℕ) (new xs : List ℕ) → e ≡ i + length xs → new ≡ xs → put_mid i (e - i) m new ≡ put m i xs
copy_part m i e new xs long is =
    ap (put_mid i (e - i) m) is
    ∙ ap (λ w. take i m ++ (xs ++ w)) (drop-drop (e - i) i m ∙ ap (λ n. drop n m) (omega arith))

pub fill_part : (m : List ℕ) (i e n v : ℕ) (new : List ℕ) → e ≡ i + n → e ≤ length m
    → new ≡ replicate (length (take (e - i) (drop i m))) v → put_mid i (e - i) m new ≡ put m i (replicate n v)
fill_part m i e n v new long within is =
    copy_part m i e new (replicate n v) (omega (arith, length-replicate n v))
    (is ∙ ap (λ k. replicate k v) (length-take-le (e - i) (drop i m) (omega (arith, length-drop i m)) ∙ omega arith))

-- A write right after another is one write.
pub put_put : (m : List ℕ) (i : ℕ) (xs ys : List ℕ) → i + length xs + length ys ≤ length m
    → put (put m i xs) (i + length xs) ys ≡ put m i (xs ++ ys)
put_put m i xs ys within =
    let n = i + length xs in
    let fore = take i m ++ xs in
    let back = drop n m in
    let long : length fore ≡ n = length-append (take i m) xs ∙ omega (arith, length-take-le i m (omega arith)) in
    ap (λ w. take n w ++ (ys ++ drop (n + length ys) w)) (sym (append_assoc (take i m) xs back))
    ∙ ap (λ w. w ++ (ys ++ drop (n + length ys) (fore ++ back))) (take_at fore back n long)
    ∙ ap (λ w. fore ++ (ys ++ w))
    (sym (drop-drop (length ys) n (fore ++ back)) ∙ ap (drop (length ys)) (drop_at fore back n long)
    ∙ drop-drop (length ys) n m ∙ ap (λ k. drop k m) (omega (arith, length-append xs ys)))
    ∙ append_assoc (take i m) xs _
    ∙ ap (λ w. take i m ++ w) (sym (append_assoc xs ys _))

-- Agreement goes on to a third memory, and to a part of the places.
pub same_trans : (a b c : List ℕ) (from to : ℕ) → Same a b from to → Same b c from to → Same a c from to
same_trans a b c from to p q j f t = p j f t ∙ q j f t

pub same_within : (a b : List ℕ) (from to from' to' : ℕ) → from ≤ from' → to' ≤ to → Same a b from to → Same a b from' to'
same_within a b from to from' to' f t p j f' t' = p j (omega arith) (omega arith)

-- What is read from places where two memories agree is the same.
module _ (a b : List ℕ) (level : length a ≡ length b) (i : ℕ) where
  pub same_between : (n : ℕ) → i + n ≤ length a → Same a b i (i + n) → take n (drop i a) ≡ take n (drop i b)
  same_between n within same =
      ext_get_or 0 _ _ (simp (length-take, length-drop) (omega arith))
      (λ j h. let l : j < n = omega (arith, length-take n (drop i a)) in
      get_or-take n (drop i a) j 0 l ∙ get_or-drop i a j 0 ∙ same (i + j) (omega arith) (omega arith)
      ∙ sym (get_or-drop i b j 0) ∙ sym (get_or-take n (drop i b) j 0 l))

pub same_number16 : (a b : List ℕ) (i : ℕ) → Same a b i (i + 2) → number16 a i ≡ number16 b i
same_number16 a b i same =
    let p = same i (omega arith) (omega arith) in let q = same (i + 1) (omega arith) (omega arith) in cc

pub same_number32 : (a b : List ℕ) (i : ℕ) → Same a b i (i + 4) → number32 a i ≡ number32 b i
same_number32 a b i same =
    let p = same i (omega arith) (omega arith) in let q = same (i + 1) (omega arith) (omega arith) in
    let r = same (i + 2) (omega arith) (omega arith) in let s = same (i + 3) (omega arith) (omega arith) in cc

-- A number is read from its bytes.
read_byte : (m : List ℕ) (i n j : ℕ) → j < n → get_or (take n (drop i m)) j 0 ≡ get_or m (i + j) 0
read_byte m i n j h = get_or-take n (drop i m) j 0 h ∙ get_or-drop i m j 0

pub read_number16 : (m : List ℕ) (i : ℕ) → from_le_bytes w16 (take 2 (drop i m)) ≡ number16 m i
read_number16 m i =
    let p = read_byte m i 2 0 (omega arith) in let q = read_byte m i 2 1 (omega arith) in
    let z : get_or m (i + 0) 0 ≡ get_or m i 0 = ap (λ k. get_or m k 0) (omega arith) in omega arith

pub read_number32 : (m : List ℕ) (i : ℕ) → from_le_bytes w32 (take 4 (drop i m)) ≡ number32 m i
read_number32 m i =
    let p = read_byte m i 4 0 (omega arith) in let q = read_byte m i 4 1 (omega arith) in
    let r = read_byte m i 4 2 (omega arith) in let s = read_byte m i 4 3 (omega arith) in
    let z : get_or m (i + 0) 0 ≡ get_or m i 0 = ap (λ k. get_or m k 0) (omega arith) in omega arith

-- A number that was written is read back.
pub number16_put : (m : List ℕ) (i n : ℕ) → i + 2 ≤ length m → n < 65536 → number16 (put m i (bytes16 n)) i ≡ n
number16_put m i n within small =
    sym (read_number16 (put m i (bytes16 n)) i)
    ∙ ap (from_le_bytes w16) (between_put m i (bytes16 n) within) ∙ from_le_bytes-to_le_bytes_2 n small

pub number32_put : (m : List ℕ) (i n : ℕ) → i + 4 ≤ length m → n < 4294967296 → number32 (put m i (bytes32 n)) i ≡ n
number32_put m i n within small =
    sym (read_number32 (put m i (bytes32 n)) i)
    ∙ ap (from_le_bytes w32) (between_put m i (bytes32 n) within) ∙ from_le_bytes-to_le_bytes_4 n small
