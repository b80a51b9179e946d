-- A memory made fresh, one record after another.
use Rattle.std.proofs.Common.{◌≡◌, ℕ, zero, suc, ◌+◌, ◌-◌, ◌*◌, ◌≤◌, List, ◌++◌, length, take, drop, replicate, sym, ap, ◌∙◌, add-one, arith}
use Rattle.std.proofs.lemmas.List.{length-append, length-replicate, take_at, drop_at, length-drop, drop-drop, append_assoc}
use borrow.Rule.Slice.PartMut.{put_mid}
use Rattle.memory.specs.Layout.{record_size, record_at}
use Rattle.memory.specs.Memory.{put, blank_record, blank_records}
use Rattle.memory.proofs.Writes.{length_put, fill_part, put_put}

-- A blank record is as long as any.
pub length_blank_record : (P : ℕ) → length (blank_record P) ≡ record_size P
length_blank_record P =
    omega (arith, length-replicate {A = ℕ} (256 * P) 255)

-- The first n records end where the next begins.
pub length_blank_records : (P n : ℕ) → length (blank_records P n) ≡ record_at P n
length_blank_records P zero = omega arith
length_blank_records P (suc n) =
    length-append (blank_records P n) (blank_record P)
    ∙ omega (arith, length_blank_records P n, length_blank_record P)

-- One more record is made blank.
pub blank_more : (m : List ℕ) (P n : ℕ) → record_at P n + record_size P ≤ length m
    → put (blank_records P n ++ drop (record_at P n) m) (record_at P n) (blank_record P)
    ≡ blank_records P (n + 1) ++ drop (record_at P (n + 1)) m
blank_more m P n within =
    let fore = blank_records P n in
    let i = record_at P n in
    let back = drop i m in
    let long = length_blank_records P n in
    let size = length_blank_record P in
    let end = i + length (blank_record P) in
    ap (λ w. w ++ (blank_record P ++ drop end (fore ++ back))) (take_at fore back i long)
    ∙ ap (λ w. fore ++ (blank_record P ++ w))
    (sym (drop-drop (length (blank_record P)) i (fore ++ back)) ∙ ap (drop (length (blank_record P))) (drop_at fore back i long)
    ∙ drop-drop (length (blank_record P)) i m ∙ ap (λ k. drop k m) (omega arith))
    ∙ sym (append_assoc fore (blank_record P) _)
    ∙ ap (λ k. blank_records P k ++ drop (record_at P (n + 1)) m) (sym (add-one n))

-- A record is made blank in two writes.
pub blank_step : (m : List ℕ) (P n at size : ℕ) (old zeros ones : List ℕ)
    → record_at P n + record_size P ≤ length m → at ≡ record_at P n → size ≡ record_size P
    → old ≡ blank_records P n ++ drop (record_at P n) m
    → zeros ≡ replicate (length (take (at + 8 - at) (drop at old))) 0
    → ones ≡ replicate (length (take (at + size - (at + 8)) (drop (at + 8) (put_mid at (at + 8 - at) old zeros)))) 255
    → put_mid (at + 8) (at + size - (at + 8)) (put_mid at (at + 8 - at) old zeros) ones
    ≡ blank_records P (n + 1) ++ drop (record_at P (n + 1)) m
blank_step m P n at size old zeros ones within place sized was zeroed erased =
    let level : length old ≡ length m =
    ap length was ∙ length-append (blank_records P n) _
    ∙ omega (arith, length_blank_records P n, length-drop (record_at P n) m) in
    let headed = fill_part old at (at + 8) 8 0 zeros (omega arith) (omega arith) zeroed in
    let long = length_put old at (replicate 8 0) (omega arith) in
    fill_part _ (at + 8) (at + size) (256 * P) 255 ones (omega arith) (omega (arith, ap length headed, long)) erased
    ∙ ap (λ w. put w (at + 8) (replicate (256 * P) 255)) headed
    ∙ put_put old at (replicate 8 0) (replicate (256 * P) 255) (omega (arith, length-replicate {A = ℕ} (256 * P) 255))
    ∙ ap (λ k. put old k (blank_record P)) place
    ∙ ap (λ w. put w (record_at P n) (blank_record P)) was
    ∙ blank_more m P n within
