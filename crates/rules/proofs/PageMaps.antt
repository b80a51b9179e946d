-- The page map, page by page.
use Rattle.std.proofs.Common.{◌≡◌, ℕ, ◌<◌, ◌≤◌, length, get_or, set, None, Option, sym, ap, ◌∙◌, subst, ⊎_elim, arith}
use Rattle.std.proofs.lemmas.List.FromFn.{length-map-range_with_len, get_or-map-range_with_len}
use Rattle.std.proofs.lemmas.List.{ext_get_or, length-set, get_or-set_same, get_or-set_other, set_past}
use Rattle.std.proofs.lemmas.Bool.{cases_eq}
use Rattle.rules.specs.State.{Bytes, State, host_pages, held, page_map}

pub map_length : (s : State) → length (page_map s) ≡ host_pages s
map_length s = length-map-range_with_len (held s) 0 (host_pages s)

pub map_at : (s : State) (n : ℕ) → n < host_pages s → get_or (page_map s) n None ≡ held s n
map_at s n l = get_or-map-range_with_len (held s) 0 (host_pages s) n n None l (omega arith)

-- Host pages that hold the same have the same map.
pub map_same : (s t : State) → host_pages t ≡ host_pages s → ((n : ℕ) → n < host_pages s → held t n ≡ held s n) → page_map t ≡ page_map s
map_same s t hosts same =
    ext_get_or None (page_map t) (page_map s) (map_length t ∙ hosts ∙ sym (map_length s))
    (λ n l. let in_t : n < host_pages t = subst (λ m. n < m) (map_length t) l in
    let in_s : n < host_pages s = subst (λ m. n < m) hosts in_t in
    map_at t n in_t ∙ same n in_s ∙ sym (map_at s n in_s))

-- One host page holds something else.
pub map-set : (s t : State) (n : ℕ) (o : Option Bytes) → n < host_pages s → host_pages t ≡ host_pages s → held t n ≡ o
    → ((m : ℕ) → m < host_pages s → (m ≡ n → ⊥) → held t m ≡ held s m) → page_map t ≡ set (page_map s) n o
map-set s t n o in_n hosts here others =
    ext_get_or None (page_map t) (set (page_map s) n o) (map_length t ∙ hosts ∙ sym (map_length s) ∙ sym (length-set (page_map s) n o))
    (λ m l. let in_t : m < host_pages t = subst (λ k. m < k) (map_length t) l in
    let in_s : m < host_pages s = subst (λ k. m < k) hosts in_t in
    map_at t m in_t
    ∙ ⊎_elim
    (λ e. ap (held t) e ∙ here ∙ sym (get_or-set_same (page_map s) n o None (subst (λ k. n < k) (sym (map_length s)) in_n))
    ∙ ap (λ i. get_or (set (page_map s) n o) i None) (sym e))
    (λ ne. others m in_s ne ∙ sym (map_at s m in_s) ∙ sym (get_or-set_other (page_map s) n m o None ne))
    (cases_eq m n))

-- Past the last host page nothing is set.
pub map_past : (s : State) (n : ℕ) (o : Option Bytes) → host_pages s ≤ n → set (page_map s) n o ≡ page_map s
map_past s n o h = set_past (page_map s) n o (omega (arith, map_length s))
