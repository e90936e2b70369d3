-- What the loops over a slice go by: its next byte is taken in after all that stand before it (`next_byte`), and so are its next word and
-- its next pair of words, each at once (`next_word`, `next_pair`).
use mathlib.Core.Path.{◌≡◌, refl, sym, ap, ap₂, ◌∙◌}
use mathlib.Core.List.{List, [], ◌∷◌}
use Prim.Native.Nat.{ℕ, zero, suc, ◌+◌, ◌*◌, ◌/◌, ◌^◌, ◌-◌, ◌<◌, ◌≤◌, min}
use native.Mathlib.Nat.{zero-mul}
use native.Mathlib.Omega.{arith}
use lib.Bits.{bit_xor, xor_zero_r, xor_comm, xor_lt, xor_shifted}
use lib.ListN.{length, take, drop, get_or}
use lib.Seq.{take-add, drop-cons, take_all, drop-drop}
use Rattle.std.specs.Int.{from_le_bytes, w64}
use Rattle.std.specs.Simd.{first_chunks}
use Rattle.std.proofs.Common.{drop_of_length-le, get_or-drop, length-drop}
use Rattle.std.proofs.lemmas.List.{take_more, get_or-take, length-take}
use Rattle.crc32.specs.Crc32.{after}
use Rattle.crc32.specs.Register.{shifts}
use Rattle.crc32.proofs.Shift.{shifts_then, shifts_lt}
use Rattle.crc32.proofs.Laws.{after_lt, after_nil, after-cons, after-append}

-- the items of a list are bytes
abbrev pub Bytes : List ℕ → Type 0
Bytes s = (j : ℕ) → j < length s → get_or s j 0 < 2 ^ 8

-- the k bytes of s from j on as a number, the first of them the least significant
abbrev bytes_at : List ℕ → ℕ → ℕ → ℕ
bytes_at s j zero = 0
bytes_at s j (suc k) = bytes_at s (suc j) k * 256 + get_or s j 0

after_bytes : (s : List ℕ) → Bytes s → (k j r : ℕ) → r < 2 ^ 32 → j + k ≡ length s
    → after r (drop j s) ≡ shifts (8 * k) (bit_xor r (bytes_at s j k))
unfolding shifts
after_bytes s byte zero j r hr h =
    ap (after r) (drop_of_length-le s {i = j} (omega arith)) ∙ after_nil r hr ∙ sym (xor_zero_r r)
after_bytes s byte (suc k) j r hr h =
    let b : ℕ = get_or s j 0 in
    let w : ℕ = bytes_at s (suc j) k in
    let hb : b < 2 ^ 8 = byte j (omega arith) in
    let l : shifts 8 (bit_xor r b) < 2 ^ 32 = shifts_lt 8 (bit_xor r b) (xor_lt 32 r b hr (omega arith)) in
    let count : 8 + 8 * k ≡ 8 * suc k = omega arith in
    ap (after r) (drop-cons s j 0 (omega arith))
    ∙ after-cons r b (drop (suc j) s) hr hb
    ∙ after_bytes s byte k (suc j) (shifts 8 (bit_xor r b)) l (omega arith)
    ∙ shifts_then 8 (8 * k) r b w
    ∙ ap₂ (λ (n v : ℕ). shifts n (bit_xor r v)) count (xor_comm b (w * 256) ∙ xor_shifted w 8 b hb)

-- a word
after_word : (s : List ℕ) → Bytes s → (r : ℕ) → r < 2 ^ 32 → length s ≡ 8 → after r s ≡ shifts 64 (bit_xor r (from_le_bytes w64 s))
after_word s byte r hr h =
    let word : bytes_at s 0 8 ≡ from_le_bytes w64 s = omega arith in
    after_bytes s byte 8 0 r hr (omega arith) ∙ ap (λ (x : ℕ). shifts 64 (bit_xor r x)) word

-- the bytes of a part are bytes
bytes_of_part : (s : List ℕ) → Bytes s → (n i : ℕ) → Bytes (take n (drop i s))
bytes_of_part s byte n i j h =
    let l : length (take n (drop i s)) ≡ min n (length s - i) = length-take n (drop i s) ∙ ap (min n) (length-drop i s) in
    rw (get_or-take n (drop i s) j 0 (omega arith), get_or-drop i s j 0) (byte (i + j) (omega arith))

-- ---- the next of them in a slice

-- the byte at i
pub next_byte : (s : List ℕ) → Bytes s → (r i : ℕ) → r < 2 ^ 32 → i < length s
    → shifts 8 (bit_xor (after r (take i s)) (get_or s i 0)) ≡ after r (take (i + 1) s)
next_byte s byte r i hr h =
    let b : ℕ = get_or s i 0 in
    let q : ℕ = after r (take i s) in
    let hq : q < 2 ^ 32 = after_lt r (take i s) hr in
    sym (ap (after r) (take_more s i 0 h)
    ∙ after-append r (take i s) (b ∷ []) hr
    ∙ after-cons q b [] hq (byte i h)
    ∙ after_nil (shifts 8 (bit_xor q b)) (shifts_lt 8 (bit_xor q b) (xor_lt 32 q b hq (omega (arith, byte i h)))))

-- the i-th chunk of n bytes
chunk_at : (n k i : ℕ) (s : List ℕ) → i < k → get_or (first_chunks n k s) i [] ≡ take n (drop (i * n) s)
chunk_at n zero i s h = absurd (omega arith)
chunk_at n (suc k) zero s h = rw zero-mul refl
chunk_at n (suc k) (suc i) s h =
    let e : n + i * n ≡ suc i * n = omega arith in
    chunk_at n k i (drop n s) (omega arith) ∙ ap (take n) (drop-drop (i * n) n s ∙ ap (λ (m : ℕ). drop m s) e)

next_chunk : (n k i r : ℕ) (s : List ℕ) → r < 2 ^ 32 → i < k
    → after (after r (take (i * n) s)) (get_or (first_chunks n k s) i []) ≡ after r (take ((i + 1) * n) s)
next_chunk n k i r s hr h =
    let e : i * n + n ≡ (i + 1) * n = omega arith in
    ap (after (after r (take (i * n) s))) (chunk_at n k i s h)
    ∙ sym (after-append r (take (i * n) s) (take n (drop (i * n) s)) hr)
    ∙ ap (after r) (sym (take-add (i * n) n s) ∙ ap (λ (m : ℕ). take m s) e)

length_chunk : (n k i : ℕ) (s : List ℕ) → i < k → (i + 1) * n ≤ length s → length (get_or (first_chunks n k s) i []) ≡ n
length_chunk n k i s h hn = rw (chunk_at n k i s h, length-take n (drop (i * n) s), length-drop (i * n) s) (omega arith)

bytes_of_chunk : (n k i : ℕ) (s : List ℕ) → Bytes s → i < k → Bytes (get_or (first_chunks n k s) i [])
bytes_of_chunk n k i s byte h = rw (chunk_at n k i s h) (bytes_of_part s byte n (i * n))

-- the i-th word
pub next_word : (s : List ℕ) → Bytes s → (r i : ℕ) → r < 2 ^ 32 → i < length s / 8
    → shifts 64 (bit_xor (after r (take (i * 8) s)) (from_le_bytes w64 (get_or (first_chunks 8 (length s / 8) s) i [])))
    ≡ after r (take ((i + 1) * 8) s)
next_word s byte r i hr h =
    let k : ℕ = length s / 8 in
    let q : ℕ = after r (take (i * 8) s) in
    let w : List ℕ = get_or (first_chunks 8 k s) i [] in
    sym (after_word w (bytes_of_chunk 8 k i s byte h) q (after_lt r (take (i * 8) s) hr) (length_chunk 8 k i s h (omega arith)))
    ∙ next_chunk 8 k i r s hr h

-- the i-th pair of words, which is p
pub next_pair : (s : List ℕ) → Bytes s → (r i : ℕ) → r < 2 ^ 32 → i < length s / 16
    → (p : List ℕ) → p ≡ get_or (first_chunks 16 (length s / 16) s) i []
    → let w : ℕ → ℕ = λ m. from_le_bytes w64 (get_or (first_chunks 8 (length p / 8) p) m []) in
    shifts 64 (bit_xor (shifts 64 (bit_xor (after r (take (i * 16) s)) (w 0))) (w 1)) ≡ after r (take ((i + 1) * 16) s)
next_pair s byte r i hr h p e =
    let k : ℕ = length s / 16 in
    let q : ℕ = after r (take (i * 16) s) in
    let hq : q < 2 ^ 32 = after_lt r (take (i * 16) s) hr in
    let l : length p ≡ 16 = ap length e ∙ length_chunk 16 k i s h (omega arith) in
    let b : Bytes p = rw e (bytes_of_chunk 16 k i s byte h) in
    let w : ℕ → ℕ = λ m. from_le_bytes w64 (get_or (first_chunks 8 (length p / 8) p) m []) in
    ap (λ (x : ℕ). shifts 64 (bit_xor (shifts 64 (bit_xor x (w 0))) (w 1))) (sym (after_nil q hq))
    ∙ ap (λ (x : ℕ). shifts 64 (bit_xor x (w 1))) (next_word p b q 0 hq (omega arith))
    ∙ next_word p b q 1 hq (omega arith)
    ∙ ap (after q) (take_all 16 p (omega arith) ∙ e)
    ∙ next_chunk 16 k i r s hr h
