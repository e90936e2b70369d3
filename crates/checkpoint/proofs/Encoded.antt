-- The head's six fields, and the file: the body laid in, the head before it, the sum between them.
use Prim.Native.Nat.{ℕ, ◌+◌, ◌*◌, ◌≤◌}
use native.Mathlib.Omega.{arith}
use mathlib.Core.Path.{◌≡◌, refl, sym, ap, ap₂, ◌∙◌}
use mathlib.Core.List.{List, ◌++◌, append_assoc}
use lib.ListN.{length, take, drop, length-append}
use lib.Seq.{take_at, drop_at, take-take, take-add, drop-drop, length-take-le}
use Rattle.crc32.specs.Crc32.{crc32}
use Rattle.model.specs.declared.Geometry.{Geometry}
use Rattle.model.specs.Lists.{splice}
use Rattle.model.specs.Tables.{at, view, o_alloc}
use Rattle.model.specs.Checkpoint.{magic, version, word, long, words, head, file, sealed}
use Rattle.model.proofs.Bytes.{length-word, length-words}
use Rattle.model.proofs.Sealed.{length-head, length-file}
use Rattle.checkpoint.proofs.Lay.{lay_next, lay_from, lay_length}

pub six_fields : (G : Geometry) (alloc : ℕ) (d : List ℕ)
    → splice 32 (long G.e) (splice 24 (long G.p) (splice 16 (long G.n) (splice 8 (long alloc) (splice 4 (word version) (splice 0 (word magic) d)))))
    ≡ splice 0 (head G alloc) d
unfolding head long word
six_fields G alloc d =
    lay_next d (word magic ++ word version ++ long alloc ++ long G.n ++ long G.p) (long G.e) 0 32
    (lay_next d (word magic ++ word version ++ long alloc ++ long G.n) (long G.p) 0 24
    (lay_next d (word magic ++ word version ++ long alloc) (long G.n) 0 16
    (lay_next d (word magic ++ word version) (long alloc) 0 8
    (lay_next d (word magic) (word version) 0 4 refl (omega arith) refl) (omega arith) refl) (omega arith) refl) (omega arith) refl)
    (omega arith)
    refl

-- d₀ with the body laid in, and then the head
module _ (G : Geometry) (alloc : ℕ) (body d₀ : List ℕ) (fits : 44 + 4 * length body ≤ length d₀)
    (d₁ d₂ : List ℕ) (e₁ : d₁ ≡ splice 44 (words body) d₀) (e₂ : d₂ ≡ splice 0 (head G alloc) d₁) where
  abbrev H : List ℕ
  H = head G alloc

  abbrev W : List ℕ
  W = words body

  rest : List ℕ
  rest = drop (44 + length W) d₀

  long_W : length W ≡ 4 * length body
  long_W = length-words body

  -- what lies from byte 44 on
  behind₁ : drop 44 d₁ ≡ W ++ rest
  unfolding rest
  behind₁ = ap (drop 44) e₁ ∙ lay_from d₀ W 44 (omega arith)

  behind₂ : drop 44 d₂ ≡ W ++ rest
  unfolding splice
  behind₂ =
      let n : 0 + length H ≡ 40 = omega (arith, length-head G alloc) in
      ap (drop 44) (e₂ ∙ ap (λ k. H ++ drop k d₁) n)
      ∙ sym (drop-drop 4 40 (H ++ drop 40 d₁))
      ∙ ap (drop 4) (drop_at H (drop 40 d₁) 40 (length-head G alloc))
      ∙ drop-drop 4 40 d₁
      ∙ behind₁

  front₂ : take 40 d₂ ≡ H
  unfolding splice
  front₂ = ap (take 40) e₂ ∙ take_at H (drop (0 + length H) d₁) 40 (length-head G alloc)

  long₁ : length d₁ ≡ length d₀
  long₁ = ap length e₁ ∙ lay_length d₀ W 44 (omega (arith, long_W))

  long₂ : length d₂ ≡ length d₀
  long₂ = ap length e₂ ∙ lay_length d₁ H 0 (omega (arith, length-head G alloc, long₁)) ∙ long₁

  -- what is summed
  summed : (size : ℕ) → size ≡ 44 + 4 * length body → take 40 (take size d₂) ++ drop 44 (take size d₂) ≡ H ++ W
  summed size s =
      let q : size ≡ 44 + length W = omega (arith, long_W) in
      let part : drop 44 (take (44 + length W) d₂) ≡ take (length W) (drop 44 d₂) =
      ap (drop 44) (take-add 44 (length W) d₂) ∙ drop_at (take 44 d₂) (take (length W) (drop 44 d₂)) 44 (length-take-le 44 d₂ (omega (arith, long₂))) in
      ap (λ k. take 40 (take k d₂) ++ drop 44 (take k d₂)) q
      ∙ ap₂ (λ a b. a ++ b)
      (take-take 40 (44 + length W) d₂ (omega arith) ∙ front₂)
      (part ∙ ap (take (length W)) behind₂ ∙ take_at W rest (length W) refl)

  -- the sum laid in
  pub encoded : (size x : ℕ) → size ≡ 44 + 4 * length body → x ≡ crc32 (take 40 (take size d₂) ++ drop 44 (take size d₂))
      → splice 40 (word x) d₂ ≡ splice 0 (file G alloc body) d₀
  unfolding splice file rest
  encoded size x s e =
      let n : 0 + length (H ++ word x) ≡ 44 = omega (arith, length-append H (word x), length-head G alloc, length-word x) in
      let m : 44 + length W ≡ 0 + length (file G alloc body) = omega (arith, length-file G alloc body, long_W) in
      lay_next d₁ H (word x) 0 40 e₂ (omega arith) (omega (arith, length-head G alloc))
      ∙ ap (λ k. H ++ word x ++ drop k d₁) n
      ∙ ap (λ z. H ++ word x ++ z) behind₁
      ∙ sym (append_assoc (H ++ word x) W (drop (44 + length W) d₀))
      ∙ ap₂ (λ z k. H ++ word z ++ W ++ drop k d₀) (e ∙ ap crc32 (summed size s)) m

-- the body of a file of tables: the first words of the tables
pub body_is : (G : Geometry) (w u : List ℕ) → file G (at w (o_alloc G)) (take (G.e + G.n) w) ≡ sealed G (view G w u)
unfolding view
body_is G w u = ap (file G (at w (o_alloc G))) (take-add G.e G.n w)
